-- What is laid down of a run's words is the beginning of the record that they say.
use Prim.Native.Nat.{ℕ}
use mathlib.Core.Path.{◌≡◌, sym, ap, ◌∙◌}
use mathlib.Core.List.{List}
use lib.ListN.{length}
use Rattle.printer.specs.declared.saved.SavedPaper.{SavedPaper}
use Rattle.state.specs.Layout.{kept_words}
use Rattle.record.specs.Layout.{small_words, laid_of, begun_in}
use Rattle.held.specs.Core.{core_in}
use Rattle.held.proofs.Board as board
use Rattle.held.proofs.CoreWords as core
use Rattle.journal.specs.Journal.{held_record}

pub laid_held : (first : List ℕ) (timer pending : ℕ) (paper : SavedPaper) (words slot : List ℕ) → length first ≡ 14 → length words ≡ 40 →
    laid_of first (small_words timer pending paper.mask paper.bytes) words slot ≡ begun_in (held_record first timer pending paper words) slot
laid_held first timer pending paper words slot fourteen forty =
    let small : List ℕ = small_words timer pending paper.mask paper.bytes in
    ap (λ (l : List ℕ). laid_of l small words slot) (sym (core.words_held first fourteen))
    ∙ ap (λ (l : List ℕ). laid_of (kept_words (core_in first)) small l slot) (sym (board.words_held words forty))
