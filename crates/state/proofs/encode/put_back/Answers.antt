-- `state::encode::put_back` meets its contract: each part is stored where the one before it ends.
use mathlib.Core.Path.{refl, sym, ◌∙◌}
use mathlib.Core.List.{◌++◌}
use native.Mathlib.Omega.{arith}
use lib.Seq.{sets}
use Rattle.word.specs.Lists.{flat}
use Rattle.word.specs.Big.{word_bytes}
use Rattle.word.proofs.Lists.{store_append}
use Rattle.state.specs.Layout.{no_disks}
use Rattle.state.proofs.encode.put_back.Goals as goal

pub returns : goal.returns
returns c =
    let clock = c.args.clock in
    let printers = c.args.printers in
    let last = c.args.last in
    let image = c.args.image.now in
    let b₁ = sets image 305 (flat word_bytes clock) in
    let b₂ = sets b₁ 329 (flat word_bytes printers) in
    let e₁ = store_append 4 word_bytes (λ w. refl) clock (printers ++ (last ++ no_disks)) image 305 329 (omega (arith, c)) in
    let e₂ = store_append 4 word_bytes (λ w. refl) printers (last ++ no_disks) b₁ 329 489 (omega (arith, c)) in
    let e₃ = store_append 4 word_bytes (λ w. refl) last no_disks b₂ 489 509 (omega (arith, c)) in
    c.put_words-4.ensures
    ∙ rw (c.put_words-3.ensures, c.put_words-2.ensures, c.put_words.ensures) (sym (e₁ ∙ e₂ ∙ e₃))
