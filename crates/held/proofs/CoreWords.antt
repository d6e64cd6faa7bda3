-- What a run holds of the core is the core: its words, and read back.
use Rattle.std.specs.Prelude.{◌≡◌, ℕ, List, length, get_or}
use mathlib.Core.Path.{refl, sym, ap, ◌∙◌}
use Rattle.word.specs.Lists.{tabulate}
use Rattle.word.proofs.Lists.{tabulate_get_d}
use Rattle.state.specs.declared.machine.Core.{Core}
use Rattle.state.specs.Layout.{kept_words}
use Rattle.held.specs.Core.{core_in}

pub core_held : (c : Core) → core_in (kept_words c) ≡ c
unfolding core_in
core_held c = refl

-- the fourteen words, one after the other
in_order : (w : List ℕ) → kept_words (core_in w) ≡ tabulate 14 (λ (i : ℕ). get_or w i 0)
unfolding core_in
in_order w = refl

pub words_held : (w : List ℕ) → length w ≡ 14 → kept_words (core_in w) ≡ w
words_held w fourteen = in_order w ∙ ap (λ (n : ℕ). tabulate n (λ (i : ℕ). get_or w i 0)) (sym fourteen) ∙ tabulate_get_d w 0
