-- `clock::ticked` meets its contract: the two words of the count, each stepped by itself, are those of the whole count one step later (`low_word`, `high_word`), put into the record.
use Rattle.std.proofs.Common.{◌≡◌, ℕ, ◌+◌, ◌*◌, ◌/◌, ◌%◌, ◌^◌, ◌<◌, cond, eqb, ◌∙◌, arith, eq-eqb, ne_eqb}
use native.Mathlib.Decide.{ℕ_discrete}
use Rattle.clock.specs.Tick.{up, down, ticked_of}
use Rattle.clock.proofs.ticked.Goals as goal

-- the count h, l one step later: its low word goes up by itself, and its high word where that one is 0 then
module _ (h l : ℕ) (hb : h < 2 ^ 32) (lb : l < 2 ^ 32) where
  low_word : up 32 l ≡ up 64 (h * 2 ^ 32 + l) % 2 ^ 32
  low_word = omega arith

  high_word : cond (eqb (up 32 l) 0) (up 32 h) h ≡ up 64 (h * 2 ^ 32 + l) / 2 ^ 32
  high_word =
      elim (ℕ_discrete (up 32 l) 0) [
        | yes z ↦ rw (eq-eqb (up 32 l) 0 z) (omega arith)
        | no z ↦ rw (ne_eqb (up 32 l) 0 z) (omega arith)
      ]

pub returns : goal.returns
unfolding ticked_of
returns c =
    let was = c.args.c in
    let h : was.high < 2 ^ 32 = omega arith in
    let l : was.low < 2 ^ 32 = omega arith in
    let low = low_word was.high was.low h l in
    let high = c.carried.ensures ∙ high_word was.high was.low h l in
    λ i. record { clock = record { high = high i; low = low i; timer = down 32 was.timer }; rang = eqb was.timer 0 }
