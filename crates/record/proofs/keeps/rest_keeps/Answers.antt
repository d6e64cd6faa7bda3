-- `record::keeps::rest_keeps` meets its contract: `all` asks each word.
use Prim.Native.Nat.{ℕ, ◌+◌}
use mathlib.Core.Path.{◌≡◌, refl, ap}
use mathlib.Core.Bool.{Bool, true, false}
use lib.Dec.{eqb}
use Rattle.std.proofs.Common.{rules}
use Rattle.std.specs.List.{range_with_len}
use Rattle.std.proofs.lemmas.Iterator.{YieldsList-from_range, cases_from_all}
use Rattle.std.proofs.lemmas.List.FromFn.{get_or-range_with_len}
use Rattle.device.proofs.All.{every_told}
use Rattle.record.specs.Layout.{slot_word}
use Rattle.record.proofs.keeps.rest_keeps.Goals as goal

pub returns : goal.returns
returns c =
    let slot = c.args.slot.now in
    let t : ℕ → Bool = λ k. eqb (slot_word slot k) 0 in
    let told = cases_from_all _ _ c.all.result (λ k. t k ≡ true) (λ k. t k ≡ false) c.all.ensures.ran (YieldsList-from_range 63 128 65 (cc) refl)
    (λ x q k. search rules) (λ x q k. search rules) in
    every_told t (λ (k : ℕ). eqb (slot_word slot (63 + k)) 0) (range_with_len 63 65) 0 65 refl
    (λ k h. ap t (get_or-range_with_len 63 65 k 0 h)) c.all.result told
