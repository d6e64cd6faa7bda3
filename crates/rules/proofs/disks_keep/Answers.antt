-- `rules::disks_keep` meets its contract: `all` asks each byte.
use Prim.Native.Nat.{ℕ, ◌+◌, ◌-◌}
use mathlib.Core.Path.{◌≡◌, ap}
use mathlib.Core.Bool.{Bool, true, false}
use native.Mathlib.Omega.{arith}
use lib.Dec.{eqb}
use lib.ListN.{length, get_or, take, drop, length-drop}
use lib.Seq.{take_all}
use Rattle.std.proofs.Common as std
use Rattle.std.proofs.lemmas.Iterator.{YieldsList-from_slice, cases_from_all}
use Rattle.std.proofs.lemmas.List.{get_or-drop}
use Rattle.device.proofs.All.{every_told}
use Rattle.rules.proofs.disks_keep.Goals as goal

pub returns : goal.returns
returns c =
    let image = c.args.image.now in
    let long : length (drop 509 image) ≡ 232 = simp length-drop (omega arith) in
    let whole : take (length image - 509) (drop 509 image) ≡ drop 509 image = take_all (length image - 509) (drop 509 image) (omega (arith, long)) in
    let rest = rw whole at c.iter.ensures.rest in
    let t : ℕ → Bool = λ b. eqb b 0 in
    let told = cases_from_all _ _ c.all.result (λ b. t b ≡ true) (λ b. t b ≡ false) c.all.ensures.ran (YieldsList-from_slice (drop 509 image) rest)
    (λ x q k. search std.rules) (λ x q k. search std.rules) in
    every_told t (λ (k : ℕ). eqb (get_or image (509 + k) 0) 0) (drop 509 image) 0 232 long (λ k h. ap t (get_or-drop 509 image k 0)) c.all.result told
