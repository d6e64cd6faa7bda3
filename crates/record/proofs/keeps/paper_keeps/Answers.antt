-- `record::keeps::paper_keeps` meets its contract: `all` asks each byte, with its place.
use Prim.Native.Nat.{ℕ}
use mathlib.Core.Path.{◌≡◌, refl}
use mathlib.Core.Bool.{Bool, true, false, ◌||◌}
use native.Mathlib.Omega.{arith}
use lib.Dec.{eqb}
use Rattle.std.proofs.Common.{rules}
use Rattle.std.proofs.lemmas.Iterator.{YieldsList-from_slice, cases_from_all}
use Rattle.std.proofs.lemmas.Iterator.Consumers.{YieldsList-from_enumerate}
use Rattle.word.specs.Map.{bit}
use Rattle.device.proofs.All.{every_numbered}
use Rattle.record.specs.Keeps.{byte_keeps, paper_keeps}
use Rattle.record.proofs.keeps.paper_keeps.Goals as goal

pub returns : goal.returns
unfolding paper_keeps
returns c =
    let p = c.args.p in
    let t : ℕ × ℕ → Bool = λ x. bit x.0 p.mask || eqb x.1 0 in
    let told = cases_from_all _ _ c.all-each.result (λ x. t x ≡ true) (λ x. t x ≡ false) c.all-each.ensures.ran
    (YieldsList-from_enumerate (YieldsList-from_slice p.bytes (cc)) (cc)) (λ x q k. search rules) (λ x q k. search rules) in
    rw (every_numbered t (byte_keeps p) p.bytes 0 8 (omega arith) (λ k h. refl) c.all-each.result told)
