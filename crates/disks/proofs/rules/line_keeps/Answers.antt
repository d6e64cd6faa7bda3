-- `rules::line_keeps` meets its contract: `all` asks each disk, with its place.
use Prim.Native.Nat.{ℕ}
use mathlib.Core.Path.{◌≡◌, refl}
use mathlib.Core.Bool.{Bool, true, false}
use native.Mathlib.Omega.{arith}
use Rattle.std.proofs.Common.{rules}
use Rattle.std.proofs.lemmas.Iterator.{YieldsList-from_slice, cases_from_all}
use Rattle.std.proofs.lemmas.Iterator.Consumers.{YieldsList-from_enumerate}
use Rattle.word.specs.Map.{bit}
use Rattle.device.proofs.All.{every_numbered}
use Rattle.disk.specs.declared.Disk.{Disk}
use Rattle.disk.specs.Tick.{no_disk}
use Rattle.disk.specs.Rules.{disk_keeps}
use Rattle.disks.specs.Rules.{disk_keeps_at, line_keeps}
use Rattle.disks.proofs.rules.line_keeps.Goals as goal

pub returns : goal.returns
unfolding line_keeps
returns c =
    let a = c.args in
    let t : ℕ × Disk → Bool = λ x. disk_keeps (bit x.0 a.installed) (bit x.0 a.line.pending) a.delay a.room x.1 in
    let told = cases_from_all _ _ c.all-each.result (λ x. t x ≡ true) (λ x. t x ≡ false) c.all-each.ensures.ran
    (YieldsList-from_enumerate (YieldsList-from_slice a.line.disks (cc)) (cc)) (λ x q k. search rules) (λ x q k. search rules) in
    rw (every_numbered t (disk_keeps_at a.installed a.delay a.room a.line) a.line.disks no_disk 8 (omega arith) (λ k l. refl) c.all-each.result told)
