-- `tick::is_spinning` meets its contract: `any` asks each disk.
use Prim.Native.Nat.{ℕ, ◌+◌}
use mathlib.Core.Path.{◌≡◌, refl, sym, ap, ◌∙◌}
use mathlib.Core.Bool.{Bool, true, false}
use native.Mathlib.Omega.{arith}
use Rattle.std.proofs.Common.{rules}
use Rattle.std.proofs.lemmas.Iterator.{YieldsList-from_range, cases_from_any}
use Rattle.std.proofs.lemmas.List.FromFn.{get_or-range_with_len}
use Rattle.std.specs.List.{range_with_len}
use Rattle.device.proofs.Made.{some_told}
use Rattle.disk.specs.Tick.{no_disk, is_busy}
use Rattle.disks.specs.Words.{disk_in, disks_in}
use Rattle.disks.proofs.LineHeld.{disk_at}
use Rattle.disks.proofs.tick.is_spinning.Goals as goal

pub returns : goal.returns
returns c =
    let words = c.args.words.now in
    let t : ℕ → Bool = λ n. is_busy (disk_in words n) in
    let told = cases_from_any _ _ c.any.result (λ n. t n ≡ true) (λ n. t n ≡ false) c.any.ensures.ran (YieldsList-from_range 0 8 8 (cc) refl)
    (λ x q k. search rules) (λ x q k. search rules) in
    some_told no_disk is_busy (disks_in words) t (range_with_len 0 8) 0 8 refl
    (λ k h. let z : 0 + k ≡ k = omega arith in ap t (get_or-range_with_len 0 8 k 0 h ∙ z) ∙ ap is_busy (sym (disk_at words k h))) c.any.result told
