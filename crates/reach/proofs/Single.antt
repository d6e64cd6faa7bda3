-- In a table that is not doubled no access meets two matches: what is translated lies at 0x20000000 or above, and there no address has two.
use mathlib.Core.Path.{◌≡◌, refl, ap, ◌∙◌}
use mathlib.Core.Bool.{Bool, true, false, ◌&&◌, and-false}
use mathlib.Core.List.{List}
use Prim.Native.Nat.{ℕ, ◌≤◌}
use native.Mathlib.Omega.{arith}
use lib.Dec.{leb}
use borrow.Author.Tests.{leb-true}
use Rattle.word.proofs.Cond.{both}
use Rattle.cp0.specs.declared.privilege.Mode.{Mode}
use Rattle.tlb.specs.Doubled.{doubled_in}
use Rattle.tlb.specs.Search.{is_twice, found_in}
use Rattle.tlb.specs.declared.Row.{Row}
use Rattle.tlb.proofs.Single.{single}
use Rattle.reach.specs.Check.{aligned_of, allowed_of}
use Rattle.reach.specs.Translate.{sought_of, is_virtual}
use Rattle.reach.specs.Reach.{meets_two}
use Rattle.reach.specs.declared.access.Access.{Access}

module _ (mode : Mode) (access : Access) (a : ℕ) (t : List Row) (entry : ℕ) (not-doubled : doubled_in t ≡ false) where
  high : 0x20000000 ≤ a → 0x20000000 ≤ sought_of a entry
  high h = omega arith

  translated : (b : Bool) → is_virtual mode a ≡ b → (b && is_twice (found_in (sought_of a entry) t)) ≡ false
  translated true e = single t (sought_of a entry) (high (leb-true 0x20000000 a (both mode.vm (leb 0x20000000 a) e).1)) not-doubled
  translated false e = refl

  pub meets_one : meets_two mode access a t entry ≡ false
  unfolding meets_two
  meets_one = ap (λ (b : Bool). (aligned_of access.width a && allowed_of mode a) && b) (translated (is_virtual mode a) refl) ∙ and-false (aligned_of access.width a && allowed_of mode a)
