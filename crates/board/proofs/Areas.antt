-- What is mapped lies within its area, and stands in its word there as the address does: every area begins at a multiple of 4.
use mathlib.Core.Path.{◌≡◌, subst}
use mathlib.Core.Bool.{true}
use Prim.Native.Nat.{ℕ, ◌-◌, ◌%◌, ◌≤◌, ◌<◌}
use native.Mathlib.Omega.{arith}
use lib.Dec.{leb, ltb}
use borrow.Author.Tests.{leb-true, ltb-true}
use Rattle.std.specs.Prelude.{Option, Some, None}
use Rattle.word.proofs.Cond.{both, picked}
use Rattle.board.specs.Places.{execution_base, device_base, device_size, bootstrap_base, ram_base, spans, mapped_of}
use Rattle.board.specs.declared.places.Sizes.{Sizes}
use Rattle.board.specs.declared.places.Place.{Place}
use Rattle.board.specs.declared.places.Place.TheVariants.{Ram, Execution, Bootstrap, Device}

-- an area does not begin below its start, nor go past its size
pub starts : (start size p : ℕ) → spans start size p ≡ true → start ≤ p
starts start size p h = leb-true start p (both (leb start p) (ltb (p - start) size) h).0

pub ends : (start size p : ℕ) → spans start size p ≡ true → p - start < size
ends start size p h = ltb-true (p - start) size (both (leb start p) (ltb (p - start) size) h).1

abbrev pub offset_of : Place → ℕ
offset_of (Ram at) = at
offset_of (Execution at) = at
offset_of (Bootstrap at) = at
offset_of (Device at) = at

abbrev pub size_of : Sizes → Place → ℕ
size_of sizes (Ram at) = sizes.ram
size_of sizes (Execution at) = sizes.execution
size_of sizes (Bootstrap at) = sizes.bootstrap
size_of sizes (Device at) = device_size

-- at is a place in an area of that size, and stands in its word as p does
pub record Inside (p at size : ℕ) : Type 0 where
  pub within : at < size
  pub same : at % 4 ≡ p % 4

inside : (p start size : ℕ) → start % 4 ≡ 0 → spans start size p ≡ true → Inside p (p - start) size
inside p start size even h =
    let low : start ≤ p = starts start size p h in
    record { within = ends start size p h; same = omega arith }

module _ (sizes : Sizes) (p : ℕ) where
  abbrev MapsInside : Option Place → Type 0
  MapsInside (Some place) = Inside p (offset_of place) (size_of sizes place)
  MapsInside None = Unit

  maps : MapsInside (mapped_of sizes p)
  unfolding mapped_of
  maps =
      picked MapsInside (spans ram_base sizes.ram p) _ _ (inside p ram_base sizes.ram (omega arith))
      (λ _. picked MapsInside (spans execution_base sizes.execution p) _ _ (inside p execution_base sizes.execution (omega arith))
      (λ _. picked MapsInside (spans bootstrap_base sizes.bootstrap p) _ _ (inside p bootstrap_base sizes.bootstrap (omega arith))
      (λ _. picked MapsInside (spans device_base device_size p) _ _ (inside p device_base device_size (omega arith))
      (λ _. tt))))

  pub mapped_inside : {place : Place} → mapped_of sizes p ≡ Some place → Inside p (offset_of place) (size_of sizes place)
  mapped_inside h = subst MapsInside h maps
