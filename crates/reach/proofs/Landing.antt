-- What a landing tells: the access was aligned, the board has the place, and the bus permits it.
use mathlib.Core.Path.{◌≡◌, refl, subst}
use mathlib.Core.Bool.{true, ◌&&◌}
use mathlib.Core.List.{List}
use Prim.Native.Nat.{ℕ, ◌+◌, ◌*◌, ◌/◌, ◌%◌, ◌^◌}
use native.Mathlib.Omega.{arith}
use lib.ListN.{get_or}
use Rattle.std.specs.Prelude.{Option, Some, None, Result, Ok, Err}
use Rattle.word.proofs.Cond.{both, picked}
use Rattle.board.specs.Places.{mapped_of}
use Rattle.board.specs.declared.places.Sizes.{Sizes}
use Rattle.board.specs.declared.places.Place.{Place}
use Rattle.cp0.specs.declared.privilege.Mode.{Mode}
use Rattle.tlb.specs.Entry.{no_row}
use Rattle.tlb.specs.Search.{found_in}
use Rattle.tlb.specs.declared.Row.{Row}
use Rattle.tlb.specs.declared.Hit.{Hit}
use Rattle.reach.specs.Check.{aligned_of, allowed_of}
use Rattle.reach.specs.Translate.{is_valid, is_locked, by_row, by_found, is_virtual, sought_of, translated_of}
use Rattle.reach.specs.Bus.{permits, lands_of}
use Rattle.reach.specs.Reach.{bus_after, reach_of}
use Rattle.reach.specs.declared.access.Kind.{Kind}
use Rattle.reach.specs.declared.access.Access.{Access}
use Rattle.reach.specs.declared.Fault.{Fault}

-- ---- translation keeps the place in the page, and so the place in the word
abbrev Keeps : ℕ → Result ℕ Fault → Type 0
Keeps a (Ok p) = p % 4 ≡ a % 4
Keeps a (Err fault) = Unit

in_page : (frame a : ℕ) → (frame * 2 ^ 12 + a % 2 ^ 12) % 4 ≡ a % 4
in_page frame a = omega arith

row_keeps : (kind : Kind) (a : ℕ) (row : Row) → Keeps a (by_row kind a row)
unfolding by_row
row_keeps kind a row =
    picked (Keeps a) (is_valid row) _ _
    (λ _. picked (Keeps a) (is_locked kind row) _ _ (λ _. tt) (λ _. in_page (row.low / 2 ^ 12) a))
    (λ _. tt)

found_keeps : (kind : Kind) (a : ℕ) (t : List Row) (f : Option Hit) → Keeps a (by_found kind a t f)
found_keeps kind a t (Some hit) = row_keeps kind a (get_or t hit.at no_row)
found_keeps kind a t None = tt

translated_keeps : (mode : Mode) (kind : Kind) (a : ℕ) (t : List Row) (entry : ℕ) → Keeps a (translated_of mode kind a t entry)
unfolding translated_of
translated_keeps mode kind a t entry =
    picked (Keeps a) (is_virtual mode a) _ _ (λ _. found_keeps kind a t (found_in (sought_of a entry) t)) (λ _. refl)

-- ---- a landing
pub record Landing (access : Access) (sizes : Sizes) (a : ℕ) (place : Place) : Type 0 where
  pub aligned : aligned_of access.width a ≡ true
  pub physical : ℕ
  pub same : physical % 4 ≡ a % 4
  pub maps : mapped_of sizes physical ≡ Some place
  pub permitted : permits access.kind access.width place ≡ true

module _ (access : Access) (sizes : Sizes) (a : ℕ) where
  abbrev LandsBy : Result Place Fault → Type 0
  LandsBy (Ok place) = Landing access sizes a place
  LandsBy (Err fault) = Unit

  module _ (aligned : aligned_of access.width a ≡ true) where
    after_bus : (p : ℕ) → p % 4 ≡ a % 4 → (m : Option Place) → mapped_of sizes p ≡ m → LandsBy (lands_of access.kind access.width m)
    after_bus p same (Some place) maps =
        picked LandsBy (permits access.kind access.width place) _ _
        (λ h. record { aligned = aligned; physical = p; same = same; maps = maps; permitted = h })
        (λ _. tt)
    after_bus p same None maps = tt

    after : (t : Result ℕ Fault) → Keeps a t → LandsBy (bus_after access sizes t)
    after (Ok p) same = after_bus p same (mapped_of sizes p) refl
    after (Err fault) keeps = tt

module _ (mode : Mode) (access : Access) (sizes : Sizes) (a : ℕ) (t : List Row) (entry : ℕ) where
  reached_by : LandsBy access sizes a (reach_of mode access sizes a t entry)
  unfolding reach_of
  reached_by =
      picked (λ (to : Result ℕ Fault). LandsBy access sizes a (bus_after access sizes to)) (aligned_of access.width a && allowed_of mode a) _ _
      (λ h. after access sizes a (both (aligned_of access.width a) (allowed_of mode a) h).0 (translated_of mode access.kind a t entry)
      (translated_keeps mode access.kind a t entry))
      (λ _. tt)

  pub landing : {place : Place} → reach_of mode access sizes a t entry ≡ Ok place → Landing access sizes a place
  landing h = subst (LandsBy access sizes a) h reached_by
