-- The ExcCode of an access that does not land is at most 12.
use Rattle.std.specs.Prelude.{Result, Ok, Err, Option, Some, None}
use Prim.{tt}
use Prim.Native.Nat.{ℕ, ◌≤◌}
use mathlib.Core.Bool.{◌&&◌}
use mathlib.Core.List.{List}
use native.Mathlib.Omega.{arith}
use lib.ListN.{get_or}
use Rattle.word.proofs.Cond.{picked}
use Rattle.board.specs.Places.{mapped_of}
use Rattle.board.specs.declared.places.Place.{Place}
use Rattle.board.specs.declared.places.Sizes.{Sizes}
use Rattle.cp0.specs.Privilege.{mode_of}
use Rattle.cp0.specs.declared.privilege.Mode.{Mode}
use Rattle.cp0.specs.declared.registers.Cp0.{Cp0}
use Rattle.tlb.specs.Entry.{no_row}
use Rattle.tlb.specs.Search.{found_in}
use Rattle.tlb.specs.declared.Row.{Row}
use Rattle.tlb.specs.declared.Hit.{Hit}
use Rattle.reach.specs.Access.{is_store, is_fetch}
use Rattle.reach.specs.Check.{address_error, aligned_of, allowed_of}
use Rattle.reach.specs.Translate.{tlb_error, sought_of, is_valid, is_locked, by_row, by_found, is_virtual, translated_of}
use Rattle.reach.specs.Bus.{bus_error, permits, lands_of}
use Rattle.reach.specs.Reach.{physical_of, bus_after, reach_of}
use Rattle.reach.specs.declared.access.Access.{Access}
use Rattle.reach.specs.declared.access.Kind.{Kind}
use Rattle.reach.specs.declared.access.Width.{Width}
use Rattle.reach.specs.declared.Fault.{Fault}
use Rattle.intend.specs.Access.{reached_of}

abbrev pub Coded : Result Place Fault → Type 0
Coded (Ok place) = Unit {0}
Coded (Err fault) = fault.code ≤ 12

abbrev CodedAfter : Result ℕ Fault → Type 0
CodedAfter (Ok p) = Unit {0}
CodedAfter (Err fault) = fault.code ≤ 12

module _ (kind : Kind) where
  address_coded : address_error kind ≤ 12
  address_coded = picked (λ x. x ≤ 12) (is_store kind) _ _ (λ _. omega arith) (λ _. omega arith)

  tlb_coded : tlb_error kind ≤ 12
  tlb_coded = picked (λ x. x ≤ 12) (is_store kind) _ _ (λ _. omega arith) (λ _. omega arith)

  bus_coded : bus_error kind ≤ 12
  bus_coded = picked (λ x. x ≤ 12) (is_fetch kind) _ _ (λ _. omega arith) (λ _. omega arith)

  lands_coded : (width : Width) (answer : Option Place) → Coded (lands_of kind width answer)
  lands_coded width (Some place) = picked Coded (permits kind width place) _ _ (λ _. tt) (λ _. bus_coded)
  lands_coded width None = bus_coded

  row_coded : (a : ℕ) (row : Row) → CodedAfter (by_row kind a row)
  unfolding by_row
  row_coded a row =
      picked CodedAfter (is_valid row) _ _ (λ _. picked CodedAfter (is_locked kind row) _ _ (λ _. omega arith) (λ _. tt)) (λ _. tlb_coded)

  found_coded : (a : ℕ) (t : List Row) (found : Option Hit) → CodedAfter (by_found kind a t found)
  found_coded a t (Some hit) = row_coded a (get_or t hit.at no_row)
  found_coded a t None = tlb_coded

  translated_coded : (mode : Mode) (a : ℕ) (t : List Row) (entry : ℕ) → CodedAfter (translated_of mode kind a t entry)
  unfolding translated_of
  translated_coded mode a t entry =
      picked CodedAfter (is_virtual mode a) _ _ (λ _. found_coded a t (found_in (sought_of a entry) t)) (λ _. tt)

after_coded : (access : Access) (sizes : Sizes) (to : Result ℕ Fault) → CodedAfter to → Coded (bus_after access sizes to)
after_coded access sizes (Ok p) h = lands_coded access.kind access.width (mapped_of sizes p)
after_coded access sizes (Err fault) h = h

reach_coded : (mode : Mode) (access : Access) (sizes : Sizes) (a : ℕ) (t : List Row) (entry : ℕ) → Coded (reach_of mode access sizes a t entry)
unfolding reach_of
reach_coded mode access sizes a t entry =
    after_coded access sizes (physical_of mode access a t entry)
    (picked CodedAfter (aligned_of access.width a && allowed_of mode a) _ _ (λ _. translated_coded access.kind mode a t entry) (λ _. address_coded access.kind))

pub reached_coded : (kind : Kind) (width : Width) (cp0 : Cp0) (t : List Row) (sizes : Sizes) (va : ℕ) → Coded (reached_of kind width cp0 t sizes va)
unfolding reached_of
reached_coded kind width cp0 t sizes va =
    reach_coded (mode_of cp0.status) (record { kind = kind; width = width }) sizes va t cp0.entry_hi
