-- Where a store of a user step lands: in RAM, through the lowest row that matches, which is valid and dirty.
use Rattle.std.specs.Prelude.{Result, Ok, Err, Option, Some, None}
use Prim.{tt}
use Prim.Native.Nat.{ℕ, ◌+◌, ◌-◌, ◌%◌, ◌^◌, ◌≤◌, ◌<◌}
use mathlib.Core.Path.{◌≡◌, refl, subst}
use mathlib.Core.Bool.{true, not, ◌&&◌}
use mathlib.Core.List.{List}
use native.Mathlib.Omega.{arith}
use borrow.Author.Tests.{leb-true, le-leb, eqb-true, not-false}
use lib.Dec.{leb}
use lib.ListN.{length, get_or}
use Rattle.word.specs.Map.{bit}
use Rattle.word.proofs.Cond.{both, picked}
use Rattle.board.specs.Places.{execution_base, device_base, device_size, bootstrap_base, ram_base, spans, mapped_of}
use Rattle.board.specs.declared.places.Sizes.{Sizes}
use Rattle.board.specs.declared.places.Place.{Place}
use Rattle.board.specs.declared.places.Place.TheVariants.{Ram}
use Rattle.board.proofs.Areas.{ends}
use Rattle.cp0.specs.Privilege.{mode_of}
use Rattle.cp0.specs.declared.registers.Cp0.{Cp0}
use Rattle.tlb.specs.Entry.{no_row, matches_of}
use Rattle.tlb.specs.Search.{found_in}
use Rattle.tlb.specs.declared.Row.{Row}
use Rattle.tlb.specs.declared.Hit.{Hit}
use Rattle.tlb.proofs.Laws.{Lowest, found_lowest}
use Rattle.reach.specs.Check.{aligned_of, allowed_of}
use Rattle.reach.specs.Translate.{sought_of, is_valid, is_dirty, by_row, by_found, translated_of}
use Rattle.reach.specs.Bus.{lands_of}
use Rattle.reach.specs.Reach.{bus_after, reach_of}
use Rattle.reach.specs.Access.{alignment}
use Rattle.reach.specs.declared.access.Access.{Access}
use Rattle.reach.specs.declared.access.Kind.TheVariants.{Store}
use Rattle.reach.specs.declared.access.Width.{Width}
use Rattle.reach.specs.declared.Fault.{Fault}
use Rattle.intend.specs.Access.{reached_of}
use Rattle.confined.specs.Confined.{frame_of}

module _ (t : List Row) (entry : ℕ) (sizes : Sizes) (va : ℕ) where
  -- a store that lands is in RAM, at the address that the row gives
  pub record ThroughRow (width : Width) (place : Place) : Type 0 where
    pub at : ℕ
    pub is_ram : place ≡ Ram at
    pub inside : at < sizes.ram
    pub aligned : va % alignment width ≡ 0
    pub row : ℕ
    pub lowest : Lowest (matches_of (sought_of va entry)) t row
    pub valid : is_valid (get_or t row no_row) ≡ true
    pub dirty : is_dirty (get_or t row no_row) ≡ true
    pub physical : frame_of (get_or t row no_row) + va % 2 ^ 12 ≡ ram_base + at

  module _ (frames : (i : ℕ) → i < length t → is_valid (get_or t i no_row) ≡ true → is_dirty (get_or t i no_row) ≡ true → ram_base ≤ frame_of (get_or t i no_row))
      (width : Width) (aligned : va % alignment width ≡ 0) where
    abbrev access : Access
    access = record { kind = Store; width = width }

    abbrev LandsSo : Result Place Fault → Type 0
    LandsSo (Ok place) = ThroughRow width place
    LandsSo (Err fault) = Unit {0}

    -- above the start of RAM there are RAM and ROM alone, and no store lands in ROM
    on_bus : (row : ℕ) → Lowest (matches_of (sought_of va entry)) t row → is_valid (get_or t row no_row) ≡ true → is_dirty (get_or t row no_row) ≡ true →
        (p : ℕ) → p ≡ frame_of (get_or t row no_row) + va % 2 ^ 12 → LandsSo (lands_of Store width (mapped_of sizes p))
    unfolding mapped_of
    on_bus row lowest valid dirty p is =
        let high : ram_base ≤ frame_of (get_or t row no_row) = frames row lowest.within valid dirty in
        let up : ram_base ≤ p = omega arith in
        picked (λ (m : Option Place). LandsSo (lands_of Store width m)) (spans ram_base sizes.ram p) _ _
        (λ h. record {
          at = p - ram_base;
          is_ram = refl;
          inside = ends ram_base sizes.ram p h;
          aligned = aligned;
          row = row;
          lowest = lowest;
          valid = valid;
          dirty = dirty;
          physical = omega arith;
        })
        (λ _. picked (λ (m : Option Place). LandsSo (lands_of Store width m)) (spans execution_base sizes.execution p) _ _ (λ _. tt)
        (λ _. picked (λ (m : Option Place). LandsSo (lands_of Store width m)) (spans bootstrap_base sizes.bootstrap p) _ _ (λ _. tt)
        (λ _. picked (λ (m : Option Place). LandsSo (lands_of Store width m)) (spans device_base device_size p) _ _
        (λ h. let l = ends device_base device_size p h in absurd (omega arith))
        (λ _. tt))))

    by_this_row : (row : ℕ) → Lowest (matches_of (sought_of va entry)) t row → LandsSo (bus_after access sizes (by_row Store va (get_or t row no_row)))
    unfolding by_row
    by_this_row row lowest =
        picked (λ (x : Result ℕ Fault). LandsSo (bus_after access sizes x)) (is_valid (get_or t row no_row)) _ _
        (λ valid. picked (λ (x : Result ℕ Fault). LandsSo (bus_after access sizes x)) (not (is_dirty (get_or t row no_row))) _ _ (λ _. tt)
        (λ unlocked. on_bus row lowest valid (not-false (is_dirty (get_or t row no_row)) unlocked) _ refl))
        (λ _. tt)

    by_found_lem : (f : Option Hit) → found_in (sought_of va entry) t ≡ f → LandsSo (bus_after access sizes (by_found Store va t f))
    by_found_lem (Some hit) e = by_this_row hit.at (found_lowest (matches_of (sought_of va entry)) t hit.at hit.twice e)
    by_found_lem None e = tt

module _ (cp0 : Cp0) (t : List Row) (sizes : Sizes) (va : ℕ) (width : Width) (user : bit 1 cp0.status ≡ true) (virtual : bit 24 cp0.status ≡ true)
    (frames : (i : ℕ) → i < length t → is_valid (get_or t i no_row) ≡ true → is_dirty (get_or t i no_row) ≡ true → ram_base ≤ frame_of (get_or t i no_row)) where
  abbrev LandsThrough : Result Place Fault → Type 0
  LandsThrough (Ok place) = ThroughRow t cp0.entry_hi sizes va width place
  LandsThrough (Err fault) = Unit {0}

  -- user mode under VMc goes above 0x80000000, where all is translated
  high : allowed_of (mode_of cp0.status) va ≡ true → leb 0x20000000 va ≡ true
  high h =
      let up : leb 0x80000000 va ≡ true = rw (user, virtual) at h in
      let far = leb-true 0x80000000 va up in
      le-leb 0x20000000 va (omega arith)

  translated : allowed_of (mode_of cp0.status) va ≡ true →
      translated_of (mode_of cp0.status) Store va t cp0.entry_hi ≡ by_found Store va t (found_in (sought_of va cp0.entry_hi) t)
  unfolding translated_of
  translated h = rw (virtual, high h)

  reached : LandsThrough (reached_of Store width cp0 t sizes va)
  unfolding reached_of reach_of
  reached =
      picked (λ (x : Result ℕ Fault). LandsThrough (bus_after (record { kind = Store; width = width }) sizes x)) (aligned_of width va && allowed_of (mode_of cp0.status) va) _ _
      (λ h. let parts = both (aligned_of width va) (allowed_of (mode_of cp0.status) va) h in
      rw (translated parts.1) (by_found_lem t cp0.entry_hi sizes va frames width (eqb-true (va % alignment width) 0 parts.0) _ refl))
      (λ _. tt)

  pub store_through : {place : Place} → reached_of Store width cp0 t sizes va ≡ Ok place → ThroughRow t cp0.entry_hi sizes va width place
  store_through e = subst LandsThrough e reached
