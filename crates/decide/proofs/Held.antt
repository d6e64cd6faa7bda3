-- Where an access lands there is a whole word around it: what is lent are whole words, and the device area is reached by aligned words alone.
use Rattle.std.specs.Prelude.{Result, Ok, Err}
use Prim.{tt}
use Prim.Native.Nat.{ℕ, ◌+◌, ◌*◌, ◌/◌, ◌%◌, ◌≤◌, ◌<◌}
use mathlib.Core.Path.{◌≡◌, refl, sym, ap, subst, ◌∙◌}
use mathlib.Core.List.{List}
use native.Mathlib.Omega.{arith}
use lib.ListN.{length}
use Rattle.board.specs.declared.places.Sizes.{Sizes}
use Rattle.board.specs.declared.places.Place.{Place}
use Rattle.board.specs.declared.places.Place.TheVariants.{Ram, Execution, Bootstrap, Device}
use Rattle.cp0.specs.Privilege.{mode_of}
use Rattle.cp0.specs.declared.privilege.Mode.{Mode}
use Rattle.cp0.specs.declared.registers.Cp0.{Cp0}
use Rattle.tlb.specs.declared.Row.{Row}
use Rattle.reach.proofs.Laws.{lands_within, lands_aligned, device_word_lem}
use Rattle.reach.specs.Reach.{reach_of}
use Rattle.reach.specs.declared.access.Access.{Access}
use Rattle.reach.specs.declared.access.Kind.{Kind}
use Rattle.reach.specs.declared.access.Width.{Width}
use Rattle.reach.specs.declared.Fault.{Fault}
use Rattle.intend.specs.Access.{reached_of}
use Rattle.decide.specs.Lent.{Lent, sizes_of, Whole, Room}
use Rattle.decide.specs.Range.{Held}

-- a place in whole words has a word around it
around_fits : (at size : ℕ) → size % 4 ≡ 0 → at < size → at / 4 * 4 + 4 ≤ size
around_fits at size whole within = omega arith

module _ (lent : Lent) (whole : Whole lent) where
  module _ (mode : Mode) (access : Access) (a : ℕ) (t : List Row) (entry : ℕ) where
    abbrev answer : Result Place Fault
    answer = reach_of mode access (sizes_of lent) a t entry

    room : (place : Place) → answer ≡ Ok place → Room lent place
    room (Ram at) e = around_fits at (length lent.ram) whole.ram.whole (lands_within mode access (sizes_of lent) a t entry e)
    room (Execution at) e = around_fits at (length lent.execution) whole.execution.whole (lands_within mode access (sizes_of lent) a t entry e)
    room (Bootstrap at) e = around_fits at (length lent.bootstrap) whole.bootstrap.whole (lands_within mode access (sizes_of lent) a t entry e)
    room (Device at) e = (
      lands_within mode access (sizes_of lent) a t entry e,
      rw (device_word_lem mode access (sizes_of lent) a t entry e) at (lands_aligned mode access (sizes_of lent) a t entry e),
    )

    held : (r : Result Place Fault) → answer ≡ r → Held lent r
    held (Ok place) e = room place e
    held (Err fault) e = tt

  pub reached_held : (kind : Kind) (width : Width) (cp0 : Cp0) (t : List Row) (va : ℕ) → Held lent (reached_of kind width cp0 t (sizes_of lent) va)
  unfolding reached_of
  reached_held kind width cp0 t va =
      held (mode_of cp0.status) (record { kind = kind; width = width }) va t cp0.entry_hi _ refl

  -- as a caller has it, part by part
  pub reached_room : (kind : Kind) (width : Width) (cp0 : Cp0) (t : List Row) (va : ℕ) {sizes : Sizes} {answer : Result Place Fault} {place : Place} →
      sizes ≡ sizes_of lent → answer ≡ reached_of kind width cp0 t sizes va → answer ≡ Ok place → Room lent place
  reached_room kind width cp0 t va s e lands =
      subst (Held lent) (ap (λ (z : Sizes). reached_of kind width cp0 t z va) (sym s) ∙ sym e ∙ lands) (reached_held kind width cp0 t va)
