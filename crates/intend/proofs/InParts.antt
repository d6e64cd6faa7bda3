-- The answer of an access as the code makes it: under Status, what comes before the bus, then the bus.
use Rattle.std.proofs.Common.{◌≡◌, ℕ, List, ap, ◌∙◌, Result}
use Rattle.board.specs.declared.places.Sizes.{Sizes}
use Rattle.cp0.specs.Privilege.{mode_of}
use Rattle.cp0.specs.declared.privilege.Mode.{Mode}
use Rattle.cp0.specs.declared.registers.Cp0.{Cp0}
use Rattle.tlb.specs.declared.Row.{Row}
use Rattle.reach.specs.Reach.{bus_after, physical_of, reach_of}
use Rattle.board.specs.declared.places.Place.{Place}
use Rattle.reach.specs.declared.Fault.{Fault}
use Rattle.reach.specs.declared.access.Access.{Access}
use Rattle.reach.specs.declared.access.Kind.{Kind}
use Rattle.reach.specs.declared.access.Width.{Width}
use Rattle.intend.specs.Access.{reached_of}

module _ (kind : Kind) (width : Width) (cp0 : Cp0) (t : List Row) (sizes : Sizes) (va : ℕ) where
  abbrev access : Access
  access = record { kind = kind; width = width }

  pub reached_in_parts : {mode : Mode} {to : Result ℕ Fault} {answer : Result Place Fault} → mode ≡ mode_of cp0.status → to ≡ physical_of mode access va t cp0.entry_hi →
      answer ≡ bus_after access sizes to → answer ≡ reached_of kind width cp0 t sizes va
  unfolding reached_of reach_of
  reached_in_parts told before after =
      after ∙ ap (bus_after access sizes) (before ∙ ap (λ (m : Mode). physical_of m access va t cp0.entry_hi) told)
