-- Document 01, "Addresses": alignment, then privilege, then translation, then the bus. The answer says where the access lands or which
-- exception it is.
use Rattle.std.specs.Prelude.{Bool, cond, ◌&&◌, List, ℕ, Result, Ok, Err}
use Rattle.board.specs.Places.{mapped_of}
use Rattle.board.specs.declared.places.Sizes.{Sizes}
use Rattle.board.specs.declared.places.Place.{Place}
use Rattle.cp0.specs.declared.privilege.Mode.{Mode}
use Rattle.tlb.specs.Search.{is_twice, found_in}
use Rattle.tlb.specs.declared.Row.{Row}
use Rattle.reach.specs.Codes.{raises}
use Rattle.reach.specs.Check.{address_error, aligned_of, allowed_of}
use Rattle.reach.specs.Translate.{sought_of, is_virtual, translated_of}
use Rattle.reach.specs.Bus.{lands_of}
use Rattle.reach.specs.declared.access.Access.{Access}
use Rattle.reach.specs.declared.Fault.{Fault}

-- what comes before the bus: alignment, privilege, translation; t is the table, entry the EntryHi register
abbrev pub physical_of : Mode → Access → ℕ → List Row → ℕ → Result ℕ Fault
physical_of mode access a t entry =
    cond (aligned_of access.width a && allowed_of mode a) (translated_of mode access.kind a t entry) (Err (raises (address_error access.kind)))

-- then the bus
abbrev pub bus_after : Access → Sizes → Result ℕ Fault → Result Place Fault
bus_after access sizes (Ok p) = lands_of access.kind access.width (mapped_of sizes p)
bus_after access sizes (Err fault) = Err fault

unfoldable pub reach_of : Mode → Access → Sizes → ℕ → List Row → ℕ → Result Place Fault
reach_of mode access sizes a t entry = bus_after access sizes (physical_of mode access a t entry)

-- document 02, L5: whether the access "meets two matches": it is aligned and allowed, is translated, and a second entry matches
unfoldable pub meets_two : Mode → Access → ℕ → List Row → ℕ → Bool
meets_two mode access a t entry =
    (aligned_of access.width a && allowed_of mode a) && (is_virtual mode a && is_twice (found_in (sought_of a entry) t))
