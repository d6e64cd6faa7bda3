-- Document 01, "Then the bus": IBE for fetch, DBE for data, where nothing is installed, on a store to ROM, and on a fetch or an access
-- other than LW/SW in the device area.
use Rattle.std.specs.Prelude.{Bool, cond, true, ◌&&◌, not, ℕ, Option, Some, None, Result, Ok, Err}
use Rattle.board.specs.declared.places.Place.{Place}
use Rattle.board.specs.declared.places.Place.TheVariants.{Ram, Execution, Bootstrap, Device}
use Rattle.reach.specs.Access.{is_store, is_fetch, is_word}
use Rattle.reach.specs.Codes.{code_ibe, code_dbe, raises}
use Rattle.reach.specs.declared.access.Kind.{Kind}
use Rattle.reach.specs.declared.access.Width.{Width}
use Rattle.reach.specs.declared.Fault.{Fault}

abbrev pub bus_error : Kind → ℕ
bus_error kind = cond (is_fetch kind) code_ibe code_dbe

abbrev pub permits : Kind → Width → Place → Bool
permits kind width (Ram at) = true
permits kind width (Execution at) = not (is_store kind)
permits kind width (Bootstrap at) = not (is_store kind)
permits kind width (Device at) = not (is_fetch kind) && is_word width

abbrev pub lands_of : Kind → Width → Option Place → Result Place Fault
lands_of kind width (Some place) = cond (permits kind width place) (Ok place) (Err (raises (bus_error kind)))
lands_of kind width None = Err (raises (bus_error kind))
