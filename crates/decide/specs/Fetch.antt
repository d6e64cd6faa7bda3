-- What a fetch gives: the word at PC, or the exception that it is. In Decide the answer of the access says the same (`fetched_done`).
use Rattle.std.specs.Prelude.{ℕ, List, Result, Ok, Err}
use Rattle.tlb.specs.declared.Row.{Row}
use Rattle.reach.specs.declared.Fault.{Fault}
use Rattle.board.specs.declared.places.Place.{Place}
use Rattle.reach.specs.declared.access.Kind.TheVariants as kind
use Rattle.reach.specs.declared.access.Width.TheVariants.{Four}
use Rattle.state.specs.declared.machine.Core.{Core}
use Rattle.intend.specs.Access.{reached_of}
use Rattle.decide.specs.Lent.{Lent, sizes_of, word_in}

abbrev pub answered : Lent → Result Place Fault → Result ℕ Fault
answered lent (Ok place) = Ok (word_in lent place)
answered lent (Err fault) = Err fault

-- t is the translation table
unfoldable pub fetch_of : Core → List Row → Lent → Result ℕ Fault
fetch_of core t lent = answered lent (reached_of kind.Fetch Four core.cp0 t (sizes_of lent) core.pc)
