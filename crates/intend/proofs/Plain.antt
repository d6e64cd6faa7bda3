-- A plain access lands in RAM under whatever CP0 and the table hold.
use Rattle.std.proofs.Common.{◌≡◌, ℕ, ◌-◌, true, List, Ok}
use Rattle.board.specs.declared.places.Sizes.{Sizes}
use Rattle.board.specs.declared.places.Place.TheVariants.{Ram}
use Rattle.cp0.specs.declared.registers.Cp0.{Cp0}
use Rattle.tlb.specs.declared.Row.{Row}
use Rattle.reach.specs.Plain.{plain_of}
use Rattle.reach.specs.declared.access.Kind.{Kind}
use Rattle.reach.specs.declared.access.Width.{Width}
use Rattle.reach.proofs.PlainLands.{plain_reach}
use Rattle.intend.specs.Access.{reached_of}

pub plain_lands : (kind : Kind) (width : Width) (cp0 : Cp0) (t : List Row) (sizes : Sizes) (va : ℕ) → plain_of cp0.status width sizes.ram va ≡ true →
    reached_of kind width cp0 t sizes va ≡ Ok (Ram (va - 0x20000000))
unfolding reached_of
plain_lands kind width cp0 t sizes va h = plain_reach cp0.status kind width sizes va t cp0.entry_hi h
