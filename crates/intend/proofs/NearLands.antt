-- An access near the page that is remembered lands there, under whatever else CP0 and the table hold.
use Rattle.std.proofs.Common.{◌≡◌, refl, ℕ, ◌+◌, ◌%◌, List, Ok}
use Rattle.board.specs.declared.places.Sizes.{Sizes}
use Rattle.board.specs.declared.places.Place.TheVariants.{Ram}
use Rattle.cp0.specs.declared.registers.Cp0.{Cp0}
use Rattle.tlb.specs.declared.Row.{Row}
use Rattle.reach.specs.declared.access.Kind.{Kind}
use Rattle.reach.specs.declared.access.Width.{Width}
use Rattle.pages.specs.declared.Page.{Page}
use Rattle.pages.proofs.Lands.{MayReach, NearPage, entry_of, near_reach}
use Rattle.intend.specs.Access.{reached_of}

pub near_lands : (kind : Kind) (width : Width) (cp0 : Cp0) (t : List Row) (sizes : Sizes) (page : Page) (va : ℕ) →
    NearPage page width cp0.status cp0.entry_hi va t sizes.ram → MayReach kind (entry_of page.key t) → reached_of kind width cp0 t sizes va ≡ Ok (Ram (page.frame + va % 4096))
unfolding reached_of
near_lands kind width cp0 t sizes page va told = near_reach kind width sizes t page.key page.frame cp0.status cp0.entry_hi va told.near told.kept refl
