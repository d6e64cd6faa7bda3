-- A fetch near the page that is remembered reads the word there.
use Rattle.std.specs.Prelude.{Ok}
use mathlib.Core.Path.{◌≡◌, refl, ap, ◌∙◌}
use mathlib.Core.Bool.{true}
use mathlib.Core.List.{List}
use Prim.Native.Nat.{ℕ, ◌+◌, ◌*◌, ◌/◌, ◌%◌, ◌≤◌}
use native.Mathlib.Omega.{arith}
use lib.ListN.{length}
use borrow.Author.Tests.{eqb-true}
use Rattle.memory.specs.Memory.{load_at}
use Rattle.tlb.specs.declared.Row.{Row}
use Rattle.reach.specs.declared.access.Kind.TheVariants as kind
use Rattle.reach.specs.declared.access.Width.TheVariants.{Four}
use Rattle.state.specs.declared.machine.Core.{Core}
use Rattle.pages.specs.declared.Page.{Page}
use Rattle.pages.proofs.Lands.{NearPage, hit, kept_inside, kept_whole}
use Rattle.intend.proofs.NearLands.{near_lands}
use Rattle.decide.specs.Lent.{Lent, sizes_of}
use Rattle.decide.specs.Fetch.{answered, fetch_of}

module _ (core : Core) (t : List Row) (lent : Lent) (page : Page) (told : NearPage page Four core.cp0.status core.cp0.entry_hi core.pc t (length lent.ram)) where
  aligned : core.pc % 4 ≡ 0
  aligned = eqb-true _ _ (hit page.key Four core.cp0.status core.cp0.entry_hi core.pc told.near).aligned

  pub near_room : page.frame + core.pc % 4096 + 4 ≤ length lent.ram
  near_room = let inside = kept_inside page t (length lent.ram) told.kept in let four = aligned in omega (arith, inside, four)

  pub near_fetch : fetch_of core t lent ≡ Ok (load_at 4 lent.ram (page.frame + core.pc % 4096))
  unfolding fetch_of
  near_fetch =
      let four = aligned in
      let whole = kept_whole page t (length lent.ram) told.kept in
      let same : (page.frame + core.pc % 4096) / 4 * 4 ≡ page.frame + core.pc % 4096 = omega (arith, four, whole) in
      ap (answered lent) (near_lands kind.Fetch Four core.cp0 t (sizes_of lent) page core.pc told refl) ∙ ap (λ (at : ℕ). Ok (load_at 4 lent.ram at)) same
