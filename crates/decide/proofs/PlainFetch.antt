-- A plain fetch reads the word in RAM at PC, under whatever CP0 and the table hold.
use Rattle.std.specs.Prelude.{Ok}
use mathlib.Core.Path.{◌≡◌, ap, ◌∙◌}
use mathlib.Core.Bool.{true}
use mathlib.Core.List.{List}
use Prim.Native.Nat.{ℕ, ◌+◌, ◌*◌, ◌/◌, ◌-◌, ◌≤◌}
use native.Mathlib.Omega.{arith}
use lib.ListN.{length}
use Rattle.memory.specs.Memory.{load_at}
use Rattle.tlb.specs.declared.Row.{Row}
use Rattle.reach.specs.Plain.{plain_of}
use Rattle.reach.specs.declared.access.Kind.TheVariants as kind
use Rattle.reach.specs.declared.access.Width.TheVariants.{Four}
use Rattle.reach.proofs.PlainLands.{is_plain}
use Rattle.state.specs.declared.machine.Core.{Core}
use Rattle.intend.proofs.Plain.{plain_lands}
use Rattle.decide.specs.Lent.{Lent, sizes_of, Whole}
use Rattle.decide.specs.Fetch.{answered, fetch_of}

module _ (core : Core) (lent : Lent) (whole : Whole lent) (h : plain_of core.cp0.status Four (length lent.ram) core.pc ≡ true) where
  pub plain_room : core.pc - 0x20000000 + 4 ≤ length lent.ram
  plain_room =
      let p = is_plain core.cp0.status Four (length lent.ram) core.pc h in
      let words = whole.ram.whole in
      omega arith

  pub plain_fetch : (t : List Row) → fetch_of core t lent ≡ Ok (load_at 4 lent.ram (core.pc - 0x20000000))
  unfolding fetch_of
  plain_fetch t =
      let p = is_plain core.cp0.status Four (length lent.ram) core.pc h in
      let same : (core.pc - 0x20000000) / 4 * 4 ≡ core.pc - 0x20000000 = omega arith in
      ap (answered lent) (plain_lands kind.Fetch Four core.cp0 t (sizes_of lent) core.pc h) ∙ ap (λ (at : ℕ). Ok (load_at 4 lent.ram at)) same
