-- The states that are run forth and back: good ones, with buffers of allowed lengths beside them.
use Rattle.std.specs.Prelude.{ℕ, ◌*◌, ◌≤◌, ◌≡◌, length}
use Rattle.decide.specs.Lent.{Whole}
use Rattle.step.specs.World.{World, Roms, lent_in}
use Rattle.good.specs.Good.{Good}

-- ---- aids to proofs: nothing that a reader must believe

pub record Allowed (roms : Roms) (w : World) : Type 0 where
  pub good : Good w
  pub whole : Whole (lent_in roms w)
  pub short : length w.paper ≤ 65536

-- with a RAM of so many frames
pub record Framed (roms : Roms) (frames : ℕ) (w : World) : Type 0 where
  pub allowed : Allowed roms w
  pub ram : length w.ram ≡ 4096 * frames
