-- What the host lends, in one record: "The host lends: state image .., execution ROM, bootstrap ROM, RAM, paper, journal." One buffer more is one more field
-- here, and a parameter of the functions of this file: all else names the buffers that it speaks of.
use Rattle.std.specs.Prelude.{ℕ, List, []}
use Rattle.ring.specs.Slots.{Ring}
use Rattle.step.specs.World.{World, Roms, roms_of}

-- what is lent beside the image: a run and a take-back hold the machine that the image is, and are lent these
pub record Beside : Type 0 where
  pub execution : List ℕ
  pub bootstrap : List ℕ
  pub ram : List ℕ
  pub paper : List ℕ
  pub journal : List ℕ
  -- document 02, L6
  pub index : List ℕ

-- "all six buffers", and document 02's
pub record Buffers : Type 0 where
  pub image : List ℕ
  pub beside : Beside

abbrev pub beside_of : (execution bootstrap ram paper journal index : List ℕ) → Beside
beside_of execution bootstrap ram paper journal index =
    record { execution = execution; bootstrap = bootstrap; ram = ram; paper = paper; journal = journal; index = index }

abbrev pub roms_in : Beside → Roms
roms_in b = roms_of b.execution b.bootstrap

-- with other ROMs
abbrev pub with_roms : Roms → Beside → Beside
with_roms roms b = beside_of roms.execution roms.bootstrap b.ram b.paper b.journal b.index

-- where a run or a take-back led to a world, an index and a ring: no ROM is written
abbrev pub beside_after : Beside → World → List ℕ → Ring → Beside
beside_after b w index g = beside_of b.execution b.bootstrap w.ram w.paper g.bytes index

abbrev pub buffers_of : (image execution bootstrap ram paper journal index : List ℕ) → Buffers
buffers_of image execution bootstrap ram paper journal index = record { image = image; beside = beside_of execution bootstrap ram paper journal index }

-- ---- "take-back all but the ROMs"

abbrev pub beside_back : (ram paper journal index : List ℕ) → Beside
beside_back ram paper journal index = beside_of [] [] ram paper journal index

abbrev pub buffers_back : (image ram paper journal index : List ℕ) → Buffers
buffers_back image ram paper journal index = record { image = image; beside = beside_back ram paper journal index }
