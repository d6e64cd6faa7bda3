-- The fields of a disk's words, and the place of a block. DATA1: cylinders, heads, sectors. COMMAND: the code, and CYLNUM or HEADNUM and SECTNUM.
use Rattle.std.specs.Prelude.{ℕ, ◌+◌, ◌*◌, ◌-◌, ◌/◌, ◌%◌, ◌^◌, ◌<◌, ◌≡◌, Bool, ◌&&◌, ◌||◌, eqb, leb, ltb}
use Rattle.disk.specs.declared.Disk.{Disk}

abbrev pub cylinders : ℕ → ℕ
cylinders data1 = data1 / 65536

abbrev pub heads : ℕ → ℕ
heads data1 = data1 / 256 % 256

abbrev pub sectors : ℕ → ℕ
sectors data1 = data1 % 256

-- the bytes of a disk
abbrev pub size_of : ℕ → ℕ
size_of data1 = cylinders data1 * heads data1 * sectors data1 * 4096

abbrev pub code_of : ℕ → ℕ
code_of command = command % 256

abbrev pub cylnum : ℕ → ℕ
cylnum command = command / 256 % 65536

abbrev pub headnum : ℕ → ℕ
headnum command = command / 65536 % 256

abbrev pub sectnum : ℕ → ℕ
sectnum command = command / 256 % 256

-- RESET and SEEKCYL move the boom, READBLK and WRITEBLK a block
abbrev pub is_boom : ℕ → Bool
is_boom code = eqb code 0 || eqb code 2

abbrev pub is_transfer : ℕ → Bool
is_transfer code = eqb code 3 || eqb code 4

-- a cylinder that the disk has
abbrev pub has_cylinder : ℕ → ℕ → Bool
has_cylinder data1 cylinder = ltb cylinder (cylinders data1)

-- a block that the disk has: "cylinder, HEADNUM and SECTNUM below its count"
abbrev pub has_block : ℕ → ℕ → ℕ → Bool
has_block data1 cylinder command =
    has_cylinder data1 cylinder && (ltb (headnum command) (heads data1) && ltb (sectnum command) (sectors data1))

-- "DATA0 a multiple of 4, bytes DATA0 to DATA0 + 4,095 inside the RAM lent", which is `room` bytes
abbrev pub in_ram : ℕ → ℕ → Bool
in_ram room data0 = eqb (data0 % 4) 0 && (leb 0x20000000 data0 && leb (data0 - 0x20000000 + 4096) room)

-- where DATA0 lies in RAM
abbrev pub frame_of : Disk → ℕ
frame_of d = d.data0 - 0x20000000

-- where the block lies on the disk
unfoldable pub block_of : Disk → ℕ
block_of d = ((d.cylinder * heads d.data1 + headnum d.command) * sectors d.data1 + sectnum d.command) * 4096

-- "i = 1,024 less words left before the tick": where the word lies in both
abbrev pub offset_of : Disk → ℕ
offset_of d = 4 * (1024 - d.words)

-- ---- aids to proofs: nothing that a reader must believe

-- what the code answers: the place, and that it is small
pub record BlockIs (d : Disk) (r : ℕ) : Type 0 where
  pub place_is : r ≡ block_of d
  pub small : r + 4096 < 2 ^ 62
