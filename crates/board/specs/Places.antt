-- The physical address map: the manual's ROM and RAM areas, and document 01's "Bus words and printers" for the device area's end.
use Rattle.std.specs.Prelude.{Bool, cond, ◌&&◌, ℕ, ◌-◌, leb, ltb, Option, Some, None}
use Rattle.board.specs.declared.places.Sizes.{Sizes}
use Rattle.board.specs.declared.places.Place.{Place}
use Rattle.board.specs.declared.places.Place.TheVariants.{Ram, Execution, Bootstrap, Device}

-- the first physical address of each area
abbrev pub execution_base : ℕ
execution_base = 0

abbrev pub device_base : ℕ
device_base = 0x10000000

abbrev pub bootstrap_base : ℕ
bootstrap_base = 0x1FC00000

abbrev pub ram_base : ℕ
ram_base = 0x20000000

-- the device area ends at 0x100002D0
abbrev pub device_size : ℕ
device_size = 0x2D0

-- whether p is one of the size bytes from start up
abbrev pub spans : ℕ → ℕ → ℕ → Bool
spans start size p = leb start p && ltb (p - start) size

-- the area that a physical address lies in, of those that are installed, with the offset there
unfoldable pub mapped_of : Sizes → ℕ → Option Place
mapped_of sizes p =
    cond (spans ram_base sizes.ram p) (Some (Ram (p - ram_base)))
    (cond (spans execution_base sizes.execution p) (Some (Execution (p - execution_base)))
    (cond (spans bootstrap_base sizes.bootstrap p) (Some (Bootstrap (p - bootstrap_base)))
    (cond (spans device_base device_size p) (Some (Device (p - device_base)))
    None)))
