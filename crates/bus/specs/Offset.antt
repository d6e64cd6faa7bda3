-- Document 01, "Bus words and printers": device (line, number) at 0x10000050 + (line - 3) × 0x80 + number × 0x10. Offsets count from 0x10000000.
use Rattle.std.specs.Prelude.{ℕ, ◌+◌, ◌*◌, ◌-◌, ◌/◌, ◌%◌, Bool, leb}
use Rattle.word.specs.Sizes.{devices}

-- the four registers of a device stand one after another
abbrev pub offset_of : ℕ → ℕ → ℕ → ℕ
offset_of line number field = 0x50 + (line - 3) * 0x80 + number * 0x10 + field * 4

abbrev pub is_device : ℕ → Bool
is_device offset = leb 0x50 offset

abbrev pub line_of : ℕ → ℕ
line_of offset = 3 + (offset - 0x50) / 0x80

abbrev pub number_of : ℕ → ℕ
number_of offset = (offset - 0x50) / 0x10 % devices

abbrev pub field_of : ℕ → ℕ
field_of offset = (offset - 0x50) / 4 % 4
