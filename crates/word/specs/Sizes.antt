-- Sizes of the machine that more than one room counts with, each said here alone. How long the image is follows from its layout (`state`).
use Rattle.std.specs.Prelude.{ℕ}

-- "16 TLB pairs (high, low)"
abbrev pub table_size : ℕ
table_size = 16

-- the devices of an interrupt line: "eight printers", and each has its eighth of paper
abbrev pub devices : ℕ
devices = 8

-- "each step writes one .. record"; document 02, L4: "The record grows from 256 to 512 bytes"
abbrev pub record_size : ℕ
record_size = 512
