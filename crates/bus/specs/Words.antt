-- What each word of the device area reads: the manual's tables of 5.2, then the device registers.
use Rattle.std.specs.Prelude.{ℕ, ◌/◌, cond, List, [], ◌∷◌, eqb, get_or}
use Rattle.board.specs.Places.{ram_base, execution_base, bootstrap_base}
use Rattle.printer.specs.declared.Printer.{Printer}
use Rattle.printer.specs.Tick.{no_printer}
use Rattle.bus.specs.Offset.{is_device, line_of, number_of, field_of}
use Rattle.bus.specs.declared.read.Bus.{Bus}

-- 5.2.1 bus registers, 5.2.2 installed devices and 5.2.3 interrupting devices on lines 3 to 7
unfoldable pub bus_table : Bus → List ℕ
bus_table b =
    -- 0x00 RAM, 0x08 execution ROM, 0x10 bootstrap ROM: base and size in bytes
    ram_base ∷ b.sizes.ram ∷ execution_base ∷ b.sizes.execution ∷ bootstrap_base ∷ b.sizes.bootstrap
    -- 0x18 clock high, clock low, timer, time scale
    ∷ b.clock.high ∷ b.clock.low ∷ b.clock.timer ∷ b.scale
    -- 0x28 installed
    ∷ 0 ∷ 0 ∷ 0 ∷ b.installed ∷ 0
    -- 0x3C interrupting
    ∷ 0 ∷ 0 ∷ 0 ∷ b.pending ∷ 0
    ∷ []

-- STATUS, COMMAND, DATA0, DATA1; DATA1 reads 0
abbrev pub registers_of : Printer → List ℕ
registers_of p = p.status ∷ p.command ∷ p.data0 ∷ 0 ∷ []

-- lines 3, 4, 5 and 7 have no device: they read 0
unfoldable pub bus_word_of : Bus → List Printer → ℕ → ℕ
bus_word_of b printers offset =
    cond (is_device offset)
    (cond (eqb (line_of offset) 6) (get_or (registers_of (get_or printers (number_of offset) no_printer)) (field_of offset) 0) 0)
    (get_or (bus_table b) (offset / 4) 0)
