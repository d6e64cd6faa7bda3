-- What a store in the device area means. Writes to read-only words do nothing.
use Rattle.std.specs.Prelude.{ℕ, cond, eqb}
use Rattle.bus.specs.Offset.{is_device, line_of, number_of, field_of}
use Rattle.bus.specs.declared.store.Store.{Store}
use Rattle.bus.specs.declared.store.Store.TheVariants.{Timer, Command, Data}
use Rattle.std.specs.Prelude.{Option, Some, None}

-- COMMAND and DATA0 of a printer; writes to STATUS and DATA1 do nothing
abbrev pub register_write : ℕ → ℕ → ℕ → Option Store
register_write n field word = cond (eqb field 1) (Some (Command n word)) (cond (eqb field 2) (Some (Data n word)) None)

-- the timer is the one bus word that a write changes; lines 3, 4, 5 and 7 have no device
unfoldable pub bus_write_of : ℕ → ℕ → Option Store
bus_write_of offset word =
    cond (eqb offset 0x20) (Some (Timer word))
    (cond (is_device offset) (cond (eqb (line_of offset) 6) (register_write (number_of offset) (field_of offset) word) None) None)
