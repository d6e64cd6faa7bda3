-- The words of opcode COP0: the table of their field rs, that of CP0's registers, and that of its functions.
-- Reserved by document 01: BC0F, BC0T, CFC0, CTC0 and TLBCLR, which have no entry, and a register number that has none.
use Rattle.std.specs.Prelude.{ℕ, List, [], get_or, Option, Some, None}
use Rattle.isa.specs.Table.{row}
use Rattle.isa.specs.Fields.{rs, rt, rd, funct}
use Rattle.isa.specs.declared.instr.ControlRegister.{ControlRegister}
use Rattle.isa.specs.declared.instr.ControlRegister.TheVariants.{Index, Random, EntryLo, BadVAddr, EntryHi, Status, Cause, Epc}
use Rattle.isa.specs.declared.instr.Control.{Control}
use Rattle.isa.specs.declared.instr.Control.TheVariants.{Undefined, Mfc0, Mtc0, Tlbr, Tlbwi, Tlbwr, Tlbp, Rfe}

pub data Move : Type 0 where
  none : Move
  MF : Move
  MT : Move
  CO : Move

-- bits 25-21
abbrev pub moves : List Move
moves =
    row MF none none none MT none none none
    (row none none none none none none none none
    (row CO CO CO CO CO CO CO CO
    (row CO CO CO CO CO CO CO CO [])))

-- bits 5-0
abbrev pub functions : List Control
functions =
    row Undefined Tlbr Tlbwi Undefined Undefined Undefined Tlbwr Undefined
    (row Tlbp Undefined Undefined Undefined Undefined Undefined Undefined Undefined
    (row Rfe Undefined Undefined Undefined Undefined Undefined Undefined Undefined []))

-- bits 15-11
abbrev pub registers : List (Option ControlRegister)
registers =
    row (Some Index) (Some Random) (Some EntryLo) None None None None None
    (row (Some BadVAddr) None (Some EntryHi) None (Some Status) (Some Cause) (Some Epc) None [])

abbrev pub register_of : ℕ → Option ControlRegister
register_of w = get_or registers (rd w) None

abbrev pub function_of : ℕ → Control
function_of w = get_or functions (funct w) Undefined

abbrev pub from_of : Option ControlRegister → ℕ → Control
from_of None t = Undefined
from_of (Some r) t = Mfc0 t r

abbrev pub to_of : Option ControlRegister → ℕ → Control
to_of None t = Undefined
to_of (Some r) t = Mtc0 t r

abbrev pub formed : Move → ℕ → Control
formed none w = Undefined
formed MF w = from_of (register_of w) (rt w)
formed MT w = to_of (register_of w) (rt w)
formed CO w = function_of w

abbrev pub control_of : ℕ → Control
control_of w = formed (get_or moves (rs w) none) w
