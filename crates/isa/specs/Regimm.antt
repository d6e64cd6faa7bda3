-- The words of opcode REGIMM: the table of their field rt.
use Rattle.std.specs.Prelude.{ℕ, List, [], get_or}
use Rattle.isa.specs.Table.{row}
use Rattle.isa.specs.Fields.{rs, rt, immediate}
use Rattle.isa.specs.declared.instr.SignOp.{SignOp}
use Rattle.isa.specs.declared.instr.SignOp.TheVariants.{Bltz, Bgez, Bltzal, Bgezal}
use Rattle.isa.specs.declared.instr.Instr.{Instr}
use Rattle.isa.specs.declared.instr.Instr.TheVariants.{Reserved, Sign}

pub data Condition : Type 0 where
  none : Condition
  sign : SignOp → Condition

-- bits 20-16
abbrev pub conditions : List Condition
conditions =
    row (sign Bltz) (sign Bgez) none none none none none none
    (row none none none none none none none none
    (row (sign Bltzal) (sign Bgezal) none none none none none none
    (row none none none none none none none none [])))

abbrev pub formed : Condition → ℕ → Instr
formed none w = Reserved
formed (sign op) w = Sign op (rs w) (immediate w)

abbrev pub regimm_of : ℕ → Instr
regimm_of w = formed (get_or conditions (rt w) none) w
