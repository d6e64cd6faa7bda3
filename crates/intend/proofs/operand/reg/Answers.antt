-- `intend::operand::reg` meets its contract: register 0 holds what it reads (`reads`).
use Rattle.intend.proofs.Registers.{reads}
use Rattle.intend.proofs.operand.reg.Goals as goal

pub returns : goal.returns
returns c = let start = c in reads start.args.regs.now start.args.i start.requires
