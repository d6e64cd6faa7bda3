-- `isa::control::control` meets its contract: where rs is 16 or more, by the rest of the table.
use Rattle.std.proofs.Common.{[], refl, arith}
use Rattle.isa.specs.Cop0.{moves, none, CO}
use Rattle.word.proofs.Rest.{rest}
use Rattle.isa.proofs.control.control.Goals as goal

pub returns-then-rs-ge16 : goal.returns-then-rs-ge16
returns-then-rs-ge16 c = rw (rest moves none CO [] 16 16 refl _ c.if-rs-ge16.true (omega arith) tt, c.function.ensures)
