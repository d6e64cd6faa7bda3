-- `memory::store_byte` meets its contract.
use Rattle.std.proofs.Common.{◌≡◌, ◌%◌, sym, ◌∙◌, arith}
use Rattle.word.specs.Little.{to_bytes}
use Rattle.memory.proofs.Cells.{stored_sets}
use Rattle.memory.proofs.store_byte.Goals as goal

pub returns : goal.returns
unfolding to_bytes
returns c =
    let x = c.args.x in
    let small : x % 256 ≡ x = omega arith in
    sym (stored_sets 1 c.args.m.now c.args.at x (omega arith) ∙ rw small)
