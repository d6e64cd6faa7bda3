-- `memory::store_half` meets its contract: two of half its width.
use Rattle.std.proofs.Common.{◌≡◌, ◌/◌, ◌%◌, arith}
use Rattle.word.specs.Little.{to_bytes}
use Rattle.memory.proofs.Widths.{store_two}
use borrow.Author.Rules.{rules}
use Rattle.memory.proofs.store_half.Goals as goal

pub returns : goal.returns
unfolding to_bytes
returns c =
    let x = c.args.x in
    let high : x / 256 % 256 ≡ x / 256 = omega arith in
    store_two 1 _ _ (search rules) _ _ _ (rw c.to_le_bytes.ensures at c.store_byte.ensures) (rw (c.to_le_bytes.ensures, high) at c.store_byte-2.ensures)
