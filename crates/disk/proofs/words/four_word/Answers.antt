-- `words::four_word` meets its contract.
use native.Mathlib.Omega.{arith}
use Rattle.word.specs.Little.{from_bytes}
use Rattle.disk.specs.Words.{four_word}
use Rattle.disk.proofs.words.four_word.Goals as goal

pub returns : goal.returns
unfolding four_word from_bytes
returns c = omega (arith, c.from_le_bytes.ensures)
