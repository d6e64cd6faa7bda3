-- `meets::by_word` meets its contract: below 0x80000000 no word makes an access (`low_quiet`).
use mathlib.Core.Path.{sym}
use native.Mathlib.Omega.{arith}
use Rattle.meets.proofs.Quiet.{low_quiet}
use Rattle.meets.proofs.by_word.Goals as goal

pub returns-then-word-lt2147483648 : goal.returns-then-word-lt2147483648
returns-then-word-lt2147483648 c = sym (low_quiet c.args.cp0 _ c.args.rows c.args.word (omega arith))
