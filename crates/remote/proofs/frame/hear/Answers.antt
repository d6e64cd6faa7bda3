-- `remote::frame::hear` meets its contract.
use mathlib.Core.Path.{sym, ◌∙◌}
use Rattle.std.proofs.Common.{arith, rules}
use Rattle.remote.proofs.Frames.{heard_none, told_outside, heard_packet}
use Rattle.remote.proofs.frame.hear.Goals as goal

pub returns-in-empty : goal.returns-in-empty
returns-in-empty c = sym (heard_none _ _ (omega arith))

pub returns-in-36 : goal.returns-in-36
returns-in-36 c = c.packet.ensures ∙ sym (heard_packet _ _ (λ z. omega arith) (search rules))

pub returns-in-len1-up : goal.returns-in-len1-up
returns-in-len1-up c = told_outside _ _ (λ z. omega arith) (search rules) _ _ c.outside.ensures
