-- `seek::pc_at` meets its contract.
use mathlib.Core.Path.{sym, ap, ◌∙◌}
use Rattle.seek.specs.Seek.{pc_of}
use Rattle.seek.proofs.Words.{pc_is}
use Rattle.seek.proofs.pc_at.Goals as goal

pub returns : goal.returns
returns c = c.word.ensures ∙ sym (pc_is _) ∙ ap pc_of c.record_at.ensures.0
