-- `step::apply::device_word` meets its contract.
use mathlib.Core.Path.{◌∙◌}
use Rattle.step.proofs.Devices.{named_word}
use Rattle.step.proofs.apply.device_word.Goals as goal

pub returns : goal.returns
returns c =
    let a = c.args in
    c.read.ensures ∙ named_word a.bus a.words.now a.offset c.printer_in-named.ensures
