-- `step::apply::written` meets its contract: the printers that work are those that did (`stores_data`).
use Rattle.step.proofs.Held.{stores_data}
use Rattle.step.proofs.apply.written.Goals as goal

pub data-requires : goal.data-requires
data-requires c = (c.requires.n_bound, c.requires.told.forty)

pub returns : goal.returns
returns c =
    let a = c.args in
    stores_data a.settings a.held a.words.now a.n a.word c.requires.n_bound c.requires.told c.data.ensures
