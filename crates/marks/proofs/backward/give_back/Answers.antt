-- `marks::backward::give_back` meets its contract: only a word of RAM has an entry.
use Rattle.std.proofs.Common.{◌/◌, ap, ◌∙◌}
use Rattle.std.proofs.Common.{ℕ, Option}
use Rattle.frames.specs.Bytes.{replace_in}
use Rattle.marks.proofs.backward.give_back.Goals as goal

pub returns-in-RamWord : goal.returns-in-RamWord
returns-in-RamWord c =
    let place = c.in-RamWord.place in
    let a = c.args in
    rw c.in-RamWord.is
    (c.replace_any.ensures ∙ ap (λ (e : Option ℕ). replace_in a.time (place / 4096) e a.index.now) c.restored-entry.ensures)
