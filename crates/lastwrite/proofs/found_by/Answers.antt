-- `lastwrite::found_by` meets its contract.
use Rattle.std.proofs.Common.{ℕ, ap, ◌∙◌}
use Rattle.seek.specs.Seek.{last_change_of}
use Rattle.lastwrite.proofs.found_by.Goals as goal

pub returns : goal.returns
returns c =
    let a = c.args in
    let mark = a.machine.journal in
    c.last_change.ensures
    ∙ ap (λ (place : ℕ). last_change_of a.ram.now a.journal.now mark.on_hand mark.next_slot place) c.place_of.ensures
