-- `meets::met` meets its contract: the answer, under Status and EntryHi.
use mathlib.Core.Path.{ap, ◌∙◌}
use Rattle.cp0.specs.declared.privilege.Mode.{Mode}
use Rattle.reach.specs.Reach.{meets_two}
use Rattle.intend.specs.Access.{twice_of}
use Rattle.meets.proofs.met.Goals as goal

pub returns : goal.returns
unfolding twice_of
returns c =
    let a = c.args in
    c.meets_two.ensures
    ∙ ap (λ (m : Mode). meets_two m (record { kind = a.kind; width = a.width }) a.va a.rows a.cp0.entry_hi) c.mode_of.ensures
