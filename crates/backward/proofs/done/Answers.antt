-- `backward::done` meets its contract.
use mathlib.Core.Path.{ap, ◌∙◌}
use mathlib.Core.List.{List}
use Prim.Native.Nat.{ℕ}
use native.Mathlib.Omega.{arith}
use borrow.Author.Tests.{eq-eqb}
use lib.ListN.{length}
use Rattle.answer.specs.Answer.{done_with}
use Rattle.answer.specs.declared.Reason.TheVariants.{NoReason}
use Rattle.accepted.specs.Left.{left_of}
use Rattle.turn.specs.Buffers.{buffers_back}
use Rattle.backward.proofs.Backing.{few_steps, tried_done}
use Rattle.backward.proofs.done.Goals as goal

pub overflow_cast-result : goal.overflow_cast-result
overflow_cast-result c =
    let a = c.args in
    omega (arith, few_steps a.steps a.machine (length a.ram.now) (length a.paper.now) a.journal.now c.requires.fits.ready c.requires.journal_value)

pub returns : goal.returns
returns c =
    let a = c.args in
    let new = c.take_back-after.new in
    let each = eq-eqb (length a.index.now) _ c.requires.fits.framed.sixteen_each in
    ap (λ (image : List ℕ). left_of (done_with a.steps NoReason) (buffers_back image new.ram new.paper a.journal.now new.index)) c.encode.ensures
    ∙ tried_done (buffers_back a.image.now a.ram.now a.paper.now a.journal.now a.index.now) a.steps c.requires.machine_value c.requires.journal_value each
    c.take_back-after.result _ _ _ c.take_back-after.ensures
