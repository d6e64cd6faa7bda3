-- `tick::finish` meets its contract: where the printer prints, its place lies inside the paper.
use Prim.Native.Nat.{◌<◌}
use mathlib.Core.Path.{sym, ◌∙◌}
use native.Mathlib.Omega.{arith}
use lib.ListN.{length}
use Rattle.printer.specs.Tick.{room_of, place_of, paper_ticked}
use Rattle.printer.proofs.Places.{place_in}
use Rattle.printer.proofs.tick.finish.Goals as goal

pub overflow_mul-paper : goal.overflow_mul-paper
overflow_mul-paper c = let a = c.args in
    let at : place_of (room_of a.paper.now) a.n a.p.count < length a.paper.now = place_in a.n a.p a.paper.now (sym c.prints.ensures ∙ c.if-prints.true) c.requires in
    omega arith

pub overflow_add-paper : goal.overflow_add-paper
overflow_add-paper c = let a = c.args in
    let at : place_of (room_of a.paper.now) a.n a.p.count < length a.paper.now = place_in a.n a.p a.paper.now (sym c.prints.ensures ∙ c.if-prints.true) c.requires in
    omega arith

pub bounds-paper-n : goal.bounds-paper-n
bounds-paper-n c = let a = c.args in
    place_in a.n a.p a.paper.now (sym c.prints.ensures ∙ c.if-prints.true) c.requires

pub returns-then-prints : goal.returns-then-prints
unfolding paper_ticked
returns-then-prints c = let on = sym c.prints.ensures ∙ c.if-prints.true in
    rw on

pub returns-else-prints : goal.returns-else-prints
unfolding paper_ticked
returns-else-prints c = let off = sym c.prints.ensures ∙ c.if-prints.false in
    rw off
