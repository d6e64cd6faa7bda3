-- `saved::saved_byte` meets its contract: where the printer prints, its place lies inside the paper.
use Prim.Native.Nat.{◌<◌}
use mathlib.Core.Path.{sym, ◌∙◌}
use native.Mathlib.Omega.{arith}
use lib.ListN.{length}
use Rattle.printer.specs.Tick.{room_of, place_of}
use Rattle.printer.proofs.Places.{place_in}
use Rattle.printer.proofs.saved.saved_byte.Goals as goal

pub overflow_mul-result : goal.overflow_mul-result
overflow_mul-result c = let a = c.args in
    let at : place_of (room_of a.paper.now) a.n a.p.count < length a.paper.now = place_in a.n a.p a.paper.now (sym c.prints.ensures ∙ c.if-prints.true) c.requires in
    omega arith

pub overflow_add-result : goal.overflow_add-result
overflow_add-result c = let a = c.args in
    let at : place_of (room_of a.paper.now) a.n a.p.count < length a.paper.now = place_in a.n a.p a.paper.now (sym c.prints.ensures ∙ c.if-prints.true) c.requires in
    omega arith

pub bounds-paper-n : goal.bounds-paper-n
bounds-paper-n c = let a = c.args in
    place_in a.n a.p a.paper.now (sym c.prints.ensures ∙ c.if-prints.true) c.requires

pub returns-then-prints : goal.returns-then-prints
returns-then-prints c = rw (sym c.prints.ensures ∙ c.if-prints.true)

pub returns : goal.returns
returns c = rw (sym c.prints.ensures ∙ c.if-prints.false)
