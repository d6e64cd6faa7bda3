-- `state::decode::decode` meets its contract: the part from byte 5 is the whole rest.
use mathlib.Core.Path.{◌≡◌, ◌∙◌}
use Prim.Native.Nat.{◌-◌}
use native.Mathlib.Omega.{arith}
use lib.ListN.{length, take, drop, length-drop}
use lib.Seq.{take_all}
use Rattle.state.specs.Layout.{machine_of}
use Rattle.state.proofs.decode.decode.Goals as goal

pub returns : goal.returns
unfolding machine_of
returns c =
    let image = c.args.image.now in
    let long : length (drop 5 image) ≡ 736 = simp length-drop (omega arith) in
    let whole : take (length image - 5) (drop 5 image) ≡ drop 5 image = take_all (length image - 5) (drop 5 image) (omega (arith, long)) in
    let body = rw whole at c.in-Some.ensures.cases.same in
    let same : c.in-Some.body.now ≡ drop 5 image = body ∙ take_all 736 (drop 5 image) (omega (arith, long)) in
    rw same at c.machine.ensures
