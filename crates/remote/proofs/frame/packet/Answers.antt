-- `remote::frame::packet` meets its contract.
use mathlib.Core.Path.{sym, ◌∙◌}
use Rattle.remote.proofs.Frames.{packet_open, packet_cut, packet_short, packet_wrong, packet_whole}
use Rattle.remote.proofs.frame.packet.Goals as goal

pub returns-then-input-end : goal.returns-then-input-end
returns-then-input-end c = sym (packet_open _ c.args.input.now _ c.body_end-end.ensures c.if-input-end.true)

pub returns-then-input-end-eq36 : goal.returns-then-input-end-eq36
returns-then-input-end-eq36 c = sym (packet_cut _ c.args.input.now _ c.body_end-end.ensures c.if-input-end.false c.if-input-end-eq36.true)

pub returns-then-input-end-lt3 : goal.returns-then-input-end-lt3
returns-then-input-end-lt3 c = sym (packet_short _ c.args.input.now _ c.body_end-end.ensures c.if-input-end.false c.if-input-end-eq36.false c.if-input-end-lt3.true)

pub returns-then-says : goal.returns-then-says
returns-then-says c =
    packet_whole _ c.args.input.now _ c.body_end-end.ensures c.if-input-end.false c.if-input-end-eq36.false c.if-input-end-lt3.false
    (rw c.sum.ensures at (sym c.says.ensures ∙ c.if-says.true)) _ _ _ c.decode.ensures c.answer.ensures

pub returns : goal.returns
returns c =
    sym (packet_wrong _ c.args.input.now _ c.body_end-end.ensures c.if-input-end.false c.if-input-end-eq36.false c.if-input-end-lt3.false
    (rw c.sum.ensures at (sym c.says.ensures ∙ c.if-says.false)))
