-- `decide::fetch::fetch_slow` meets its contract: the answer, and the word where it lands, for which there is room (`reached_room`).
use borrow.Author.Rules.{rules}
use Rattle.reach.specs.declared.access.Kind.TheVariants.{Fetch}
use Rattle.reach.specs.declared.access.Width.TheVariants.{Four}
use Rattle.intend.proofs.InParts.{reached_in_parts}
use Rattle.decide.specs.Fetch.{fetch_of}
use Rattle.decide.proofs.Held.{reached_room}
use Rattle.decide.proofs.fetch.fetch_slow.Goals as goal

pub word_in-requires : goal.word_in-requires
word_in-requires c =
    let answer = reached_in_parts Fetch Four c.args.core.cp0 c.args.rows _ c.args.core.pc c.mode_of.ensures c.physical-to.ensures c.landed.ensures in
    reached_room _ c.requires _ _ _ _ _ c.sizes-lent.ensures answer c.in_ok-place.was

pub returns : goal.returns
unfolding fetch_of
returns c =
    let answer = reached_in_parts Fetch Four c.args.core.cp0 c.args.rows _ c.args.core.pc c.mode_of.ensures c.physical-to.ensures c.landed.ensures in
    rw (← c.sizes-lent.ensures, ← answer, c.in_ok-place.was, c.word_in.ensures)

pub returns-in_err-place : goal.returns-in_err-place
unfolding fetch_of
returns-in_err-place c =
    let answer = reached_in_parts Fetch Four c.args.core.cp0 c.args.rows _ c.args.core.pc c.mode_of.ensures c.physical-to.ensures c.landed.ensures in
    rw (← c.sizes-lent.ensures, ← answer, c.in_err-place.was) (search rules)
