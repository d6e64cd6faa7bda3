-- `board::rom::answered` meets its contract: what `fit` ensures of each ROM, and `held` of the address.
use Rattle.board.specs.Rom.{answer_of}
use Rattle.board.proofs.rom.answered.Goals as goal

pub returns-then-not-fit : goal.returns-then-not-fit
unfolding answer_of
returns-then-not-fit c = rw (← c.fit.ensures, c.if-not-fit.true)

pub returns-then-not-fit-2 : goal.returns-then-not-fit-2
unfolding answer_of
returns-then-not-fit-2 c =
    rw (
      ← c.fit.ensures,
      c.if-not-fit.false,
      ← c.fit-2.ensures,
      c.if-not-fit-2.true,
    )

pub returns-then-not-held : goal.returns-then-not-held
unfolding answer_of
returns-then-not-held c =
    rw (
      ← c.fit.ensures,
      c.if-not-fit.false,
      ← c.fit-2.ensures,
      c.if-not-fit-2.false,
      ← c.held.ensures,
      c.if-not-held.true,
    )

pub returns : goal.returns
unfolding answer_of
returns c =
    rw (
      ← c.fit.ensures,
      c.if-not-fit.false,
      ← c.fit-2.ensures,
      c.if-not-fit-2.false,
      ← c.held.ensures,
      c.if-not-held.false,
    )
