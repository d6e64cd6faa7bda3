-- `held::line::least` meets its contract: each way out has the tests that led there.
use Prim.Native.Nat.{ℕ, ◌<◌, min, max}
use mathlib.Core.Path.{◌≡◌, ◌∙◌}
use mathlib.Core.Bool.{cond}
use native.Mathlib.Decide.{dec_le}
use native.Mathlib.Omega.{arith}
use lib.Dec.{leb}
use borrow.Author.Tests.{eq-eqb, ne_eqb, le-leb, lt-leb}
use Rattle.held.specs.Board.{least_of}
use Rattle.held.proofs.line.least.Goals as goal

-- the lesser of two, by the test
min_told : (a b : ℕ) → min a b ≡ cond (leb a b) a b
min_told a b =
    elim (dec_le a b) [
      | yes le ↦ rw (le-leb a b le) (omega arith)
      | no more ↦ let lt : b < a = omega arith in rw (lt-leb a b lt) (omega arith)
    ]

-- the greater of two, by the test: what must-fail/waits_too_long.edit takes in its place
max_told : (a b : ℕ) → max a b ≡ cond (leb b a) a b
max_told a b =
    elim (dec_le b a) [
      | yes le ↦ rw (le-leb b a le) (omega arith)
      | no more ↦ let lt : a < b = omega arith in rw (lt-leb b a lt) (omega arith)
    ]

pub returns-then-words-n-ne-BUSY : goal.returns-then-words-n-ne-BUSY
unfolding least_of
returns-then-words-n-ne-BUSY c = rw (ne_eqb _ _ c.if-words-n-ne-BUSY.true)

pub returns-then-left-le1 : goal.returns-then-left-le1
unfolding least_of
returns-then-left-le1 c = rw (eq-eqb _ _ c.if-words-n-ne-BUSY.false, le-leb _ _ c.if-left-le1.true)

pub returns-then-soon-eq0 : goal.returns-then-soon-eq0
unfolding least_of
returns-then-soon-eq0 c = rw (eq-eqb _ _ c.if-words-n-ne-BUSY.false, lt-leb _ _ c.if-left-le1.false, eq-eqb _ _ c.if-soon-eq0.true)

pub returns : goal.returns
unfolding least_of
returns c = rw (eq-eqb _ _ c.if-words-n-ne-BUSY.false, lt-leb _ _ c.if-left-le1.false, ne_eqb _ _ c.if-soon-eq0.false) (c.min.ensures ∙ min_told _ _)
