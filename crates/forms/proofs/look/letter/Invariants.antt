-- `forms::look::letter` meets its contract. The loop's invariant: none of the letters so far stands there.
use mathlib.Core.Path.{◌≡◌}
use lib.ListN.{drop}
use Rattle.forms.specs.Look.{letter_of}
use Rattle.forms.proofs.look.letter.Given as goal

abbrev pub invariant-loop-b : goal.invariant-loop-b
invariant-loop-b g l = letter_of l.line l.m (drop l.b-index l.letters) l.or ≡ letter_of l.line l.m l.letters l.or
