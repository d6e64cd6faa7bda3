-- `rules::cause_keeps` meets its contract, from what `has_bit` ensures of each line.
use mathlib.Core.Path.{refl}
use Rattle.rules.proofs.cause_keeps.Goals as goal

pub returns : goal.returns
returns c =
    rw (
      c.has_bit-5.ensures,
      c.has_bit-4.ensures,
      c.has_bit-3.ensures,
      c.has_bit-2.ensures,
      c.has_bit.ensures,
    )
    refl
