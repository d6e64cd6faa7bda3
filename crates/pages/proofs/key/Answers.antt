use mathlib.Core.Path.{refl}
use Rattle.pages.specs.Pages.{key_of}
use Rattle.pages.proofs.key.Goals as goal

-- src/lib.rt:16:1
pub returns : goal.returns
unfolding key_of
returns c = refl
