-- `pages::bring` meets its contract: the frame of the page that was brought lies in RAM.
use mathlib.Core.Path.{sym, ◌∙◌}
use Rattle.pages.proofs.Knows.{told_holds, inside_key}
use Rattle.pages.proofs.bring.Goals as goal

pub word_at-word-requires-clause-frame_in_bounds : goal.word_at-word-requires-clause-frame_in_bounds
word_at-word-requires-clause-frame_in_bounds c = inside_key _ _ (sym c.with_key.ensures ∙ c.in-Some.is) (told_holds _ _ _ c.remember-pages.ensures)
