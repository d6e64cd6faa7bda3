-- The measure of `text::write::put_grouped` is the value.
use Rattle.text.proofs.write.+put_grouped.Given as goal

abbrev pub decreases-put_grouped : goal.decreases-put_grouped
decreases-put_grouped l = l.value
