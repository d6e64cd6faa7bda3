-- The measure of `text::write::put_low` is the count of digits.
use Rattle.text.proofs.write.+put_low.Given as goal

abbrev pub decreases-put_low : goal.decreases-put_low
decreases-put_low l = l.count
