-- `board::rom::from_rom` meets its contract: where the answer is done, the four bytes lie in the ROM that spans the address.
use mathlib.Core.Path.{sym, ◌∙◌}
use Rattle.board.proofs.Windows.{in_execution, from_base, in_bootstrap}
use Rattle.board.proofs.rom.from_rom.Goals as goal

pub four-requires : goal.four-requires
four-requires c = in_execution _ _ _ c.requires (sym c.spans.ensures ∙ c.if-spans.true)

pub returns-then-spans : goal.returns-then-spans
returns-then-spans c = rw (← c.spans.ensures, c.if-spans.true) c.four.ensures

pub overflow_sub-address-2 : goal.overflow_sub-address-2
overflow_sub-address-2 c = from_base _ _ _ c.requires (sym c.spans.ensures ∙ c.if-spans.false)

pub four-requires-2 : goal.four-requires-2
four-requires-2 c = in_bootstrap _ _ _ c.requires (sym c.spans.ensures ∙ c.if-spans.false)

pub returns : goal.returns
returns c = rw (← c.spans.ensures, c.if-spans.false) c.four-2.ensures
