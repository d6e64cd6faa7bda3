-- All the marked examples hold: one statement, which antt computes.
use mathlib.Core.Path.{◌≡◌, refl}
use mathlib.Core.List.{map}
use Rattle.word.specs.Little.{from_bytes, to_bytes}
use Rattle.word.specs.Map.{with_bit}
use Rattle.word.specs.Mask.{overlaid_of}
use Rattle.memory.specs.Memory.{load_at}
use Rattle.cp0.specs.Word.{pushed_of, popped_of}
use Rattle.cp0.specs.Entry.{cause_of, entered_of}
use Rattle.cp0.specs.Registers.{with_register}
use Rattle.clock.specs.Tick.{ticked_of}
use Rattle.printer.specs.Tick.{ticks, tick_one, printer_ticked, paper_ticked}
use Rattle.board.specs.Places.{mapped_of}
use Rattle.reach.specs.Reach.{reach_of}
use Rattle.reach.specs.Translate.{translated_of}
use Rattle.intend.specs.Access.{reached_of}
use Rattle.intend.specs.Intend.{intend_of}
use Rattle.intend.specs.Operand.{reg_of}
use Rattle.decide.specs.Decide.{decide_of, execute_of}
use Rattle.decide.specs.Settle.{settle_of}
use Rattle.step.specs.Apply.{effect_of}
use Rattle.step.specs.Step.{step_of}
use Rattle.step.specs.Tick.{tick_of}
use Rattle.marked.specs.Marked.{marked, computed, told}

pub marked_hold : map computed marked ≡ map told marked
unfolding step_of tick_of with_register ticked_of ticks tick_one printer_ticked paper_ticked decide_of execute_of reached_of reach_of translated_of mapped_of load_at reg_of intend_of settle_of effect_of entered_of cause_of with_bit overlaid_of pushed_of popped_of from_bytes to_bytes
marked_hold = refl
