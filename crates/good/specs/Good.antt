-- What holds of every state that a run meets: the processor and the board are made of words and keep the rules of document 01, and RAM and paper are bytes.
use Rattle.std.specs.Prelude.{◌≡◌, true, length}
use Rattle.word.specs.Lists.{Below}
use Rattle.state.specs.Layout.{WellTyped}
use Rattle.state.specs.declared.machine.Machine.{Machine}
use Rattle.state.specs.declared.machine.Journal.{Journal}
use Rattle.rules.specs.Rules.{state_keeps}
use Rattle.step.specs.World.{World}

-- with the journal's two words beside it, as the image has them
abbrev pub machine_in : World → Journal → Machine
machine_in w mark = record { cpu = w.cpu; board = w.board; journal = mark }

abbrev pub no_mark : Journal
no_mark = record { on_hand = 0; next_slot = 0 }

pub record Good (w : World) : Type 0 where
  pub typed : WellTyped (machine_in w no_mark)
  pub kept : state_keeps (machine_in w no_mark) (length w.paper) ≡ true
  pub ram : Below 256 w.ram
  pub paper : Below 256 w.paper
