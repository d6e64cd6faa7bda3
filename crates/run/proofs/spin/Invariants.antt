-- `run::spin` meets its contract: at the loop's head the run from the start is the run from here, `steps` later. What a turn's calls ensure is one step (`turned_is`).
-- The arms differ in what they know of the effect; `again` and `ends` take each of them from the turn's statement.
use Rattle.std.specs.Prelude.{◌≡◌, ◌-◌, length}
use Rattle.ring.proofs.Run.{Reached}
use Rattle.journal.specs.Journal.{slots_of}
use Rattle.journal.specs.Journal as slots
use Rattle.pages.specs.Pages.{Known}
use Rattle.state.specs.Layout.{HoldsZero}
use Rattle.held.specs.Board.{Told}
use Rattle.step.specs.World.{roms_of}
use Rattle.turn.specs.Buffers.{beside_of}
use Rattle.run.specs.Run.{forward}
use Rattle.run.specs.Spin.{config_of}
use Rattle.run.proofs.Looks.{NextLook}
use Rattle.run.proofs.spin.Given as goal

-- everything at the loop's head, the lengths that stay, and how far the run is
abbrev pub invariant-loop-settings : goal.invariant-loop-settings
invariant-loop-settings l =
    NextLook l.rows l.steps l.budget l.limit
    × (length l.ram ≡ length l.initial.ram)
    × (length l.paper ≡ length l.initial.paper)
    × (length l.journal ≡ length l.initial.journal)
    × Told l.held l.words
    × slots.Ready l.journal l.mark
    × (length l.rows ≡ 16)
    × (length l.core ≡ 14)
    × HoldsZero l.regs
    × (length l.index ≡ length l.initial.index)
    × Known l.pages l.rows (length l.initial.ram)
    × Reached (forward (roms_of l.execution l.bootstrap)) (slots_of l.initial.journal) l.budget l.stop
    (config_of (roms_of l.execution l.bootstrap) l.settings (record { core = l.initial.core; held = l.initial.held; regs = l.initial.regs; rows = l.initial.rows; words = l.initial.words; mark = l.initial.mark })
    (beside_of l.execution l.bootstrap l.initial.ram l.initial.paper l.initial.journal l.initial.index))
    l.steps
    (config_of (roms_of l.execution l.bootstrap) l.settings (record { core = l.core; held = l.held; regs = l.regs; rows = l.rows; words = l.words; mark = l.mark })
    (beside_of l.execution l.bootstrap l.ram l.paper l.journal l.index))

abbrev pub decreases-loop-settings : goal.decreases-loop-settings
decreases-loop-settings l = l.budget - l.steps
