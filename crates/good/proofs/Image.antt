-- A good world with a journal's two words is a machine that the image can hold, and it keeps every rule where the two words do.
use Prim.Native.Nat.{ℕ, ◌/◌, ◌^◌, ◌<◌}
use mathlib.Core.Path.{◌≡◌}
use mathlib.Core.Bool.{true}
use lib.ListN.{length}
use native.Mathlib.Omega.{arith}
use Rattle.word.proofs.Cond.{and_true}
use Rattle.state.specs.Layout.{journal_words, WellTyped}
use Rattle.state.specs.declared.machine.Journal.{Journal}
use Rattle.rules.specs.Rules.{journal_keeps, machine_keeps}
use Rattle.step.specs.World.{World}
use Rattle.good.specs.Good.{machine_in, Good}
use Rattle.good.proofs.Belows.{each_below}
use Rattle.good.proofs.Sound.{good_sound, sound_words, sound_keeps}

pub good_image_lem : (w : World) (mark : Journal) → (mark.on_hand < 2 ^ 32) × (mark.next_slot < 2 ^ 32) → Good w → WellTyped (machine_in w mark)
good_image_lem w mark small g = sound_words w (good_sound w g) mark (each_below (journal_words mark) (omega arith))

pub good_keeps : (w : World) (mark : Journal) (journal : ℕ) → journal_keeps mark (journal / 512) ≡ true → Good w →
    machine_keeps (machine_in w mark) (length w.paper) journal ≡ true
unfolding machine_keeps
good_keeps w mark journal slots g = and_true (sound_keeps w (good_sound w g) mark) slots
