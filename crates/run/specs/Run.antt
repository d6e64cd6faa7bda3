-- The machine of documents 01 and 02 as `ring` runs it: the step, whether it enters an exception, whether it asks to halt before it (02, L5), the record that it writes, and the index beside it (02, L6).
use Rattle.std.specs.Prelude.{◌≡◌, ℕ, ◌≤◌, Bool, length}
use Rattle.ring.specs.Machine.{Forward}
use Rattle.ring.specs.Run.{Why, Config, Ran, ended, spent, excepted, halted}
use Rattle.ring.specs.Run as ring
use Rattle.journal.specs.Journal.{slots_of, ring_of, Ready}
use Rattle.state.specs.Layout.{HoldsZero}
use Rattle.state.specs.declared.machine.Machine.{Machine}
use Rattle.decide.specs.Lent.{Whole}
use Rattle.step.specs.World.{Roms, world_in}
use Rattle.indexed.specs.Ahead.{forward_of}
use Rattle.marks.specs.Index.{ahead}
use Rattle.marks.specs.Steps.{FitsRam}
use Rattle.turn.specs.Buffers.{Beside, roms_in}
use Rattle.turn.specs.Turn.{lent_from}
use Rattle.look.specs.declared.Stop.{Stop}
use Rattle.look.specs.declared.Stop.TheVariants.{Budget, Exception, TwoMatches}
use Rattle.run.specs.declared.Outcome.{Outcome}

-- with the index of L6 kept beside it
abbrev pub forward : Roms → Forward
forward roms = forward_of (ahead roms)

abbrev pub config_of : (roms : Roms) → Machine → Beside → Config (forward roms)
config_of roms m b = record { state = world_in m b.ram b.paper; side = b.index; ring = ring_of m.journal b.journal }

-- a run of the machine of an image, with what is lent beside it
abbrev pub run_of : ℕ → Bool → Machine → (b : Beside) → Ran (forward (roms_in b))
run_of budget stop m b = let roms = roms_in b in ring.run (forward roms) (slots_of b.journal) budget stop (config_of roms m b)

-- ---- aids to proofs: nothing that a reader must believe

abbrev pub reason_of : Stop → Why
reason_of Budget = spent
reason_of Exception = excepted
reason_of TwoMatches = halted

-- what rows 1 to 5 and 10 leave of what is lent
pub record Fits (b : Beside) (m : Machine) : Type 0 where
  pub whole : Whole (lent_from b)
  pub short : length b.paper ≤ 65536
  pub ready : Ready b.journal m.journal
  pub framed : FitsRam b.ram b.index
  pub zero : HoldsZero m.cpu.regs

-- what a run gives back and leaves behind the references is the run: b' is what is lent as the run leaves it
abbrev pub RunIs : ℕ → Bool → Machine → Beside → Outcome → (b' : Beside) → Type 0
RunIs budget stop m b r b' = ended (config_of (roms_in b) r.machine b') r.steps (reason_of r.why) ≡ run_of budget stop m b
