-- What is decided from, in a good world with ROMs of bytes: words, rows that keep the rules, and bytes.
use Prim.Native.Nat.{ℕ, suc, ◌^◌}
use native.Mathlib.Omega.{arith}
use Rattle.word.specs.Lists.{Below}
use Rattle.state.specs.Layout.{cp0_words, slot_words, kept_words}
use Rattle.state.specs.declared.machine.Core.{Core}
use Rattle.proper.specs.Proper.{ControlGood, Sources}
use Rattle.step.specs.World.{World, Roms, lent_in}
use Rattle.good.specs.Good.{Good}
use Rattle.good.proofs.Belows.{below_left}
use Rattle.good.proofs.Sound.{CoreSound, Sound, good_sound}

-- CP0's words are among the core's, from the fifth on
pub control_words : (c : Core) → Below (2 ^ 32) (kept_words c) → Below (2 ^ 32) (cp0_words c.cp0)
control_words c h = below_left (cp0_words c.cp0) (slot_words c) (λ i l. h (suc (suc (suc (suc i)))) (omega arith))

pub control_good : {c : Core} {pending : ℕ} → CoreSound c pending → ControlGood c.cp0 pending
control_good {c} s = record { words = control_words c s.words; kept = s.kept }

pub sound_sources : (roms : Roms) → Below 256 roms.execution → Below 256 roms.bootstrap → (w : World) → Sound w →
    Sources w.cpu.core w.board.line.pending w.cpu.regs w.cpu.tlb (lent_in roms w)
sound_sources roms execution bootstrap w s = record {
  words = s.core.words;
  control = control_good s.core;
  registers = s.regs.small;
  rows = λ i h. s.rows.each i (omega (arith, s.rows.long));
  execution = execution;
  bootstrap = bootstrap;
  ram = s.ram;
}

pub good_sources : (roms : Roms) → Below 256 roms.execution → Below 256 roms.bootstrap → (w : World) → Good w →
    Sources w.cpu.core w.board.line.pending w.cpu.regs w.cpu.tlb (lent_in roms w)
good_sources roms execution bootstrap w g = sound_sources roms execution bootstrap w (good_sound w g)
