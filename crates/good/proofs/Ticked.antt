-- The tick leaves a good world good: clock, Random, printers, paper and the two interrupt lines.
use Prim.Native.Nat.{ℕ, ◌^◌, ◌<◌}
use mathlib.Core.Bool.{Bool, true}
use native.Mathlib.Omega.{arith}
use lib.ListN.{length}
use Rattle.word.specs.Lists.{Below}
use Rattle.word.proofs.Cond.{picked}
use Rattle.clock.specs.declared.Clock.{Clock}
use Rattle.clock.specs.Tick as clock
use Rattle.cp0.specs.Interrupt.{with_line}
use Rattle.cp0.specs.Random.{random_of, top_entry}
use Rattle.cp0.specs.Registers.{with_register}
use Rattle.printer.specs.Tick as printer
use Rattle.printer.proofs.LineKeeps.{tick_keeps}
use Rattle.state.specs.Layout.{clock_words}
use Rattle.state.specs.declared.machine.Core.{Core}
use Rattle.step.specs.World.{World}
use Rattle.step.specs.Tick.{rang_line, printing_of, tick_of}
use Rattle.step.specs.Parts.{core_ticked}
use Rattle.good.specs.Good.{Good}
use Rattle.good.proofs.Belows.{each_below}
use Rattle.good.proofs.Causes.{Steady, timer_steady}
use Rattle.good.proofs.Control.{random_good, cause_steady, random_own, lined_good, with_cp0_lem}
use Rattle.good.proofs.Printers.{ticked_words, paper_bytes}
use Rattle.good.proofs.Sound.{CoreSound, Sound, good_sound, sound_good}
use Rattle.good.proofs.Sources.{control_good}

clock_words_lem : (c : Clock) → Below (2 ^ 32) (clock_words (clock.ticked_of c).clock)
unfolding clock.ticked_of
clock_words_lem c = each_below (clock_words (clock.ticked_of c).clock) (omega arith)

rang_steady : (rang : Bool) {cause : ℕ} → Steady cause → Steady (rang_line rang cause)
rang_steady rang {cause} s = picked Steady rang (with_line 2 true cause) cause (λ _. timer_steady true s) (λ _. s)

core_ticked_lem : {c : Core} {pending : ℕ} (rang : Bool) (next : ℕ) → CoreSound c pending → CoreSound (core_ticked rang next c) next
unfolding with_register
core_ticked_lem {c} rang next s =
    let g = control_good s in
    with_cp0_lem s _ next
    (lined_good g (random_of top_entry c.cp0.random) next (rang_line rang c.cp0.cause) (random_good c.cp0.random (random_own g))
    (rang_steady rang (cause_steady g)))

-- paper of so many bytes that a word can count them: a count is a word
pub tick_sound : (w : World) → length w.paper < 2 ^ 32 → Sound w → Sound (tick_of w)
unfolding tick_of
tick_sound w few s =
    let beat = clock.ticked_of w.board.clock in
    let printed = printer.ticked_of (printing_of w.board w.paper) in
    let b = s.board in
    record {
      regs = s.regs;
      core = core_ticked_lem beat.rang printed.line.pending s.core;
      rows = s.rows;
      board =
          record {
            clock = clock_words_lem w.board.clock;
            settings = b.settings;
            ranges = b.ranges;
            words = ticked_words (printing_of w.board w.paper) b.words b.line.eight (omega arith);
            line = tick_keeps w.board.settings.installed w.board.settings.delay (printing_of w.board w.paper) b.line;
          };
      ram = s.ram;
      paper = paper_bytes (printing_of w.board w.paper) 8 s.paper;
    }

pub tick_good : (w : World) → length w.paper < 2 ^ 32 → Good w → Good (tick_of w)
tick_good w few g = sound_good (tick_of w) (tick_sound w few (good_sound w g))
