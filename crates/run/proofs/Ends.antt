-- The parts that the loop opens a machine into are that machine, and so are those that it closes again.
use Rattle.std.specs.Prelude.{◌≡◌, ℕ, Bool, length}
use mathlib.Core.Path.{refl, ap, ◌∙◌}
use Rattle.ring.specs.Run.{Config, ended}
use Rattle.ring.specs.Run as ring
use Rattle.journal.specs.Journal.{slots_of}
use Rattle.word.specs.Lists.{flat}
use Rattle.state.specs.Layout.{printer_words}
use Rattle.state.specs.declared.machine.Machine.{Machine}
use Rattle.held.proofs.Board.{held_printers, length_held}
use Rattle.held.proofs.CoreWords.{core_held}
use Rattle.held.proofs.Soon.{any_waits}
use Rattle.step.specs.World.{Roms}
use Rattle.turn.specs.Buffers.{Beside, roms_in}
use Rattle.turn.specs.declared.Parts.{Parts}
use Rattle.run.specs.Run.{forward, reason_of, Fits, RunIs}
use Rattle.run.specs.Run as run
use Rattle.run.specs.Spin.{parts_of, machine_of, config_of, Ready, SpinIs}
use Rattle.run.specs.declared.Spun.{Spun}

module _ (m : Machine) (eight : length m.board.line.printers ≡ 8) (sixteen : length m.cpu.tlb ≡ 16) where
  opened_config : (roms : Roms) (b : Beside) → config_of roms m.board.settings (parts_of m) b ≡ run.config_of roms m b
  opened_config roms b = rw (core_held m.cpu.core, held_printers m.board.line.printers eight)

  pub opened_ready : {p : Parts} (b : Beside) → p ≡ parts_of m → Fits b m → Ready p b
  opened_ready b is fits =
      rw is
      (record {
        fourteen = refl;
        table = sixteen;
        told =
            record {
              waits = any_waits (flat printer_words m.board.line.printers);
              forty = length_held m.board.line.printers eight;
            };
        whole = fits.whole;
        short = fits.short;
        ready = fits.ready;
        framed = fits.framed;
        zero = fits.zero;
      })

  -- the loop from the opened parts, closed again, is the run
  pub spun_is : (b b' : Beside) (budget : ℕ) (stop : Bool) {p : Parts} (r : Spun) {after : Machine} →
      p ≡ parts_of m → SpinIs budget stop m.board.settings p b r b' → after ≡ machine_of r.parts m.board.settings →
      RunIs budget stop m b (record { machine = after; steps = r.steps; why = r.why }) b'
  spun_is b b' budget stop r opened spun closed =
      let roms = roms_in b in
      ap (λ (x : Machine). ended (run.config_of roms x b') r.steps (reason_of r.why)) closed
      ∙ spun
      ∙ ap (λ (x : Parts). ring.run (forward roms) (slots_of b.journal) budget stop (config_of roms m.board.settings x b)) opened
      ∙ ap (λ (x : Config (forward roms)). ring.run (forward roms) (slots_of b.journal) budget stop x) (opened_config roms b)
