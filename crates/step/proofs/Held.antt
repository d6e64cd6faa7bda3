-- The moves of a step on the parts that a run holds, over plain values. While no printer works there is nothing to tick.
use Rattle.std.specs.Prelude.{◌≡◌, ℕ, ◌-◌, ◌<◌, true, false, List, [], length}
use mathlib.Core.Path.{refl, sym, ap, ◌∙◌}
use mathlib.Core.Bool.{and-false}
use Rattle.clock.specs.declared.Beat.{Beat}
use Rattle.clock.specs.Tick as clock
use Rattle.word.specs.Map.{bit}
use Rattle.printer.specs.Tick.{printing, is_busy}
use Rattle.printer.specs.declared.Line.{Line}
use Rattle.printer.proofs.Ticks.{idle_tick}
use Rattle.bus.specs.declared.store.Store.TheVariants.{Timer, Command, Data}
use Rattle.std.proofs.Common.{Option, Some, None}
use Rattle.board.specs.declared.places.Sizes.{Sizes}
use Rattle.state.specs.Layout.{kept_words}
use Rattle.state.specs.Slot.{slot_after}
use Rattle.state.specs.declared.machine.Core.{Core}
use Rattle.state.specs.declared.machine.Board.{Board}
use Rattle.state.specs.declared.machine.Settings.{Settings}
use Rattle.decide.specs.declared.effect.Decision.{Decision}
use Rattle.held.specs.Board.{printer_in, printers_in, board_of, Waits, Told}
use Rattle.held.specs.Core.{core_in}
use Rattle.held.specs.Line.{takes_in, TicksIs, WaitsIs, CommandIs, DataIs}
use Rattle.held.specs.declared.Held.{Held}
use Rattle.held.proofs.CoreWords.{core_held}
use Rattle.held.proofs.LineHeld.{not_commanded}
use Rattle.held.proofs.Soon.{quiet, any_waits, waits_on}
use Rattle.step.specs.Apply.{bus_of, with_pc}
use Rattle.step.specs.Parts.{core_ticked, regs_after, ram_after, core_after}
use Rattle.step.specs.Held.{PrintedIs, TickIs, StoredIs, HeldIs, ApplyIs}
use Rattle.step.specs.declared.tick.AfterPrinters.{AfterPrinters}
use Rattle.step.proofs.Ticks.{tick_is}
use Rattle.step.proofs.Applied.{apply_is}
use Rattle.step.proofs.Busy.{data_waits}

-- a core that was put back is the core then
pub put_back : {words : List ℕ} {c : Core} → words ≡ kept_words c → core_in words ≡ c
put_back {c = c} put = ap core_in put ∙ core_held c

-- ---- the tick

pub printed_idle : (words : List ℕ) (pending : ℕ) (paper : List ℕ) (soon : ℕ) → Waits soon words → length words ≡ 40 → soon ≡ 0 →
    PrintedIs words pending paper (record { pending = pending; soon = soon }) words paper
printed_idle words pending paper soon waits forty none =
    record { ticked = sym (idle_tick (printing (printers_in words) pending paper) (quiet words (rw none at waits))); told = waits; forty = forty }

pub printed_waits : (words : List ℕ) (pending : ℕ) (paper : List ℕ) (soon : ℕ) {words' : List ℕ} → 1 < soon → Waits soon words → WaitsIs words words' →
    PrintedIs words pending paper (record { pending = pending; soon = soon - 1 }) words' paper
printed_waits words pending paper soon {words'} many waits done =
    record { ticked = done.ticked pending paper; told = waits_on soon words words' many waits done; forty = done.forty }

pub printed_busy : (words : List ℕ) (pending : ℕ) (paper : List ℕ) {map : ℕ} {words' paper' : List ℕ} {soon : ℕ} →
    TicksIs words pending paper map words' paper' → Waits soon words' →
    PrintedIs words pending paper (record { pending = map; soon = soon }) words' paper'
printed_busy words pending paper ticks told = record { ticked = ticks.ticked; told = told; forty = ticks.forty }

pub ticks_held : (settings : Settings) (core : List ℕ) (h : Held) (words paper : List ℕ) {p : AfterPrinters} {words' paper' core' : List ℕ} {beat : Beat} {was next : Core} →
    PrintedIs words h.pending paper p words' paper' →
    beat ≡ clock.ticked_of h.clock →
    was ≡ core_in core →
    next ≡ core_ticked beat.rang p.pending was →
    core' ≡ kept_words next →
    TickIs settings core h words paper (record { clock = beat.clock; pending = p.pending; soon = p.soon }) core' words' paper'
ticks_held settings core h words paper {p} {words'} {paper'} {beat = beat} printed beaten read moved put =
    record {
      world_is =
          tick_is (core_in core) (board_of h settings words) paper {line = record { printers = printers_in words'; pending = p.pending }} {after = paper'}
          printed.ticked beaten (put_back put ∙ moved ∙ ap (core_ticked beat.rang p.pending) read);
      told = record { waits = printed.told; forty = printed.forty };
    }

-- ---- a store in the device area

module _ (settings : Settings) (h : Held) (words : List ℕ) where
  abbrev with_line : Line → Board
  with_line line = record { clock = h.clock; settings = settings; line = line }

  pub stores_nothing : Told h words → StoredIs settings None h words h words
  stores_nothing told = record { board_is = refl; told = told }

  pub stores_timer : (timer : ℕ) {r : Held} → Told h words →
      r ≡ record { clock = record { high = h.clock.high; low = h.clock.low; timer = timer }; pending = h.pending; soon = h.soon } →
      StoredIs settings (Some (Timer timer)) h words r words
  stores_timer timer told is = rw is (record { board_is = refl; told = record { waits = told.waits; forty = told.forty } })

  module _ (n word : ℕ) (few : n < 8) (told : Told h words) where
    pub stores_command : {map : ℕ} {words' : List ℕ} → CommandIs settings.installed settings.delay n word words h.pending map words' →
        StoredIs settings (Some (Command n word)) h words (record { clock = h.clock; pending = map; soon = 1 }) words'
    stores_command {words' = words'} done = record { board_is = ap with_line done.line_is; told = record { waits = any_waits words'; forty = done.forty } }

    -- a printer at work takes no command
    pub stores_refused : is_busy (printer_in words n) ≡ true → StoredIs settings (Some (Command n word)) h words h words
    stores_refused busy =
        let off : takes_in settings.installed n (printer_in words n) ≡ false = rw busy (and-false (bit n settings.installed)) in
        let done = not_commanded words n few told.forty settings.installed settings.delay word h.pending refl off in
        record { board_is = ap with_line done.line_is; told = told }

    pub stores_data : {words' : List ℕ} → DataIs settings.installed n word words words' →
        StoredIs settings (Some (Data n word)) h words (record { clock = h.clock; pending = h.pending; soon = h.soon }) words'
    stores_data {words'} done =
        record {
          board_is = ap with_line (done.line_is h.pending);
          told = record { waits = data_waits settings.installed n word few h.soon words words' done told.waits; forty = done.forty };
        }

-- ---- the effect

pub applies_held : (settings : Settings) (sizes : Sizes) (d : Decision) (core core₁ : List ℕ) (h : Held) (words regs ram : List ℕ)
    {regs' ram' words' core' : List ℕ} {next : Held} {moved last : Core} →
    (regs' ≡ regs_after (bus_of sizes (board_of h settings words)) (printers_in words) d.effect regs) × (ram' ≡ ram_after d.effect ram) →
    HeldIs settings d.effect h words next words' →
    core_in core₁ ≡ core_after next.pending d.effect (core_in core) →
    moved ≡ core_in core₁ →
    last ≡ with_pc d.pc d.next_pc (slot_after d.branched moved) →
    core' ≡ kept_words last →
    ApplyIs settings sizes d core h words regs ram next core' words' regs' ram'
applies_held settings sizes d core core₁ h words regs ram {words' = words'} {next = next} written held' cored read paced put =
    record {
      world_is =
          apply_is sizes d (core_in core) (board_of h settings words) regs [] ram [] {next = board_of next settings words'} written held'.board_is
          (read ∙ cored) (put_back put ∙ paced);
      told = held'.told;
      fourteen = ap (λ (l : List ℕ). length l) put;
    }
