-- Document 01: "A record is well formed exactly when its bytes keep that layout, every RAM and paper place in it lies within the lent buffers, and the image
-- that it gives back keeps the rules below; no other reason counts."
use Rattle.std.specs.Prelude.{◌≡◌, ℕ, ◌+◌, ◌/◌, Bool, true, not, ◌&&◌, ◌||◌, List, nat_le, nat_lt, slice_index_or, Option}
use Rattle.std.specs.Bool.{then_some}
use Rattle.word.specs.Lists.{every}
use Rattle.word.specs.Map.{bit}
use Rattle.word.specs.Sizes.{devices}
use Rattle.printer.specs.Tick.{no_printer, place_of}
use Rattle.printer.specs.declared.Printer.{Printer}
use Rattle.state.specs.declared.machine.Machine.{Machine}
use Rattle.rules.specs.Rules.{state_keeps}
use Rattle.record.specs.declared.Record.{Record}
use Rattle.record.specs.declared.Saved.{Saved}
use Rattle.record.specs.declared.Saved.TheVariants.{Nothing, Register, TlbRow, RamWord}
use Rattle.record.specs.Layout.{record_of}
use Rattle.record.specs.Keeps.{saved_ranged, keeps_layout}
use Rattle.undo.specs.Undo.{View, cpu_back, board_back, machine_back}

-- the RAM place, for RAM of so many bytes
abbrev pub ram_place_fits : Saved → ℕ → Bool
ram_place_fits Nothing ram = true
ram_place_fits (Register n old) ram = true
ram_place_fits (TlbRow i row) ram = true
ram_place_fits (RamWord place old distance) ram = nat_le (place + 4) ram

-- the paper place of printer n, if it wrote, for paper of so many bytes
abbrev pub paper_place_fits : ℕ → List Printer → ℕ → ℕ → Bool
paper_place_fits mask printers paper n = not (bit n mask) || nat_lt (place_of (paper / devices) n (slice_index_or printers n no_printer).count) paper

unfoldable pub paper_places_fit : ℕ → List Printer → ℕ → Bool
paper_places_fit mask printers paper = every devices (paper_place_fits mask printers paper)

-- The machine of the image that is given back. Its two journal words are not the record's: taking back keeps their rule whatever the records are, and the rules
-- without it do not look at them.
abbrev pub given_back : Record → View → Machine
given_back r v =
    record { cpu = cpu_back r v.cpu; board = board_back r v.board; journal = record { on_hand = 0; next_slot = 0 } }

unfoldable pub fit_of : List ℕ → View → Bool
fit_of slot v =
    let r = record_of slot in
    keeps_layout slot && ram_place_fits r.saved v.ram && paper_places_fit r.paper.mask r.printers v.paper
    && state_keeps (given_back r v) v.paper

-- ---- aids to proofs: nothing that a reader must believe

-- a record that can be undone: each place that it names is there
pub record Undoable (r : Record) (ram : ℕ) : Type 0 where
  pub ranged : saved_ranged r.saved ≡ true
  pub word : ram_place_fits r.saved ram ≡ true

-- what the check of a record gives: the machine before its step, if it is well formed
abbrev pub checked_of : List ℕ → Machine → (ram paper : ℕ) → Option Machine
checked_of slot m ram paper =
    then_some (fit_of slot (record { cpu = m.cpu; board = m.board; ram = ram; paper = paper })) (machine_back (record_of slot) m)
