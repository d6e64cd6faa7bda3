-- What a well formed record gives back can be laid down again: the machine is one that an image can hold, RAM and paper are bytes, and a good world stays
-- good, since the check has shown that what is given back keeps the rules.
use Rattle.std.proofs.Common.{◌≡◌, ℕ, zero, suc, ◌<◌, Bool, true, false, List, [], ◌∷◌, length, get_or, set, ◌∙◌, arith}
use lib.Seq.{sets}
use Rattle.word.specs.Lists.{Below}
use Rattle.word.specs.Little.{to_bytes}
use Rattle.word.specs.Map.{bit}
use Rattle.memory.proofs.OneCell.{to_below}
use Rattle.printer.specs.declared.Printer.{Printer}
use Rattle.printer.specs.declared.saved.SavedPaper.{SavedPaper}
use Rattle.printer.specs.Tick.{no_printer, place_of, room_of}
use Rattle.printer.specs.Saved.{put_at, put_back, restored_paper}
use Rattle.printer.proofs.Undo.{length_back}
use Rattle.state.specs.Layout.{WellTyped}
use Rattle.state.specs.declared.machine.Machine.{Machine}
use Rattle.record.specs.declared.Record.{Record}
use Rattle.record.specs.declared.Saved.{Saved}
use Rattle.record.specs.declared.Saved.TheVariants.{Nothing, Register, TlbRow, RamWord}
use Rattle.record.specs.Layout.{record_of}
use Rattle.record.specs.Keeps.{keeps_layout, Ranged}
use Rattle.record.proofs.RoundTrip.{decoded_ranged}
use Rattle.step.specs.World.{World}
use Rattle.good.specs.Good.{no_mark, machine_in, Good}
use Rattle.good.proofs.Belows.{below_right, below_any, below_set}
use Rattle.good.proofs.Parts.{words, well_typed}
use Rattle.undo.specs.Undo.{ram_back, machine_back, undo_of, view_of}
use Rattle.undo.specs.Fit.{fit_of}
use Rattle.undo.proofs.Laws.{fits}
use Rattle.undo.proofs.GivenBack.{parts, regs_small, regs_long, regs_zero, rows_small, rows_long, clock_small}

-- ---- the machine

pub back_typed : (r : Record) (m : Machine) → Ranged r → WellTyped m → WellTyped (machine_back r m)
back_typed r m g t =
    let p = parts r g.small in
    let own = words m t in
    well_typed (machine_back r m)
    (record {
      regs = regs_long m.cpu.regs r.saved ∙ t.sized.regs;
      tlb = rows_long m.cpu.tlb r.saved ∙ t.sized.tlb;
      printers = g.printers;
    })
    (regs_zero m.cpu.regs r.saved g.saved ∙ t.zero)
    (record {
      regs = regs_small m.cpu.regs r.saved p.saved own.regs;
      core = p.core;
      rows = rows_small m.cpu.tlb r.saved p.saved own.rows;
      clock = clock_small r.timer m.board.clock p.timer;
      settings = own.settings;
      printers = p.printers;
      pending = p.pending;
      journal = own.journal;
    })

-- the same of the record that the bytes of a slot say
pub slot_typed : (slot : List ℕ) (m : Machine) → length slot ≡ 512 → Below 256 slot → keeps_layout slot ≡ true → WellTyped m →
    WellTyped (machine_back (record_of slot) m)
slot_typed slot m long bytes keeps t = back_typed (record_of slot) m (decoded_ranged slot long bytes keeps) t

-- ---- RAM

below_sets : {m : ℕ} (l : List ℕ) (at : ℕ) (vs : List ℕ) → Below m l → Below m vs → Below m (sets l at vs)
below_sets l at [] h hv = h
below_sets l at (v ∷ vs) h hv =
    below_sets (set l at v) (suc at) vs (below_set l at v h (hv 0 (omega arith))) (below_right (v ∷ []) vs hv)

pub ram_bytes : (s : Saved) (ram : List ℕ) → Below 256 ram → Below 256 (ram_back s ram)
ram_bytes Nothing ram h = h
ram_bytes (Register n old) ram h = h
ram_bytes (TlbRow i row) ram h = h
ram_bytes (RamWord place old distance) ram h = below_sets ram place (to_bytes 4 old) h (to_below 4 old)

-- ---- paper

put_bytes : (on : Bool) (n : ℕ) (p : Printer) (byte : ℕ) (paper : List ℕ) → byte < 256 → Below 256 paper → Below 256 (put_at on n p byte paper)
put_bytes true n p byte paper small h = below_set paper (place_of (room_of paper) n p.count) byte h small
put_bytes false n p byte paper small h = h

puts_bytes : (mask : ℕ) (bytes : List ℕ) (printers : List Printer) (n : ℕ) (paper : List ℕ) → Below 256 bytes → Below 256 paper →
    Below 256 (put_back mask bytes printers n paper)
unfolding put_back
puts_bytes mask bytes printers zero paper small h = h
puts_bytes mask bytes printers (suc n) paper small h =
    let p = get_or printers n no_printer in
    let byte = get_or bytes n 0 in
    puts_bytes mask bytes printers n (put_at (bit n mask) n p byte paper) small
    (put_bytes (bit n mask) n p byte paper (below_any bytes small (omega arith) n) h)

pub paper_bytes : (saved : SavedPaper) (printers : List Printer) (paper : List ℕ) → Below 256 saved.bytes → Below 256 paper →
    Below 256 (restored_paper saved printers paper)
paper_bytes saved printers paper = puts_bytes saved.mask saved.bytes printers 8 paper

-- ---- the whole

pub good_back : (slot : List ℕ) (w : World) → Good w → Below 256 slot → length slot ≡ 512 → fit_of slot (view_of w) ≡ true →
    Good (undo_of (record_of slot) w)
unfolding undo_of
good_back slot w g bytes long e =
    let f = fits slot (view_of w) e in
    let r = record_of slot in
    let range = decoded_ranged slot long bytes f.layout in
    record {
      typed = back_typed r (machine_in w no_mark) range g.typed;
      kept = rw (length_back r.paper.mask r.paper.bytes r.printers 8 w.paper) f.rules;
      ram = ram_bytes r.saved w.ram g.ram;
      paper = paper_bytes r.paper r.printers w.paper range.bytes g.paper;
    }
