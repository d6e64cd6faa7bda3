-- A step's printing is taken back: what was noted before the tick, put back after it, gives all as it was, whatever a command did in between.
use Prim.Native.Nat.{ℕ, zero, suc, ◌+◌, ◌/◌, ◌%◌, ◌≤◌, ◌<◌}
use mathlib.Core.Path.{◌≡◌, refl, ap, ◌∙◌}
use mathlib.Core.Bool.{Bool, true, false, cond}
use mathlib.Core.List.{List}
use native.Mathlib.Omega.{arith}
use native.Mathlib.Numerals.{add-one}
use lib.ListN.{length, get_or, set, length-set}
use lib.Seq.{set-set, set-get_or, get_or-set_other}
use Rattle.word.specs.Lists.{tabulate}
use Rattle.word.proofs.Lists.{get_d_tabulate}
use Rattle.printer.specs.declared.Printer.{Printer}
use Rattle.word.specs.Map.{bit, with_bit}
use Rattle.printer.specs.Tick.{Printing, no_printer, room_of, place_of, prints, paper_ticked, ticks, ticked_of}
use Rattle.printer.specs.Saved.{printing_map, saved_byte, saved_paper_of, put_at, put_back, restored_paper, note_of, undo_of, undo_write_of}
use Rattle.printer.specs.declared.Line.{Line}
use Rattle.printer.specs.Command.{is_illegal, commanded_of, with_data, takes_writes, command_of, data_of}
use Rattle.printer.proofs.Places.{below_higher, prints_room}
use Rattle.printer.proofs.Notes.{map_tells}
use Rattle.printer.proofs.Passed.{length_ticked, old, room, room_ticks, paper_on}

-- one turn of the loop that puts bytes back
pub put_on : (mask : ℕ) (bytes : List ℕ) (printers : List Printer) (n k : ℕ) (paper next : List ℕ) → n ≡ k + 1 →
    next ≡ put_at (bit k mask) k (get_or printers k no_printer) (get_or bytes k 0) paper →
    put_back mask bytes printers k next ≡ put_back mask bytes printers n paper
unfolding put_back
put_on mask bytes printers n k paper next e f = rw (e, add-one k, f)

-- and its end
pub put_end : (mask : ℕ) (bytes : List ℕ) (printers : List Printer) (n : ℕ) (paper whole : List ℕ) → n ≡ 0 →
    put_back mask bytes printers n paper ≡ whole → paper ≡ whole
unfolding put_back
put_end mask bytes printers n paper whole e f = rw e at f

-- ---- paper: lower printers write nothing where a printer prints

module _ (s : Printing) where
  -- where printer m prints, lower printers write nothing
  apart : (n m : ℕ) (paper : List ℕ) → room_of paper ≡ room s → n < m →
      get_or (paper_ticked n (old s n) paper) (place_of (room s) m (old s m).count) 0 ≡ get_or paper (place_of (room s) m (old s m).count) 0
  unfolding paper_ticked
  apart n m paper e h = rw e (go (prints (room s) (old s n)) refl)
    where
      go : (on : Bool) → prints (room s) (old s n) ≡ on →
          get_or (cond on (set paper (place_of (room s) n (old s n).count) ((old s n).data0 % 256)) paper) (place_of (room s) m (old s m).count) 0
          ≡ get_or paper (place_of (room s) m (old s m).count) 0
      go false on = refl
      go true on =
          let below = below_higher (room s) n (old s n).count (prints_room (room s) (old s n) on) m h in
          get_or-set_other paper (place_of (room s) n (old s n).count) (place_of (room s) m (old s m).count) _ 0 (λ same. omega arith)

  still_there : (n m : ℕ) → n ≤ m → get_or (ticks n s).paper (place_of (room s) m (old s m).count) 0 ≡ get_or s.paper (place_of (room s) m (old s m).count) 0
  unfolding ticks
  still_there zero m h = refl
  still_there (suc n) m h =
      rw (paper_on s n) (apart n m (ticks n s).paper (room_ticks s n) (omega arith) ∙ still_there n m (omega arith))

-- a byte put back where a printer printed
ticked_on : (n : ℕ) (p : Printer) (paper : List ℕ) (room : ℕ) (on : Bool) → room_of paper ≡ room → prints room p ≡ on →
    paper_ticked n p paper ≡ cond on (set paper (place_of room n p.count) (p.data0 % 256)) paper
unfolding paper_ticked
ticked_on n p paper room on e f = rw (e, f)

undone : (n : ℕ) (p : Printer) (paper : List ℕ) (room byte : ℕ) → room_of paper ≡ room → get_or paper (place_of room n p.count) 0 ≡ byte →
    (on : Bool) → prints room p ≡ on → put_at on n p (cond on byte 0) (paper_ticked n p paper) ≡ paper
undone n p paper room byte e there false f = ticked_on n p paper room false e f
undone n p paper room byte e there true f =
    let same : room_of (paper_ticked n p paper) ≡ room = ap (λ (l : ℕ). l / 8) (length_ticked n p paper) ∙ e in
    rw (same, ticked_on n p paper room true e f, set-set, ← there) (set-get_or paper (place_of room n p.count) 0)

-- ---- the note

module _ (s : Printing) where
  abbrev mask : ℕ
  mask = printing_map (room s) s.line.printers 8

  abbrev bytes : List ℕ
  bytes = tabulate 8 (saved_byte s.line.printers s.paper)

  -- one byte put back takes one printer's tick back
  one_back : (n : ℕ) → n < 8 → put_at (bit n mask) n (old s n) (get_or bytes n 0) (ticks (suc n) s).paper ≡ (ticks n s).paper
  one_back n h =
      rw (
        map_tells (room s) s.line.printers 8 n h,
        get_d_tabulate 8 (saved_byte s.line.printers s.paper) n 0 h,
        paper_on s n,
      )
      (undone n (old s n) (ticks n s).paper (room s) _ (room_ticks s n) (still_there s n n (omega arith)) (prints (room s) (old s n)) refl)

  all_back : (n : ℕ) → n ≤ 8 → put_back mask bytes s.line.printers n (ticks n s).paper ≡ s.paper
  unfolding put_back ticks
  all_back zero h = refl
  all_back (suc n) h =
      ap (λ (paper : List ℕ). put_back mask bytes s.line.printers n paper) (one_back n (omega arith)) ∙ all_back n (omega arith)

-- ---- the law

-- The note taken before the tick undoes the step: its tick, and whatever a write to a printer did after it.
pub undo_after : (s next : Printing) → next.paper ≡ (ticked_of s).paper → undo_of (note_of s) next ≡ s
unfolding saved_paper_of
undo_after s next e =
    let back = ap (λ (paper : List ℕ). restored_paper (saved_paper_of s.line.printers s.paper) s.line.printers paper) e ∙ all_back s 8 (omega arith) in
    ap (λ (paper : List ℕ). record { line = s.line; paper = paper }) back

pub undo_tick : (s : Printing) → undo_of (note_of s) (ticked_of s) ≡ s
undo_tick s = undo_after s (ticked_of s) refl

-- A write to a printer is undone by the printer and the pending map as they were.
module _ (installed delay n word : ℕ) (line : Line) where
  abbrev p : Printer
  p = get_or line.printers n no_printer

  back : (next : Printer) → set (set line.printers n next) n p ≡ line.printers
  back next = set-set line.printers n next p ∙ set-get_or line.printers n no_printer

  pub undo_command : undo_write_of n p line.pending (command_of installed delay n word line) ≡ line
  unfolding command_of
  undo_command = go (takes_writes installed n line)
    where
      go : (takes : Bool) →
          undo_write_of n p line.pending
          (cond takes (record { printers = set line.printers n (commanded_of delay word p); pending = with_bit n (is_illegal word) line.pending }) line)
          ≡ line
      go true = rw (back (commanded_of delay word p))
      go false = rw (set-get_or line.printers n no_printer)

  pub undo_data : undo_write_of n p line.pending (data_of installed n word line) ≡ line
  unfolding data_of
  undo_data = go (takes_writes installed n line)
    where
      go : (takes : Bool) →
          undo_write_of n p line.pending (cond takes (record { printers = set line.printers n (with_data word p); pending = line.pending }) line) ≡ line
      go true = rw (back (with_data word p))
      go false = rw (set-get_or line.printers n no_printer)

-- ---- putting back, whatever the record says: paper keeps its length

length_put : (on : Bool) (n : ℕ) (p : Printer) (byte : ℕ) (paper : List ℕ) → length (put_at on n p byte paper) ≡ length paper
length_put true n p byte paper = length-set paper (place_of (room_of paper) n p.count) byte
length_put false n p byte paper = refl

pub length_back : (mask : ℕ) (bytes : List ℕ) (printers : List Printer) (n : ℕ) (paper : List ℕ) →
    length (put_back mask bytes printers n paper) ≡ length paper
unfolding put_back
length_back m bs printers zero paper = refl
length_back m bs printers (suc n) paper =
    let next = put_at (bit n m) n (get_or printers n no_printer) (get_or bs n 0) paper in
    length_back m bs printers n next ∙ length_put (bit n m) n (get_or printers n no_printer) (get_or bs n 0) paper
