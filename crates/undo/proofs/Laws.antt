-- Undoing keeps the lengths, so that a check needs the view alone; and what a well formed record says of its places.
use Rattle.std.proofs.Common.{◌≡◌, ℕ, ◌+◌, ◌*◌, ◌/◌, ◌<◌, ◌≤◌, true, leb, List, length, sym, refl, mul-le-mul, arith, leb-true}
use lib.Seq.{length-sets}
use Rattle.word.specs.Little.{to_bytes}
use Rattle.word.specs.Number.{between}
use Rattle.word.proofs.Cond.{both}
use Rattle.memory.specs.Memory.{stored_at}
use Rattle.memory.proofs.Cells.{stored_sets}
use Rattle.printer.proofs.Undo.{length_back}
use Rattle.rules.specs.Rules.{state_keeps}
use Rattle.record.specs.declared.Record.{Record}
use Rattle.record.specs.declared.Saved.{Saved}
use Rattle.record.specs.declared.Saved.TheVariants.{Nothing, Register, TlbRow, RamWord}
use Rattle.record.specs.Layout.{record_of}
use Rattle.record.specs.Keeps.{keeps_layout}
use Rattle.record.proofs.RoundTrip.{kept_saved}
use Rattle.step.specs.World.{World}
use Rattle.undo.specs.Undo.{ram_back, undo_of, View, view_of, undo_view}
use Rattle.undo.specs.Fit.{ram_place_fits, paper_places_fit, given_back, fit_of, Undoable}

-- ---- lengths

length_ram : (s : Saved) (ram : List ℕ) → length (ram_back s ram) ≡ length ram
length_ram Nothing ram = refl
length_ram (Register n old) ram = refl
length_ram (TlbRow i row) ram = refl
length_ram (RamWord place old distance) ram = length-sets ram place (to_bytes 4 old)

-- THE LAW: the check needs the view alone, whatever the record
pub cored : (r : Record) (w : World) → view_of (undo_of r w) ≡ undo_view r (view_of w)
unfolding undo_of
cored r w =
    rw (length_ram r.saved w.ram, length_back r.paper.mask r.paper.bytes r.printers 8 w.paper)

-- ---- places

-- the store that puts a word back, where RAM has its place
pub word_back_lem : (place old distance : ℕ) (ram : List ℕ) → place + 4 ≤ length ram → ram_back (RamWord place old distance) ram ≡ stored_at 4 ram place old
word_back_lem place old distance ram h = sym (stored_sets 4 ram place old h)

pub register_below : (n : ℕ) → between 1 31 n ≡ true → n < 32
register_below n e = omega (arith, leb-true n 31 (both (leb 1 n) (leb n 31) e).1)

-- an eighth starts far from where a number wraps
pub eighth_small : (n paper : ℕ) → n < 8 → paper ≤ 65536 → n * (paper / 8) ≤ 65536
eighth_small n paper h few =
    let most : n ≤ 8 = omega arith in
    let room : paper / 8 ≤ 8192 = omega arith in
    mul-le-mul most room

-- ---- what a well formed record says

pub record Fits (slot : List ℕ) (v : View) : Type 0 where
  pub layout : keeps_layout slot ≡ true
  pub word : ram_place_fits (record_of slot).saved v.ram ≡ true
  pub bytes : paper_places_fit (record_of slot).paper.mask (record_of slot).printers v.paper ≡ true
  pub rules : state_keeps (given_back (record_of slot) v) v.paper ≡ true

pub fits : (slot : List ℕ) (v : View) → fit_of slot v ≡ true → Fits slot v
unfolding fit_of
fits slot v e =
    let h₁ = both _ _ e in
    let h₂ = both _ _ h₁.0 in
    let h₃ = both _ _ h₂.0 in
    record { layout = h₃.0; word = h₃.1; bytes = h₂.1; rules = h₁.1 }

-- so it can be undone
pub fit_undoable : (slot : List ℕ) (v : View) → fit_of slot v ≡ true → Undoable (record_of slot) v.ram
fit_undoable slot v e =
    let f = fits slot v e in
    record { ranged = kept_saved slot f.layout; word = f.word }
