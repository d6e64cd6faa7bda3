-- A record is in range where its parts are, so that its bytes say it: what the note of a step has to show.
use Prim.Native.Nat.{ℕ, ◌^◌, ◌<◌}
use mathlib.Core.Path.{◌≡◌, refl}
use mathlib.Core.Bool.{Bool, true, false, cond, ◌||◌}
use mathlib.Core.List.{List, [], ◌∷◌, ◌++◌}
use native.Mathlib.Omega.{arith}
use borrow.Author.Tests.{ltb-true}
use lib.Dec.{ltb}
use lib.ListN.{length}
use Rattle.word.specs.Lists.{flat, every, Below}
use Rattle.word.specs.Map.{bit}
use Rattle.word.proofs.Cond.{both, and_true}
use Rattle.word.proofs.Lists.{below_nil, below_cons, below_append, below_numerals}
use Rattle.memory.specs.Memory.{load_at}
use Rattle.memory.proofs.Cells.{cells_small}
use Rattle.memory.proofs.OneCell.{load_small}
use Rattle.printer.specs.declared.Printer.{Printer}
use Rattle.printer.specs.declared.saved.SavedPaper.{SavedPaper}
use Rattle.printer.specs.Saved.{byte_fits, paper_fits}
use Rattle.printer.proofs.Each.{all_hold, each_holds}
use Rattle.state.specs.Layout.{kept_words, printer_words}
use Rattle.record.specs.declared.Record.{Record}
use Rattle.record.specs.Layout.{small_words, saved_words, unused, layout_of, record_bytes}
use Rattle.record.specs.Keeps.{byte_keeps, paper_keeps, saved_ranged, Ranged}

-- What fits (printer/specs/Saved.antt) keeps the layout: `note-fits` there says so of every step's note.
pub fits_keeps : (p : SavedPaper) (printers : List Printer) (room : ℕ) → paper_fits p printers room ≡ true → paper_keeps p ≡ true
unfolding paper_fits paper_keeps
fits_keeps p printers room e =
    let h = both (ltb p.mask 256) (every 8 (byte_fits p printers room)) e in
    and_true h.0 (all_hold 8 (byte_keeps p) (λ k l. one (bit k p.mask) _ _ (each_holds 8 (byte_fits p printers room) h.1 k l)))
  where
    one : (on place zero : Bool) → cond on place zero ≡ true → (on || zero) ≡ true
    one true place zero e = refl
    one false place zero e = e

-- the bytes of a record are bytes
pub record_small : (r : Record) → Below 256 (record_bytes r)
unfolding record_bytes
record_small r = cells_small 4 (layout_of r)

-- the parts of a record: as the types of `Record` have them, and the ranges
pub record Parts (r : Record) : Type 0 where
  pub printers : length r.printers ≡ 8
  pub eight : length r.paper.bytes ≡ 8
  pub bytes : Below 256 r.paper.bytes
  pub core : Below (2 ^ 32) (kept_words r.core)
  pub timer : r.timer < 2 ^ 32
  pub pending : r.pending < 2 ^ 32
  pub saved_words : Below (2 ^ 32) (saved_words r.saved)
  pub printer_words : Below (2 ^ 32) (flat printer_words r.printers)
  pub saved : saved_ranged r.saved ≡ true
  pub paper : paper_keeps r.paper ≡ true

mask_small : (p : SavedPaper) → paper_keeps p ≡ true → p.mask < 256
unfolding paper_keeps
mask_small p e = ltb-true p.mask 256 (both _ _ e).0

module _ (r : Record) (h : Parts r) where
  small_words_lem : Below (2 ^ 32) (small_words r.timer r.pending r.paper.mask r.paper.bytes)
  small_words_lem =
      let mask : r.paper.mask < 2 ^ 32 = omega (arith, mask_small r.paper h.paper) in
      let eight = h.eight in
      let bytes = r.paper.bytes in
      let last = load_at 4 bytes 4 ∷ [] in
      let three = r.paper.mask ∷ load_at 4 bytes 0 ∷ last in
      below_cons (r.pending ∷ three) h.timer
      (below_cons three h.pending
      (below_cons (load_at 4 bytes 0 ∷ last) mask
      (below_cons last (load_small 4 bytes 0 (omega arith) h.bytes) (below_cons [] (load_small 4 bytes 4 (omega arith) h.bytes) (below_nil _)))))

  zeros : Below (2 ^ 32) unused
  zeros = below_numerals unused refl

  layout_small : Below (2 ^ 32) (layout_of r)
  unfolding layout_of
  layout_small =
      let small = small_words r.timer r.pending r.paper.mask r.paper.bytes in
      let saved = saved_words r.saved in
      let printers = flat printer_words r.printers in
      below_append (kept_words r.core) (small ++ (printers ++ (saved ++ unused))) h.core
      (below_append small (printers ++ (saved ++ unused)) small_words_lem
      (below_append printers (saved ++ unused) h.printer_words (below_append saved unused h.saved_words zeros)))

  pub ranged : Ranged r
  ranged =
      record { printers = h.printers; eight = h.eight; bytes = h.bytes; small = layout_small; saved = h.saved; paper = h.paper }
