-- Decoding undoes encoding, and encoding undoes decoding where the bytes keep the layout: so those bytes are exactly the ones that encoding gives.
use Prim.Native.Nat.{ℕ, ◌+◌, ◌*◌, ◌^◌, ◌<◌}
use mathlib.Core.Path.{◌≡◌, refl, sym, ap, subst, ◌∙◌}
use mathlib.Core.Bool.{Bool, true, false, false≢true}
use mathlib.Core.List.{List, [], ◌∷◌, ◌++◌}
use native.Mathlib.Omega.{arith}
use borrow.Author.Tests.{eqb-true}
use lib.Dec.{eqb}
use lib.ListN.{length, get_or}
use lib.Seq.{take_all}
use Rattle.word.specs.Lists.{tabulate, flat, Below}
use Rattle.word.specs.Little.{to_bytes}
use Rattle.word.proofs.Cond.{both}
use Rattle.word.proofs.Lists.{get_d_tabulate, tabulate_get_d, tabulate_ext}
use Rattle.memory.specs.Memory.{load_at}
use Rattle.memory.proofs.Cells.{read_written, write_read, cells_small}
use Rattle.memory.proofs.OneCell.{load_small}
use Rattle.printer.specs.declared.Printer.{Printer}
use Rattle.printer.specs.Tick.{no_printer}
use Rattle.printer.proofs.Each.{each_holds}
use Rattle.state.specs.Layout.{kept_words, core_from, printer_words}
use Rattle.record.specs.declared.Record.{Record}
use Rattle.record.specs.declared.Saved.{Saved}
use Rattle.record.specs.declared.Saved.TheVariants.{Nothing, Register, TlbRow, RamWord}
use Rattle.record.specs.Layout.{unused, unused_words, saved_words, layout_of, record_bytes, paper_at, saved_at, printer_at, record_at, slot_word, record_of}
use Rattle.record.specs.Keeps.{saved_keeps, saved_ranged, paper_keeps, rest_keeps, words_keep, keeps_layout, Ranged}
use Rattle.record.proofs.Stored.{length_layout, length_words}

-- ---- what was encoded is decoded to the same record

-- a record with other parts
abbrev with_parts : Record → List ℕ → Saved → List Printer → Record
with_parts r bytes s ps =
    record {
      core = r.core;
      timer = r.timer;
      pending = r.pending;
      paper = record { mask = r.paper.mask; bytes = bytes };
      saved = s;
      printers = ps;
    }

-- the eight bytes, by way of their two words
abbrev by_words : List ℕ → List ℕ
by_words bytes = flat (to_bytes 4) (load_at 4 bytes 0 ∷ load_at 4 bytes 4 ∷ [])

own_bytes : (bytes : List ℕ) → length bytes ≡ 8 → Below 256 bytes → by_words bytes ≡ bytes
own_bytes bytes eight small = write_read 4 2 bytes (omega arith) small ∙ take_all 8 bytes (omega arith)

own_printers : (ps : List Printer) → length ps ≡ 8 → tabulate 8 (λ (i : ℕ). get_or ps i no_printer) ≡ ps
own_printers ps eight = rw eight at (tabulate_get_d ps no_printer)

-- what is read of a record whose printers are written out one by one
read_spelt : (r : Record) (s : Saved) (p : ℕ → Printer) →
    record_at (λ (k : ℕ). get_or (layout_of (with_parts r r.paper.bytes s (tabulate 8 p))) k 0) ≡ with_parts r (by_words r.paper.bytes) s (tabulate 8 p)
unfolding layout_of record_at saved_at
read_spelt r Nothing p = refl
read_spelt r (Register n old) p = refl
read_spelt r (TlbRow i row) p = refl
read_spelt r (RamWord place old distance) p = refl

read_whole : (r : Record) → Ranged r → record_at (λ (k : ℕ). get_or (layout_of r) k 0) ≡ r
read_whole r t =
    subst (λ (ps : List Printer). record_at (λ (k : ℕ). get_or (layout_of (with_parts r r.paper.bytes r.saved ps)) k 0) ≡ with_parts r (by_words r.paper.bytes) r.saved ps)
    (own_printers r.printers t.printers) (read_spelt r r.saved (λ (i : ℕ). get_or r.printers i no_printer))
    ∙ ap (λ (bytes : List ℕ). with_parts r bytes r.saved r.printers) (own_bytes r.paper.bytes t.eight t.bytes)

-- only the first 128 words are read
read_from_list : (f : ℕ → ℕ) → record_at f ≡ record_at (λ (k : ℕ). get_or (tabulate 128 f) k 0)
unfolding record_at
read_from_list f = refl

-- the words of an encoded record are the layout's
words_there : (r : Record) → Ranged r → tabulate 128 (slot_word (record_bytes r)) ≡ layout_of r
unfolding record_bytes
words_there r t =
    let ws = layout_of r in
    let n = length_layout r t.printers in
    let f = slot_word (flat (to_bytes 4) ws) in
    tabulate_ext 128 f (λ (k : ℕ). get_or ws k 0) (λ k h. read_written 4 ws k (omega (arith, n)) (t.small k (omega (arith, n))))
    ∙ (rw n at (tabulate_get_d ws 0))

pub decode_encode : (r : Record) → Ranged r → record_of (record_bytes r) ≡ r
unfolding record_of
decode_encode r t =
    read_from_list (slot_word (record_bytes r)) ∙ ap (λ (l : List ℕ). record_at (λ (k : ℕ). get_or l k 0)) (words_there r t) ∙ read_whole r t

-- ---- and its bytes keep the layout

spelt_keeps : (r : Record) (s : Saved) (p : ℕ → Printer) → saved_ranged s ≡ true →
    paper_keeps (record { mask = r.paper.mask; bytes = by_words r.paper.bytes }) ≡ true →
    words_keep (λ (k : ℕ). get_or (layout_of (with_parts r r.paper.bytes s (tabulate 8 p))) k 0) ≡ true
unfolding layout_of saved_keeps
spelt_keeps r Nothing p e w = rw w
spelt_keeps r (Register n old) p e w = rw (e, w)
spelt_keeps r (TlbRow i row) p e w = rw (e, w)
spelt_keeps r (RamWord place old distance) p e w = rw (e, w)

keep_from_list : (f : ℕ → ℕ) → words_keep f ≡ words_keep (λ (k : ℕ). get_or (tabulate 128 f) k 0)
keep_from_list f = refl

pub encode_keeps : (r : Record) → Ranged r → keeps_layout (record_bytes r) ≡ true
unfolding keeps_layout
encode_keeps r t =
    let kept = subst (λ (bytes : List ℕ). paper_keeps (record { mask = r.paper.mask; bytes = bytes }) ≡ true) (sym (own_bytes r.paper.bytes t.eight t.bytes)) t.paper in
    keep_from_list (slot_word (record_bytes r)) ∙ ap (λ (l : List ℕ). words_keep (λ (k : ℕ). get_or l k 0)) (words_there r t)
    ∙ subst (λ (ps : List Printer). words_keep (λ (k : ℕ). get_or (layout_of (with_parts r r.paper.bytes r.saved ps)) k 0) ≡ true)
    (own_printers r.printers t.printers) (spelt_keeps r r.saved (λ (i : ℕ). get_or r.printers i no_printer) t.saved kept)

-- ---- what keeps the layout is encoded again to the same bytes

-- the four words of a kind, by the kind
pub record SavedIs (kind which first second : ℕ) : Type 0 where
  pub words : saved_words (saved_at kind which first second) ≡ kind ∷ which ∷ first ∷ second ∷ []
  pub ranged : saved_ranged (saved_at kind which first second) ≡ true

module _ (which first second : ℕ) where
  is_nothing : saved_keeps 0 which first second ≡ true → SavedIs 0 which first second
  unfolding saved_keeps saved_at
  is_nothing e =
      let h = both _ _ e in
      let g = both _ _ h.0 in
      record { words = rw (eqb-true which 0 g.0, eqb-true first 0 g.1, eqb-true second 0 h.1); ranged = refl }

  is_register : saved_keeps 1 which first second ≡ true → SavedIs 1 which first second
  unfolding saved_keeps saved_at
  is_register e =
      let h = both _ _ e in
      record { words = rw (eqb-true second 0 h.1); ranged = h.0 }

  is_row : saved_keeps 2 which first second ≡ true → SavedIs 2 which first second
  unfolding saved_keeps saved_at
  is_row e = record { words = refl; ranged = e }

  is_word : saved_keeps 3 which first second ≡ true → SavedIs 3 which first second
  unfolding saved_keeps saved_at
  is_word e = record { words = refl; ranged = e }

  -- what holds at a kind, by the test that found it
  at_kind : (k kind : ℕ) → eqb kind k ≡ true → (saved_keeps k which first second ≡ true → SavedIs k which first second) →
      saved_keeps kind which first second ≡ true → SavedIs kind which first second
  at_kind k kind e is =
      subst (λ (n : ℕ). saved_keeps n which first second ≡ true → SavedIs n which first second) (sym (eqb-true kind k e)) is

  by_kind : (kind : ℕ) (t₀ t₁ t₂ t₃ : Bool) → eqb kind 0 ≡ t₀ → eqb kind 1 ≡ t₁ → eqb kind 2 ≡ t₂ → eqb kind 3 ≡ t₃ →
      saved_keeps kind which first second ≡ true → SavedIs kind which first second
  unfolding saved_keeps
  by_kind kind true t₁ t₂ t₃ e₀ e₁ e₂ e₃ = at_kind 0 kind e₀ is_nothing
  by_kind kind false true t₂ t₃ e₀ e₁ e₂ e₃ = at_kind 1 kind e₁ is_register
  by_kind kind false false true t₃ e₀ e₁ e₂ e₃ = at_kind 2 kind e₂ is_row
  by_kind kind false false false true e₀ e₁ e₂ e₃ = at_kind 3 kind e₃ is_word
  by_kind kind false false false false e₀ e₁ e₂ e₃ = λ h. absurd (false≢true (rw (e₀, e₁, e₂, e₃) at h))

  saved_is : (kind : ℕ) → saved_keeps kind which first second ≡ true → SavedIs kind which first second
  saved_is kind = by_kind kind (eqb kind 0) (eqb kind 1) (eqb kind 2) (eqb kind 3) refl refl refl refl

-- two words, by way of their eight bytes
two_words : (a b : ℕ) → a < 2 ^ 32 → b < 2 ^ 32 → let bytes = flat (to_bytes 4) (a ∷ b ∷ []) in (load_at 4 bytes 0 ≡ a) × (load_at 4 bytes 4 ≡ b)
two_words a b ha hb = (read_written 4 (a ∷ b ∷ []) 0 (omega arith) ha, read_written 4 (a ∷ b ∷ []) 1 (omega arith) hb)

-- the unused words, which are 0
rest_zero : (f : ℕ → ℕ) → rest_keeps f ≡ true → unused ≡ tabulate unused_words (λ (k : ℕ). f (63 + k))
rest_zero f e =
    tabulate_ext unused_words (λ (k : ℕ). 0) (λ (k : ℕ). f (63 + k))
    (λ k h. sym (eqb-true (f (63 + k)) 0 (each_holds unused_words (λ (k : ℕ). eqb (f (63 + k)) 0) e k h)))

-- the layout's words are the words in their order
in_order : (f : ℕ → ℕ) → f 17 < 2 ^ 32 → f 18 < 2 ^ 32 → words_keep f ≡ true → layout_of (record_at f) ≡ tabulate 128 f
unfolding layout_of record_at
in_order f h₁ h₂ e =
    let kept = both _ _ e in
    let saved = saved_is (f 60) (f 61) (f 62) (f 59) (both _ _ kept.0).0 in
    let bytes = two_words (f 17) (f 18) h₁ h₂ in
    let rest = rest_zero f kept.1 in
    λ i.
    kept_words (core_from 0 12 f)
    ++ ((f 14 ∷ f 15 ∷ f 16 ∷ bytes.0 i ∷ bytes.1 i ∷ [])
    ++ (flat printer_words (tabulate 8 (printer_at f))
    ++ (saved.words i
    ++ rest i)))

-- the parts of a record that is read
printers_eight : (f : ℕ → ℕ) → length (record_at f).printers ≡ 8
unfolding record_at
printers_eight f = refl

bytes_eight : (f : ℕ → ℕ) → length (record_at f).paper.bytes ≡ 8
unfolding record_at
bytes_eight f = length_words (f 17 ∷ f 18 ∷ [])

saved_ranged_lem : (f : ℕ → ℕ) → saved_keeps (f 59) (f 60) (f 61) (f 62) ≡ true → saved_ranged (record_at f).saved ≡ true
unfolding record_at
saved_ranged_lem f e = (saved_is (f 60) (f 61) (f 62) (f 59) e).ranged

paper_kept : (f : ℕ → ℕ) → paper_keeps (paper_at f) ≡ true → paper_keeps (record_at f).paper ≡ true
unfolding record_at
paper_kept f e = e

bytes_small : (f : ℕ → ℕ) → Below 256 (record_at f).paper.bytes
unfolding record_at
bytes_small f = cells_small 4 (f 17 ∷ f 18 ∷ [])

module _ (b : List ℕ) (long : length b ≡ 512) (bytes : Below 256 b) where
  slot_small : (k : ℕ) → k < 128 → slot_word b k < 2 ^ 32
  slot_small k h = load_small 4 b (4 * k) (omega arith) bytes

  module _ (keeps : keeps_layout b ≡ true) where
    ordered : layout_of (record_at (slot_word b)) ≡ tabulate 128 (slot_word b)
    unfolding keeps_layout
    ordered = in_order (slot_word b) (slot_small 17 (omega arith)) (slot_small 18 (omega arith)) keeps

    pub encode_decode : record_bytes (record_of b) ≡ b
    unfolding record_bytes record_of
    encode_decode = ap (flat (to_bytes 4)) ordered ∙ write_read 4 128 b (omega arith) bytes ∙ take_all 512 b (omega arith)

    -- and is such a record
    pub decoded_ranged : Ranged (record_of b)
    unfolding record_of keeps_layout
    decoded_ranged =
        let f = slot_word b in
        let tests = both _ _ (both _ _ keeps).0 in
        let words : Below (2 ^ 32) (tabulate 128 f) = λ i h. rw (get_d_tabulate 128 f i 0 h) (slot_small i h) in
        record {
          printers = printers_eight f;
          eight = bytes_eight f;
          bytes = bytes_small f;
          small = subst (Below (2 ^ 32)) (sym ordered) words;
          saved = saved_ranged_lem f tests.0;
          paper = paper_kept f tests.1;
        }

-- what is in range whatever the bytes are
pub kept_saved : (b : List ℕ) → keeps_layout b ≡ true → saved_ranged (record_of b).saved ≡ true
unfolding record_of keeps_layout
kept_saved b keeps = saved_ranged_lem (slot_word b) (both _ _ (both _ _ keeps).0).0
