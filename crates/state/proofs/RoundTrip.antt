-- Decoding undoes encoding, and encoding undoes decoding: so `machine_at` reads exactly the layout that `words_of` writes.
use Prim.Native.Nat.{ℕ, suc, ◌+◌, ◌*◌, ◌^◌}
use mathlib.Core.Path.{◌≡◌, refl, sym, ap, subst, ◌∙◌}
use mathlib.Core.List.{List, [], ◌∷◌, ◌++◌}
use native.Mathlib.Omega.{arith}
use lib.ListN.{length, get_or, take, drop, replicate, length-drop, take-append-drop}
use lib.Seq.{drop-drop, get_or-drop}
use Rattle.word.specs.Lists.{tabulate, flat, Below}
use Rattle.word.specs.Big.{word_bytes}
use Rattle.word.proofs.Lists.{get_d_tabulate, tabulate_get_d, tabulate_ext, flat_append, below_append, below_numerals}
use Rattle.word.proofs.BigWords.{read_written, write_read, word_small}
use Rattle.state.specs.declared.machine.Machine.{Machine}
use Rattle.tlb.specs.declared.Row.{Row}
use Rattle.tlb.specs.Entry.{no_row}
use Rattle.printer.specs.declared.Printer.{Printer}
use Rattle.printer.specs.Tick.{no_printer}
use Rattle.state.specs.Layout.{no_disks, words_of, header, bytes_of, body_word, machine_at, machine_of, Sized, HoldsZero, WellTyped}
use Rattle.state.proofs.Stored.{length_words}

-- the layout's words are the words in their order, and 0 for the disks
in_order : (f : ℕ → ℕ) → words_of (machine_at f) ≡ tabulate 126 f ++ no_disks
unfolding words_of machine_at
in_order f = refl

-- only the image's words are read
read_from_list : (f : ℕ → ℕ) → machine_at f ≡ machine_at (λ (k : ℕ). get_or (tabulate 184 f) k 0)
unfolding machine_at
read_from_list f = refl

-- a machine with other arrays
abbrev with_arrays : Machine → List ℕ → List Row → List Printer → Machine
with_arrays m regs tlb printers =
    record {
      cpu = record { regs = regs; core = m.cpu.core; tlb = tlb };
      board = record {
        clock = m.board.clock;
        settings = m.board.settings;
        line = record { printers = printers; pending = m.board.line.pending };
      };
      journal = m.journal;
    }

with_own_arrays : (m : Machine) (regs : List ℕ) (tlb : List Row) (printers : List Printer) →
    regs ≡ m.cpu.regs → tlb ≡ m.cpu.tlb → printers ≡ m.board.line.printers → with_arrays m regs tlb printers ≡ m
with_own_arrays m regs tlb printers e₁ e₂ e₃ = rw (e₁, e₂, e₃)

-- a machine whose arrays are written out, element by element
abbrev spelt : Machine → (ℕ → ℕ) → (ℕ → Row) → (ℕ → Printer) → Machine
spelt m reg row printer = with_arrays m (0 ∷ tabulate 31 reg) (tabulate 16 row) (tabulate 8 printer)

read_spelt : (m : Machine) (reg : ℕ → ℕ) (row : ℕ → Row) (printer : ℕ → Printer) →
    machine_at (λ (k : ℕ). get_or (words_of (spelt m reg row printer)) k 0) ≡ spelt m reg row printer
unfolding words_of machine_at
read_spelt m reg row printer = refl

-- register 0 is 0, and the others are what they are
registers : (l : List ℕ) → length l ≡ 32 → HoldsZero l → 0 ∷ tabulate 31 (λ (i : ℕ). get_or l (suc i) 0) ≡ l
registers [] e z = absurd (omega arith)
registers (x ∷ l) e z =
    let long : length l ≡ 31 = omega arith in
    rw (z, rw long at (tabulate_get_d l 0))

-- any machine of the right sizes is such a one
spells : (m : Machine) → Sized m → HoldsZero m.cpu.regs → (row : Row) (printer : Printer) →
    spelt m (λ (i : ℕ). get_or m.cpu.regs (suc i) 0) (λ (i : ℕ). get_or m.cpu.tlb i row) (λ (i : ℕ). get_or m.board.line.printers i printer) ≡ m
spells m s z row printer =
    with_own_arrays m _ _ _ (registers m.cpu.regs s.regs z) (rw s.tlb at (tabulate_get_d m.cpu.tlb row))
    (rw s.printers at (tabulate_get_d m.board.line.printers printer))

read_whole : (m : Machine) → Sized m → HoldsZero m.cpu.regs → machine_at (λ (k : ℕ). get_or (words_of m) k 0) ≡ m
read_whole m s z =
    subst (λ (n : Machine). machine_at (λ (k : ℕ). get_or (words_of n) k 0) ≡ n) (spells m s z no_row no_printer)
    (read_spelt m (λ (i : ℕ). get_or m.cpu.regs (suc i) 0) (λ (i : ℕ). get_or m.cpu.tlb i no_row) (λ (i : ℕ). get_or m.board.line.printers i no_printer))

part_below : (n : ℕ) (b : List ℕ) → Below 256 b → Below 256 (drop n b)
part_below n b small i h = rw (get_or-drop n b i 0) (small (n + i) (omega (arith, length-drop n b)))

-- What was encoded is decoded to the same machine.
pub decode_encode : (m : Machine) → WellTyped m → machine_of (bytes_of m) ≡ m
unfolding bytes_of machine_of
decode_encode m t =
    let ws = words_of m in
    let f = body_word (flat word_bytes ws) in
    let words : tabulate 184 f ≡ ws =
    tabulate_ext 184 f (λ (k : ℕ). get_or ws k 0) (λ k h. read_written ws k (omega (arith, length_words m t.sized)) (t.small k (omega (arith, length_words m t.sized))))
    ∙ (rw (length_words m t.sized) at (tabulate_get_d ws 0)) in
    read_from_list f ∙ ap (λ (l : List ℕ). machine_at (λ (k : ℕ). get_or l k 0)) words ∙ read_whole m t.sized t.zero

-- What was decoded is encoded to the same bytes, where the words of the disks are 0.
pub encode_decode : (b : List ℕ) → length b ≡ 741 → take 5 b ≡ header → drop 509 b ≡ replicate 232 0 → Below 256 b → bytes_of (machine_of b) ≡ b
unfolding bytes_of machine_of
encode_decode b l h none small =
    let body = drop 5 b in
    let long : length body ≡ 736 = simp length-drop (omega arith) in
    let read : flat word_bytes (tabulate 126 (body_word body)) ≡ take 504 body = write_read 126 body (omega arith) (part_below 5 b small) in
    let zeros : flat word_bytes no_disks ≡ drop 504 body = sym none ∙ sym (drop-drop 504 5 b) in
    let written : flat word_bytes (tabulate 126 (body_word body) ++ no_disks) ≡ body =
    flat_append word_bytes (tabulate 126 (body_word body)) no_disks
    ∙ (λ i. read i ++ zeros i)
    ∙ take-append-drop 504 body in
    ap (λ (ws : List ℕ). header ++ flat word_bytes ws) (in_order (body_word body))
    ∙ ap (λ (l : List ℕ). header ++ l) written ∙ ap (λ (l : List ℕ). l ++ body) (sym h) ∙ take-append-drop 5 b

-- An image leaves register 0 out, and what is decoded has it at 0.
pub decoded_zero : (b : List ℕ) → HoldsZero (machine_of b).cpu.regs
unfolding machine_of machine_at
decoded_zero b = refl

-- What is decoded is well typed, so that it can be encoded again.
pub decoded_typed : (b : List ℕ) → length b ≡ 741 → Below 256 b → WellTyped (machine_of b)
unfolding machine_of machine_at
decoded_typed b l small =
    let body = drop 5 b in
    let f = body_word body in
    let bytes : Below 256 body = part_below 5 b small in
    let words : Below (2 ^ 32) (tabulate 126 f) =
    λ i h. rw (get_d_tabulate 126 f i 0 h) (word_small body (4 * i) bytes) in
    let all : Below (2 ^ 32) (tabulate 126 f ++ no_disks) = below_append (tabulate 126 f) no_disks words (below_numerals no_disks refl) in
    record { sized = record { regs = refl; tlb = refl; printers = refl }; zero = decoded_zero b; small = subst (Below (2 ^ 32)) (sym (in_order f)) all }
