-- One printer put back where it stands: of the eight, it alone is another.
use Rattle.std.specs.Prelude.{◌≡◌, ℕ, zero, suc, ◌+◌, ◌*◌, ◌<◌, ◌≤◌, Bool, true, false, eqb, ltb, ◌⊎◌, List, [], ◌∷◌, length, get_or, set}
use mathlib.Core.Path.{refl, sym, ap, ◌∙◌}
use mathlib.Core.Logic.{inl, inr}
use native.Mathlib.Omega.{arith}
use native.Mathlib.Nat.{add-zero}
use borrow.Author.Tests.{eqb-true, eqb-false, ltb-true, ltb-false}
use lib.ListN.{length-set}
use lib.Seq.{sets, length-sets, get_or-set_same, get_or-set_other}
use Rattle.word.specs.Lists.{tabulate}
use Rattle.word.proofs.Lists.{get_d_tabulate, tabulate_ext, tabulate_get_d}
use Rattle.printer.specs.Tick.{no_printer}
use Rattle.printer.specs.declared.Printer.{Printer}
use Rattle.state.specs.Layout.{printer_words}
use Rattle.held.specs.Board.{printer_in, printers_in}
use Rattle.held.proofs.Board.{length_printers}

-- ---- a run of stores, read back

-- before or behind it
pub outside : (vs l : List ℕ) (at k : ℕ) → k < at ⊎ at + length vs ≤ k → get_or (sets l at vs) k 0 ≡ get_or l k 0
outside [] l at k away = refl
outside (v ∷ vs) l at k (inl before) =
    outside vs (set l at v) (suc at) k (inl (omega (arith, before))) ∙ get_or-set_other l at k v 0 (λ e. absurd (omega (arith, before, e)))
outside (v ∷ vs) l at k (inr behind) =
    outside vs (set l at v) (suc at) k (inr (omega (arith, behind))) ∙ get_or-set_other l at k v 0 (λ e. absurd (omega (arith, behind, e)))

-- and in it
pub inside : (vs l : List ℕ) (at j : ℕ) → j < length vs → at + length vs ≤ length l → get_or (sets l at vs) (at + j) 0 ≡ get_or vs j 0
inside [] l at j few room = elim few [ ]
inside (v ∷ vs) l at zero few room =
    ap (λ (k : ℕ). get_or (sets (set l at v) (suc at) vs) k 0) (add-zero at)
    ∙ outside vs (set l at v) (suc at) at (inl (omega arith))
    ∙ get_or-set_same l at v 0 (omega (arith, room))
inside (v ∷ vs) l at (suc j) few room =
    let next : at + suc j ≡ suc at + j = omega arith in
    ap (λ (k : ℕ). get_or (sets (set l at v) (suc at) vs) k 0) next
    ∙ inside vs (set l at v) (suc at) j (omega (arith, few)) (omega (arith, room, length-set l at v))

-- ---- the eight printers

-- the words of two of them lie apart
beside : (n i j : ℕ) → j < 5 → (i ≡ n → ⊥) → 5 * i + j < 5 * n ⊎ 5 * n + 5 ≤ 5 * i + j
beside n i j l apart = go (ltb i n) (ltb n i) refl refl
  where
    go : (a b : Bool) → ltb i n ≡ a → ltb n i ≡ b → 5 * i + j < 5 * n ⊎ 5 * n + 5 ≤ 5 * i + j
    go true b e f = inl (let m = ltb-true i n e in omega (arith, m, l))
    go false true e f = inr (let m = ltb-true n i f in omega (arith, m))
    go false false e f = absurd (apart (let m = ltb-false i n e in let k = ltb-false n i f in omega (arith, m, k)))

module _ (words : List ℕ) (n : ℕ) (p : Printer) (forty : length words ≡ 40) (few : n < 8) where
  abbrev after : List ℕ
  after = sets words (5 * n) (printer_words p)

  mine_at : (j : ℕ) → j < 5 → get_or after (5 * n + j) 0 ≡ get_or (printer_words p) j 0
  mine_at j l = inside (printer_words p) words (5 * n) j l (omega (arith, forty, few))

  mine : printer_in after n ≡ p
  mine =
      let first : get_or after (5 * n) 0 ≡ p.status = ap (λ (k : ℕ). get_or after k 0) (sym (add-zero (5 * n))) ∙ mine_at 0 (omega arith) in
      rw (first, mine_at 1 (omega arith), mine_at 2 (omega arith), mine_at 3 (omega arith), mine_at 4 (omega arith))

  others : (i : ℕ) → (i ≡ n → ⊥) → printer_in after i ≡ printer_in words i
  others i apart =
      let away : (j : ℕ) → j < 5 → get_or after (5 * i + j) 0 ≡ get_or words (5 * i + j) 0 =
      λ j l. outside (printer_words p) words (5 * n) (5 * i + j) (beside n i j l apart) in
      let first : get_or after (5 * i) 0 ≡ get_or words (5 * i) 0 =
      ap (λ (k : ℕ). get_or after k 0) (sym (add-zero (5 * i))) ∙ away 0 (omega arith) ∙ ap (λ (k : ℕ). get_or words k 0) (add-zero (5 * i)) in
      rw (first, away 1 (omega arith), away 2 (omega arith), away 3 (omega arith), away 4 (omega arith))

  -- printer i of the eight with one put back
  one_of : (i : ℕ) → i < 8 → printer_in after i ≡ get_or (set (printers_in words) n p) i no_printer
  unfolding printers_in
  one_of i l = go (eqb i n) refl
    where
      go : (b : Bool) → eqb i n ≡ b → printer_in after i ≡ get_or (set (printers_in words) n p) i no_printer
      go true e =
          let same = eqb-true i n e in
          ap (printer_in after) same ∙ mine
          ∙ sym (ap (λ (k : ℕ). get_or (set (printers_in words) n p) k no_printer) same ∙ get_or-set_same (printers_in words) n p no_printer (omega (arith, few, length_printers words)))
      go false e =
          let apart = eqb-false i n e in
          others i apart ∙ sym (get_or-set_other (printers_in words) n i p no_printer apart ∙ get_d_tabulate 8 (printer_in words) i no_printer l)

  pub stored_printer : printers_in after ≡ set (printers_in words) n p
  unfolding printers_in
  stored_printer =
      let eight : length (set (printers_in words) n p) ≡ 8 = length-set (printers_in words) n p ∙ length_printers words in
      tabulate_ext 8 (printer_in after) (λ (i : ℕ). get_or (set (printers_in words) n p) i no_printer) one_of
      ∙ ap (λ (k : ℕ). tabulate k (λ (i : ℕ). get_or (set (printers_in words) n p) i no_printer)) (sym eight)
      ∙ tabulate_get_d (set (printers_in words) n p) no_printer

  pub stored_forty : length after ≡ 40
  stored_forty = length-sets words (5 * n) (printer_words p) ∙ forty

-- a printer put back as it was
pub printer_at : (words : List ℕ) (n : ℕ) → n < 8 → get_or (printers_in words) n no_printer ≡ printer_in words n
unfolding printers_in
printer_at words n l = get_d_tabulate 8 (printer_in words) n no_printer l
