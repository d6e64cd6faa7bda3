-- Devices held as words, one after the other, k words each: a device put back where it stands is the one that changed, whatever a device is.
use Prim.Native.Nat.{ℕ, zero, suc, ◌+◌, ◌*◌, ◌≤◌, ◌<◌}
use mathlib.Core.Path.{◌≡◌, refl, sym, ap, ◌∙◌}
use mathlib.Core.Logic.{◌⊎◌, inl, inr}
use mathlib.Core.List.{List, [], ◌∷◌}
use native.Mathlib.Decide.{ℕ_discrete, dec_lt}
use native.Mathlib.Nat.{add-zero, mul-le-mul_left, mul-add, mul-one}
use native.Mathlib.Omega.{arith}
use lib.ListN.{length, get_or, set, length-set}
use lib.Seq.{sets, length-sets, get_or-set_same, get_or-set_other}
use Rattle.word.specs.Lists.{tabulate}
use Rattle.word.specs.Sizes.{devices}
use Rattle.word.proofs.Lists.{length_tabulate, get_d_tabulate, tabulate_ext, tabulate_get_d}

-- ---- a run of stores, read back

-- before or behind it
pub outside : (vs l : List ℕ) (at k : ℕ) → k < at ⊎ at + length vs ≤ k → get_or (sets l at vs) k 0 ≡ get_or l k 0
outside [] l at k away = refl
outside (v ∷ vs) l at k (inl before) =
    outside vs (set l at v) (suc at) k (inl (omega (arith, before))) ∙ get_or-set_other l at k v 0 (λ e. absurd (omega (arith, before, e)))
outside (v ∷ vs) l at k (inr behind) =
    outside vs (set l at v) (suc at) k (inr (omega (arith, behind))) ∙ get_or-set_other l at k v 0 (λ e. absurd (omega (arith, behind, e)))

-- and in it
pub inside : (vs l : List ℕ) (at j : ℕ) → j < length vs → at + length vs ≤ length l → get_or (sets l at vs) (at + j) 0 ≡ get_or vs j 0
inside [] l at j few room = elim few [ ]
inside (v ∷ vs) l at zero few room =
    ap (λ (k : ℕ). get_or (sets (set l at v) (suc at) vs) k 0) (add-zero at)
    ∙ outside vs (set l at v) (suc at) at (inl (omega arith))
    ∙ get_or-set_same l at v 0 (omega (arith, room))
inside (v ∷ vs) l at (suc j) few room =
    let next : at + suc j ≡ suc at + j = omega arith in
    ap (λ (k : ℕ). get_or (sets (set l at v) (suc at) vs) k 0) next
    ∙ inside vs (set l at v) (suc at) j (omega (arith, few)) (omega (arith, room, length-set l at v))

-- ---- rows of k words

-- the end of a row is not above the start of a higher one
row_end : (k n m : ℕ) → n < m → k * n + k ≤ k * m
row_end k n m h =
    let up : k * (n + 1) ≤ k * m = mul-le-mul_left k (let g : n + 1 ≤ m = omega arith in g) in
    let one : k * (n + 1) ≡ k * n + k * 1 = mul-add k n 1 in
    let same : k * 1 ≡ k = mul-one k in
    omega arith

-- the words of two rows lie apart
beside : (k n i j : ℕ) → j < k → (i ≡ n → ⊥) → k * i + j < k * n ⊎ k * n + k ≤ k * i + j
beside k n i j l apart =
    elim (dec_lt i n) [
      | yes lower ↦ inl (omega (arith, row_end k i n lower))
      | no not_lower ↦ inr (omega (arith, row_end k n i (let h : n < i = omega (arith, not_lower, apart) in h)))
    ]

module _ {D : Type 0} (none : D) (k : ℕ) (words_of : D → List ℕ) (from : (ℕ → ℕ) → D)
    (wide : (d : D) → length (words_of d) ≡ k)
    (same : (f g : ℕ → ℕ) → ((j : ℕ) → j < k → f j ≡ g j) → from f ≡ from g)
    (back : (d : D) → from (λ (j : ℕ). get_or (words_of d) j 0) ≡ d)
  where
    -- device n, of the words that it stands in
    abbrev pub device_in : List ℕ → ℕ → D
    device_in words n = from (λ (j : ℕ). get_or words (k * n + j) 0)

    abbrev pub line_in : List ℕ → List D
    line_in words = tabulate devices (device_in words)

    pub device_at : (words : List ℕ) (n : ℕ) → n < 8 → get_or (line_in words) n none ≡ device_in words n
    device_at words n few = get_d_tabulate 8 (device_in words) n none few

    module _ (words : List ℕ) (n : ℕ) (d : D) (all : length words ≡ k * 8) (few : n < 8) where
      abbrev after : List ℕ
      after = sets words (k * n) (words_of d)

      mine : device_in after n ≡ d
      mine =
          same (λ (j : ℕ). get_or after (k * n + j) 0) (λ (j : ℕ). get_or (words_of d) j 0)
          (λ j l. inside (words_of d) words (k * n) j (rw (wide d) l) (rw (wide d, all) (row_end k n 8 few)))
          ∙ back d

      others : (i : ℕ) → (i ≡ n → ⊥) → device_in after i ≡ device_in words i
      others i apart =
          same (λ (j : ℕ). get_or after (k * i + j) 0) (λ (j : ℕ). get_or words (k * i + j) 0)
          (λ j l. outside (words_of d) words (k * n) (k * i + j) (rw (wide d) (beside k n i j l apart)))

      one_of : (i : ℕ) → i < 8 → Dec (i ≡ n) → device_in after i ≡ get_or (set (line_in words) n d) i none
      one_of i l (yes e) =
          let here : n < length (line_in words) = rw (length_tabulate 8 (device_in words)) few in
          rw e (mine ∙ sym (get_or-set_same (line_in words) n d none here))
      one_of i l (no apart) = others i apart ∙ sym (get_or-set_other (line_in words) n i d none apart ∙ device_at words i l)

      -- of the eight, the one put back alone is another
      pub stored : line_in after ≡ set (line_in words) n d
      stored =
          let eight : length (set (line_in words) n d) ≡ 8 = length-set (line_in words) n d ∙ length_tabulate 8 (device_in words) in
          tabulate_ext 8 (device_in after) (λ (i : ℕ). get_or (set (line_in words) n d) i none) (λ i l. one_of i l (ℕ_discrete i n))
          ∙ ap (λ (m : ℕ). tabulate m (λ (i : ℕ). get_or (set (line_in words) n d) i none)) (sym eight)
          ∙ tabulate_get_d (set (line_in words) n d) none

      pub stored_all : length after ≡ k * 8
      stored_all = length-sets words (k * n) (words_of d) ∙ all
