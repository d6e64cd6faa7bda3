-- Laws of `tabulate` and `flat`, once for every element type and every size of an element.
use Prim.Native.Nat.{ℕ, zero, suc, ◌+◌, ◌*◌, ◌≤◌, ◌<◌}
use mathlib.Core.Path.{◌≡◌, refl, sym, ap, ◌∙◌}
use mathlib.Core.List.{List, [], ◌∷◌, ◌++◌, append_assoc, append-nil}
use mathlib.Core.Bool.{Bool, true, ◌&&◌}
use native.Mathlib.Omega.{arith}
use borrow.Author.Tests.{ltb-true}
use lib.Dec.{ltb}
use native.Mathlib.Nat.{zero-add, add-zero, mul-zero, mul-suc, add_comm, add_assoc}
use native.Mathlib.Decide.{dec_lt}
use native.Mathlib.Numerals.{add-one}
use lib.ListN.{length, get_or, take, drop, set, length-set, length-append, get_or-append}
use lib.Seq.{drop-cons, take-suc, set_at, get_or_at, get_or-append-add, length-take-le, drop-length, ext_get_or, sets, sets-eq, set-append_left}
use Rattle.word.proofs.Cond.{both}
use Rattle.word.specs.Lists.{tabulate, flat, Below}

-- stores that go on where others ended
pub sets_append : (us vs l : List ℕ) (at : ℕ) → sets l at (us ++ vs) ≡ sets (sets l at us) (at + length us) vs
sets_append [] vs l at = rw (add-zero at)
sets_append (u ∷ us) vs l at =
    let e : suc at + length us ≡ at + suc (length us) = omega arith in
    rw (← e) (sets_append us vs (set l at u) (suc at))

-- stores of the whole
pub sets_whole : (l vs : List ℕ) → length vs ≡ length l → sets l 0 vs ≡ vs
sets_whole l vs e =
    sets-eq vs l 0 (omega arith) ∙ rw (zero-add (length vs), e, drop-length l) (append-nil vs)

-- stores of the whole in two parts
pub sets_two : (l us vs : List ℕ) (n : ℕ) → length us ≡ n → length (us ++ vs) ≡ length l → sets (sets l 0 us) n vs ≡ us ++ vs
sets_two l us vs n e h =
    let place : 0 + length us ≡ n = omega arith in
    (rw place at (sym (sets_append us vs l 0))) ∙ sets_whole l (us ++ vs) h

-- ---- stores into a part of a list

sets_cons : (x : ℕ) (l vs : List ℕ) (at : ℕ) → sets (x ∷ l) (suc at) vs ≡ x ∷ sets l at vs
sets_cons x l [] at = refl
sets_cons x l (v ∷ vs) at = sets_cons x (set l at v) vs (suc at)

-- into the second of two lists
pub sets_right : (p l vs : List ℕ) (at : ℕ) → sets (p ++ l) (length p + at) vs ≡ p ++ sets l at vs
sets_right [] l vs at = rw (zero-add at)
sets_right (x ∷ p) l vs at =
    let e : suc (length p) + at ≡ suc (length p + at) = omega arith in
    rw e (sets_cons x (p ++ l) vs (length p + at) ∙ ap (λ (m : List ℕ). x ∷ m) (sets_right p l vs at))

-- into the first
pub sets_left : (l q vs : List ℕ) (at : ℕ) → at + length vs ≤ length l → sets (l ++ q) at vs ≡ sets l at vs ++ q
sets_left l q [] at h = refl
sets_left l q (v ∷ vs) at h =
    ap (λ (m : List ℕ). sets m (suc at) vs) (set-append_left l q at v (omega arith))
    ∙ sets_left (set l at v) q vs (suc at) (omega (arith, length-set l at v))

-- over a part in the middle
pub sets_part : (p old q new : List ℕ) (at : ℕ) → length p ≡ at → length new ≡ length old → sets (p ++ (old ++ q)) at new ≡ p ++ (new ++ q)
sets_part p old q new at e same =
    let start : length p + 0 ≡ at = omega (arith, e) in
    ap (λ (n : ℕ). sets (p ++ (old ++ q)) n new) (sym start)
    ∙ sets_right p (old ++ q) new 0
    ∙ ap (λ (m : List ℕ). p ++ m) (sets_left old q new 0 (omega arith) ∙ ap (λ (m : List ℕ). m ++ q) (sets_whole old new same))

module _ {A : Type 0} where
  pub length_tabulate : (n : ℕ) (g : ℕ → A) → length (tabulate n g) ≡ n
  length_tabulate zero g = refl
  length_tabulate (suc n) g = rw (length-append (tabulate n g) (g n ∷ []), length_tabulate n g) (omega arith)

  pub get_d_tabulate : (n : ℕ) (g : ℕ → A) (i : ℕ) (d : A) → i < n → get_or (tabulate n g) i d ≡ g i
  get_d_tabulate zero g i d h = absurd (omega arith)
  get_d_tabulate (suc n) g i d h =
      elim (dec_lt i n) [
        | yes p ↦
            let inside : i < length (tabulate n g) = rw (length_tabulate n g) p in
            get_or-append (tabulate n g) (g n ∷ []) d i inside ∙ get_d_tabulate n g i d p
        | no q ↦
            let last : n ≡ i = omega arith in
            get_or_at (tabulate n g) (g n) [] d i (length_tabulate n g ∙ last) ∙ ap g last
      ]

  -- one turn of a loop that fills a list from its start
  pub fill_step : (g : ℕ → A) (l₀ l : List A) (i : ℕ) → i < length l₀ → l ≡ tabulate i g ++ drop i l₀ →
      set l i (g i) ≡ tabulate (i + 1) g ++ drop (i + 1) l₀
  fill_step g l₀ l i h e =
      rw (e, drop-cons l₀ i (g i) h, set_at (tabulate i g) (get_or l₀ i (g i)) (drop (suc i) l₀) (g i) i (length_tabulate i g), add-one i)
      (sym (append_assoc (tabulate i g) (g i ∷ []) (drop (suc i) l₀)))

  -- its end
  pub fill_end : (g : ℕ → A) (l₀ l : List A) (i : ℕ) → i ≡ length l₀ → l ≡ tabulate i g ++ drop i l₀ → l ≡ tabulate (length l₀) g
  fill_end g l₀ l i h e = e ∙ rw (h, drop-length, append-nil)

  pub tabulate_get_d : (l : List A) (d : A) → tabulate (length l) (λ (i : ℕ). get_or l i d) ≡ l
  tabulate_get_d l d =
      let g : ℕ → A = λ (i : ℕ). get_or l i d in
      ext_get_or d (tabulate (length l) g) l (length_tabulate (length l) g)
      (λ i h. get_d_tabulate (length l) g i d (rw (length_tabulate (length l) g) at h))

  pub tabulate_ext : (n : ℕ) (f g : ℕ → A) → ((i : ℕ) → i < n → f i ≡ g i) → tabulate n f ≡ tabulate n g
  tabulate_ext zero f g h = refl
  tabulate_ext (suc n) f g h = rw (tabulate_ext n f g (λ i hi. h i (omega arith)), h n (omega arith))

  pub flat_append : (g : A → List ℕ) (xs ys : List A) → flat g (xs ++ ys) ≡ flat g xs ++ flat g ys
  flat_append g [] ys = refl
  flat_append g (x ∷ xs) ys = rw (flat_append g xs ys) (sym (append_assoc (g x) (flat g xs) (flat g ys)))

  -- every element stands for k numbers
  module _ (k : ℕ) (g : A → List ℕ) (size : (x : A) → length (g x) ≡ k) where
    pub length_flat : (xs : List A) → length (flat g xs) ≡ k * length xs
    length_flat [] = sym (mul-zero k)
    length_flat (x ∷ xs) = rw (length-append (g x) (flat g xs), size x, length_flat xs, mul-suc k (length xs)) (add_comm k (k * length xs))

    -- the numbers of one element
    pub flat_at : (xs : List A) (d : A) (i j : ℕ) → i < length xs → j < k → get_or (flat g xs) (k * i + j) 0 ≡ get_or (g (get_or xs i d)) j 0
    flat_at [] d i j hi hj = absurd (omega arith)
    flat_at (x ∷ xs) d zero j hi hj =
        rw (mul-zero k, zero-add j) (get_or-append (g x) (flat g xs) 0 j (rw (size x) hj))
    flat_at (x ∷ xs) d (suc i) j hi hj =
        let past : k * suc i + j ≡ length (g x) + (k * i + j) = rw (size x, mul-suc k i, add_comm (k * i) k) (add_assoc k (k * i) j) in
        rw past (get_or-append-add (g x) (flat g xs) (k * i + j) 0 ∙ flat_at xs d i j (omega arith) hj)

    -- one turn of a loop that stores the elements' numbers, the first of them at `at`
    pub store_step : (xs : List A) (d : A) (l : List ℕ) (at i place : ℕ) → i < length xs → place ≡ at + k * i →
        sets (sets l at (flat g (take i xs))) place (g (get_or xs i d)) ≡ sets l at (flat g (take (i + 1) xs))
    store_step xs d l at i place hi e =
        let p = flat g (take i xs) in
        let x = get_or xs i d in
        let lp : length p ≡ k * i = length_flat (take i xs) ∙ ap (λ (n : ℕ). k * n) (length-take-le i xs (omega arith)) in
        let more : flat g (take (i + 1) xs) ≡ p ++ g x =
        rw (add-one i, take-suc xs i d hi, flat_append g (take i xs) (x ∷ []), append-nil (g x)) in
        rw (more, sets_append p (g x) l at, lp, e)

    -- a list's numbers stored after another's
    pub store_append : (xs ys : List A) (l : List ℕ) (at place : ℕ) → place ≡ at + k * length xs →
        sets l at (flat g (xs ++ ys)) ≡ sets (sets l at (flat g xs)) place (flat g ys)
    store_append xs ys l at place e =
        rw (flat_append g xs ys, sets_append (flat g xs) (flat g ys) l at, length_flat xs, e)

-- ---- lists of small numbers

pub below_nil : (n : ℕ) → Below n []
below_nil n i h = absurd (omega arith)

pub below_cons : {n x : ℕ} (l : List ℕ) → x < n → Below n l → Below n (x ∷ l)
below_cons l hx hl zero h = hx
below_cons l hx hl (suc i) h = hl i (omega arith)

pub below_append : {n : ℕ} (k l : List ℕ) → Below n k → Below n l → Below n (k ++ l)
below_append [] l hk hl = hl
below_append (x ∷ k) l hk hl = below_cons (k ++ l) (hk 0 (omega arith)) (below_append k l (λ i h. hk (suc i) (omega arith)) hl)

-- a list of numerals, by computing
abbrev pub all_below : ℕ → List ℕ → Bool
all_below n [] = true
all_below n (x ∷ l) = ltb x n && all_below n l

pub below_numerals : {n : ℕ} (l : List ℕ) → all_below n l ≡ true → Below n l
below_numerals {n} [] e = below_nil n
below_numerals {n} (x ∷ l) e =
    let h = both (ltb x n) (all_below n l) e in
    below_cons l (ltb-true x n h.0) (below_numerals l h.1)

pub below_flat : {n : ℕ} {A : Type 0} (k : ℕ) (g : A → List ℕ) (f : ℕ → A) → ((i : ℕ) → Below n (g (f i))) → Below n (flat g (tabulate k f))
below_flat {n} zero g f h = below_nil n
below_flat (suc k) g f h =
    rw (flat_append g (tabulate k f) (f k ∷ []), append-nil (g (f k))) (below_append (flat g (tabulate k f)) (g (f k)) (below_flat k g f h) (h k))
