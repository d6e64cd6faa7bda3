-- Four bytes put into a list, over four bytes, and past other four: bytes put back as they were before the step do not mind in which order.
use Prim.Native.Nat.{ℕ, suc, ◌+◌, ◌<◌}
use mathlib.Core.Path.{◌≡◌, refl, sym, ap, ◌∙◌}
use mathlib.Core.List.{List, [], ◌∷◌}
use native.Mathlib.Decide.{ℕ_discrete}
use native.Mathlib.Omega.{arith}
use lib.ListN.{length, get_or, set}
use lib.Seq.{set-set, set-get_or, set_comm, sets, length-sets}
use Rattle.disk.specs.declared.four.Four.{Four}
use Rattle.disk.specs.Four.{four_at, bytes_of, put_four}

pub length_put : (l : List ℕ) (at : ℕ) (f : Four) → length (put_four l at f) ≡ length l
unfolding put_four
length_put l at f = length-sets l at (bytes_of f)

-- a store below a run of stores
set_sets : (us l : List ℕ) (i j : ℕ) (v : ℕ) → i < j → set (sets l j us) i v ≡ sets (set l i v) j us
set_sets [] l i j v h = refl
set_sets (u ∷ us) l i j v h =
    let other : j ≡ i → ⊥ = λ e. omega arith in
    set_sets us (set l j u) i (suc j) v (omega arith) ∙ ap (λ (m : List ℕ). sets m (suc j) us) (set_comm l j i u v other)

-- stores over stores
sets_over : (us vs l : List ℕ) (i : ℕ) → length us ≡ length vs → sets (sets l i us) i vs ≡ sets l i vs
sets_over [] [] l i e = refl
sets_over [] (v ∷ vs) l i e = absurd (omega arith)
sets_over (u ∷ us) [] l i e = absurd (omega arith)
sets_over (u ∷ us) (v ∷ vs) l i e =
    ap (λ (m : List ℕ). sets m (suc i) vs) (set_sets us (set l i u) i (suc i) v (omega arith) ∙ ap (λ (m : List ℕ). sets m (suc i) us) (set-set l i u v))
    ∙ sets_over us vs (set l i v) (suc i) (omega arith)

pub put_over : (l : List ℕ) (at : ℕ) (f g : Four) → put_four (put_four l at f) at g ≡ put_four l at g
unfolding put_four
put_over l at f g = sets_over (bytes_of f) (bytes_of g) l at refl

-- a byte of l as it is in m
abbrev fix : List ℕ → ℕ → List ℕ → List ℕ
fix m i l = set l i (get_or m i 0)

-- the order of such bytes does not matter
fix_swap : (m l : List ℕ) (i j : ℕ) → fix m i (fix m j l) ≡ fix m j (fix m i l)
fix_swap m l i j =
    elim (ℕ_discrete j i) [
      | yes e ↦ rw e
      | no ne ↦ set_comm l j i (get_or m j 0) (get_or m i 0) ne
    ]

-- four bytes of l as they are in m
abbrev pub fix_four : List ℕ → ℕ → List ℕ → List ℕ
fix_four m at l = put_four l at (four_at m at)

four_fixes : (m l : List ℕ) (at : ℕ) → fix_four m at l ≡ fix m (at + 3) (fix m (at + 2) (fix m (at + 1) (fix m at l)))
unfolding put_four
four_fixes m l at =
    let one : at + 1 ≡ suc at = omega arith in
    let two : at + 2 ≡ suc (suc at) = omega arith in
    let three : at + 3 ≡ suc (suc (suc at)) = omega arith in
    rw (one, two, three)

-- one byte past four
past_four : (m l : List ℕ) (i at : ℕ) → fix m i (fix_four m at l) ≡ fix_four m at (fix m i l)
past_four m l i at =
    ap (fix m i) (four_fixes m l at)
    ∙ fix_swap m (fix m (at + 2) (fix m (at + 1) (fix m at l))) i (at + 3)
    ∙ ap (fix m (at + 3)) (
    fix_swap m (fix m (at + 1) (fix m at l)) i (at + 2)
    ∙ ap (fix m (at + 2)) (fix_swap m (fix m at l) i (at + 1) ∙ ap (fix m (at + 1)) (fix_swap m l i at))
    )
    ∙ sym (four_fixes m (fix m i l) at)

-- four past four
pub fours_swap : (m l : List ℕ) (i at : ℕ) → fix_four m i (fix_four m at l) ≡ fix_four m at (fix_four m i l)
fours_swap m l i at =
    four_fixes m (fix_four m at l) i
    ∙ ap (fix m (i + 3)) (
    ap (fix m (i + 2)) (ap (fix m (i + 1)) (past_four m l i at) ∙ past_four m (fix m i l) (i + 1) at)
    ∙ past_four m (fix m (i + 1) (fix m i l)) (i + 2) at
    )
    ∙ past_four m (fix m (i + 2) (fix m (i + 1) (fix m i l))) (i + 3) at
    ∙ ap (fix_four m at) (sym (four_fixes m l i))

-- four bytes put back where they stand
pub four_stays : (l : List ℕ) (at : ℕ) → fix_four l at l ≡ l
four_stays l at =
    four_fixes l l at
    ∙ rw (set-get_or l at 0, set-get_or l (at + 1) 0, set-get_or l (at + 2) 0)
    (set-get_or l (at + 3) 0)
