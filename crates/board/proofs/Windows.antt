-- The two ROM calls: each number is answered exactly where its row of document 01 applies and no lower one does, and the window is empty
-- exactly where the answer refuses.
use mathlib.Core.Path.{◌≡◌, refl}
use mathlib.Core.Bool.{Bool, cond, true, false, not, ◌&&◌, ◌||◌, false≢true}
use mathlib.Core.List.{List, []}
use Prim.Native.Nat.{ℕ, ◌+◌, ◌-◌, ◌%◌, ◌≤◌, ◌<◌}
use native.Mathlib.Omega.{arith}
use lib.Dec.{eqb, leb}
use lib.ListN.{length, drop, length-drop}
use lib.Seq.{length-take-le}
use borrow.Author.Tests.{eqb-true}
use Rattle.std.specs.Prelude.{Result, Ok, Err}
use Rattle.word.proofs.Cond.{both, picked}
use Rattle.board.specs.Places.{execution_base, bootstrap_base, spans}
use Rattle.board.specs.Rom.{fit_of, held_of, answer_of, number_of, four_at, part_of, window_of}
use Rattle.board.specs.declared.rom.RomError.{RomError}
use Rattle.board.specs.declared.rom.RomError.TheVariants.{BadRom, BadAddress}
use Rattle.board.proofs.Areas.{starts, ends}

abbrev answer_by : Bool → Bool → Result Unit RomError
answer_by fit held = cond fit (cond held (Ok tt) (Err BadAddress)) (Err BadRom)

two_by : (fit held : Bool) → eqb (number_of (answer_by fit held)) 2 ≡ not fit
two_by true true = refl
two_by true false = refl
two_by false held = refl

nine_by : (fit held : Bool) → eqb (number_of (answer_by fit held)) 9 ≡ (fit && not held)
nine_by true true = refl
nine_by true false = refl
nine_by false held = refl

zero_by : (fit held : Bool) → eqb (number_of (answer_by fit held)) 0 ≡ (fit && held)
zero_by true true = refl
zero_by true false = refl
zero_by false held = refl

done_by : (fit held : Bool) → answer_by fit held ≡ Ok tt → (fit ≡ true) × (held ≡ true)
done_by true true h = (refl, refl)
done_by true false h = let z : ◌≡◌ {A = ℕ} 0 1 = cc in absurd (omega arith)
done_by false held h = let z : ◌≡◌ {A = ℕ} 0 1 = cc in absurd (omega arith)

other : (p q : Bool) → (p || q) ≡ true → p ≡ false → q ≡ true
other true q h f = absurd (false≢true (cc))
other false q h f = h

whole : (len : ℕ) → fit_of len ≡ true → len % 4 ≡ 0
whole len h = eqb-true (len % 4) 0 (both (leb len 65536) _ (both (leb 4 len) _ h).1).1

module _ (e b a : ℕ) where
  -- row 2 alone
  pub answer_two : eqb (number_of (answer_of e b a)) 2 ≡ not (fit_of e && fit_of b)
  unfolding answer_of
  answer_two = two_by (fit_of e && fit_of b) (held_of e b a)

  -- row 9, and not row 2
  pub answer_nine : eqb (number_of (answer_of e b a)) 9 ≡ ((fit_of e && fit_of b) && not (held_of e b a))
  unfolding answer_of
  answer_nine = nine_by (fit_of e && fit_of b) (held_of e b a)

  -- neither row
  pub answer_zero : eqb (number_of (answer_of e b a)) 0 ≡ ((fit_of e && fit_of b) && held_of e b a)
  unfolding answer_of
  answer_zero = zero_by (fit_of e && fit_of b) (held_of e b a)

  module _ (done : answer_of e b a ≡ Ok tt) where
    fits : (fit_of e && fit_of b) ≡ true
    unfolding answer_of
    fits = (done_by (fit_of e && fit_of b) (held_of e b a) done).0

    held : held_of e b a ≡ true
    unfolding answer_of
    held = (done_by (fit_of e && fit_of b) (held_of e b a) done).1

    aligned : a % 4 ≡ 0
    aligned = eqb-true (a % 4) 0 (both (eqb (a % 4) 0) _ held).0

    -- the four bytes lie in the execution ROM, or else in the bootstrap ROM
    pub in_execution : spans execution_base e a ≡ true → (a - execution_base) + 4 ≤ e
    in_execution h =
        let m : a % 4 ≡ 0 = aligned in
        let n : e % 4 ≡ 0 = whole e (both (fit_of e) (fit_of b) fits).0 in
        let l : a - execution_base < e = ends execution_base e a h in
        omega arith

    bootstrap_spans : spans execution_base e a ≡ false → spans bootstrap_base b a ≡ true
    bootstrap_spans h = other (spans execution_base e a) (spans bootstrap_base b a) (both (eqb (a % 4) 0) _ held).1 h

    pub from_base : spans execution_base e a ≡ false → bootstrap_base ≤ a
    from_base h = starts bootstrap_base b a (bootstrap_spans h)

    pub in_bootstrap : spans execution_base e a ≡ false → (a - bootstrap_base) + 4 ≤ b
    in_bootstrap h =
        let m : a % 4 ≡ 0 = aligned in
        let n : b % 4 ≡ 0 = whole b (both (fit_of e) (fit_of b) fits).1 in
        let s : bootstrap_base ≤ a = from_base h in
        let l : a - bootstrap_base < b = ends bootstrap_base b a (bootstrap_spans h) in
        omega arith

four_there : (rom : List ℕ) (at : ℕ) → at + 4 ≤ length rom → length (four_at rom at) ≡ 4
four_there rom at h = length-take-le 4 (drop at rom) (simp length-drop (omega arith))

-- four bytes where the answer is 0, none where it is another
pub window_exact : (x y : List ℕ) (a : ℕ) → length (window_of x y a) ≡ cond (eqb (number_of (answer_of (length x) (length y) a)) 0) 4 0
window_exact x y a = go (answer_of (length x) (length y) a) refl
  where
    go : (r : Result Unit RomError) → answer_of (length x) (length y) a ≡ r → length (part_of x y a r) ≡ cond (eqb (number_of r) 0) 4 0
    go (Ok done) d =
        picked (λ (l : List ℕ). length l ≡ 4) (spans execution_base (length x) a) _ _
        (λ h. four_there x _ (in_execution (length x) (length y) a d h))
        (λ h. four_there y _ (in_bootstrap (length x) (length y) a d h))
    go (Err BadRom) d = refl
    go (Err BadAddress) d = refl

-- a refusal has no bytes
pub refused_part : (x y : List ℕ) (a : ℕ) (error : RomError) → part_of x y a (Err error) ≡ []
refused_part x y a BadRom = refl
refused_part x y a BadAddress = refl
