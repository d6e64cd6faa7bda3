-- What stands at a place, and how many bytes there are those of a word.
use mathlib.Core.Path.{◌≡◌, refl, ap}
use mathlib.Core.Bool.{false, cond}
use mathlib.Core.List.{List, [], ◌∷◌}
use Rattle.std.specs.List.{prefix_len, zip}
use native.Mathlib.Omega.{arith}
use Prim.Native.Nat.{ℕ, ◌<◌, ◌≤◌}
use borrow.Author.Tests.{lt-ltb, le-ltb}
use lib.Dec.{eqb}
use lib.ListN.{length, get_or}
use Rattle.piece.specs.Mark.{stands_of, agreed_of}

pub stands_past : (line : List ℕ) (at byte : ℕ) → length line ≤ at → stands_of line at byte ≡ false
unfolding stands_of
stands_past line at byte h = rw (le-ltb at (length line) h)

pub stands_there : (line : List ℕ) (at byte : ℕ) → at < length line → stands_of line at byte ≡ eqb (get_or line at 0) byte
unfolding stands_of
stands_there line at byte h = rw (lt-ltb at (length line) h)

-- two pieces of text, byte by byte, as long as they agree
pub agreed_is : (word s : List ℕ) → prefix_len (λ (p : ℕ × ℕ). eqb p.0 p.1) (zip s word) ≡ agreed_of word s
unfolding agreed_of
agreed_is [] [] = refl
agreed_is [] (a ∷ s) = refl
agreed_is (b ∷ w) [] = refl
agreed_is (b ∷ w) (a ∷ s) = ap (λ n. cond (eqb a b) n 0) (let e : prefix_len (λ (p : ℕ × ℕ). eqb p.0 p.1) (zip s w) ≡ agreed_of w s = agreed_is w s in omega arith)
