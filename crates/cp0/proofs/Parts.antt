-- The word and its four parts determine each other: so what a part is after a move can be read off the definition.
use mathlib.Core.Path.{◌≡◌}
use Prim.Native.Nat.{ℕ, ◌^◌, ◌<◌}
use native.Mathlib.Omega.{arith}
use Rattle.cp0.specs.Word.{modes_of, middle, vm_of, above, word_of}

pub word_of_parts : (w : ℕ) → word_of (modes_of w) (middle w) (vm_of w) (above w) ≡ w
word_of_parts w = omega arith

module _ (m n v a : ℕ) (hm : m < 2 ^ 6) (hn : n < 2 ^ 18) (hv : v < 2 ^ 3) where
  pub modes_of_word : modes_of (word_of m n v a) ≡ m
  modes_of_word = omega arith

  pub middle_of_word : middle (word_of m n v a) ≡ n
  middle_of_word = omega arith

  pub vm_of_word : vm_of (word_of m n v a) ≡ v
  vm_of_word = omega arith

  pub above_of_word : above (word_of m n v a) ≡ a
  above_of_word = omega arith
