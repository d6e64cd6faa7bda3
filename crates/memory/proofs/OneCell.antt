-- What one cell of n bytes says, and its bytes again. Once, over n.
use mathlib.Core.Path.{◌≡◌, sym, ap, subst⁻¹, ◌∙◌}
use mathlib.Core.List.{List}
use Prim.Native.Nat.{ℕ, zero, suc, ◌+◌, ◌/◌, ◌%◌, ◌^◌, ◌≤◌, ◌<◌}
use native.Mathlib.Nat.{one-le-pow, mod-lt}
use native.Mathlib.Omega.{arith}
use lib.ListN.{length, take, drop, length-drop}
use lib.Seq.{length-take-le, get_or-take, get_or-drop}
use Rattle.word.specs.Lists.{Below}
use Rattle.word.specs.Little.{from_bytes, to_bytes}
use Rattle.word.proofs.Lists.{below_nil, below_cons}
use Rattle.word.proofs.LittleBytes.{length_to, from_to, to_from}
use Rattle.memory.specs.Memory.{load_at}

-- what is written are bytes
pub to_below : (n x : ℕ) → Below 256 (to_bytes n x)
unfolding to_bytes
to_below zero x = below_nil 256
to_below (suc n) x = below_cons (to_bytes n (x / 256)) (mod-lt x (omega arith)) (to_below n (x / 256))

-- the bytes of a number do not see what lies above them
pub to_mod : (n x : ℕ) → to_bytes n (x % 256 ^ n) ≡ to_bytes n x
to_mod n x =
    ap (to_bytes n) (sym (from_to n x))
    ∙ ap (λ k. to_bytes k (from_bytes (to_bytes n x))) (sym (length_to n x))
    ∙ to_from (to_bytes n x) (to_below n x)

module _ (n : ℕ) (m : List ℕ) (at : ℕ) (fits : at + n ≤ length m) (bytes : Below 256 m) where
  abbrev pub cell : List ℕ
  cell = take n (drop at m)

  pub cell_long : length cell ≡ n
  cell_long = length-take-le n (drop at m) (simp length-drop (omega arith))

  pub cell_below : Below 256 cell
  cell_below i l =
      let e : length cell ≡ n = cell_long in
      rw (get_or-take n (drop at m) i 0 (omega arith), get_or-drop) (bytes (at + i) (omega arith))

  -- the bytes of the number that is read are those that stand there
  pub to_loaded : to_bytes n (load_at n m at) ≡ cell
  unfolding load_at
  to_loaded = ap (λ k. to_bytes k (from_bytes cell)) (sym cell_long) ∙ to_from cell cell_below

  held : load_at n m at ≡ load_at n m at % 256 ^ n
  unfolding load_at
  held = sym (ap from_bytes to_loaded) ∙ from_to n (from_bytes cell)

  pub load_small : load_at n m at < 256 ^ n
  load_small = subst⁻¹ (λ k. k < 256 ^ n) held (mod-lt (load_at n m at) (one-le-pow n 256 (omega arith)))
