-- A load and a store of a + b bytes are one of a bytes and one of b bytes behind them: what each width's proof cites.
use mathlib.Core.Path.{◌≡◌, sym, ap, ◌∙◌}
use mathlib.Core.List.{List, ◌++◌, append_assoc}
use Prim.Native.Nat.{ℕ, ◌+◌, ◌*◌, ◌/◌, ◌^◌, ◌≤◌}
use native.Mathlib.Omega.{arith}
use lib.ListN.{length, take, drop, length-append, length-drop}
use lib.Seq.{take-add, drop-drop, length-take-le, take_at, drop-append-add}
use Rattle.word.specs.Little.{from_bytes, to_bytes}
use Rattle.word.proofs.LittleBytes.{length_to, from_append, to_split}
use Rattle.memory.specs.Memory.{load_at, stored_at}

module _ (m : List ℕ) (at a b : ℕ) (fits : at + (a + b) ≤ length m) where
  pub load_split : load_at (a + b) m at ≡ load_at a m at + 256 ^ a * load_at b m (at + a)
  unfolding load_at
  load_split =
      let l : length (take a (drop at m)) ≡ a = length-take-le a (drop at m) (simp length-drop (omega arith)) in
      ap from_bytes (take-add a b (drop at m)) ∙ from_append (take a (drop at m)) (take b (drop a (drop at m))) ∙ rw (l, drop-drop)

  pub store_split : (x : ℕ) → stored_at (a + b) m at x ≡ stored_at b (stored_at a m at x) (at + a) (x / 256 ^ a)
  unfolding stored_at
  store_split x = (λ i. take at m ++ to_split a b x i ++ drop (n i) m) ∙ (simp append_assoc) ∙ sym (λ i. front i ++ to_bytes b (x / 256 ^ a) ++ back i)
    where
      n : at + (a + b) ≡ at + a + b
      n = omega arith

      head : List ℕ
      head = take at m ++ to_bytes a x

      long : length head ≡ at + a
      long = simp (length-append, length_to, length-take-le at m (omega arith))

      front : take (at + a) (head ++ drop (at + a) m) ≡ head
      front = take_at head (drop (at + a) m) (at + a) long

      back : drop (at + a + b) (head ++ drop (at + a) m) ≡ drop (at + a + b) m
      back = ap (λ k. drop (k + b) (head ++ drop (at + a) m)) (sym long) ∙ drop-append-add head (drop (at + a) m) b ∙ drop-drop b (at + a) m
