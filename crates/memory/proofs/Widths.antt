-- What the functions cite: a load byte by byte, a byte and the bytes that follow it; and a store as two of half its width, for every width at once.
use Rattle.std.proofs.Common.{◌≡◌, List, ◌++◌, ℕ, suc, ◌+◌, ◌*◌, ◌/◌, ◌%◌, ◌^◌, ◌≤◌, ◌<◌, length, get_or, take, drop, refl, sym, ap, ◌∙◌, add-one}
use lib.Seq.{drop-cons}
use Rattle.word.specs.Little.{from_bytes}
use Rattle.memory.specs.Memory.{load_at, stored_at}
use Rattle.memory.proofs.OneCell.{to_mod}
use Rattle.memory.proofs.Split.{store_split}

pub load_none : (m : List ℕ) (at : ℕ) → load_at 0 m at ≡ 0
unfolding load_at from_bytes
load_none m at = refl

pub load_next : (n : ℕ) (m : List ℕ) (at : ℕ) → at < length m → load_at (suc n) m at ≡ get_or m at 0 + 256 * load_at n m (at + 1)
unfolding load_at from_bytes
load_next n m at h = rw (drop-cons m at 0 h, add-one)

module _ (n : ℕ) (m : List ℕ) (at : ℕ) (fits : at + (n + n) ≤ length m) where
  pub store_two : (x : ℕ) (mid last : List ℕ) → mid ≡ stored_at n m at (x % 256 ^ n) → last ≡ stored_at n mid (at + n) (x / 256 ^ n) → last ≡ stored_at (n + n) m at x
  unfolding stored_at
  store_two x mid last f s = s ∙ ap (λ t. stored_at n t (at + n) (x / 256 ^ n)) (f ∙ ap (λ t. take at m ++ t ++ drop (at + n) m) (to_mod n x)) ∙ sym (store_split m at n n fits x)
