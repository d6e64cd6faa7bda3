-- What the code's answers come to, over plain values.
use Rattle.std.proofs.Common.{◌≡◌, ℕ, ◌+◌, ◌*◌, ◌%◌, ◌^◌, ◌<◌, ◌≤◌, cond, eqb, List, length, sym, ap, arith}
use lib.ListN.{get_or-eq_default}
use Rattle.word.specs.Big.{word_at}
use Rattle.ring.specs.Slots.{slot_back}
use Rattle.ring.proofs.Slots.{by_leb, back_on, back_round}
use Rattle.frames.specs.Keep.{is_at}
use Rattle.frames.specs.Bytes.{whole, entry_at, put_entry, replace_in}
use Rattle.std.proofs.Common.{Option, Some, None}

-- a difference that wraps is so many back, modulo 2^64
pub wraps_back : (r a b : ℕ) → r < 2 ^ 64 → b < 2 ^ 64 → (r + b) % 2 ^ 64 ≡ a → r ≡ slot_back whole a b
wraps_back r a b hr hb e =
    by_leb b a
    (λ l. omega (arith, back_on (2 ^ 64) a b l))
    (λ l. omega (arith, back_round (2 ^ 64) a b l))

module _ (bytes : List ℕ) (f : ℕ) where
  abbrev time : ℕ
  time = word_at bytes (16 * f + 4) * 2 ^ 32 + word_at bytes (16 * f + 8)

  -- past the end there is no entry
  pub entry_outside : length bytes ≤ 16 * f → entry_at bytes f ≡ None
  unfolding entry_at word_at
  entry_outside h =
      let b₀ = get_or-eq_default bytes 0 {n = 16 * f} h in
      let b₁ = get_or-eq_default bytes 0 {n = 16 * f + 1} (omega arith) in
      let b₂ = get_or-eq_default bytes 0 {n = 16 * f + 2} (omega arith) in
      let b₃ = get_or-eq_default bytes 0 {n = 16 * f + 3} (omega arith) in
      let none : word_at bytes (16 * f) ≡ 0 = rw (b₀, b₁, b₂, b₃) in
      ap (λ (w : ℕ). cond (eqb w 1) (Some time) None) none

-- so past the end nothing is replaced
pub replaced_outside : (clock f : ℕ) (e : Option ℕ) (bytes : List ℕ) → length bytes ≤ 16 * f → bytes ≡ replace_in clock f e bytes
replaced_outside clock f e bytes h = sym (ap (λ (x : Option ℕ). cond (is_at clock x) (put_entry bytes f e) bytes) (entry_outside bytes f h))
