-- What loads and stores of bytes and halves mean for RAM's own bytes, though they work on the word around them.
use mathlib.Core.Path.{◌≡◌, sym, ap, ◌∙◌}
use mathlib.Core.List.{List}
use Prim.Native.Nat.{ℕ, ◌+◌, ◌*◌, ◌/◌, ◌%◌, ◌^◌, ◌≤◌, ◌<◌}
use native.Mathlib.Nat.{mod-eq_of_lt}
use native.Mathlib.Omega.{arith}
use lib.ListN.{length, get_or}
use Rattle.word.specs.Number.{extended, signed, bits}
use Rattle.memory.specs.Memory.{load_at, stored_at}
use Rattle.memory.proofs.Within.{load_part_lem, store_part_lem}
use Rattle.memory.proofs.OneCell.{load_small}
use Rattle.isa.specs.declared.instr.LoadOp.TheVariants.{Lb, Lh, Lw, Lbu, Lhu}
use Rattle.isa.specs.declared.instr.StoreOp.TheVariants.{Sb, Sh, Sw}
use Rattle.decide.specs.Lent.{around}
use Rattle.decide.specs.Part.{from_place, load_part, with_bytes, store_part}

-- the word around at lies in m, which holds bytes
module _ (m : List ℕ) (at : ℕ) (fits : at / 4 * 4 + 4 ≤ length m) (bytes : (i : ℕ) → get_or m i 0 < 256) where
  whole : at / 4 * 4 + at % 4 ≡ at
  whole = omega arith

  -- n bytes that do not cross into the next word
  module _ (n : ℕ) (inside : at % 4 + n ≤ 4) where
    taken : from_place (around m at) at % 256 ^ n ≡ load_at n m at
    unfolding from_place
    taken = sym (ap (load_at n m) (sym whole) ∙ load_part_lem 4 n (at % 4) inside m (at / 4 * 4) fits bytes)

    put : at % 4 / n * n ≡ at % 4 → (x : ℕ) → stored_at n m at x ≡ stored_at 4 m (at / 4 * 4) (with_bytes n (around m at) at x)
    unfolding with_bytes
    put aligned x = ap (λ p. stored_at n m p x) (sym whole) ∙ rw aligned (store_part_lem 4 n (at % 4) inside m (at / 4 * 4) fits bytes x)

  module _ (old : ℕ) where
    pub lbu_reads : load_part Lbu old (around m at) at ≡ load_at 1 m at
    lbu_reads = taken 1 (omega arith)

    pub lb_reads : load_part Lb old (around m at) at ≡ extended 8 (load_at 1 m at)
    lb_reads =
        let small : load_at 1 m at < 2 ^ 8 = load_small 1 m at (omega arith) (λ i l. bytes i) in
        ap (λ x. bits 32 (signed 8 x)) (taken 1 (omega arith) ∙ sym (mod-eq_of_lt small))

    pub lhu_reads : at % 2 ≡ 0 → load_part Lhu old (around m at) at ≡ load_at 2 m at
    lhu_reads even = taken 2 (omega arith)

    pub lh_reads : at % 2 ≡ 0 → load_part Lh old (around m at) at ≡ extended 16 (load_at 2 m at)
    lh_reads even =
        let small : load_at 2 m at < 2 ^ 16 = load_small 2 m at (omega arith) (λ i l. bytes i) in
        ap (λ x. bits 32 (signed 16 x)) (taken 2 (omega arith) ∙ sym (mod-eq_of_lt small))

    pub lw_reads : at % 4 ≡ 0 → load_part Lw old (around m at) at ≡ load_at 4 m at
    lw_reads aligned = let same : at / 4 * 4 ≡ at = omega arith in ap (load_at 4 m) same

  module _ (x : ℕ) where
    -- RAM after the word is stored
    abbrev after : ℕ → List ℕ
    after word = stored_at 4 m (at / 4 * 4) word

    pub sb_writes : after (store_part Sb x (around m at) at) ≡ stored_at 1 m at x
    sb_writes = sym (put 1 (omega arith) (omega arith) x)

    pub sh_writes : at % 2 ≡ 0 → after (store_part Sh x (around m at) at) ≡ stored_at 2 m at x
    sh_writes even = sym (put 2 (omega arith) (omega arith) x)

    pub sw_writes : at % 4 ≡ 0 → after (store_part Sw x (around m at) at) ≡ stored_at 4 m at x
    sw_writes aligned = let same : at / 4 * 4 ≡ at = omega arith in ap (λ p. stored_at 4 m p x) same
