-- Which numbers are words: what is taken modulo 2^32, a register as it is read, the next PC, and what few bytes say.
use Prim.Native.Nat.{ℕ, suc, ◌+◌, ◌%◌, ◌^◌, ◌<◌}
use mathlib.Core.List.{List, [], ◌∷◌}
use native.Mathlib.Nat.{mod-lt, pow-succ'}
use native.Mathlib.Omega.{arith}
use native.Mathlib.Decide.{dec_lt}
use lib.Dec.{eqb}
use lib.IntN.{ℤ, pos, negsuc}
use lib.ListN.{length, get_or, get_or-eq_default}
use lib.Pow.{pow_pos}
use Rattle.word.specs.Lists.{Below}
use Rattle.word.specs.Little.{from_bytes}
use Rattle.word.specs.Number.{modulo, bits}
use Rattle.word.proofs.Cond.{picked}
use Rattle.intend.specs.Operand.{reg_of, after_of}

pub modulo_small : (n : ℕ) (z : ℤ) → 0 < n → modulo n z < n
modulo_small n (pos a) h = mod-lt a h
modulo_small n (negsuc a) h = omega arith

pub bits_small : (k : ℕ) (z : ℤ) → bits k z < 2 ^ k
bits_small k z = modulo_small (2 ^ k) z (pow_pos k)

-- also past the end, where a list reads 0
pub below_at : {m : ℕ} (l : List ℕ) → 0 < m → Below m l → (i : ℕ) → get_or l i 0 < m
below_at {m} l some small i = by (dec_lt i (length l))
  where
    by : Dec (i < length l) → get_or l i 0 < m
    by (yes h) = small i h
    by (no h) = rw (get_or-eq_default l 0 {n = i} (omega arith)) some

pub reg_small : (regs : List ℕ) → Below (2 ^ 32) regs → (i : ℕ) → reg_of regs i < 2 ^ 32
unfolding reg_of
reg_small regs small i =
    picked (λ x. x < 2 ^ 32) (eqb (i % 32) 0) _ _ (λ _. omega arith) (λ _. below_at regs (omega arith) small (i % 32))

pub after_small : (pc : ℕ) → after_of pc < 2 ^ 32
after_small pc = mod-lt (pc + 4) (omega arith)

pub from_small : (bs : List ℕ) → Below 256 bs → from_bytes bs < 256 ^ length bs
unfolding from_bytes
from_small [] small = omega arith
from_small (b ∷ bs) small =
    let rest : from_bytes bs < 256 ^ length bs = from_small bs (λ i h. small (suc i) (omega arith)) in
    let first : b < 256 = small 0 (omega arith) in
    let power = pow-succ' 256 (length bs) in
    omega arith
