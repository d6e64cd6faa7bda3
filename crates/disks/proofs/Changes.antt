-- What a tick of the disks can change in RAM: only the four bytes of the word that a busy READBLK moves. L8 and L6 ask for it.
use Prim.Native.Nat.{ℕ, zero, suc, ◌+◌, ◌<◌}
use mathlib.Core.Path.{◌≡◌, refl, ap, ◌∙◌}
use mathlib.Core.Logic.{◌≢◌}
use mathlib.Core.Bool.{Bool, true, false, cond}
use mathlib.Core.List.{List}
use native.Mathlib.Omega.{arith}
use lib.ListN.{length, get_or, set}
use lib.Seq.{get_or-set_other}
use Rattle.disk.specs.declared.four.Four.{Four}
use Rattle.disk.specs.Four.{put_four, four_at}
use Rattle.disk.specs.Tick.{reads, ram_place, disk_place, ram_ticked}
use Rattle.disks.specs.Tick.{Spinning, ticks}
use Rattle.disks.proofs.Passed.{old, store, length_ticks, ram_on}

-- p is none of the four bytes from `at` on
abbrev pub Apart : ℕ → ℕ → Type 0
Apart at p = (i : ℕ) → i < 4 → p ≢ at + i

put_apart : (l : List ℕ) (at : ℕ) (f : Four) (p : ℕ) → Apart at p → get_or (put_four l at f) p 0 ≡ get_or l p 0
unfolding put_four
put_apart l at f p away =
    get_or-set_other (set (set (set l at f.a) (suc at) f.b) (suc (suc at)) f.c) (suc (suc (suc at))) p f.d 0 (λ e. away 3 (omega arith) (omega arith))
    ∙ get_or-set_other (set (set l at f.a) (suc at) f.b) (suc (suc at)) p f.c 0 (λ e. away 2 (omega arith) (omega arith))
    ∙ get_or-set_other (set l at f.a) (suc at) p f.b 0 (λ e. away 1 (omega arith) (omega arith))
    ∙ get_or-set_other l at p f.a 0 (λ e. away 0 (omega arith) (omega arith))

told : (s : Spinning) (n : ℕ) →
    (ticks (suc n) s).ram
    ≡ cond (reads (length s.ram) (length (store s n)) (old s n)) (put_four (ticks n s).ram (ram_place (old s n)) (four_at (store s n) (disk_place (old s n)))) (ticks n s).ram
unfolding ram_ticked
told s n = ram_on s n ∙ rw (length_ticks s n)

one : (s : Spinning) (n p : ℕ) (on : Bool) → (on ≡ true → Apart (ram_place (old s n)) p) →
    get_or (cond on (put_four (ticks n s).ram (ram_place (old s n)) (four_at (store s n) (disk_place (old s n)))) (ticks n s).ram) p 0 ≡ get_or (ticks n s).ram p 0
one s n p true away = put_apart (ticks n s).ram (ram_place (old s n)) (four_at (store s n) (disk_place (old s n))) p (away refl)
one s n p false away = refl

-- a byte that no disk reads into is as it was
pub ram_stays : (s : Spinning) (n p : ℕ) →
    ((k : ℕ) → k < n → reads (length s.ram) (length (store s k)) (old s k) ≡ true → Apart (ram_place (old s k)) p) →
    get_or (ticks n s).ram p 0 ≡ get_or s.ram p 0
unfolding ticks
ram_stays s zero p away = refl
ram_stays s (suc n) p away =
    ap (λ (l : List ℕ). get_or l p 0) (told s n)
    ∙ one s n p (reads (length s.ram) (length (store s n)) (old s n)) (away n (omega arith))
    ∙ ram_stays s n p (λ k h. away k (omega arith))
