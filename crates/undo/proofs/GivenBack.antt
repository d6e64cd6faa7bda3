-- Each part of the machine that a record in range gives back has its length and is made of words, and register 0 stays 0.
use Rattle.std.proofs.Common.{◌≡◌, ℕ, zero, suc, ◌+◌, ◌-◌, ◌^◌, ◌<◌, ◌≤◌, Bool, true, ◌&&◌, leb, List, [], ◌∷◌, ◌++◌, length, get_or, set, refl, mod-lt, arith, length-set, get_or-set_other, leb-true}
use Rattle.word.specs.Lists.{flat, Below}
use Rattle.word.proofs.Cond.{both}
use Rattle.word.proofs.Lists.{below_append}
use Rattle.clock.specs.Tick.{time_of, clock_at, down}
use Rattle.clock.specs.declared.Clock.{Clock}
use Rattle.state.specs.Layout.{kept_words, row_words, clock_words, printer_words}
use Rattle.tlb.specs.declared.Row.{Row}
use Rattle.record.specs.declared.Record.{Record}
use Rattle.record.specs.declared.Saved.{Saved}
use Rattle.record.specs.declared.Saved.TheVariants.{Nothing, Register, TlbRow, RamWord}
use Rattle.record.specs.Layout.{small_words, saved_words, unused, layout_of}
use Rattle.record.specs.Keeps.{saved_ranged}
use Rattle.good.proofs.Belows.{below_left, below_right, below_set, each_below}
use Rattle.undo.specs.Undo.{regs_back, rows_back, clock_back}

-- ---- the parts of a record's words

pub record Parts (r : Record) : Type 0 where
  pub core : Below (2 ^ 32) (kept_words r.core)
  pub timer : r.timer < 2 ^ 32
  pub pending : r.pending < 2 ^ 32
  pub saved : Below (2 ^ 32) (saved_words r.saved)
  pub printers : Below (2 ^ 32) (flat printer_words r.printers)

pub parts : (r : Record) → Below (2 ^ 32) (layout_of r) → Parts r
unfolding layout_of
parts r s =
    let a = kept_words r.core in
    let b = small_words r.timer r.pending r.paper.mask r.paper.bytes in
    let c = flat printer_words r.printers in
    let d = saved_words r.saved in
    let s₁ = below_right a (b ++ (c ++ (d ++ unused))) s in
    let s₂ = below_right b (c ++ (d ++ unused)) s₁ in
    let small = below_left b (c ++ (d ++ unused)) s₁ in
    record {
      core = below_left a (b ++ (c ++ (d ++ unused))) s;
      timer = small 0 (omega arith);
      pending = small 1 (omega arith);
      saved = below_left d unused (below_right c (d ++ unused) s₂);
      printers = below_left c (d ++ unused) s₂;
    }

-- ---- each part given back

at_least_one : (n : ℕ) (x : Bool) → (leb 1 n && x) ≡ true → 1 ≤ n
at_least_one n x e = leb-true 1 n (both (leb 1 n) x e).0

module _ (regs : List ℕ) where
  pub regs_small : (s : Saved) → Below (2 ^ 32) (saved_words s) → Below (2 ^ 32) regs → Below (2 ^ 32) (regs_back s regs)
  regs_small Nothing h own = own
  regs_small (Register n old) h own = below_set regs n old own (h 2 (omega arith))
  regs_small (TlbRow i row) h own = own
  regs_small (RamWord place old distance) h own = own

  pub regs_long : (s : Saved) → length (regs_back s regs) ≡ length regs
  regs_long Nothing = refl
  regs_long (Register n old) = length-set regs n old
  regs_long (TlbRow i row) = refl
  regs_long (RamWord place old distance) = refl

  -- register 0 is none of those that a record in range saves
  pub regs_zero : (s : Saved) → saved_ranged s ≡ true → get_or (regs_back s regs) 0 0 ≡ get_or regs 0 0
  regs_zero Nothing e = refl
  regs_zero (Register n old) e =
      let some = at_least_one n _ e in
      get_or-set_other regs n 0 old 0 (λ z. omega arith)
  regs_zero (TlbRow i row) e = refl
  regs_zero (RamWord place old distance) e = refl

-- one element anew
below_flat_set : {m : ℕ} {A : Type 0} (g : A → List ℕ) (xs : List A) (i : ℕ) (a : A) → Below m (g a) → Below m (flat g xs) → Below m (flat g (set xs i a))
below_flat_set g [] i a new own = own
below_flat_set g (x ∷ xs) zero a new own = below_append (g a) (flat g xs) new (below_right (g x) (flat g xs) own)
below_flat_set g (x ∷ xs) (suc i) a new own =
    below_append (g x) (flat g (set xs i a)) (below_left (g x) (flat g xs) own)
    (below_flat_set g xs i a new (below_right (g x) (flat g xs) own))

module _ (rows : List Row) where
  pub rows_small : (s : Saved) → Below (2 ^ 32) (saved_words s) → Below (2 ^ 32) (flat row_words rows) → Below (2 ^ 32) (flat row_words (rows_back s rows))
  rows_small Nothing h own = own
  rows_small (Register n old) h own = own
  rows_small (TlbRow i row) h own = below_flat_set row_words rows i row (below_right (2 ∷ i ∷ []) (row_words row) h) own
  rows_small (RamWord place old distance) h own = own

  pub rows_long : (s : Saved) → length (rows_back s rows) ≡ length rows
  rows_long Nothing = refl
  rows_long (Register n old) = refl
  rows_long (TlbRow i row) = length-set rows i row
  rows_long (RamWord place old distance) = refl

-- a number of 64 bits is two words
two_words : (time timer : ℕ) → time < 2 ^ 64 → timer < 2 ^ 32 → Below (2 ^ 32) (clock_words (clock_at time timer))
two_words time timer h t = each_below (clock_words (clock_at time timer)) (omega arith)

pub clock_small : (timer : ℕ) (c : Clock) → timer < 2 ^ 32 → Below (2 ^ 32) (clock_words (clock_back timer c))
clock_small timer c h = two_words (down 64 (time_of c)) timer (mod-lt (time_of c + (2 ^ 64 - 1)) (omega arith)) h
