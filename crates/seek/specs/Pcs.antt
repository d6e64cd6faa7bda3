-- The newest and the oldest step on hand at a PC, of the PCs of the steps, the newest first.
use Rattle.std.specs.Prelude.{ℕ, zero, suc, ◌<◌, ◌≡◌, ◌≢◌, cond, List, [], ◌∷◌, length, get_or, eqb, Option, Some, None}

-- with j passed
abbrev pub newest : ℕ → ℕ → List ℕ → Option ℕ
newest pc j [] = None
newest pc j (p ∷ older) = cond (eqb p pc) (Some (suc j)) (newest pc (suc j) older)

-- of the k newest
abbrev pub oldest : ℕ → List ℕ → ℕ → Option ℕ
oldest pc pcs zero = None
oldest pc pcs (suc k) = cond (eqb (get_or pcs k 0) pc) (Some (suc k)) (oldest pc pcs k)

-- ---- aids to proofs: nothing that a reader must believe

-- the newest step but k is at pc, and no newer one is: 0 is the newest
pub record First (pc : ℕ) (pcs : List ℕ) (k : ℕ) : Type 0 where
  pub within : k < length pcs
  pub here : get_or pcs k 0 ≡ pc
  pub newer : (j : ℕ) → j < k → get_or pcs j 0 ≢ pc

-- and no older one is
pub record Last (pc : ℕ) (pcs : List ℕ) (k : ℕ) : Type 0 where
  pub within : k < length pcs
  pub here : get_or pcs k 0 ≡ pc
  pub older : (j : ℕ) → k < j → j < length pcs → get_or pcs j 0 ≢ pc

-- what is to be answered, by which step is asked for: it is counted from 1, and None says that no step on hand is at pc
abbrev pub Answers : (ℕ → List ℕ → ℕ → Type 0) → ℕ → List ℕ → Option ℕ → Type 0
Answers Asked pc pcs None = (k : ℕ) → k < length pcs → get_or pcs k 0 ≢ pc
Answers Asked pc pcs (Some zero) = ⊥
Answers Asked pc pcs (Some (suc k)) = Asked pc pcs k
