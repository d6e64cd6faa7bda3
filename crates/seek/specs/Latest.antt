-- The latest step on hand that altered a word of RAM.
use Rattle.std.specs.Prelude.{ℕ, zero, suc, ◌<◌, ◌≡◌, ◌≢◌, cond, List, [], ◌∷◌, length, eqb, Option, Some, None}
use Rattle.seek.specs.declared.Change.{Change}

-- what a record keeps of a place that its step wrote: the word as it was before the step
pub record Write : Type 0 where
  pub place : ℕ
  pub old : ℕ

-- the word at `place` before a step, from its record's writes and the word after it
abbrev pub word_before : ℕ → List Write → ℕ → ℕ
word_before place [] word = word
word_before place (w ∷ ws) word = cond (eqb w.place place) w.old (word_before place ws word)

-- the step so counted, 1 being the newest, with the word before and after it
abbrev pub change_of : (step old new : ℕ) → Change
change_of step old new = record { step = step; old = old; new = new }

-- THE SCAN, as code does it, with j records passed: it stops at the first, from the newest on, whose word before is not the present one. Up to there the
-- word of every state passed is the present one, so none is tracked.
abbrev pub scan : ℕ → ℕ → ℕ → List (List Write) → Option Change
scan place word j [] = None
scan place word j (s ∷ older) =
    cond (eqb (word_before place s word) word) (scan place word (suc j) older) (Some (change_of (suc j) (word_before place s word) word))

-- ---- aids to proofs: nothing that a reader must believe

-- the word at `place` with the k newest of the steps on hand taken back, from the present word
abbrev pub word_back : ℕ → List (List Write) → ℕ → ℕ → ℕ
word_back place steps word zero = word
word_back place [] word (suc k) = word
word_back place (s ∷ older) word (suc k) = word_back place older (word_before place s word) k

-- the newest step but k left the word as it was: 0 is the newest
abbrev pub Left : ℕ → List (List Write) → ℕ → ℕ → Type 0
Left place steps word k = word_back place steps word (suc k) ≡ word_back place steps word k

-- the newest step but k altered the word, from old to new, and no newer one did
pub record Last (place : ℕ) (steps : List (List Write)) (word k old new : ℕ) : Type 0 where
  pub within : k < length steps
  pub before : old ≡ word_back place steps word (suc k)
  pub after : new ≡ word_back place steps word k
  pub differ : old ≢ new
  pub newer : (j : ℕ) → j < k → Left place steps word j

-- the step so counted from 1 is the newest that altered the word, from old to new
abbrev pub Altered : ℕ → List (List Write) → ℕ → (step old new : ℕ) → Type 0
Altered place steps word zero old new = ⊥
Altered place steps word (suc k) old new = Last place steps word k old new

-- what is to be answered: None says that every step on hand left the word as it was
abbrev pub Answers : ℕ → List (List Write) → ℕ → Option Change → Type 0
Answers place steps word None = (k : ℕ) → k < length steps → Left place steps word k
Answers place steps word (Some c) = Altered place steps word c.step c.old c.new
