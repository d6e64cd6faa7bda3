-- What the lines of devices share, whatever a device is: a line is a list of devices and a map of those that are pending. `none` stands past the end of the list,
-- which nothing reaches.
use Rattle.std.specs.Prelude.{ℕ, zero, suc, ◌<◌, ◌≡◌, Bool, true, false, ◌||◌, cond, List, length, get_or, set}
use Rattle.word.specs.Map.{bit, with_bit}
use Rattle.word.specs.Mask.{within}
use Rattle.word.specs.Sizes.{devices}

-- pending on where device n finishes
abbrev pub pending_on : ℕ → Bool → ℕ → ℕ
pending_on n finished pending = cond finished (with_bit n true pending) pending

-- ---- aids to proofs: nothing that a reader must believe

module _ {D : Type 0} (none : D) where
  -- a test holds of a device among the first n
  unfoldable pub some_of : (D → Bool) → ℕ → List D → Bool
  some_of test zero line = false
  some_of test (suc n) line = some_of test n line || test (get_or line n none)

  -- the first n devices have had their tick
  unfoldable pub ticked_to : (D → D) → ℕ → List D → List D
  ticked_to ticked zero line = line
  ticked_to ticked (suc n) line = set (ticked_to ticked n line) n (ticked (get_or (ticked_to ticked n line) n none))

  -- and the pending map then
  unfoldable pub pending_to : (D → Bool) → (D → D) → ℕ → List D → ℕ → ℕ
  pending_to finishes ticked zero line pending = pending
  pending_to finishes ticked (suc n) line pending =
      pending_on n (finishes (get_or (ticked_to ticked n line) n none)) (pending_to finishes ticked n line pending)

  -- the rules of device n, by its bits of the installed and the pending map
  abbrev pub keeps_at : (Bool → Bool → D → Bool) → ℕ → List D → ℕ → ℕ → Bool
  keeps_at keeps installed line pending n = keeps (bit n installed) (bit n pending) (get_or line n none)

  -- "pending within installed", and the rules of each device
  pub record Keeps (keeps : Bool → Bool → D → Bool) (installed : ℕ) (line : List D) (pending : ℕ) : Type 0 where
    pub eight : length line ≡ devices
    pub owned : within installed pending ≡ true
    pub each : (n : ℕ) → n < devices → keeps_at keeps installed line pending n ≡ true
