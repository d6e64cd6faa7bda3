-- The calls for C: what each packs in its answer, and every byte that it leaves.
use Rattle.std.specs.Prelude.{ℕ, List, ◌≡◌, length}
use Rattle.answer.specs.Answer.{packed_of}
use Rattle.reset.specs.Reset.{reset_answer, reset_image, reset_index}
use Rattle.turn.specs.Buffers.{Buffers}
use Rattle.accepted.specs.Left.{Left}
use Rattle.lastwrite.specs.LastWrite.{last_write_answer, last_write_bytes}

pub record PackedResetIs (image index : List ℕ) (scale delay installed packed : ℕ) (after emptied : List ℕ) : Type 0 where
  pub answer_is : packed ≡ packed_of (reset_answer image index scale delay installed)
  pub image_is : after ≡ reset_image image index scale delay installed
  pub index_is : emptied ≡ reset_index image index scale delay installed

-- run and take-back
pub record PackedIs (left : Left) (packed : ℕ) (after : Buffers) : Type 0 where
  pub answer_is : packed ≡ packed_of left.answer
  pub buffers_are : after ≡ left.buffers

-- the question: only the answer buffer is written
pub record PackedLastWriteIs (b : Buffers) (address : ℕ) (before : List ℕ) (packed : ℕ) (after : List ℕ) : Type 0 where
  pub answer_is : packed ≡ packed_of (last_write_answer b address (length before))
  pub bytes_is : after ≡ last_write_bytes b address before
