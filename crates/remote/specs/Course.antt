-- ---- aids to proofs: nothing that a reader must believe
-- How the code holds a payload that is being read: by the number of its bytes, which stand at the start of the room.
use Rattle.std.specs.Prelude.{◌≡◌, List, ℕ, ◌≤◌, length, take}
use Rattle.remote.specs.Payload.{Reading}
use Rattle.remote.specs.Payload as payload
use Rattle.remote.specs.declared.kind.Heard.{Heard}
use Rattle.remote.specs.declared.kind.Heard.TheVariants.{Packet, Damaged}
use Rattle.remote.specs.declared.course.Course.{Course}
use Rattle.remote.specs.declared.course.Course.TheVariants.{Plain, Escape, Run, Broken}

abbrev pub laid_in : Course → ℕ
laid_in (Plain n) = n
laid_in (Escape n) = n
laid_in (Run n) = n
laid_in Broken = 0

abbrev pub reading_of : Course → List ℕ → Reading
reading_of (Plain n) room = payload.plain (take n room)
reading_of (Escape n) room = payload.escape (take n room)
reading_of (Run n) room = payload.run (take n room)
reading_of Broken room = payload.broken

pub record Reads (reading : Reading) (course : Course) (room : List ℕ) : Type 0 where
  pub same : reading_of course room ≡ reading
  pub within : laid_in course ≤ length room

abbrev pub answer_of : Course → (used : ℕ) → Heard
answer_of (Plain n) used = Packet used n
answer_of (Escape n) used = Damaged used
answer_of (Run n) used = Damaged used
answer_of Broken used = Damaged used
