-- What may be counted on, whatever was sent: an answer uses no more bytes than there are, and none only where more are needed; a payload is no
-- longer than the room.
use Rattle.std.specs.Prelude.{◌≡◌, ℕ, ◌≤◌, length}
use Rattle.remote.specs.Heard.{Hearing, length_of}
use Rattle.remote.specs.declared.kind.Heard.{Heard}
use Rattle.remote.specs.declared.kind.Heard.TheVariants.{More, Ack, Nak, Interrupt, Noise, Packet, Damaged}

-- the bytes that an answer uses up
abbrev pub used_of : Heard → ℕ
used_of More = 0
used_of Ack = 1
used_of Nak = 1
used_of Interrupt = 1
used_of Noise = 1
used_of (Packet used n) = used
used_of (Damaged used) = used

-- of n bytes
pub record Within (n room : ℕ) (h : Hearing) : Type 0 where
  pub used : used_of h.answer ≤ n
  pub moves : used_of h.answer ≡ 0 → h.answer ≡ More
  pub laid : length h.payload ≡ length_of h.answer
  pub holds : length_of h.answer ≤ room
