-- What stands at the start of the bytes that gdb sent: a packet is `$`, bytes that are neither `#` nor `$`, `#`, and two hex digits.
use Rattle.std.specs.Prelude.{Bool, cond, not, ◌||◌, List, [], ◌∷◌, ℕ, ◌+◌, eqb, length, take, drop}
use Rattle.text.specs.Head.{head_of}
use Rattle.remote.specs.Sum.{sum_of, says_of}
use Rattle.remote.specs.Payload.{Reading, plain, escape, run, broken, read_of}
use Rattle.remote.specs.declared.kind.Heard.{Heard}
use Rattle.remote.specs.declared.kind.Heard.TheVariants.{More, Ack, Nak, Interrupt, Noise, Packet, Damaged}

-- the answer, and the payload that is laid down with it
pub record Hearing : Type 0 where
  pub answer : Heard
  pub payload : List ℕ

abbrev pub only : Heard → Hearing
only h = record { answer = h; payload = [] }

abbrev pub outside_of : ℕ → Heard
outside_of b = cond (eqb b 43) Ack (cond (eqb b 45) Nak (cond (eqb b 3) Interrupt Noise))

-- a payload that is whole
abbrev pub answered_of : (used : ℕ) → Reading → Hearing
answered_of used (plain done) = record { answer = Packet used (length done); payload = done }
answered_of used (escape done) = only (Damaged used)
answered_of used (run done) = only (Damaged used)
answered_of used broken = only (Damaged used)

-- behind the `#`
unfoldable pub closed_of : (room : ℕ) (body : List ℕ) → List ℕ → Hearing
closed_of room body [] = only More
closed_of room body (high ∷ []) = only More
closed_of room body (high ∷ low ∷ rest) =
    cond (says_of high low (sum_of body)) (answered_of (length body + 4) (read_of room body)) (only (Damaged (length body + 4)))

-- behind the body: a `$` begins the next packet
unfoldable pub ended_of : (room : ℕ) (body : List ℕ) → List ℕ → Hearing
ended_of room body [] = only More
ended_of room body (mark ∷ s) = cond (eqb mark 36) (only (Damaged (length body + 1))) (closed_of room body s)

abbrev pub in_body : ℕ → Bool
in_body b = not (eqb b 35 || eqb b 36)

-- behind the `$`
abbrev pub packet_of : (room : ℕ) → List ℕ → Hearing
packet_of room s = ended_of room (take (head_of in_body s) s) (drop (head_of in_body s) s)

unfoldable pub heard_of : List ℕ → (room : ℕ) → Hearing
heard_of [] room = only More
heard_of (b ∷ s) room = cond (eqb b 36) (packet_of room s) (only (outside_of b))

-- what the code tells: its answer, with as much of the room as the answer says
abbrev pub length_of : Heard → ℕ
length_of (Packet used n) = n
length_of More = 0
length_of Ack = 0
length_of Nak = 0
length_of Interrupt = 0
length_of Noise = 0
length_of (Damaged used) = 0

abbrev pub told_of : Heard → List ℕ → Hearing
told_of h payload = record { answer = h; payload = take (length_of h) payload }
