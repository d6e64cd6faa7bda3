-- Bytes and what they are heard as, and replies and their packets, computed by the definitions.
use mathlib.Core.Path.{◌≡◌, refl}
use mathlib.Core.List.{List, [], ◌∷◌, map}
use Prim.Native.Nat.{ℕ}
use lib.ListN.{length}
use Rattle.text.specs.Head.{head_of}
use Rattle.text.specs.Digit.{digit_of}
use Rattle.text.specs.Spelt.{face_of}
use Rattle.remote.specs.Sum.{total_of, says_of}
use Rattle.remote.specs.Payload.{added_of, plain_of, run_of, steps_of}
use Rattle.remote.specs.Heard.{Hearing, only, closed_of, ended_of, heard_of}
use Rattle.remote.specs.Said.{coded_of, body_of, said_of}
use Rattle.remote.specs.declared.kind.Heard.TheVariants.{More, Ack, Nak, Interrupt, Noise, Packet, Damaged}

pub record Row : Type 0 where
  pub bytes : List ℕ
  pub room : ℕ
  pub heard : Hearing

unfoldable pub row : List ℕ → ℕ → Hearing → Row
row b n h = record { bytes = b; room = n; heard = h }

unfoldable pub packet : ℕ → List ℕ → Hearing
packet used payload = record { answer = Packet used (length payload); payload = payload }

unfoldable pub table : List Row
table =
    row [] 8 (only More)  -- nothing
    ∷ row (43 ∷ 36 ∷ 103 ∷ 35 ∷ 54 ∷ 55 ∷ []) 8 (only Ack)  -- `+$g#67`: an acknowledgement is heard first
    ∷ row (45 ∷ []) 8 (only Nak)  -- `-`
    ∷ row (3 ∷ []) 8 (only Interrupt)  -- byte 3
    ∷ row (35 ∷ 48 ∷ 48 ∷ []) 8 (only Noise)  -- `#00`
    ∷ row (36 ∷ 79 ∷ 75 ∷ 35 ∷ 57 ∷ 97 ∷ []) 8 (packet 6 (79 ∷ 75 ∷ []))  -- `$OK#9a`
    ∷ row (36 ∷ 79 ∷ 75 ∷ 35 ∷ 57 ∷ 65 ∷ 43 ∷ []) 8 (packet 6 (79 ∷ 75 ∷ []))  -- `$OK#9A+`: digits in upper case, and what follows is left
    ∷ row (36 ∷ 35 ∷ 48 ∷ 48 ∷ []) 0 (packet 4 [])  -- `$#00`: no payload, and no room
    ∷ row (36 ∷ 48 ∷ 42 ∷ 32 ∷ 35 ∷ 55 ∷ 97 ∷ []) 8 (packet 7 (48 ∷ 48 ∷ 48 ∷ 48 ∷ []))  -- `$0* #7a`: the run of the manual
    ∷ row (36 ∷ 48 ∷ 42 ∷ 126 ∷ 35 ∷ 100 ∷ 56 ∷ []) 97 (only (Damaged 7))  -- `$0*~#d8`: 98 bytes, and room for 97
    ∷ row (36 ∷ 125 ∷ 3 ∷ 35 ∷ 56 ∷ 48 ∷ []) 8 (packet 6 (35 ∷ []))  -- `$}` and byte 3 and `#80`: a `#` that is coded
    ∷ row (36 ∷ 109 ∷ 49 ∷ 102 ∷ 99 ∷ 48 ∷ 48 ∷ 48 ∷ 48 ∷ 48 ∷ 44 ∷ 52 ∷ 35 ∷ 98 ∷ 55 ∷ []) 16 (packet 15 (109 ∷ 49 ∷ 102 ∷ 99 ∷ 48 ∷ 48 ∷ 48 ∷ 48 ∷ 48 ∷ 44 ∷ 52 ∷ []))  -- a question of gdb's, as it was sent
    ∷ row (36 ∷ 79 ∷ 75 ∷ 35 ∷ 57 ∷ 98 ∷ []) 8 (only (Damaged 6))  -- `$OK#9b`: a wrong checksum
    ∷ row (36 ∷ 79 ∷ 75 ∷ 35 ∷ 57 ∷ 103 ∷ []) 8 (only (Damaged 6))  -- `$OK#9g`: no hex digit
    ∷ row (36 ∷ 97 ∷ 125 ∷ 35 ∷ 100 ∷ 101 ∷ []) 8 (only (Damaged 6))  -- `$a}#de`: an escape with nothing behind it
    ∷ row (36 ∷ 97 ∷ 42 ∷ 35 ∷ 56 ∷ 98 ∷ []) 8 (only (Damaged 6))  -- `$a*#8b`: a run with no number
    ∷ row (36 ∷ 42 ∷ 32 ∷ 35 ∷ 52 ∷ 97 ∷ []) 8 (only (Damaged 6))  -- `$* #4a`: a run with nothing before it
    ∷ row (36 ∷ 79 ∷ 75 ∷ 35 ∷ 57 ∷ 97 ∷ []) 1 (only (Damaged 6))  -- `$OK#9a`, and room for one byte
    ∷ row (36 ∷ 109 ∷ 49 ∷ 102 ∷ 99 ∷ 36 ∷ 103 ∷ 35 ∷ 54 ∷ 55 ∷ []) 8 (only (Damaged 5))  -- `$m1fc$g#67`: cut off by the next
    ∷ row (36 ∷ 109 ∷ 49 ∷ 102 ∷ 99 ∷ []) 8 (only More)  -- `$m1fc`
    ∷ row (36 ∷ 79 ∷ 75 ∷ 35 ∷ 57 ∷ []) 8 (only More)  -- `$OK#9`
    ∷ []

pub heard_hold : map (λ r. heard_of r.bytes r.room) table ≡ map (λ r. r.heard) table
unfolding table row packet heard_of ended_of closed_of head_of says_of digit_of total_of steps_of plain_of run_of added_of
heard_hold = refl

pub record Line : Type 0 where
  pub reply : List ℕ
  pub bytes : List ℕ

unfoldable pub line : List ℕ → List ℕ → Line
line r b = record { reply = r; bytes = b }

unfoldable pub lines : List Line
lines =
    line [] (36 ∷ 35 ∷ 48 ∷ 48 ∷ [])  -- nothing
    ∷ line (79 ∷ 75 ∷ []) (36 ∷ 79 ∷ 75 ∷ 35 ∷ 57 ∷ 97 ∷ [])  -- `OK`
    ∷ line (125 ∷ 35 ∷ 36 ∷ 42 ∷ []) (36 ∷ 125 ∷ 93 ∷ 125 ∷ 3 ∷ 125 ∷ 4 ∷ 125 ∷ 10 ∷ 35 ∷ 54 ∷ 50 ∷ [])  -- the four that are coded
    ∷ []

pub said_hold : map (λ l. said_of l.reply) lines ≡ map (λ l. l.bytes) lines
unfolding lines line said_of body_of coded_of total_of face_of
said_hold = refl
