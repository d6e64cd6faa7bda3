-- A reply as a packet.
use Rattle.std.specs.Prelude.{◌≡◌, Bool, cond, ◌||◌, Option, Some, None, unwrap_or, List, [], ◌∷◌, ◌++◌, ℕ, ◌/◌, ◌%◌, eqb, leb, length, take}
use Rattle.std.specs.Int.Bits.{bit_xor}
use Rattle.text.specs.Laid.{Laid}
use Rattle.text.specs.Spelt.{face_of}
use Rattle.remote.specs.Sum.{sum_of}
use Rattle.remote.specs.declared.reply.Body.{Body}

-- `#`, `$`, `*` and `}`
abbrev pub is_coded : ℕ → Bool
is_coded b = eqb b 35 || eqb b 36 || eqb b 42 || eqb b 125

unfoldable pub coded_of : ℕ → List ℕ
coded_of b = cond (is_coded b) (125 ∷ bit_xor b 32 ∷ []) (b ∷ [])

unfoldable pub body_of : List ℕ → List ℕ
body_of [] = []
body_of (b ∷ s) = coded_of b ++ body_of s

-- `#` and the checksum in two hex digits
abbrev pub closing_of : ℕ → List ℕ
closing_of sum = 35 ∷ face_of (sum / 16) ∷ face_of (sum % 16) ∷ []

unfoldable pub said_of : List ℕ → List ℕ
said_of reply = 36 ∷ (body_of reply ++ closing_of (sum_of (body_of reply)))

-- nothing, where the room does not hold all
unfoldable pub fitted_of : (room : ℕ) → List ℕ → List ℕ
fitted_of room s = cond (leb (length s) room) s []

-- the length of what the room holds all of
abbrev pub sized_of : (room : ℕ) → List ℕ → Option ℕ
sized_of room s = cond (leb (length s) room) (Some (length s)) None

pub record Says (reply out after : List ℕ) (n : Option ℕ) : Type 0 where
  pub count : n ≡ sized_of (length out) (said_of reply)
  pub bytes : take (unwrap_or n 0) after ≡ fitted_of (length out) (said_of reply)

-- ---- aids to proofs: nothing that a reader must believe
-- the body laid, and its checksum
pub record Bodied (out : List ℕ) (at : ℕ) (reply after : List ℕ) (r : Body) : Type 0 where
  pub laid : Laid out at (body_of reply) after r.next
  pub sum : r.sum ≡ sum_of (body_of reply)
