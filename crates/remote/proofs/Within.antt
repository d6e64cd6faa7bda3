-- What may be counted on, whatever was sent.
use mathlib.Core.Path.{◌≡◌, refl, ap, sym, ◌∙◌}
use mathlib.Core.Bool.{Bool, true, false, cond, ◌&&◌}
use mathlib.Core.List.{List, [], ◌∷◌, ◌++◌}
use Prim.Native.Nat.{ℕ, suc, ◌+◌, ◌-◌, ◌≤◌}
use native.Mathlib.Omega.{arith}
use borrow.Author.Tests.{leb-true}
use lib.Bits.{bit_xor}
use lib.Dec.{eqb, ltb, leb}
use lib.ListN.{length, take, drop, replicate, length-append, take-append-drop}
use Rattle.text.specs.Head.{head_of}
use Rattle.remote.specs.Sum.{sum_of, says_of}
use Rattle.remote.specs.Payload.{Reading, plain, escape, run, broken, added_of, last_of, plain_of, run_of, step_of, steps_of, read_of}
use Rattle.remote.specs.Heard.{Hearing, only, in_body, answered_of, closed_of, ended_of, packet_of, heard_of, told_of}
use Rattle.remote.specs.Within.{Within}
use Rattle.remote.specs.declared.kind.Heard.{Heard}
use Rattle.remote.specs.declared.kind.Heard.TheVariants.{More, Ack, Nak, Interrupt, Noise, Damaged}

-- ---- the payload
abbrev Held : ℕ → Reading → Type 0
Held room (plain done) = length done ≤ room
Held room (escape done) = length done ≤ room
Held room (run done) = length done ≤ room
Held room broken = 0 ≤ room

held_either : (room : ℕ) (t : Bool) (a b : Reading) → Held room a → Held room b → Held room (cond t a b)
held_either room true a b p q = p
held_either room false a b p q = q

held_added : (room : ℕ) (done more : List ℕ) → Held room (added_of room done more)
unfolding added_of
held_added room done more = go (leb (length done + length more) room) refl
  where
    go : (t : Bool) → leb (length done + length more) room ≡ t → Held room (cond t (plain (done ++ more)) broken)
    go true e = rw (length-append done more) (leb-true _ room e)
    go false e = omega arith

held_step : (room : ℕ) (r : Reading) (b : ℕ) → Held room r → Held room (step_of room r b)
unfolding plain_of run_of
held_step room (plain done) b h = held_either room (eqb b 125) (escape done) _ h (held_either room (eqb b 42) (run done) _ h (held_added room done (b ∷ [])))
held_step room (escape done) b h = held_added room done (bit_xor b 32 ∷ [])
held_step room (run done) b h =
    held_either room (ltb 0 (length done) && (leb 32 b && leb b 126)) (added_of room done (replicate (b - 29) (last_of done))) broken
    (held_added room done (replicate (b - 29) (last_of done))) (omega arith)
held_step room broken b h = h

held_steps : (room : ℕ) (r : Reading) (s : List ℕ) → Held room r → Held room (steps_of room r s)
unfolding steps_of
held_steps room r [] h = h
held_steps room r (b ∷ s) h = held_steps room (step_of room r b) s (held_step room r b h)

-- ---- the answer
within_more : (n room : ℕ) → Within n room (only More)
within_more n room = record { used = omega arith; moves = λ e. refl; laid = refl; holds = omega arith }

within_damaged : (n room k : ℕ) → k + 1 ≤ n → Within n room (only (Damaged (k + 1)))
within_damaged n room k h = record { used = h; moves = λ e. absurd (omega arith); laid = refl; holds = omega arith }

within_either : (n room : ℕ) (t : Bool) {a b : Hearing} → Within n room a → Within n room b → Within n room (cond t a b)
within_either n room true p q = p
within_either n room false p q = q

within_answered : (n room k : ℕ) → k + 1 ≤ n → (r : Reading) → Held room r → Within n room (answered_of (k + 1) r)
within_answered n room k h (plain done) held = record { used = h; moves = λ e. absurd (omega arith); laid = refl; holds = held }
within_answered n room k h (escape done) held = within_damaged n room k h
within_answered n room k h (run done) held = within_damaged n room k h
within_answered n room k h broken held = within_damaged n room k h

within_closed : (n room : ℕ) (body s : List ℕ) → length body + length s + 2 ≤ n → Within n room (closed_of room body s)
unfolding closed_of
within_closed n room body [] h = within_more n room
within_closed n room body (high ∷ []) h = within_more n room
within_closed n room body (high ∷ low ∷ s) h =
    let k : length body + 3 + 1 ≤ n = omega arith in
    let e : length body + 3 + 1 ≡ length body + 4 = omega arith in
    rw e at (within_either n room (says_of high low (sum_of body))
    (within_answered n room (length body + 3) k (read_of room body) (held_steps room (plain []) body (omega arith)))
    (within_damaged n room (length body + 3) k))

within_ended : (n room : ℕ) (body s : List ℕ) → length body + length s + 1 ≤ n → Within n room (ended_of room body s)
unfolding ended_of
within_ended n room body [] h = within_more n room
within_ended n room body (mark ∷ s) h =
    within_either n room (eqb mark 36) (within_damaged n room (length body) (omega arith)) (within_closed n room body s (omega arith))

within_packet : (n room : ℕ) (s : List ℕ) → length s + 1 ≤ n → Within n room (packet_of room s)
within_packet n room s h =
    let e : length (take (head_of in_body s) s) + length (drop (head_of in_body s) s) ≡ length s =
    sym (length-append (take (head_of in_body s) s) (drop (head_of in_body s) s)) ∙ ap length (take-append-drop (head_of in_body s) s) in
    within_ended n room (take (head_of in_body s) s) (drop (head_of in_body s) s) (omega arith)

within_outside : (n room : ℕ) (a b c : Bool) → 1 ≤ n → Within n room (only (cond a Ack (cond b Nak (cond c Interrupt Noise))))
within_outside n room true b c h = record { used = h; moves = λ e. absurd (omega arith); laid = refl; holds = omega arith }
within_outside n room false true c h = record { used = h; moves = λ e. absurd (omega arith); laid = refl; holds = omega arith }
within_outside n room false false true h = record { used = h; moves = λ e. absurd (omega arith); laid = refl; holds = omega arith }
within_outside n room false false false h = record { used = h; moves = λ e. absurd (omega arith); laid = refl; holds = omega arith }

pub heard_within : (input : List ℕ) (room : ℕ) → Within (length input) room (heard_of input room)
unfolding heard_of
heard_within [] room = within_more 0 room
heard_within (b ∷ s) room =
    within_either (suc (length s)) room (eqb b 36) (within_packet (suc (length s)) room s (omega arith))
    (within_outside (suc (length s)) room (eqb b 43) (eqb b 45) (eqb b 3) (omega arith))

-- of what the code answers
pub told_within : (input payload : List ℕ) (room : ℕ) (r : Heard) → told_of r payload ≡ heard_of input room → Within (length input) room (told_of r payload)
told_within input payload room r e = rw e (heard_within input room)
