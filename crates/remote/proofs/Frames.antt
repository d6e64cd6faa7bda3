-- The frame of a packet, at the places where the code looks.
use mathlib.Core.Path.{◌≡◌, refl, ap, sym, ◌∙◌}
use mathlib.Core.Bool.{Bool, true, false, cond}
use mathlib.Core.List.{List, [], ◌∷◌}
use Prim.Native.Nat.{ℕ, suc, ◌+◌, ◌-◌, ◌<◌, ◌≤◌}
use native.Mathlib.Numerals.{add-one}
use native.Mathlib.Omega.{arith}
use borrow.Author.Tests.{eq-eqb, ne_eqb}
use lib.Dec.{eqb}
use lib.ListN.{length, get_or, take, drop, length-drop, drop_of_length-le}
use lib.Seq.{length-take-le, drop-drop, drop-cons}
use Rattle.text.specs.Head.{head_of}
use Rattle.remote.specs.Sum.{sum_of, says_of}
use Rattle.remote.specs.Payload.{read_of}
use Rattle.remote.specs.Heard.{Hearing, only, in_body, outside_of, answered_of, closed_of, ended_of, packet_of, heard_of, told_of}
use Rattle.remote.specs.Course.{Reads, reading_of, laid_in, answer_of}
use Rattle.remote.specs.declared.kind.Heard.{Heard}
use Rattle.remote.specs.declared.kind.Heard.TheVariants.{More, Ack, Nak, Interrupt, Noise, Packet, Damaged}
use Rattle.remote.specs.declared.course.Course.{Course}
use Rattle.remote.specs.declared.course.Course.TheVariants.{Plain, Escape, Run, Broken}

-- ---- the first byte
pub heard_none : (input : List ℕ) (room : ℕ) → length input ≡ 0 → heard_of input room ≡ only More
unfolding heard_of
heard_none [] room e = refl
heard_none (b ∷ s) room e = absurd (omega arith)

heard_outside : (input : List ℕ) (room : ℕ) → (length input ≡ 0 → ⊥) → (get_or input 0 0 ≡ 36 → ⊥) → heard_of input room ≡ only (outside_of (get_or input 0 0))
unfolding heard_of
heard_outside [] room some e = absurd (some refl)
heard_outside (b ∷ s) room some e = rw (ne_eqb b 36 e)

pub heard_packet : (input : List ℕ) (room : ℕ) → (length input ≡ 0 → ⊥) → get_or input 0 0 ≡ 36 → heard_of input room ≡ packet_of room (drop 1 input)
unfolding heard_of
heard_packet [] room some e = absurd (some refl)
heard_packet (b ∷ s) room some e = rw (eq-eqb b 36 e)

told_byte : (a b c : Bool) (payload : List ℕ)
    → told_of (cond a Ack (cond b Nak (cond c Interrupt Noise))) payload ≡ only (cond a Ack (cond b Nak (cond c Interrupt Noise)))
told_byte true b c payload = refl
told_byte false true c payload = refl
told_byte false false true payload = refl
told_byte false false false payload = refl

pub told_outside : (input : List ℕ) (room : ℕ) → (length input ≡ 0 → ⊥) → (get_or input 0 0 ≡ 36 → ⊥) → (r : Heard) (payload : List ℕ) → r ≡ outside_of (get_or input 0 0)
    → told_of r payload ≡ heard_of input room
told_outside input room some e r payload a =
    ap (λ x. told_of x payload) a
    ∙ told_byte (eqb (get_or input 0 0) 43) (eqb (get_or input 0 0) 45) (eqb (get_or input 0 0) 3) payload
    ∙ sym (heard_outside input room some e)

-- ---- the answer
pub told_answer : (course : Course) (used : ℕ) (after : List ℕ) → laid_in course ≤ length after → told_of (answer_of course used) after ≡ answered_of used (reading_of course after)
told_answer (Plain n) used after h =
    let e : n ≡ length (take n after) = sym (length-take-le n after h) in
    ap {B = Hearing} (λ k. record { answer = Packet used k; payload = take n after }) e
told_answer (Escape n) used after h = refl
told_answer (Run n) used after h = refl
told_answer Broken used after h = refl

-- ---- behind the first byte
closed_short : (room : ℕ) (body s : List ℕ) → length s < 2 → closed_of room body s ≡ only More
unfolding closed_of
closed_short room body [] h = refl
closed_short room body (a ∷ []) h = refl
closed_short room body (a ∷ b ∷ s) h = absurd (omega arith)

module _ (room : ℕ) (input : List ℕ) (end : ℕ) (e : end ≡ 1 + head_of in_body (drop 1 input)) where
  abbrev body : List ℕ
  body = take (end - 1) (drop 1 input)

  packet_at : packet_of room (drop 1 input) ≡ ended_of room body (drop end input)
  packet_at =
      let k : head_of in_body (drop 1 input) ≡ end - 1 = omega arith in
      let j : 1 + (end - 1) ≡ end = omega arith in
      ap (λ n. ended_of room (take n (drop 1 input)) (drop n (drop 1 input))) k
      ∙ ap (ended_of room body) (drop-drop (end - 1) 1 input ∙ ap (λ n. drop n input) j)

  pub packet_open : length input ≤ end → packet_of room (drop 1 input) ≡ only More
  unfolding ended_of
  packet_open h = packet_at ∙ ap (ended_of room body) (drop_of_length-le input h)

  module _ (h : end < length input) where
    body_length : length body ≡ end - 1
    body_length = length-take-le (end - 1) (drop 1 input) (rw (length-drop 1 input) (omega arith))

    pub packet_cut : get_or input end 0 ≡ 36 → packet_of room (drop 1 input) ≡ only (Damaged end)
    unfolding ended_of
    packet_cut m =
        let n : length body + 1 ≡ end = (let l : length body ≡ end - 1 = body_length in omega arith) in
        packet_at ∙ ap (ended_of room body) (drop-cons input end 0 h)
        ∙ ap (λ t. cond t (only (Damaged (length body + 1))) (closed_of room body (drop (suc end) input))) (eq-eqb _ 36 m)
        ∙ ap (λ k. only (Damaged k)) n

    module _ (m : get_or input end 0 ≡ 36 → ⊥) where
      packet_shut : packet_of room (drop 1 input) ≡ closed_of room body (drop (end + 1) input)
      unfolding ended_of
      packet_shut =
          packet_at ∙ ap (ended_of room body) (drop-cons input end 0 h)
          ∙ ap (λ t. cond t (only (Damaged (length body + 1))) (closed_of room body (drop (suc end) input))) (ne_eqb _ 36 m)
          ∙ ap (λ k. closed_of room body (drop k input)) (sym (add-one end))

      pub packet_short : length input - end < 3 → packet_of room (drop 1 input) ≡ only More
      packet_short l = packet_shut ∙ closed_short room body (drop (end + 1) input) (rw (length-drop (end + 1) input) (omega arith))

      packet_told : 3 ≤ length input - end → packet_of room (drop 1 input)
          ≡ cond (says_of (get_or input (end + 1) 0) (get_or input (end + 2) 0) (sum_of body)) (answered_of (end + 3) (read_of room body)) (only (Damaged (end + 3)))
      unfolding closed_of
      packet_told l =
          let n : length body + 4 ≡ end + 3 = (let l : length body ≡ end - 1 = body_length in omega arith) in
          let h1 : end + 1 < length input = omega arith in
          let h2 : end + 2 < length input = omega arith in
          let a2 : suc (end + 1) ≡ end + 2 = omega arith in
          packet_shut
          ∙ ap (closed_of room body) (drop-cons input (end + 1) 0 h1)
          ∙ ap (λ k. closed_of room body (get_or input (end + 1) 0 ∷ drop k input)) a2
          ∙ ap (λ s. closed_of room body (get_or input (end + 1) 0 ∷ s)) (drop-cons input (end + 2) 0 h2)
          ∙ ap (λ k. cond (says_of (get_or input (end + 1) 0) (get_or input (end + 2) 0) (sum_of body)) (answered_of k (read_of room body)) (only (Damaged k))) n

      pub packet_wrong : 3 ≤ length input - end → says_of (get_or input (end + 1) 0) (get_or input (end + 2) 0) (sum_of body) ≡ false
          → packet_of room (drop 1 input) ≡ only (Damaged (end + 3))
      packet_wrong l s = packet_told l ∙ ap (λ t. cond t (answered_of (end + 3) (read_of room body)) (only (Damaged (end + 3)))) s

      pub packet_whole : 3 ≤ length input - end → says_of (get_or input (end + 1) 0) (get_or input (end + 2) 0) (sum_of body) ≡ true
          → (course : Course) (after : List ℕ) (r : Heard) → Reads (read_of room body) course after → r ≡ answer_of course (end + 3) → told_of r after ≡ packet_of room (drop 1 input)
      packet_whole l s course after r reads a =
          ap (λ x. told_of x after) a
          ∙ told_answer course (end + 3) after reads.within
          ∙ ap (answered_of (end + 3)) reads.same
          ∙ sym (packet_told l ∙ ap (λ t. cond t (answered_of (end + 3) (read_of room body)) (only (Damaged (end + 3)))) s)
