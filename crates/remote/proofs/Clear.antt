-- A frame whose body is known: bytes that are neither `#` nor `$`.
use mathlib.Core.Path.{◌≡◌, refl, ap, sym, ◌∙◌}
use mathlib.Core.Bool.{Bool, true, false, cond}
use mathlib.Core.List.{List, [], ◌∷◌, ◌++◌, append-nil}
use Prim.Native.Nat.{ℕ, zero, suc, ◌+◌, ◌-◌, ◌<◌, ◌≤◌}
use native.Mathlib.Nat.{add-zero}
use native.Mathlib.Omega.{arith}
use lib.Dec.{leb}
use borrow.Author.Tests.{leb-true, leb-false}
use lib.ListN.{length, take, drop, length-append}
use lib.Seq.{take-append_seam, drop-append_seam, take-append-le, take-append-add}
use Rattle.text.specs.Head.{head_of}
use Rattle.text.proofs.Digits.{head_append}
use Rattle.remote.specs.Sum.{sum_of, says_of}
use Rattle.remote.specs.Payload.{read_of}
use Rattle.remote.specs.Heard.{only, in_body, answered_of, closed_of, ended_of, packet_of, heard_of}
use Rattle.remote.specs.declared.kind.Heard.TheVariants.{More, Damaged}

abbrev pub Clear : List ℕ → Type 0
Clear s = head_of in_body s ≡ length s

pub clear_append : (s t : List ℕ) → Clear s → Clear t → Clear (s ++ t)
clear_append s t p q = head_append in_body s t p ∙ ap (λ n. length s + n) q ∙ sym (length-append s t)

pub clear_take : (s : List ℕ) (j : ℕ) → Clear s → Clear (take j s)
unfolding head_of
clear_take s zero h = refl
clear_take [] (suc j) h = refl
clear_take (b ∷ s) (suc j) h = go (in_body b) h (clear_take s j)
  where
    go : (t : Bool) → cond t (suc (head_of in_body s)) 0 ≡ suc (length s) → (Clear s → Clear (take j s)) → cond t (suc (head_of in_body (take j s))) 0 ≡ suc (length (take j s))
    go true e ih = let l : head_of in_body s ≡ length s = omega arith in ap suc (ih l)
    go false e ih = absurd (omega arith)

module _ (room : ℕ) (body : List ℕ) (clear : Clear body) where
  packet_split : (rest : List ℕ) → head_of in_body rest ≡ 0 → packet_of room (body ++ rest) ≡ ended_of room body rest
  packet_split rest none =
      let n : head_of in_body (body ++ rest) ≡ length body = head_append in_body body rest clear ∙ ap (λ k. length body + k) none ∙ add-zero (length body) in
      ap (λ k. ended_of room (take k (body ++ rest)) (drop k (body ++ rest))) n
      ∙ ap (λ s. ended_of room s (drop (length body) (body ++ rest))) (take-append_seam body rest)
      ∙ ap (ended_of room body) (drop-append_seam body rest)

  pub heard_frame : (high low : ℕ) (rest : List ℕ) → heard_of (36 ∷ (body ++ 35 ∷ high ∷ low ∷ rest)) room
      ≡ cond (says_of high low (sum_of body)) (answered_of (length body + 4) (read_of room body)) (only (Damaged (length body + 4)))
  unfolding heard_of ended_of closed_of head_of
  heard_frame high low rest = packet_split (35 ∷ high ∷ low ∷ rest) refl

  -- a wrong checksum
  pub heard_wrong : (high low : ℕ) (rest : List ℕ) → says_of high low (sum_of body) ≡ false → heard_of (36 ∷ (body ++ 35 ∷ high ∷ low ∷ rest)) room ≡ only (Damaged (length body + 4))
  heard_wrong high low rest e = heard_frame high low rest ∙ ap (λ t. cond t (answered_of (length body + 4) (read_of room body)) (only (Damaged (length body + 4)))) e

  -- a packet that the next one cuts off is left at its `$`
  pub heard_next : (rest : List ℕ) → heard_of (36 ∷ (body ++ 36 ∷ rest)) room ≡ only (Damaged (length body + 1))
  unfolding heard_of ended_of head_of
  heard_next rest = packet_split (36 ∷ rest) refl

  -- a packet that is not whole yet
  heard_open : heard_of (36 ∷ body) room ≡ only More
  unfolding heard_of ended_of head_of
  heard_open = ap (packet_of room) (sym (append-nil body)) ∙ packet_split [] refl

  heard_marked : heard_of (36 ∷ (body ++ 35 ∷ [])) room ≡ only More
  unfolding heard_of ended_of closed_of head_of
  heard_marked = packet_split (35 ∷ []) refl

  heard_half : (high : ℕ) → heard_of (36 ∷ (body ++ 35 ∷ high ∷ [])) room ≡ only More
  unfolding heard_of ended_of closed_of head_of
  heard_half high = packet_split (35 ∷ high ∷ []) refl

pub heard_cut : (room : ℕ) (body : List ℕ) → Clear body → (high low k : ℕ) → k < length body + 4
    → heard_of (take k (36 ∷ (body ++ 35 ∷ high ∷ low ∷ []))) room ≡ only More
unfolding heard_of
heard_cut room body clear high low zero h = refl
heard_cut room body clear high low (suc j) h = go (leb j (length body)) refl
  where
    closing : List ℕ
    closing = 35 ∷ high ∷ low ∷ []

    behind : (m : ℕ) → m < 3 → (m ≡ 0 → ⊥) → heard_of (36 ∷ (body ++ take m closing)) room ≡ only More
    behind zero l some = absurd (some refl)
    behind (suc zero) l some = heard_marked room body clear
    behind (suc (suc zero)) l some = heard_half room body clear high
    behind (suc (suc (suc m))) l some = absurd (omega arith)

    go : (t : Bool) → leb j (length body) ≡ t → heard_of (36 ∷ take j (body ++ closing)) room ≡ only More
    go true e =
        let l : j ≤ length body = leb-true j (length body) e in
        ap (λ s. heard_of (36 ∷ s) room) (take-append-le j body closing l) ∙ heard_open room (take j body) (clear_take body j clear)
    go false e =
        let l : length body < j = leb-false j (length body) e in
        let n : j ≡ length body + (j - length body) = omega arith in
        ap (λ i. heard_of (36 ∷ take i (body ++ closing)) room) n
        ∙ ap (λ s. heard_of (36 ∷ s) room) (take-append-add body closing (j - length body))
        ∙ behind (j - length body) (omega arith) (λ z. omega arith)
