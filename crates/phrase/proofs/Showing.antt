-- What was laid into an empty array is shown from its start to the place behind it.
use Rattle.std.proofs.Common.{◌≡◌, ℕ, ◌+◌, ◌≤◌, List, ◌++◌, length, take, drop, ◌∙◌, arith}
use Rattle.std.proofs.lemmas.List.Edits.{sets-eq}
use Rattle.std.proofs.Math.Seq.{take-append_seam}
use Rattle.text.specs.Laid.{Laid, behind_of}

pub shown : (bs : List ℕ) {old after : List ℕ} {n : ℕ} → length bs ≤ length old → Laid old 0 bs after n → take n after ≡ bs
shown bs {old} {after} {n} fits laid =
    let place : n ≡ length bs = laid.place ∙ (let e : behind_of (length old) 0 (length bs) ≡ length bs = omega arith in e) in
    let room : 0 + length bs ≤ length old = omega arith in
    let parts : after ≡ bs ++ drop (0 + length bs) old = laid.buffer ∙ sets-eq bs old 0 room in
    rw (place, parts) (take-append_seam bs (drop (0 + length bs) old))
