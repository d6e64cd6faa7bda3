-- A good image is the image of the machine that it holds: what is decoded and encoded again is the same bytes. And what is
-- encoded is good exactly if the machine keeps the rules.
use Prim.Native.Nat.{ℕ, zero, suc, ◌+◌}
use mathlib.Core.Path.{◌≡◌, refl, sym, ◌∙◌}
use mathlib.Core.Bool.{true}
use mathlib.Core.List.{List, [], ◌∷◌}
use native.Mathlib.Omega.{arith}
use borrow.Author.Tests.{eqb-true, eq-eqb, lt-ltb}
use lib.Dec.{eqb, leb-zero}
use lib.ListN.{length, get_or, take, drop, replicate, length-drop, get_or-replicate}
use lib.Seq.{get_or-drop}
use Rattle.word.specs.Lists.{Below}
use Rattle.word.specs.Big.{word_at}
use Rattle.word.proofs.Cond.{both}
use Rattle.word.proofs.Lists.{tabulate_get_d, tabulate_ext}
use Rattle.printer.proofs.Each.{all_hold, each_holds}
use Rattle.state.specs.declared.machine.Machine.{Machine}
use Rattle.state.specs.Layout.{header, bytes_of, machine_of, WellTyped}
use Rattle.state.proofs.Stored.{length_image, disks_zero}
use Rattle.state.proofs.RoundTrip.{decode_encode, encode_decode}
use Rattle.rules.specs.Rules.{header_keeps, disks_keep, bytes_keep, journal_keeps, machine_keeps, keeps_rules, good_image}

-- with no step on hand and the first slot next, the journal's rule holds for any journal
pub none_kept : (slots : ℕ) → journal_keeps (record { on_hand = 0; next_slot = 0 }) slots ≡ true
none_kept zero = refl
none_kept (suc n) = rw (leb-zero (suc n), lt-ltb 0 (suc n) (omega arith))

-- the length word and the version are these five bytes
header_bytes : (b : List ℕ) → length b ≡ 741 → Below 256 b → header_keeps b ≡ true → take 5 b ≡ header
unfolding word_at
header_bytes [] l small e = absurd (omega arith)
header_bytes (x₀ ∷ []) l small e = absurd (omega arith)
header_bytes (x₀ ∷ x₁ ∷ []) l small e = absurd (omega arith)
header_bytes (x₀ ∷ x₁ ∷ x₂ ∷ []) l small e = absurd (omega arith)
header_bytes (x₀ ∷ x₁ ∷ x₂ ∷ x₃ ∷ []) l small e = absurd (omega arith)
header_bytes (x₀ ∷ x₁ ∷ x₂ ∷ x₃ ∷ x₄ ∷ b) l small e =
    let bytes = x₀ ∷ x₁ ∷ x₂ ∷ x₃ ∷ x₄ ∷ b in
    let h = both (eqb (word_at bytes 0) 737) (eqb x₄ 3) e in
    let word = eqb-true (word_at bytes 0) 737 h.0 in
    let s₁ = small 1 (omega arith) in
    let s₂ = small 2 (omega arith) in
    let s₃ = small 3 (omega arith) in
    let e₀ : x₀ ≡ 0 = omega arith in
    let e₁ : x₁ ≡ 0 = omega arith in
    let e₂ : x₂ ≡ 2 = omega arith in
    let e₃ : x₃ ≡ 225 = omega arith in
    rw (e₀, e₁, e₂, e₃, eqb-true x₄ 3 h.1)

-- the bytes of the disks' words are 0
no_disks : (b : List ℕ) → length b ≡ 741 → disks_keep b ≡ true → drop 509 b ≡ replicate 232 0
no_disks b l e =
    let rest = drop 509 b in
    let long : length rest ≡ 232 = omega (arith, length-drop 509 b) in
    sym (rw long at (tabulate_get_d rest 0))
    ∙ tabulate_ext 232 (λ (k : ℕ). get_or rest k 0) (λ (k : ℕ). 0)
    (λ k h. get_or-drop 509 b k 0 ∙ eqb-true (get_or b (509 + k) 0) 0 (each_holds 232 (λ (k : ℕ). eqb (get_or b (509 + k) 0) 0) e k h))

pub good_same : (b : List ℕ) (paper journal : ℕ) → Below 256 b → good_image b paper journal ≡ true → bytes_of (machine_of b) ≡ b
unfolding keeps_rules
good_same b paper journal small e =
    let h = both (eqb (length b) 741) (keeps_rules b paper journal) e in
    let l = eqb-true (length b) 741 h.0 in
    let keeps = both (bytes_keep b) (machine_keeps (machine_of b) paper journal) h.1 in
    let bytes = both (header_keeps b) (disks_keep b) keeps.0 in
    encode_decode b l (header_bytes b l small bytes.0) (no_disks b l bytes.1) small

header_written : (m : Machine) → header_keeps (bytes_of m) ≡ true
unfolding bytes_of word_at
header_written m = refl

disks_written : (m : Machine) → WellTyped m → disks_keep (bytes_of m) ≡ true
disks_written m t = all_hold 232 (λ (k : ℕ). eqb (get_or (bytes_of m) (509 + k) 0) 0) (λ k h. eq-eqb _ 0 (disks_zero m t.sized k ∙ get_or-replicate 232 k 0 0 h))

pub encoded_good : (m : Machine) (paper journal : ℕ) → WellTyped m → good_image (bytes_of m) paper journal ≡ machine_keeps m paper journal
unfolding keeps_rules
encoded_good m paper journal t =
    rw (eq-eqb (length (bytes_of m)) 741 (length_image m t.sized), header_written m, disks_written m t, decode_encode m t)
