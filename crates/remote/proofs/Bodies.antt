-- The body of a packet, byte by byte.
use mathlib.Core.Path.{◌≡◌, refl, ap, sym, ◌∙◌}
use mathlib.Core.List.{List, [], ◌∷◌, ◌++◌, append_assoc, append-nil}
use Prim.Native.Nat.{ℕ, ◌+◌, ◌%◌, ◌<◌}
use native.Mathlib.Numerals.{add-one}
use lib.ListN.{length, get_or, take}
use lib.Seq.{take-suc}
use Rattle.text.specs.Laid.{Laid}
use Rattle.text.proofs.Laying.{laid_then}
use Rattle.remote.specs.Sum.{total_of, sum_of}
use Rattle.remote.specs.Said.{coded_of, body_of}
use Rattle.remote.proofs.Sums.{sum_append}

body_append : (s t : List ℕ) → body_of (s ++ t) ≡ body_of s ++ body_of t
unfolding body_of
body_append [] t = refl
body_append (b ∷ s) t = ap (λ x. coded_of b ++ x) (body_append s t) ∙ sym (append_assoc (coded_of b) (body_of s) (body_of t))

-- the first i bytes, and the next
module _ (reply : List ℕ) (i : ℕ) (h : i < length reply) where
  body_next : body_of (take (i + 1) reply) ≡ body_of (take i reply) ++ coded_of (get_or reply i 0)
  unfolding body_of
  body_next =
      let e : take (i + 1) reply ≡ take i reply ++ get_or reply i 0 ∷ [] = rw (add-one i) (take-suc reply i 0 h) in
      ap body_of e
      ∙ body_append (take i reply) (get_or reply i 0 ∷ [])
      ∙ ap (λ x. body_of (take i reply) ++ x) (append-nil (coded_of (get_or reply i 0)))

  pub body_more : {out : List ℕ} {at : ℕ} {mid : List ℕ} {p : ℕ} {after : List ℕ} {next : ℕ}
      → Laid out at (body_of (take i reply)) mid p → Laid mid p (coded_of (get_or reply i 0)) after next → Laid out at (body_of (take (i + 1) reply)) after next
  body_more l k = rw body_next (laid_then l k)

  pub sum_next : (sum next : ℕ) → sum ≡ sum_of (body_of (take i reply)) → next ≡ (sum + total_of (coded_of (get_or reply i 0))) % 256 → next ≡ sum_of (body_of (take (i + 1) reply))
  sum_next sum next e k = k ∙ sum_append (body_of (take i reply)) (coded_of (get_or reply i 0)) sum e ∙ ap sum_of (sym body_next)
