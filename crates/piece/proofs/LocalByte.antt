-- A byte that may stand there or not: where it does not, the form stays where it was, and has seen that place.
use mathlib.Core.Path.{◌≡◌, refl, ap, sym, ◌∙◌}
use mathlib.Core.Bool.{Bool, true, false, cond}
use mathlib.Core.List.{List, [], ◌∷◌, ◌++◌}
use Prim.Native.Nat.{ℕ, ◌<◌}
use borrow.Author.Tests.{ltb-true, ltb-false}
use lib.Dec.{ltb}
use lib.ListN.{length, drop, drop_of_length-le}
use lib.Seq.{drop-cons}
use Rattle.piece.specs.Mark.{stands_of, agreed_of, word_from, word_of}
use Rattle.piece.specs.declared.mark.Mark.{Mark}
use Rattle.piece.proofs.Agreed.{stands_there, stands_past}
use Rattle.piece.proofs.Common.{stands_same}
use Rattle.piece.proofs.Local.{In, Local}
use Rattle.piece.proofs.LocalPieces.{word_local}

agreed_byte : (line : List ℕ) (at b : ℕ) → agreed_of (b ∷ []) (drop at line) ≡ cond (stands_of line at b) 1 0
unfolding agreed_of
agreed_byte line at b = go (ltb at (length line)) refl
  where
    go : (x : Bool) → ltb at (length line) ≡ x → agreed_of (b ∷ []) (drop at line) ≡ cond (stands_of line at b) 1 0
    go true e =
        ap (agreed_of (b ∷ [])) (drop-cons line at 0 (ltb-true _ _ e))
        ∙ ap (λ x. cond x 1 0) (sym (stands_there line at b (ltb-true _ _ e)))
    go false e =
        ap (agreed_of (b ∷ [])) (drop_of_length-le line (ltb-false _ _ e))
        ∙ ap (λ x. cond x 1 0) (sym (stands_past line at b (ltb-false _ _ e)))

module _ (c t t' : List ℕ) where
  pub stay_local : Local c t t' (λ l m. m)
  stay_local = record { back = λ m i. i; same = λ m i. refl }

  -- one byte at a place within the common beginning
  byte_same : (b : ℕ) (m : Mark) → In (length c) m → word_of (c ++ t') m (b ∷ []) ≡ word_of (c ++ t) m (b ∷ [])
  unfolding word_of
  byte_same b m i = go m.fits i.there
    where
      go : (f : Bool) → (f ≡ true → m.at < length c)
          → cond f (word_from m (b ∷ []) (agreed_of (b ∷ []) (drop m.at (c ++ t')))) m ≡ cond f (word_from m (b ∷ []) (agreed_of (b ∷ []) (drop m.at (c ++ t)))) m
      go true h =
          ap (word_from m (b ∷ []))
          (agreed_byte (c ++ t') m.at b ∙ ap (λ x. cond x 1 0) (stands_same c t t' m.at b (h refl)) ∙ sym (agreed_byte (c ++ t) m.at b))
      go false h = refl

  -- where the byte stands, the one goes on behind it; where not, the other goes on in its place
  module _ {f g : List ℕ → Mark → Mark} (b : ℕ) (p : Local c t t' f) (q : Local c t t' g) where
    from : (m : Mark) → In (length c) (cond (word_of (c ++ t) m (b ∷ [])).fits (f (c ++ t) (word_of (c ++ t) m (b ∷ []))) (g (c ++ t) m)) → In (length c) m
    from m i = go (word_of (c ++ t) m (b ∷ [])).fits i
      where
        go : (x : Bool) → In (length c) (cond x (f (c ++ t) (word_of (c ++ t) m (b ∷ []))) (g (c ++ t) m)) → In (length c) m
        go true i = (word_local c t t' (b ∷ [])).back m (p.back (word_of (c ++ t) m (b ∷ [])) i)
        go false i = q.back m i

    told : (m w : Mark) (x : Bool) → In (length c) (cond x (f (c ++ t) w) (g (c ++ t) m)) → cond x (f (c ++ t') w) (g (c ++ t') m) ≡ cond x (f (c ++ t) w) (g (c ++ t) m)
    told m w true i = p.same w i
    told m w false i = q.same m i

    pub tried_local : Local c t t' (λ l m. cond (word_of l m (b ∷ [])).fits (f l (word_of l m (b ∷ []))) (g l m))
    tried_local = record {
      back = from;
      same = λ m i.
          ap (λ w. cond w.fits (f (c ++ t') w) (g (c ++ t') m)) (byte_same b m (from m i))
          ∙ told m (word_of (c ++ t) m (b ∷ [])) (word_of (c ++ t) m (b ∷ [])).fits i;
    }
