-- A setting of `new` that was left out or read, and a file, read a line only as far as they go.
use mathlib.Core.Path.{◌≡◌, refl, ap, sym, ◌∙◌}
use mathlib.Core.Bool.{Bool, true, false, cond, false≢true}
use mathlib.Core.List.{List, ◌++◌}
use Prim.Native.Nat.{ℕ, ◌<◌}
use lib.ListN.{length}
use Rattle.text.specs.Number.{number_of}
use Rattle.std.specs.Prelude.{Err}
use Rattle.text.specs.declared.found.NoNumber.TheVariants.{TooLarge}
use Rattle.piece.specs.Mark.{gap_of, word_of, number_in}
use Rattle.piece.specs.declared.mark.Mark.{Mark}
use Rattle.piece.specs.declared.mark.Found.{Found}
use Rattle.piece.proofs.Local.{In, Local, then_local, local_by}
use Rattle.piece.proofs.LocalPieces.{gap_local, word_local, number_local, name_local}
use Rattle.forms.specs.Fresh.{setting_of, file_of}

left : Mark → Mark → Mark
left m x = record { at = m.at; fits = m.fits; reached = x.reached }

-- what a setting leaves, by what its word left
picked : List ℕ → Mark → Mark → Mark
picked l m x = cond x.fits (number_in l (gap_of l x)).mark (left m x)

mark_of : (b : Bool) (a z : Found ℕ) → (cond b a z).mark ≡ cond b a.mark z.mark
mark_of true a z = refl
mark_of false a z = refl

setting_is : (w : List ℕ) (or : ℕ) (l : List ℕ) (m : Mark) → (setting_of l m w or).mark ≡ picked l m (word_of l (gap_of l m) w)
unfolding setting_of picked left
setting_is w or l m = mark_of (word_of l (gap_of l m) w).fits (number_in l (gap_of l (word_of l (gap_of l m) w))) (record { value = or; mark = record { at = m.at; fits = m.fits; reached = (word_of l (gap_of l m) w).reached } })

module _ (c t t' : List ℕ) (none : (at place : ℕ) → number_of (c ++ t) at ≡ Err (TooLarge place) → place < length c → ⊥) where
  read : Local c t t' (λ l m. (number_in l (gap_of l m)).mark)
  read = then_local (gap_local c t t') (number_local c t t' none)

  seen_by : (m x : Mark) → In (length c) (picked (c ++ t) m x) → In (length c) x
  unfolding picked left
  seen_by m x i = go x.fits refl i
    where
      go : (b : Bool) → x.fits ≡ b → In (length c) (cond b (number_in (c ++ t) (gap_of (c ++ t) x)).mark (left m x)) → In (length c) x
      go true e i = read.back x i
      go false e i = record { there = λ f. absurd (false≢true (sym e ∙ f)); seen = i.seen }

  picked_same : (m x : Mark) → In (length c) (picked (c ++ t) m x) → picked (c ++ t') m x ≡ picked (c ++ t) m x
  unfolding picked
  picked_same m x i = go x.fits i
    where
      go : (b : Bool) → In (length c) (cond b (number_in (c ++ t) (gap_of (c ++ t) x)).mark (left m x))
          → cond b (number_in (c ++ t') (gap_of (c ++ t') x)).mark (left m x) ≡ cond b (number_in (c ++ t) (gap_of (c ++ t) x)).mark (left m x)
      go true i = read.same x i
      go false i = refl

  pub setting_local : (w : List ℕ) (or : ℕ) → Local c t t' (λ l m. (setting_of l m w or).mark)
  setting_local w or =
      let tried : Local c t t' (λ l m. word_of l (gap_of l m) w) = then_local (gap_local c t t') (word_local c t t' w) in
      local_by (λ l m. picked l m (word_of l (gap_of l m) w)) (λ l m. (setting_of l m w or).mark) (setting_is w or)
      (record {
        back = λ m i. tried.back m (seen_by m (word_of (c ++ t) (gap_of (c ++ t) m) w) i);
        same = λ m i.
            ap (picked (c ++ t') m) (tried.same m (seen_by m (word_of (c ++ t) (gap_of (c ++ t) m) w) i))
            ∙ picked_same m (word_of (c ++ t) (gap_of (c ++ t) m) w) i;
      })

pub file_local : (c t t' w : List ℕ) → Local c t t' (λ l m. (file_of l m w).mark)
unfolding file_of
file_local c t t' w = then_local (then_local (then_local (gap_local c t t') (word_local c t t' w)) (gap_local c t t')) (name_local c t t')
