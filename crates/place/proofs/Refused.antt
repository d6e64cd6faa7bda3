-- Where a line is refused: nothing behind the place matters. Every line that begins with the same bytes, up to and including that at the place, is refused at the
-- same place; so no accepted line begins with them. It is told of lines in which no number at or before the place is too large.
use mathlib.Core.Path.{◌≡◌, refl, ap, sym, ◌∙◌}
use mathlib.Core.Bool.{Bool, true, false, cond}
use mathlib.Core.List.{List, ◌++◌}
use Prim.Native.Nat.{ℕ, suc, ◌+◌, ◌<◌}
use native.Mathlib.Omega.{arith}
use borrow.Author.Tests.{lt-leb, leb-false}
use lib.Dec.{leb}
use lib.ListN.{length, take, drop, length-append, take-append-drop}
use lib.Seq.{length-take-le}
use Rattle.text.specs.Number.{number_of}
use Rattle.std.specs.Prelude.{Result, Ok, Err}
use Rattle.text.specs.declared.found.NoNumber.TheVariants.{TooLarge}
use Rattle.text.proofs.Common.{behind_same}
use Rattle.piece.specs.Mark.{stands_of, is_space, behind_spaces}
use Rattle.piece.proofs.Common.{stands_same}
use Rattle.command.specs.Table.{forms_of}
use Rattle.command.specs.Line.{asked_of, said_of, start_of, command_of}
use Rattle.command.specs.declared.kinds.Command.{Command}
use Rattle.command.specs.declared.kinds.Command.TheVariants as command
use Rattle.place.proofs.Forms.{forms}

-- the place of a refusal, behind 1; 0 for a command
refusal : Result Command ℕ → ℕ
refusal (Err place) = suc place
refusal (Ok c) = 0

-- what a refused line comes to
pub record Missed (l : List ℕ) (s p : ℕ) : Type 0 where
  pub inside : s < length l
  pub begun : stands_of l s 35 ≡ false
  pub fits : (forms_of l (start_of s)).mark.fits ≡ false
  pub reached : (forms_of l (start_of s)).mark.reached ≡ p

missed : (l : List ℕ) (p : ℕ) → command_of l ≡ Err p → Missed l (behind_spaces l 0) p
unfolding command_of refusal
missed l p e =
    go (leb (length l) (behind_spaces l 0)) refl (stands_of l (behind_spaces l 0) 35) refl (forms_of l (start_of (behind_spaces l 0))).mark.fits refl (ap refusal e)
  where
    go : (a : Bool) → leb (length l) (behind_spaces l 0) ≡ a → (b : Bool) → stands_of l (behind_spaces l 0) 35 ≡ b → (f : Bool) → (forms_of l (start_of (behind_spaces l 0))).mark.fits ≡ f
        → refusal (cond a (Ok command.Nothing) (cond b (Ok command.Nothing) (cond f (Ok (asked_of l (start_of (behind_spaces l 0)) (forms_of l (start_of (behind_spaces l 0))).form (forms_of l (start_of (behind_spaces l 0))).value)) (Err (forms_of l (start_of (behind_spaces l 0))).mark.reached)))) ≡ suc p
        → Missed l (behind_spaces l 0) p
    go true ea b eb f ef h = absurd (omega arith)
    go false ea true eb f ef h = absurd (omega arith)
    go false ea false eb true ef h = absurd (omega arith)
    go false ea false eb false ef h = record { inside = leb-false _ _ ea; begun = eb; fits = ef; reached = omega arith }

module _ (c t t' : List ℕ) (p : ℕ) (none : (at place : ℕ) → number_of (c ++ t) at ≡ Err (TooLarge place) → place < length c → ⊥) where
  -- from the first byte on: s is its place
  module _ (s : ℕ) (h : Missed (c ++ t) s p) (l : p < length c) (within : s < length c) where
    inside : (u : List ℕ) → s < length (c ++ u)
    inside u = omega (arith, length-append c u, within)

    same_mark : (forms_of (c ++ t') (start_of s)).mark ≡ (forms_of (c ++ t) (start_of s)).mark
    same_mark = (forms c t t' none (start_of s)).told h.fits (rw h.reached l)

    said : said_of (c ++ t') (start_of s) (forms_of (c ++ t') (start_of s)) ≡ Err p
    said =
        ap (λ m. cond m.fits (Ok (asked_of (c ++ t') (start_of s) (forms_of (c ++ t') (start_of s)).form (forms_of (c ++ t') (start_of s)).value)) (Err m.reached)) same_mark
        ∙ ap (λ b. cond b (Ok (asked_of (c ++ t') (start_of s) (forms_of (c ++ t') (start_of s)).form (forms_of (c ++ t') (start_of s)).value)) (Err (forms_of (c ++ t) (start_of s)).mark.reached)) h.fits
        ∙ ap Err h.reached

    from_start : behind_spaces (c ++ t') 0 ≡ s → command_of (c ++ t') ≡ Err p
    unfolding command_of
    from_start e =
        ap (λ q. cond (leb (length (c ++ t')) q) (Ok command.Nothing) (cond (stands_of (c ++ t') q 35) (Ok command.Nothing) (said_of (c ++ t') (start_of q) (forms_of (c ++ t') (start_of q))))) e
        ∙ ap (λ b. cond b (Ok command.Nothing) (cond (stands_of (c ++ t') s 35) (Ok command.Nothing) (said_of (c ++ t') (start_of s) (forms_of (c ++ t') (start_of s))))) (lt-leb (length (c ++ t')) s (inside t'))
        ∙ ap (λ b. cond b (Ok command.Nothing) (said_of (c ++ t') (start_of s) (forms_of (c ++ t') (start_of s)))) (stands_same c t t' s 35 within ∙ h.begun)
        ∙ said

  -- the law
  pub refused_stays : command_of (c ++ t) ≡ Err p → p < length c → command_of (c ++ t') ≡ Err p
  refused_stays e l =
      let h : Missed (c ++ t) (behind_spaces (c ++ t) 0) p = missed (c ++ t) p e in
      let within : behind_spaces (c ++ t) 0 < length c = ((forms c t t none (start_of (behind_spaces (c ++ t) 0))).begun h.fits (rw h.reached l)).there refl in
      from_start (behind_spaces (c ++ t) 0) h l within (ap (λ n. 0 + n) (behind_same c t t' is_space 0 within))

-- said of the line itself: none that begins with its bytes up to and including that at the place is accepted
pub refused_at : (line : List ℕ) (p : ℕ) → command_of line ≡ Err p → p < length line
    → ((at place : ℕ) → number_of line at ≡ Err (TooLarge place) → p < place)
    → (t : List ℕ) → command_of (take (suc p) line ++ t) ≡ Err p
refused_at line p e l none t =
    let whole : take (suc p) line ++ drop (suc p) line ≡ line = take-append-drop (suc p) line in
    let long : length (take (suc p) line) ≡ suc p = length-take-le (suc p) line l in
    refused_stays (take (suc p) line) (drop (suc p) line) t p
    (λ at place h k. (let far : p < place = none at place (ap (λ s. number_of s at) (sym whole) ∙ h) in omega arith))
    (ap command_of whole ∙ e)
    (omega arith)
