-- No ROM has a part in taking back: it is the same whatever ROMs the machine ran with.
use Prim.Native.Nat.{ℕ, zero, suc, ◌-◌}
use mathlib.Core.Path.{◌≡◌, refl, ap, ap₂, ◌∙◌}
use mathlib.Core.Bool.{Bool, true, false, cond, ◌&&◌}
use mathlib.Core.List.{List}
use lib.Dec.{ltb}
use Rattle.ring.specs.Slots.{Ring, lowered}
use Rattle.ring.specs.Run.{Config}
use Rattle.ring.specs.Back.{How, Took, record_at, undone, undone_side, all_fit, take_back, done, too_far, bad_record}
use Rattle.record.specs.Layout.{record_of}
use Rattle.step.specs.World.{World, Roms}
use Rattle.undo.specs.Undo.{view_of, undo_of}
use Rattle.undo.specs.Fit.{fit_of}
use Rattle.back.specs.Back.{both, no_roms}

module _ (roms : Roms) (n : ℕ) (bytes : List ℕ) (next : ℕ) where
  pub undone_roms : (k : ℕ) (w : World) → undone (both roms) n bytes next k w ≡ undone (both no_roms) n bytes next k w
  unfolding undone
  undone_roms zero w = refl
  undone_roms (suc k) w = ap (undo_of (record_of (record_at (both no_roms) n bytes next k))) (undone_roms k w)

  pub fit_roms : (k : ℕ) (w : World) → all_fit (both roms) n bytes next k w ≡ all_fit (both no_roms) n bytes next k w
  unfolding all_fit
  fit_roms zero w = refl
  fit_roms (suc k) w =
      ap₂ (λ (before here : Bool). before && here) (fit_roms k w)
      (ap (λ (s : World). fit_of (record_at (both no_roms) n bytes next k) (view_of s)) (undone_roms k w))

  pub side_roms : (k hand : ℕ) (w : World) (x : List ℕ) → undone_side (both roms) n bytes next k hand w x ≡ undone_side (both no_roms) n bytes next k hand w x
  unfolding undone_side
  side_roms zero hand w x = refl
  side_roms (suc k) hand w x =
      ap₂ (λ (s : World) (y : List ℕ). (both no_roms).backward (hand - k) (record_at (both no_roms) n bytes next k) s y) (undone_roms k w) (side_roms k hand w x)

-- ---- take-back

-- what there is of it beside the type of machine that it is of
pub record Plain : Type 0 where
  pub state : World
  pub side : List ℕ
  pub ring : Ring
  pub answer : How

abbrev pub plain_of : (roms : Roms) → Took (both roms) → Plain
plain_of roms t = record { state = t.config.state; side = t.config.side; ring = t.config.ring; answer = t.answer }

abbrev pub config_in : (roms : Roms) → World → List ℕ → Ring → Config (both roms).forward
config_in roms w x g = record { state = w; side = x; ring = g }

-- by the two tests and the state and the index that undoing gives
abbrev took_by : (roms : Roms) → ℕ → ℕ → World → List ℕ → Ring → Bool → Bool → World → List ℕ → Took (both roms)
took_by roms n k w x g far fit back left =
    cond far (record { config = config_in roms w x g; answer = too_far })
    (cond fit (record { config = config_in roms back left (lowered n k g); answer = done })
    (record { config = config_in roms w x g; answer = bad_record }))

by_roms : (roms : Roms) (n k : ℕ) (w : World) (x : List ℕ) (g : Ring) (far fit : Bool) (back : World) (left : List ℕ) →
    plain_of roms (took_by roms n k w x g far fit back left) ≡ plain_of no_roms (took_by no_roms n k w x g far fit back left)
by_roms roms n k w x g true fit back left = refl
by_roms roms n k w x g false true back left = refl
by_roms roms n k w x g false false back left = refl

pub back_roms : (roms : Roms) (n k : ℕ) (w : World) (x : List ℕ) (g : Ring) →
    plain_of roms (take_back (both roms) n k (config_in roms w x g)) ≡ plain_of no_roms (take_back (both no_roms) n k (config_in no_roms w x g))
unfolding take_back
back_roms roms n k w x g =
    let far = ltb g.hand k in
    let left = undone_side (both no_roms) n g.bytes g.next k g.hand w x in
    ap₂ (λ (fit : Bool) (back : World). plain_of roms (took_by roms n k w x g far fit back (undone_side (both roms) n g.bytes g.next k g.hand w x)))
    (fit_roms roms n g.bytes g.next k w)
    (undone_roms roms n g.bytes g.next k w)
    ∙ ap (λ (y : List ℕ). plain_of roms (took_by roms n k w x g far (all_fit (both no_roms) n g.bytes g.next k w) (undone (both no_roms) n g.bytes g.next k w) y))
    (side_roms roms n g.bytes g.next k g.hand w x)
    ∙ by_roms roms n k w x g far (all_fit (both no_roms) n g.bytes g.next k w) (undone (both no_roms) n g.bytes g.next k w) left
