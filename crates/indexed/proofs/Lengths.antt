-- A step and a step taken back leave the index as long as it was, whatever its bytes are.
use Prim.Native.Nat.{ℕ, zero, suc, ◌*◌}
use mathlib.Core.Path.{◌≡◌, refl, ◌∙◌}
use mathlib.Core.Bool.{Bool, true, false, cond}
use mathlib.Core.List.{List, [], ◌∷◌}
use lib.ListN.{length}
use lib.Seq.{length-sets}
use lib.Dec.{ltb}
use Rattle.ring.specs.Slots.{Ring}
use Rattle.std.proofs.Common.{Option, Some, None}
use Rattle.frames.specs.OnHand.{Touch}
use Rattle.frames.specs.Keep.{Kept, is_at}
use Rattle.frames.specs.Bytes.{entry_bytes, entry_at, put_entry, replace_in, mark_in, replace_all_in, mark_all_in}
use Rattle.indexed.specs.Ahead.{Ahead, bare, touches, dropped_of, onward_of}
use Rattle.indexed.specs.Base.{Base, backward_of}

put_long : (x : List ℕ) (f : ℕ) (e : Option ℕ) → length (put_entry x f e) ≡ length x
put_long x f e = length-sets x (16 * f) (entry_bytes e)

-- changed or left
cond_long : (t : Bool) (y x : List ℕ) → length y ≡ length x → length (cond t y x) ≡ length x
cond_long true y x e = e
cond_long false y x e = refl

pub replace_all_long : (clock : ℕ) (e : Kept → Option ℕ) (ks : List Kept) (x : List ℕ) → length (replace_all_in clock e ks x) ≡ length x
replace_all_long clock e [] x = refl
replace_all_long clock e (k ∷ ks) x =
    let f = k.touch.frame in
    replace_all_long clock e ks (replace_in clock f (e k) x) ∙ cond_long (is_at clock (entry_at x f)) (put_entry x f (e k)) x (put_long x f (e k))

pub mark_all_long : (clock : ℕ) (ts : List Touch) (x : List ℕ) → length (mark_all_in clock ts x) ≡ length x
mark_all_long clock [] x = refl
mark_all_long clock (t ∷ ts) x =
    let f = t.frame in
    mark_all_long clock ts (mark_in clock f t.changed x) ∙ cond_long t.changed (put_entry x f (Some clock)) x (put_long x f (Some clock))

module _ (a : Ahead) (g : Ring) (s : a.State) (x : List ℕ) where
  dropped_long : (m : ℕ) → length (dropped_of a m g s x) ≡ length x
  dropped_long m = cond_long (ltb m g.hand) _ x (rw replace_all_long)

  -- a step, with n slots
  pub onward_long : (n : ℕ) → length (onward_of a n g s x) ≡ length x
  onward_long zero = refl
  onward_long (suc m) = mark_all_long _ (touches a s) (dropped_of a m g s x) ∙ dropped_long m

-- a step taken back
pub backward_long : (b : Base) (h : ℕ) (r : List ℕ) (s : b.ahead.State) (x : List ℕ) → length (backward_of b h r s x) ≡ length x
backward_long b h r s x = replace_all_long _ _ (bare b.ahead r) x
