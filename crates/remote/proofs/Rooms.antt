-- Bytes laid behind the payload so far.
use mathlib.Core.Path.{◌≡◌, ap, sym, ◌∙◌}
use mathlib.Core.List.{List, ◌++◌}
use Prim.Native.Nat.{ℕ, ◌+◌, ◌-◌, ◌<◌, ◌≤◌}
use native.Mathlib.Omega.{arith}
use borrow.Author.Tests.{le-leb, lt-leb}
use lib.ListN.{length, take, replicate, length-replicate}
use lib.Seq.{length-take-le}
use Rattle.remote.specs.Payload.{plain, added_of}
use Rattle.remote.specs.Course.{Reads}
use Rattle.remote.specs.declared.course.Course.TheVariants.{Plain, Broken}

module _ (room : List ℕ) (n b times : ℕ) (h : n ≤ length room) where
  added_fits : length (take n room) + length (replicate times b) ≡ n + times
  added_fits = rw (length-take-le n room h, length-replicate times b)

  pub lay_whole : (after : List ℕ) (to : ℕ) → to ≡ n + times → to ≤ length room → length after ≡ length room → take to after ≡ take n room ++ replicate (to - n) b
      → Reads (added_of (length room) (take n room) (replicate times b)) (Plain to) after
  unfolding added_of
  lay_whole after to t l e s =
      let k : length (take n room) + length (replicate times b) ≤ length room = rw added_fits (omega arith) in
      let m : to - n ≡ times = omega arith in
      record {
        same = ap plain (s ∙ ap (λ j. take n room ++ replicate j b) m) ∙ sym (rw (le-leb _ _ k));
        within = omega arith;
      }

  pub lay_none : length room - n < times → Reads (added_of (length room) (take n room) (replicate times b)) Broken room
  unfolding added_of
  lay_none l =
      let k : length room < length (take n room) + length (replicate times b) = rw added_fits (omega arith) in
      record { same = sym (rw (lt-leb _ _ k)); within = omega arith }
