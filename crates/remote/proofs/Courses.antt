-- The payload read one byte on.
use mathlib.Core.Path.{◌≡◌, refl, ap, sym, ◌∙◌}
use mathlib.Core.Bool.{Bool, true, false, cond, ◌&&◌}
use mathlib.Core.List.{List}
use Prim.Native.Nat.{ℕ, ◌+◌, ◌-◌, ◌<◌, ◌≤◌}
use native.Mathlib.Numerals.{add-one}
use native.Mathlib.Omega.{arith}
use borrow.Author.Tests.{lt-ltb, le-leb, lt-leb}
use lib.Dec.{ltb, leb}
use lib.ListN.{length, get_or, take, drop, replicate, drop_of_length-le}
use lib.Seq.{length-take-le, get_or-take, drop-cons}
use Rattle.remote.specs.Payload.{Reading, broken, added_of, last_of, run_of, step_of, steps_of}
use Rattle.remote.specs.Course.{Reads, reading_of, laid_in}
use Rattle.remote.specs.declared.course.Course.{Course}
use Rattle.remote.specs.declared.course.Course.TheVariants.{Broken}

module _ (room : List ℕ) (n b : ℕ) (h : n ≤ length room) where
  run_length : length (take n room) ≡ n
  run_length = length-take-le n room h

  run_test : (t : Bool) → (ltb 0 (length (take n room)) && (leb 32 b && leb b 126)) ≡ t
      → run_of (length room) (take n room) b ≡ cond t (added_of (length room) (take n room) (replicate (b - 29) (last_of (take n room)))) broken
  unfolding run_of
  run_test t e = ap (λ x. cond x (added_of (length room) (take n room) (replicate (b - 29) (last_of (take n room)))) broken) e

  never : run_of (length room) (take n room) b ≡ broken → Reads (run_of (length room) (take n room) b) Broken room
  never e = record { same = sym e; within = omega arith }

  pub run_first : n ≡ 0 → Reads (run_of (length room) (take n room) b) Broken room
  run_first e = never (run_test false (ap (λ k. ltb 0 k && (leb 32 b && leb b 126)) (run_length ∙ e)))

  pub run_low : b < 32 → Reads (run_of (length room) (take n room) b) Broken room
  run_low l = never (run_test false (rw (lt-leb 32 b l) (and-false (ltb 0 (length (take n room))))))
    where
      and-false : (t : Bool) → (t && false) ≡ false
      and-false true = refl
      and-false false = refl

  pub run_high : 126 < b → Reads (run_of (length room) (take n room) b) Broken room
  run_high l = never (run_test false (rw (lt-leb b 126 l) (and-false (ltb 0 (length (take n room))) (leb 32 b))))
    where
      and-false : (t u : Bool) → (t && (u && false)) ≡ false
      and-false true true = refl
      and-false true false = refl
      and-false false u = refl

  pub run_whole : (n ≡ 0 → ⊥) → 32 ≤ b → b ≤ 126
      → run_of (length room) (take n room) b ≡ added_of (length room) (take n room) (replicate (b - 29) (get_or room (n - 1) 0))
  run_whole some low high =
      let pos : 0 < n = omega arith in
      run_test true (rw (run_length, lt-ltb 0 n pos, le-leb 32 b low, le-leb b 126 high))
      ∙ ap (λ k. added_of (length room) (take n room) (replicate (b - 29) (get_or (take n room) (k - 1) 0))) run_length
      ∙ ap (λ x. added_of (length room) (take n room) (replicate (b - 29) x)) (get_or-take n room (n - 1) 0 (omega arith))

-- the bytes from i on, read behind those before
pub steps_past : (room : ℕ) (r : Reading) (s : List ℕ) (i : ℕ) → length s ≤ i → steps_of room r (drop i s) ≡ r
unfolding steps_of
steps_past room r s i h = rw (drop_of_length-le s h)

pub steps_goes : (room : ℕ) (r : Reading) (s : List ℕ) (i : ℕ) → i < length s → steps_of room (step_of room r (get_or s i 0)) (drop (i + 1) s) ≡ steps_of room r (drop i s)
unfolding steps_of
steps_goes room r s i h = rw (drop-cons s i 0 h, add-one i)

module _ (room : ℕ) (payload : List ℕ) (course : Course) (body : List ℕ) (i : ℕ) (whole : Reading) (told : steps_of room (reading_of course payload) (drop i body) ≡ whole) where
  pub steps_more : length payload ≡ room → i < length body → {next : Course} {after : List ℕ}
      → Reads (step_of (length payload) (reading_of course payload) (get_or body i 0)) next after → steps_of room (reading_of next after) (drop (i + 1) body) ≡ whole
  steps_more e h r =
      ap (λ x. steps_of room x (drop (i + 1) body)) (r.same ∙ ap (λ n. step_of n (reading_of course payload) (get_or body i 0)) e)
      ∙ steps_goes room (reading_of course payload) body i h
      ∙ told

  pub steps_done : length body ≤ i → laid_in course ≤ length payload → Reads whole course payload
  steps_done h l = record { same = sym (steps_past room (reading_of course payload) body i h) ∙ told; within = l }
