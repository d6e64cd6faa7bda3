-- THE THEOREM OF THE INDEX: kept step by step it is the one worked out afresh, after any steps and take-backs, for every number of slots.
use Rattle.std.proofs.Common.{◌≡◌, ℕ, zero, suc, ◌<◌, ◌≤◌, Bool, true, false, cond, List, [], ◌∷◌, map, length, get_or, take, sym, refl, ap, ◌∙◌, subst, arith, length-take, le-ltb, lt-ltb, eq-eqb}
use native.Mathlib.Decide.{ℕ_discrete}
use lib.ListN.{length-map, get_or-map}
use Rattle.ring.specs.Slots.{next_slot, slot_back}
use Rattle.ring.proofs.Slots.{by_leb, next_below, back_below}
use Rattle.frames.specs.OnHand.{Touch, changes, Event, ran, took, OnHand, stepped, less_one, on_hand}
use Rattle.frames.specs.Afresh.{Index, index_of}
use Rattle.frames.specs.Keep.{up_to, distance, restored, is_at, Kept, forget_all, give_back_all, mark_all, Ledger, dropped, keep, pushed, popped, ledger}
use Rattle.std.proofs.Common.{Option, Some, None}
use Rattle.frames.proofs.Clocks.{back_none, next_back}
use Rattle.frames.proofs.Newest.{newest, later, entry_back, entry_later, later_below, later_not_first, up_to_in, up_to_out, up_to_below, up_to_up_to, newest_below, newest_take, newest_changes, index_newest, distance_newest, not_at, is_at_lem, restored_newest}
use Rattle.frames.proofs.Frames.{Each, touched, all_stays, all_goes, mark_all_lem}

-- the steps that records stand for
abbrev pub steps_of : List (List Kept) → List (List Touch)
steps_of rs = map touched rs

-- what a record keeps of a place, above the records `older` that are on hand now: cut to these, it is the newest of them that changed the frame
abbrev pub Right : List (List Kept) → Kept → Type 0
Right older k = up_to (length older) k.saved ≡ newest (steps_of older) k.touch.frame

abbrev pub AllRight : List (List Kept) → Type 0
AllRight [] = Unit
AllRight (r ∷ older) = Each (Right older) r × AllRight older

-- THE INVARIANT
pub record Sound (turn n : ℕ) (l : Ledger) : Type 0 where
  pub small : l.clock < turn
  pub most : length l.records ≤ n
  pub right : AllRight l.records
  pub same : (f : ℕ) → l.index f ≡ index_of turn l.clock (steps_of l.records) f

-- ---- fewer records

each_map : {P Q : Kept → Type 0} → ((k : Kept) → P k → Q k) → (ks : List Kept) → Each P ks → Each Q ks
each_map f [] h = tt
each_map f (k ∷ ks) h = (f k h.0, each_map f ks h.1)

pub steps_take : (n : ℕ) (rs : List (List Kept)) → steps_of (take n rs) ≡ take n (steps_of rs)
steps_take zero rs = refl
steps_take (suc n) [] = refl
steps_take (suc n) (r ∷ rs) = ap {B = List (List Touch)} (λ l. touched r ∷ l) (steps_take n rs)

right_take : (n : ℕ) (older : List (List Kept)) (k : Kept) → Right older k → Right (take n older) k
right_take n older k h =
    ap (λ (m : ℕ). up_to m k.saved) (length-take n older)
    ∙ sym (up_to_up_to n (length older) k.saved)
    ∙ ap (up_to n) h
    ∙ sym (newest_take n (steps_of older) k.touch.frame)
    ∙ ap (λ (l : List (List Touch)). newest l k.touch.frame) (sym (steps_take n older))

pub all_right_take : (n : ℕ) (rs : List (List Kept)) → AllRight rs → AllRight (take n rs)
all_right_take zero rs h = tt
all_right_take (suc n) [] h = tt
all_right_take (suc n) (r ∷ rs) h = (each_map (right_take n rs) r h.0, all_right_take n rs h.1)

steps_length : (rs : List (List Kept)) → length (steps_of rs) ≡ length rs
steps_length rs = length-map rs touched

-- ---- the oldest record drops off

module _ (turn m : ℕ) (l : Ledger) (fits : suc m ≤ turn) (h : Sound turn (suc m) l) where
  abbrev place : ℕ → ℕ
  place f = newest (steps_of l.records) f

  place_below : (f : ℕ) → place f ≤ suc m
  place_below f = omega (arith, newest_below (steps_of l.records) f, steps_length l.records, h.most)

  by_place : (f : ℕ) → l.index f ≡ entry_back turn l.clock (place f)
  by_place f =
      h.same f
      ∙ index_newest turn l.clock (steps_of l.records) f h.small (omega (arith, steps_length l.records, h.most))

  abbrev oldest : List Kept
  oldest = get_or l.records m []

  oldest_changes : (f : ℕ) → place f ≡ suc m → changes (touched oldest) f ≡ true
  oldest_changes f e =
      ap (λ (s : List Touch). changes s f) (sym (get_or-map touched l.records m []))
      ∙ newest_changes (steps_of l.records) f m e

  each_nothing : (ks : List Kept) (g : ℕ) → Each (λ k. k.touch.frame ≡ g → ◌≡◌ {A = Option ℕ} None None) ks
  each_nothing [] g = tt
  each_nothing (k ∷ ks) g = ((λ e. refl), each_nothing ks g)

  forgotten : (f : ℕ) → forget_all (slot_back turn l.clock m) oldest l.index f ≡ entry_back turn l.clock (up_to m (place f))
  forgotten f =
      elim (ℕ_discrete (place f) (suc m)) [
        | yes q ↦
            all_goes (slot_back turn l.clock m) (λ k. None) oldest l.index f None
            (ap (is_at (slot_back turn l.clock m)) (by_place f ∙ ap (entry_back turn l.clock) q) ∙ is_at_lem turn l.clock h.small m)
            (oldest_changes f q) (each_nothing oldest f) refl
            ∙ ap (entry_back turn l.clock) (sym (up_to_out m (place f) (omega arith)))
        | no q ↦
            all_stays (slot_back turn l.clock m) (λ k. None) oldest l.index f
            (ap (is_at (slot_back turn l.clock m)) (by_place f)
            ∙ not_at turn l.clock h.small (place f) m (omega (arith, place_below f)) (omega arith) q)
            ∙ by_place f
            ∙ ap (entry_back turn l.clock) (sym (up_to_in m (place f) (omega (arith, place_below f, q))))
      ]

  -- the index once there is room
  dropped_place : (f : ℕ) → dropped turn m l f ≡ entry_back turn l.clock (up_to m (place f))
  dropped_place f =
      by_leb (length l.records) m
      (λ room.
      ap (λ (b : Bool). cond b (forget_all (slot_back turn l.clock m) oldest l.index) l.index f) (le-ltb m (length l.records) room)
      ∙ by_place f
      ∙ ap (entry_back turn l.clock)
      (sym (up_to_in m (place f) (omega (arith, newest_below (steps_of l.records) f, steps_length l.records)))))
      (λ full.
      ap (λ (b : Bool). cond b (forget_all (slot_back turn l.clock m) oldest l.index) l.index f) (lt-ltb m (length l.records) full)
      ∙ forgotten f)

  abbrev below : List (List Kept)
  below = take m l.records

  below_few : length below ≤ m
  below_few = omega (arith, length-take m l.records)

  dropped_newest : (f : ℕ) → dropped turn m l f ≡ entry_back turn l.clock (newest (steps_of below) f)
  dropped_newest f =
      dropped_place f
      ∙ ap (entry_back turn l.clock)
      (sym (newest_take m (steps_of l.records) f) ∙ ap (λ (s : List (List Touch)). newest s f) (sym (steps_take m l.records)))

  -- ---- one step on

  abbrev next : ℕ
  next = next_slot turn l.clock

  keep_right : (t : Touch) → Right below (keep turn next (length below) (dropped turn m l) t)
  keep_right t =
      let f : ℕ = t.frame in
      let k : ℕ = newest (steps_of below) f in
      let low : k ≤ length below = omega (arith, newest_below (steps_of below) f, steps_length below) in
      let far : distance turn next (dropped turn m l f) ≡ k =
      ap (distance turn next) (dropped_newest f) ∙ distance_newest turn l.clock h.small k (omega (arith, below_few)) in
      ap (λ (d : ℕ). up_to (length below) (up_to (length below) d)) far
      ∙ ap (up_to (length below)) (up_to_in (length below) k low)
      ∙ up_to_in (length below) k low

  -- THE DISTANCE IS ENOUGH: what the record keeps, given back at once, is the frame's entry just before the step
  pub distance_enough : (t : Touch) → restored turn next (suc (length below)) (keep turn next (length below) (dropped turn m l) t).saved ≡ dropped turn m l t.frame
  distance_enough t =
      restored_newest turn next (next_below turn l.clock h.small) (length below) (keep turn next (length below) (dropped turn m l) t).saved (omega (arith, below_few))
      ∙ ap (λ (c : ℕ). entry_back turn c (up_to (length below) (keep turn next (length below) (dropped turn m l) t).saved)) (next_back turn l.clock h.small)
      ∙ ap (entry_back turn l.clock) (keep_right t)
      ∙ sym (dropped_newest t.frame)

  keeps_right : (ts : List Touch) → Each (Right below) (map (keep turn next (length below) (dropped turn m l)) ts)
  keeps_right [] = tt
  keeps_right (t ∷ ts) = (keep_right t, keeps_right ts)

  touched_keep : (ts : List Touch) → touched (map (keep turn next (length below) (dropped turn m l)) ts) ≡ ts
  touched_keep [] = refl
  touched_keep (t ∷ ts) = ap {B = List Touch} (λ l. t ∷ l) (touched_keep ts)

  marked : (ts : List Touch) (f : ℕ) → mark_all next ts (dropped turn m l) f
      ≡ index_of turn next (steps_of (map (keep turn next (length below) (dropped turn m l)) ts ∷ below)) f
  marked ts f =
      mark_all_lem next ts (dropped turn m l) f
      ∙ ap (λ (e : Option ℕ). cond (changes ts f) (Some next) e)
      (dropped_newest f
      ∙ sym (index_newest turn l.clock (steps_of below) f h.small (omega (arith, steps_length below, below_few)))
      ∙ ap (λ (c : ℕ). index_of turn c (steps_of below) f) (sym (next_back turn l.clock h.small)))
      ∙ ap (λ (s : List Touch). index_of turn next (s ∷ steps_of below) f) (sym (touched_keep ts))

  sound_some : (ts : List Touch) → Sound turn (suc m) (pushed turn (suc m) ts l)
  sound_some ts =
      record {
        small = next_below turn l.clock h.small;
        most = omega (arith, below_few);
        right = (keeps_right ts, all_right_take m l.records h.right);
        same = marked ts;
      }

  steps_some : (ts : List Touch) → steps_of (pushed turn (suc m) ts l).records ≡ take (suc m) (ts ∷ steps_of l.records)
  steps_some ts =
      ap (λ (s : List Touch). s ∷ steps_of below) (touched_keep ts)
      ∙ ap {B = List (List Touch)} (λ s. ts ∷ s) (steps_take m l.records)

none_left : (rs : List (List Kept)) → length rs ≤ 0 → rs ≡ []
none_left [] h = refl
none_left (r ∷ rs) h = absurd (omega arith)

pub sound_pushed : (turn n : ℕ) (ts : List Touch) (l : Ledger) → n ≤ turn → Sound turn n l → Sound turn n (pushed turn n ts l)
sound_pushed turn zero ts l fits h =
    record {
      small = next_below turn l.clock h.small;
      most = h.most;
      right = h.right;
      same = λ f.
          h.same f
          ∙ ap (λ (rs : List (List Kept)). index_of turn l.clock (steps_of rs) f) (none_left l.records h.most)
          ∙ sym (ap (λ (rs : List (List Kept)). index_of turn (next_slot turn l.clock) (steps_of rs) f) (none_left l.records h.most));
    }
sound_pushed turn (suc m) ts l fits h = sound_some turn m l fits h ts

-- ---- one step back

module _ (turn n clock : ℕ) (ix : Index) (r : List Kept) (older : List (List Kept)) (fits : n ≤ turn) where
  abbrev here : Ledger
  here = record { clock = clock; records = r ∷ older; index = ix }

  module _ (h : Sound turn n here) where
    abbrev before : ℕ
    before = slot_back turn clock 1

    abbrev old : ℕ → Option ℕ
    old f = index_of turn before (steps_of older) f

    old_newest : (f : ℕ) → old f ≡ entry_back turn before (newest (steps_of older) f)
    old_newest f =
        index_newest turn before (steps_of older) f (back_below turn clock 1 h.small (omega (arith, h.most)))
        (omega (arith, steps_length older, h.most))

    -- what is worked out afresh for the frame without this step does not name it
    old_other : (f : ℕ) → is_at clock (old f) ≡ false
    old_other f =
        let k : ℕ = newest (steps_of older) f in
        let few : k ≤ length older = omega (arith, newest_below (steps_of older) f, steps_length older) in
        ap (is_at clock) (old_newest f ∙ entry_later turn clock k h.small (omega (arith, h.most)))
        ∙ ap (λ (c : ℕ). is_at c (entry_back turn clock (later k))) (sym (back_none turn clock h.small))
        ∙ not_at turn clock h.small (later k) 0 (omega (arith, later_below k (length older) few, h.most)) (omega (arith, h.small)) (later_not_first k)

    gives_old : (ks : List Kept) (f : ℕ) → Each (Right older) ks →
        Each (λ k. k.touch.frame ≡ f → restored turn clock (suc (length older)) k.saved ≡ old f) ks
    gives_old [] f e = tt
    gives_old (k ∷ ks) f e = (
      (λ q.
          restored_newest turn clock h.small (length older) k.saved (omega (arith, h.most))
          ∙ ap (entry_back turn before) (e.0 ∙ ap (newest (steps_of older)) q)
          ∙ sym (old_newest f)),
      gives_old ks f e.1,
    )

    given : (f : ℕ) → give_back_all turn clock (suc (length older)) r ix f ≡ old f
    given f = go (changes (touched r) f) refl
      where
        go : (b : Bool) → changes (touched r) f ≡ b → give_back_all turn clock (suc (length older)) r ix f ≡ old f
        go true c =
            let named : ix f ≡ Some clock = h.same f ∙ ap (λ (b : Bool). cond b (Some clock) (old f)) c in
            all_goes clock (λ k. restored turn clock (suc (length older)) k.saved) r ix f (old f)
            (ap (is_at clock) named ∙ eq-eqb clock clock refl) c (gives_old r f h.right.0) (old_other f)
        go false c =
            let kept : ix f ≡ old f = h.same f ∙ ap (λ (b : Bool). cond b (Some clock) (old f)) c in
            all_stays clock (λ k. restored turn clock (suc (length older)) k.saved) r ix f
            (ap (is_at clock) kept ∙ old_other f)
            ∙ kept

    sound_less : Sound turn n (popped turn (r ∷ older) here)
    sound_less =
        record {
          small = back_below turn clock 1 h.small (omega (arith, h.small));
          most = omega (arith, h.most);
          right = h.right.1;
          same = given;
        }

pub sound_popped : (turn n : ℕ) (l : Ledger) → n ≤ turn → Sound turn n l → Sound turn n (popped turn l.records l)
sound_popped turn n l fits h = go l.records refl
  where
    go : (rs : List (List Kept)) → l.records ≡ rs → Sound turn n (popped turn rs l)
    go [] e = h
    go (r ∷ older) e =
        sound_less turn n l.clock l.index r older fits
        (record {
          small = h.small;
          most = subst (λ (rs : List (List Kept)). length rs ≤ n) e h.most;
          right = subst AllRight e h.right;
          same = λ f. h.same f ∙ ap (λ (rs : List (List Kept)). index_of turn l.clock (steps_of rs) f) e;
        })

-- ---- any events

-- the ledger is of what is on hand
pub record Of (l : Ledger) (o : OnHand) : Type 0 where
  pub clock : l.clock ≡ o.clock
  pub steps : steps_of l.records ≡ o.steps

of_pushed : (turn n : ℕ) (ts : List Touch) (l : Ledger) (o : OnHand) → n ≤ turn → Sound turn n l → Of l o → Of (pushed turn n ts l) (stepped turn n ts o)
of_pushed turn zero ts l o fits h of =
    record { clock = ap (next_slot turn) of.clock; steps = ap steps_of (none_left l.records h.most) }
of_pushed turn (suc m) ts l o fits h of =
    record {
      clock = ap (next_slot turn) of.clock;
      steps = steps_some turn m l fits h ts ∙ ap (λ (s : List (List Touch)). take (suc m) (ts ∷ s)) of.steps;
    }

of_popped : (turn : ℕ) (l : Ledger) (o : OnHand) → Of l o → Of (popped turn l.records l) (less_one turn o.steps o)
of_popped turn l o of =
    subst (λ (s : List (List Touch)). Of (popped turn l.records l) (less_one turn s o)) of.steps (go l.records)
  where
    go : (rs : List (List Kept)) → Of (popped turn rs l) (less_one turn (steps_of rs) o)
    go [] = of
    go (r ∷ older) = record { clock = ap (λ (c : ℕ). slot_back turn c 1) of.clock; steps = refl }

module _ (turn n clock : ℕ) (fits : n ≤ turn) (small : clock < turn) where
  pub sound : (events : List Event) → Sound turn n (ledger turn n clock events)
  sound [] = record { small = small; most = omega arith; right = tt; same = λ f. refl }
  sound (ran ts ∷ before) = sound_pushed turn n ts (ledger turn n clock before) fits (sound before)
  sound (took ∷ before) = sound_popped turn n (ledger turn n clock before) fits (sound before)

  pub of_events : (events : List Event) → Of (ledger turn n clock events) (on_hand turn n clock events)
  of_events [] = record { clock = refl; steps = refl }
  of_events (ran ts ∷ before) =
      of_pushed turn n ts (ledger turn n clock before) (on_hand turn n clock before) fits (sound before) (of_events before)
  of_events (took ∷ before) = of_popped turn (ledger turn n clock before) (on_hand turn n clock before) (of_events before)

  -- THE THEOREM
  pub kept_is_afresh : (events : List Event) (f : ℕ) →
      (ledger turn n clock events).index f ≡ index_of turn (on_hand turn n clock events).clock (on_hand turn n clock events).steps f
  kept_is_afresh events f =
      (sound events).same f
      ∙ ap (λ (c : ℕ). index_of turn c (steps_of (ledger turn n clock events).records) f) (of_events events).clock
      ∙ ap (λ (s : List (List Touch)). index_of turn (on_hand turn n clock events).clock s f) (of_events events).steps

-- ---- how large a distance is

-- each is below the number of slots: 16 bits do for 65,536 slots, 15 for 32,768
abbrev pub AllBelow : ℕ → List (List Kept) → Type 0
AllBelow n [] = Unit
AllBelow n (r ∷ rs) = Each (λ k. k.saved < n) r × AllBelow n rs

below_take : (n j : ℕ) (rs : List (List Kept)) → AllBelow n rs → AllBelow n (take j rs)
below_take n zero rs h = tt
below_take n (suc j) [] h = tt
below_take n (suc j) (r ∷ rs) h = (h.0, below_take n j rs h.1)

keeps_below : (turn clock h n : ℕ) (ix : Index) (ts : List Touch) → h < n → Each (λ k. k.saved < n) (map (keep turn clock h ix) ts)
keeps_below turn clock h n ix [] l = tt
keeps_below turn clock h n ix (t ∷ ts) l =
    (omega (arith, up_to_below h (distance turn clock (ix t.frame))), keeps_below turn clock h n ix ts l)

below_pushed : (turn n : ℕ) (ts : List Touch) (l : Ledger) → AllBelow n l.records → AllBelow n (pushed turn n ts l).records
below_pushed turn zero ts l h = h
below_pushed turn (suc m) ts l h = (
  keeps_below turn (next_slot turn l.clock) (length (take m l.records)) (suc m) (dropped turn m l) ts (omega (arith, length-take m l.records)),
  below_take (suc m) m l.records h,
)

below_popped : (turn n : ℕ) (l : Ledger) (rs : List (List Kept)) → AllBelow n l.records → AllBelow n rs → AllBelow n (popped turn rs l).records
below_popped turn n l [] h g = h
below_popped turn n l (r ∷ older) h g = g.1

pub distances_below : (turn n clock : ℕ) (events : List Event) → AllBelow n (ledger turn n clock events).records
distances_below turn n clock [] = tt
distances_below turn n clock (ran ts ∷ before) = below_pushed turn n ts (ledger turn n clock before) (distances_below turn n clock before)
distances_below turn n clock (took ∷ before) =
    below_popped turn n (ledger turn n clock before) (ledger turn n clock before).records (distances_below turn n clock before) (distances_below turn n clock before)
