-- THE THEOREM OF THE INDEX: after any runs and take-backs from a reset with an empty index, the index is the one worked out afresh.
use Prim.{tt}
use Prim.Native.Nat.{ℕ, zero, suc, ◌*◌, ◌≤◌, ◌<◌}
use mathlib.Core.Path.{◌≡◌, refl, sym, ap, subst, ◌∙◌}
use mathlib.Core.Bool.{Bool, cond}
use mathlib.Core.List.{List, [], ◌∷◌, map}
use native.Mathlib.Omega.{arith}
use lib.ListN.{length, take, get_or, replicate, length-take, length-map}
use lib.Dec.{ltb}
use borrow.Author.Tests.{lt-ltb, le-ltb}
use Rattle.ring.specs.Slots.{Ring, next_slot, slot_back, slot, records_in}
use Rattle.ring.specs.Slots as Slots
use Rattle.ring.proofs.Slots.{by_leb}
use Rattle.ring.specs.Machine.{Besides}
use Rattle.ring.specs.Calls.{Call, called_all, start, RunsBack}
use Rattle.ring.proofs.OnRing.{records_length, oldest_record}
use Rattle.ring.proofs.History.{runs_back}
use Rattle.std.proofs.Common.{Option, Some, None}
use Rattle.frames.specs.OnHand.{Touch}
use Rattle.frames.specs.Afresh.{index_of}
use Rattle.frames.specs.Keep.{Kept, distance, restored, Ledger, pushed, popped}
use Rattle.word.specs.Lists.{flat}
use Rattle.word.proofs.Lists.{tabulate_ext}
use Rattle.frames.specs.Bytes.{whole, entry_bytes, entry_at, index_bytes, replace_in, replace_all_in, mark_all_in, LedgerIn, dropped_in, keep_in, pushed_in, popped_in, Inside}
use Rattle.frames.proofs.Clocks.{next_back}
use Rattle.frames.proofs.Newest.{up_to_below}
use Rattle.frames.proofs.Frames.{touched}
use Rattle.frames.proofs.Invariant.{steps_of, AllRight, Sound, sound_pushed, sound_popped}
use Rattle.frames.proofs.IndexBytes.{AllWithin, Is, is_pushed, is_popped, zeros, fits_afresh}
use Rattle.indexed.specs.Ahead.{Ahead, Noted, frame_of, bare_of, bare, touch_of, touches, dropped_of, below_of, distance_of, tag_of, onward_of}
use Rattle.indexed.specs.Base.{Base, backward_of, machine_of, noted_by, Under, Framed, BaseLaws}
use Rattle.indexed.specs.Index.{seen_of, steps_in, afresh}

module _ (b : Base) where
  abbrev a : Ahead
  a = b.ahead

  abbrev seen : a.State → Noted → Kept
  seen s w = record { touch = seen_of a s w; saved = w.saved }

  -- what the records on hand keep, seen from the states after their steps
  abbrev pub kepts_in : b.ahead.State → List (List ℕ) → List (List Kept)
  kepts_in s [] = []
  kepts_in s (r ∷ older) = map (seen s) (a.noted r) ∷ kepts_in (b.undo r s) older

  touched_seen : (s : a.State) (ws : List Noted) → touched (map (seen s) ws) ≡ map (seen_of a s) ws
  touched_seen s [] = refl
  touched_seen s (w ∷ ws) = ap {B = List Touch} (λ l. seen_of a s w ∷ l) (touched_seen s ws)

  steps_seen : (s : a.State) (rs : List (List ℕ)) → steps_of (kepts_in s rs) ≡ steps_in b s rs
  steps_seen s [] = refl
  steps_seen s (r ∷ older) =
      let e = touched_seen s (a.noted r) in
      let es = steps_seen (b.undo r s) older in
      (λ i. e i ∷ es i)

  kepts_length : (s : a.State) (rs : List (List ℕ)) → length (kepts_in s rs) ≡ length rs
  kepts_length s [] = refl
  kepts_length s (r ∷ older) = ap suc (kepts_length (b.undo r s) older)

  kepts_take : (n : ℕ) (s : a.State) (rs : List (List ℕ)) → kepts_in s (take n rs) ≡ take n (kepts_in s rs)
  kepts_take zero s rs = refl
  kepts_take (suc n) s [] = refl
  kepts_take (suc n) s (r ∷ older) = ap {B = List (List Kept)} (λ l. map (seen s) (a.noted r) ∷ l) (kepts_take n (b.undo r s) older)

  -- ---- no update asks whether a place changed

  module _ (clock : ℕ) (e : Kept → Option ℕ) (same : (s : a.State) (w : Noted) → e (seen s w) ≡ e (bare_of w)) where
    bare_same : (s : a.State) (ws : List Noted) (x : List ℕ) → replace_all_in clock e (map (seen s) ws) x ≡ replace_all_in clock e (map bare_of ws) x
    bare_same s [] x = refl
    bare_same s (w ∷ ws) x =
        ap (λ (y : Option ℕ). replace_all_in clock e (map (seen s) ws) (replace_in clock (frame_of w.place) y x)) (same s w)
        ∙ bare_same s ws (replace_in clock (frame_of w.place) (e (bare_of w)) x)

    bare_at : (s : a.State) (rs : List (List ℕ)) (i : ℕ) (x : List ℕ) → i < length rs →
        replace_all_in clock e (get_or (kepts_in s rs) i []) x ≡ replace_all_in clock e (bare a (get_or rs i [])) x
    bare_at s [] i x h = absurd (omega arith)
    bare_at s (r ∷ older) zero x h = bare_same s (a.noted r) x
    bare_at s (r ∷ older) (suc i) x h = bare_at (b.undo r s) older i x (omega arith)

  -- what is kept beside: the index of the records on hand, and what these keep is right
  pub record Indexed (frames n : ℕ) (s : b.ahead.State) (rs : List (List ℕ)) (x : List ℕ) : Type 0 where
    pub few : n ≤ b.ahead.bound
    pub most : length rs ≤ n
    pub right : AllRight (kepts_in s rs)
    pub within : AllWithin frames (kepts_in s rs)
    pub bytes : x ≡ afresh b frames s rs

  module _ {Good : a.State → Type 0} (frames : ℕ) (L : BaseLaws b Good frames) where
    -- from a ledger of the same records
    indexed_from : (n : ℕ) (s : a.State) (rs : List (List ℕ)) (x : List ℕ) (l : Ledger) (i : LedgerIn) → n ≤ a.bound → Sound whole n l → Is frames i l →
        l.clock ≡ a.clock s → i.records ≡ kepts_in s rs → x ≡ i.bytes → Indexed frames n s rs x
    indexed_from n s rs x l i few h is clock records bytes =
        let all : l.records ≡ kepts_in s rs = sym is.records ∙ records in
        record {
          few = few;
          most = omega (arith, h.most, kepts_length s rs, ap length all);
          right = subst AllRight all h.right;
          within = subst (AllWithin frames) all is.inside;
          bytes =
              bytes
              ∙ is.bytes
              ∙ ap (flat entry_bytes)
              (tabulate_ext frames l.index (index_of whole (a.clock s) (steps_in b s rs))
              (λ f low.
              h.same f
              ∙ ap (λ (c : ℕ). index_of whole c (steps_of l.records) f) clock
              ∙ ap (λ (k : List (List Kept)). index_of whole (a.clock s) (steps_of k) f) all
              ∙ ap (λ (t : List (List Touch)). index_of whole (a.clock s) t f) (steps_seen s rs)));
        }

    module _ (n : ℕ) (s : a.State) (rs : List (List ℕ)) (x : List ℕ) (good : Good s) (h : Indexed frames n s rs x) where
      -- the ledger of a state and its records
      abbrev here : Ledger
      here = record { clock = a.clock s; records = kepts_in s rs; index = index_of whole (a.clock s) (steps_of (kepts_in s rs)) }

      abbrev here_in : LedgerIn
      here_in = record { clock = a.clock s; records = kepts_in s rs; bytes = x }

      sound_here : Sound whole n here
      sound_here =
          record {
            small = L.small s good;
            most = omega (arith, kepts_length s rs, h.most);
            right = h.right;
            same = λ f. refl;
          }

      is_here : Is frames here_in here
      is_here =
          record {
            clock = refl;
            records = refl;
            bytes = h.bytes ∙ ap (λ (t : List (List Touch)). index_bytes frames (index_of whole (a.clock s) t)) (sym (steps_seen s rs));
            fits = λ g. fits_afresh (a.clock s) (steps_of (kepts_in s rs)) g (L.small s good)
                (omega (arith, length-map (kepts_in s rs) touched, kepts_length s rs, h.most, h.few, L.room));
            inside = h.within;
          }

    -- ---- one step on

    inside_touches : (s : a.State) (ps : List ℕ) → Framed frames ps → Inside frames (map (touch_of a s) ps)
    inside_touches s [] h = tt
    inside_touches s (p ∷ ps) h = (h.0, inside_touches s ps h.1)

    seen_noted : (s : a.State) (clock h : ℕ) (x : List ℕ) (ps : List ℕ) →
        map (seen (a.step s)) (noted_by a s ps (map (distance_of clock h x) ps)) ≡ map (keep_in clock h x) (map (touch_of a s) ps)
    seen_noted s clock h x [] = refl
    seen_noted s clock h x (p ∷ ps) = ap {B = List Kept} (λ l. keep_in clock h x (touch_of a s p) ∷ l) (seen_noted s clock h x ps)

    under_distances : (clock h k : ℕ) (x : List ℕ) (ps : List ℕ) → h < k → Under k (map (distance_of clock h x) ps)
    under_distances clock h k x [] l = tt
    under_distances clock h k x (p ∷ ps) l =
        (omega (arith, up_to_below h (distance whole clock (entry_at x (frame_of p)))), under_distances clock h k x ps l)

    module _ (m : ℕ) (s : a.State) (good : Good s) (g : Ring) (sound : Slots.Sound a.size (suc m) g) (x : List ℕ)
        (h : Indexed frames (suc m) s (records_in a.size (suc m) g) x) where
      abbrev rs : List (List ℕ)
      rs = records_in a.size (suc m) g

      long : length (kepts_in s rs) ≡ g.hand
      long = kepts_length s rs ∙ records_length a.size (suc m) g

      -- the oldest record is that of the next slot
      drops : dropped_in m (here_in (suc m) s rs x good h) ≡ dropped_of a m g s x
      drops =
          by_leb g.hand m
          (λ room.
          ap (λ (k : ℕ). cond (ltb m k) old x) long
          ∙ ap (λ (t : Bool). cond t old x) (le-ltb m g.hand room)
          ∙ sym (ap (λ (t : Bool). cond t new x) (le-ltb m g.hand room)))
          (λ full.
          let all : g.hand ≡ suc m = omega (arith, sound.most) in
          ap (λ (k : ℕ). cond (ltb m k) old x) long
          ∙ ap (λ (t : Bool). cond t old x) (lt-ltb m g.hand full)
          ∙ bare_at c (λ k. None) (λ s w. refl) s rs m x (omega (arith, records_length a.size (suc m) g))
          ∙ ap (λ (r : List ℕ). replace_all_in c (λ k. None) (bare a r) x) (oldest_record a.size m g sound all)
          ∙ sym (ap (λ (t : Bool). cond t new x) (lt-ltb m g.hand full)))
        where
          c : ℕ
          c = slot_back whole (a.clock s) m

          old : List ℕ
          old = replace_all_in (slot_back whole (a.clock s) m) (λ k. None) (get_or (kepts_in s rs) m []) x

          new : List ℕ
          new = replace_all_in (slot_back whole (a.clock s) m) (λ k. None) (bare a (slot a.size g.bytes g.next)) x

      below : below_of m g ≡ length (take m (kepts_in s rs))
      below =
          by_leb g.hand m
          (λ room. ap (λ (t : Bool). cond t m g.hand) (le-ltb m g.hand room) ∙ omega (arith, length-take m (kepts_in s rs), long))
          (λ full. ap (λ (t : Bool). cond t m g.hand) (lt-ltb m g.hand full) ∙ omega (arith, length-take m (kepts_in s rs), long))

      abbrev next : ℕ
      next = next_slot whole (a.clock s)

      abbrev noted : List ℕ
      noted = a.note (tag_of a (suc m) g s x) s

      -- what the new record keeps
      newest : map (seen (a.step s)) (a.noted noted) ≡ map (keep_in next (length (take m (kepts_in s rs))) (dropped_in m (here_in (suc m) s rs x good h))) (touches a s)
      newest =
          ap (map (seen (a.step s)))
          (L.notes s good (tag_of a (suc m) g s x) (length-map (a.places s) (distance_of next (below_of m g) (dropped_of a m g s x)))
          (under_distances next (below_of m g) a.bound (dropped_of a m g s x) (a.places s) (omega (arith, below, length-take m (kepts_in s rs), h.few))))
          ∙ seen_noted s next (below_of m g) (dropped_of a m g s x) (a.places s)
          ∙ ap (λ (k : ℕ). map (keep_in next k (dropped_of a m g s x)) (touches a s)) below
          ∙ ap (λ (y : List ℕ). map (keep_in next (length (take m (kepts_in s rs))) y) (touches a s)) (sym drops)

      older : kepts_in (b.undo noted (a.step s)) (take m rs) ≡ take m (kepts_in s rs)
      older = ap (λ (u : a.State). kepts_in u (take m rs)) (L.back.undoes (tag_of a (suc m) g s x) s good) ∙ kepts_take m s rs

      onward_some : Indexed frames (suc m) (a.step s) (take (suc m) (noted ∷ rs)) (onward_of a (suc m) g s x)
      onward_some =
          let was = here_in (suc m) s rs x good h in
          let now = here (suc m) s rs x good h in
          indexed_from (suc m) (a.step s) (take (suc m) (noted ∷ rs)) (onward_of a (suc m) g s x)
          (pushed whole (suc m) (touches a s) now) (pushed_in (suc m) (touches a s) was)
          h.few
          (sound_pushed whole (suc m) (touches a s) now (omega (arith, h.few, L.room)) (sound_here (suc m) s rs x good h))
          (is_pushed frames (suc m) (touches a s) was now (L.small s good) (inside_touches s (a.places s) (L.inside s good)) (is_here (suc m) s rs x good h))
          (sym (L.ticks s good))
          (sym (λ i. newest i ∷ older i))
          (ap (mark_all_in next (touches a s)) (sym drops))

    -- with no slots
    no_records : (s : a.State) (rs : List (List ℕ)) → length rs ≤ 0 → kepts_in s rs ≡ []
    no_records s [] h = refl
    no_records s (r ∷ rs) h = absurd (omega arith)

    onward_none : (s : a.State) → Good s → (rs : List (List ℕ)) (x : List ℕ) → Indexed frames 0 s rs x → Indexed frames 0 (a.step s) [] x
    onward_none s good rs x h =
        let was = here_in 0 s rs x good h in
        let now = here 0 s rs x good h in
        indexed_from 0 (a.step s) [] x
        (pushed whole 0 (touches a s) now) (pushed_in 0 (touches a s) was)
        h.few
        (sound_pushed whole 0 (touches a s) now (omega arith) (sound_here 0 s rs x good h))
        (is_pushed frames 0 (touches a s) was now (L.small s good) (inside_touches s (a.places s) (L.inside s good)) (is_here 0 s rs x good h))
        (sym (L.ticks s good))
        (no_records s rs h.most)
        refl

    onward_all : (n : ℕ) (s : a.State) → Good s → (g : Ring) → Slots.Sound a.size n g → (x : List ℕ) → Indexed frames n s (records_in a.size n g) x →
        Indexed frames n (a.step s) (take n (a.note (tag_of a n g s x) s ∷ records_in a.size n g)) (onward_of a n g s x)
    onward_all zero s good g sound x h = onward_none s good (records_in a.size 0 g) x h
    onward_all (suc m) s good g sound x h = onward_some m s good g sound x h

    -- ---- one step back

    backward_all : (n : ℕ) (s : a.State) → Good s → (t : List ℕ) (older : List (List ℕ)) → length older < n → (x : List ℕ) →
        Indexed frames n (a.step s) (a.note t s ∷ older) x → Indexed frames n s older (backward_of b (suc (length older)) (a.note t s) (a.step s) x)
    backward_all n s good t older few x h =
        let r = a.note t s in
        let s' = a.step s in
        let good' = L.back.keeps s good in
        let was = here_in n s' (r ∷ older) x good' h in
        let now = here n s' (r ∷ older) x good' h in
        let sound = sound_here n s' (r ∷ older) x good' h in
        let fits : n ≤ whole = omega (arith, h.few, L.room) in
        indexed_from n s older (backward_of b (suc (length older)) r s' x)
        (popped whole now.records now) (popped_in was.records was)
        h.few
        (sound_popped whole n now fits sound)
        (is_popped frames n was now fits (L.small s' good') sound.most (is_here n s' (r ∷ older) x good' h))
        (ap (λ (c : ℕ). slot_back whole c 1) (L.ticks s good) ∙ next_back whole (a.clock s) (L.small s good))
        (ap (λ (u : a.State). kepts_in u older) (L.back.undoes t s good))
        (sym
        (bare_same (a.clock s') (λ k. restored whole (a.clock s') (suc (length (kepts_in (b.undo r s') older))) k.saved) (λ s w. refl) s' (a.noted r) x
        ∙ ap (λ (k : ℕ). replace_all_in (a.clock s') (λ y. restored whole (a.clock s') (suc k) y.saved) (bare a r) x) (kepts_length (b.undo r s') older)))

    pub besides : (n : ℕ) → Besides (machine_of b) Good n (Indexed frames n)
    besides n = record { onward = onward_all n; backward = backward_all n }

  -- reset: no records, and 0 everywhere
  pub indexed_start : (frames n : ℕ) (s : b.ahead.State) → n ≤ b.ahead.bound → Indexed frames n s [] (replicate (16 * frames) 0)
  indexed_start frames n s few =
      record {
        few = few;
        most = omega arith;
        right = tt;
        within = tt;
        bytes = zeros frames frames ∙ ap (flat entry_bytes) (tabulate_ext frames (λ f. None) (index_of whole (a.clock s) []) (λ f low. refl));
      }

-- THE THEOREM: after any calls from a reset the index is the one worked out afresh from the state and the records on hand, and running back holds
pub index_afresh : (b : Base) {Good : b.ahead.State → Type 0} (frames : ℕ) → BaseLaws b Good frames → (s₀ : b.ahead.State) → Good s₀ → (n : ℕ) →
    n ≤ b.ahead.bound → (journal : List ℕ) → b.ahead.size * n ≤ length journal → (calls : List Call) →
    let p = called_all (machine_of b) n calls (start s₀ (replicate (16 * frames) 0) journal) in
    (p.config.side ≡ afresh b frames p.config.state (records_in b.ahead.size n p.config.ring)) × RunsBack (machine_of b) n s₀ p
index_afresh b frames L s₀ good n few journal room calls =
    let k = runs_back (machine_of b) (Indexed b frames) L.back (besides b frames L) s₀ good n (replicate (16 * frames) 0) journal room (indexed_start b frames n s₀ few) calls in
    (k.beside.bytes, k.back)
