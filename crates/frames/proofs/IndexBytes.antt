-- THE THEOREM IN BYTES: the lent bytes are those of the index worked out afresh, after any steps and take-backs from a reset.
use Prim.{tt}
use Rattle.std.proofs.Common.{◌≡◌, ℕ, zero, suc, ◌+◌, ◌*◌, ◌/◌, ◌%◌, ◌^◌, ◌<◌, ◌≤◌, Bool, true, false, cond, ◌&&◌, eqb, ltb, List, [], ◌∷◌, ◌++◌, map, length, get_or, take, drop, set, replicate, sym, refl, ap, ◌∙◌, subst, add_comm, mul-zero, mul-suc, arith, lit<, length-append, length-set, get_or-set_other, get_or-set_same, ext_get_or, drop_at, ltb-true}
use native.Mathlib.Decide.{ℕ_discrete}
use lib.ListN.{replicate-append-replicate}
use lib.Seq.{sets, sets-eq}
use Rattle.word.specs.Lists.{tabulate, flat}
use Rattle.word.specs.Big.{word_at}
use Rattle.word.proofs.Lists.{sets_right, length_tabulate, get_d_tabulate, tabulate_ext, length_flat, flat_at, flat_append}
use Rattle.word.proofs.BigWords.{read_written}
use Rattle.ring.specs.Slots.{next_slot, slot_back}
use Rattle.ring.proofs.Slots.{next_below, back_below}
use Rattle.frames.specs.OnHand.{Touch, Event, ran, took, on_hand}
use Rattle.frames.specs.Afresh.{Index, index_of}
use Rattle.frames.specs.Keep.{with, Kept, up_to, distance, restored, is_at, replace, replace_all, mark, mark_all, Ledger, dropped, keep, pushed, popped, ledger}
use Rattle.frames.specs.Bytes.{whole, entry_words, entry_bytes, index_bytes, entry_at, put_entry, replace_in, mark_in, replace_all_in, mark_all_in, LedgerIn, dropped_in, keep_in, pushed_in, popped_in, ledger_in, Inside, AllInside}
use Rattle.std.proofs.Common.{Option, Some, None}
use Rattle.frames.proofs.Newest.{newest, newest_below, entry_back, index_newest}
use Rattle.frames.proofs.Frames.{with_same, with_other}
use Rattle.frames.proofs.Invariant.{sound, kept_is_afresh}

-- a clock of 64 bits
abbrev pub Fits : Option ℕ → Type 0
Fits None = Unit
Fits (Some c) = c < 2 ^ 64

-- ---- lists

-- one element of a flat list
module _ {A : Type 0} (k : ℕ) (g : A → List ℕ) (size : (x : A) → length (g x) ≡ k) where
  pub flat_set : (xs : List A) (i : ℕ) (v : A) → i < length xs → sets (flat g xs) (k * i) (g v) ≡ flat g (set xs i v)
  flat_set [] i v h = absurd (omega arith)
  flat_set (x ∷ xs) zero v h =
      let long : 0 + length (g v) ≡ k = omega (arith, size v) in
      ap (λ (n : ℕ). sets (g x ++ flat g xs) n (g v)) (mul-zero k)
      ∙ sets-eq (g v) (g x ++ flat g xs) 0 (omega (arith, length-append (g x) (flat g xs), size x, size v))
      ∙ ap (λ (n : ℕ). g v ++ drop n (g x ++ flat g xs)) long
      ∙ ap (λ (l : List ℕ). g v ++ l) (drop_at (g x) (flat g xs) k (size x))
  flat_set (x ∷ xs) (suc i) v h =
      let at : k * suc i ≡ length (g x) + k * i = mul-suc k i ∙ add_comm (k * i) k ∙ ap (λ (n : ℕ). n + k * i) (sym (size x)) in
      ap (λ (n : ℕ). sets (g x ++ flat g xs) n (g v)) at
      ∙ sets_right (g x) (flat g xs) (g v) (k * i)
      ∙ ap (λ (l : List ℕ). g x ++ l) (flat_set xs i v (omega arith))

sixteen : (e : Option ℕ) → length (entry_bytes e) ≡ 16
sixteen None = refl
sixteen (Some c) = refl

pub index_long : (frames : ℕ) (ix : Index) → length (index_bytes frames ix) ≡ 16 * frames
index_long frames ix = length_flat 16 entry_bytes sixteen (tabulate frames ix) ∙ ap (λ (n : ℕ). 16 * n) (length_tabulate frames ix)

-- ---- an entry put and read

tabulate_with : (frames : ℕ) (ix : Index) (f : ℕ) (e : Option ℕ) → f < frames → set (tabulate frames ix) f e ≡ tabulate frames (with ix f e)
tabulate_with frames ix f e h =
    ext_get_or None (set (tabulate frames ix) f e) (tabulate frames (with ix f e))
    (length-set (tabulate frames ix) f e ∙ length_tabulate frames ix ∙ sym (length_tabulate frames (with ix f e)))
    (λ i l.
    let low : i < frames = omega (arith, length-set (tabulate frames ix) f e, length_tabulate frames ix) in
    at i low ∙ sym (get_d_tabulate frames (with ix f e) i None low))
  where
    at : (i : ℕ) → i < frames → get_or (set (tabulate frames ix) f e) i None ≡ with ix f e i
    at i low =
        elim (ℕ_discrete f i) [
          | yes q ↦
              ap (λ (j : ℕ). get_or (set (tabulate frames ix) f e) j None) (sym q)
              ∙ get_or-set_same (tabulate frames ix) f e None (rw (length_tabulate frames ix) h)
              ∙ sym (with_same ix f e)
              ∙ ap (with ix f e) q
          | no q ↦
              get_or-set_other (tabulate frames ix) f i e None (λ s. q (sym s))
              ∙ get_d_tabulate frames ix i None low
              ∙ sym (with_other ix f e i q)
        ]

pub put_entry_lem : (frames : ℕ) (ix : Index) (f : ℕ) (e : Option ℕ) → f < frames → put_entry (index_bytes frames ix) f e ≡ index_bytes frames (with ix f e)
put_entry_lem frames ix f e h =
    flat_set 16 entry_bytes sixteen (tabulate frames ix) f e (rw (length_tabulate frames ix) h)
    ∙ ap (flat entry_bytes) (tabulate_with frames ix f e h)

-- a byte and a word of an entry, read from the whole
module _ (frames : ℕ) (ix : Index) (f : ℕ) (inside : f < frames) where
  byte_of : (i p : ℕ) → i < 16 → p ≡ 16 * f + i → get_or (index_bytes frames ix) p 0 ≡ get_or (entry_bytes (ix f)) i 0
  byte_of i p h e =
      ap (λ (n : ℕ). get_or (index_bytes frames ix) n 0) e
      ∙ flat_at 16 entry_bytes sixteen (tabulate frames ix) None f i (rw (length_tabulate frames ix) inside) h
      ∙ ap (λ (x : Option ℕ). get_or (entry_bytes x) i 0) (get_d_tabulate frames ix f None inside)

  word_of : (j p : ℕ) → j + 4 ≤ 16 → p ≡ 16 * f + j → word_at (index_bytes frames ix) p ≡ word_at (entry_bytes (ix f)) j
  unfolding word_at
  word_of j p h e =
      rw (
        byte_of j p (omega arith) e,
        byte_of (j + 1) (p + 1) (omega arith) (omega arith),
        byte_of (j + 2) (p + 2) (omega arith) (omega arith),
        byte_of (j + 3) (p + 3) (omega arith) (omega arith),
      )

-- an entry from its four words
abbrev spoken : ℕ → ℕ → ℕ → Option ℕ
spoken first high low = cond (eqb first 1) (Some (high * 2 ^ 32 + low)) None

spoken_entry : (e : Option ℕ) → Fits e → spoken (word_at (entry_bytes e) 0) (word_at (entry_bytes e) 4) (word_at (entry_bytes e) 8) ≡ e
unfolding word_at
spoken_entry None fits = refl
spoken_entry (Some c) fits =
    let high = read_written (entry_words (Some c)) 1 (lit< tt) (omega arith) in
    let low = read_written (entry_words (Some c)) 2 (lit< tt) (omega arith) in
    let e : c / 2 ^ 32 * 2 ^ 32 + c % 2 ^ 32 ≡ c = omega arith in
    ap Some
    (ap (λ (h : ℕ). h * 2 ^ 32 + word_at (entry_bytes (Some c)) 8) high
    ∙ ap (λ (l : ℕ). c / 2 ^ 32 * 2 ^ 32 + l) low
    ∙ e)

pub read_entry : (frames : ℕ) (ix : Index) (f : ℕ) → f < frames → Fits (ix f) → entry_at (index_bytes frames ix) f ≡ ix f
unfolding entry_at
read_entry frames ix f h fits =
    rw (
      word_of frames ix f h 0 (16 * f) (omega arith) (omega arith),
      word_of frames ix f h 4 (16 * f + 4) (omega arith) refl,
      word_of frames ix f h 8 (16 * f + 8) (omega arith) refl,
    )
    (spoken_entry (ix f) fits)

fits_back : (clock k : ℕ) → clock < whole → k ≤ whole → Fits (entry_back whole clock k)
fits_back clock zero small few = tt
fits_back clock (suc k) small few = back_below whole clock k small (omega arith)

pub fits_afresh : (clock : ℕ) (steps : List (List Touch)) (f : ℕ) → clock < whole → length steps ≤ whole → Fits (index_of whole clock steps f)
fits_afresh clock steps f small few =
    rw (index_newest whole clock steps f small few) (fits_back clock (newest steps f) small (omega (arith, newest_below steps f)))

-- ---- the updates

fits_with : (ix : Index) (f : ℕ) (e : Option ℕ) → ((g : ℕ) → Fits (ix g)) → Fits e → (g : ℕ) → Fits (with ix f e g)
fits_with ix f e all fits g = go (eqb f g)
  where
    go : (b : Bool) → Fits (cond b e (ix g))
    go true = fits
    go false = all g

fits_replace : (clock : ℕ) (ix : Index) (f : ℕ) (e : Option ℕ) → ((g : ℕ) → Fits (ix g)) → Fits e → (g : ℕ) → Fits (replace clock f e ix g)
fits_replace clock ix f e all fits g = go (is_at clock (ix f))
  where
    go : (b : Bool) → Fits (cond b (with ix f e) ix g)
    go true = fits_with ix f e all fits g
    go false = all g

fits_mark : (clock : ℕ) (ix : Index) (t : Touch) → ((g : ℕ) → Fits (ix g)) → clock < 2 ^ 64 → (g : ℕ) → Fits (mark clock t ix g)
fits_mark clock ix t all small g = go t.changed
  where
    go : (b : Bool) → Fits (cond b (with ix t.frame (Some clock)) ix g)
    go true = fits_with ix t.frame (Some clock) all small g
    go false = all g

module _ (frames : ℕ) where
  pub replace_bytes : (clock : ℕ) (ix : Index) (f : ℕ) (e : Option ℕ) → f < frames → Fits (ix f) →
      replace_in clock f e (index_bytes frames ix) ≡ index_bytes frames (replace clock f e ix)
  replace_bytes clock ix f e h fits =
      ap (λ (x : Option ℕ). cond (is_at clock x) (put_entry (index_bytes frames ix) f e) (index_bytes frames ix)) (read_entry frames ix f h fits)
      ∙ go (is_at clock (ix f))
    where
      go : (b : Bool) → cond b (put_entry (index_bytes frames ix) f e) (index_bytes frames ix) ≡ index_bytes frames (cond b (with ix f e) ix)
      go true = put_entry_lem frames ix f e h
      go false = refl

  pub mark_bytes : (clock : ℕ) (ix : Index) (t : Touch) → t.frame < frames →
      mark_in clock t.frame t.changed (index_bytes frames ix) ≡ index_bytes frames (mark clock t ix)
  mark_bytes clock ix t h = go t.changed
    where
      go : (b : Bool) → cond b (put_entry (index_bytes frames ix) t.frame (Some clock)) (index_bytes frames ix) ≡ index_bytes frames (cond b (with ix t.frame (Some clock)) ix)
      go true = put_entry_lem frames ix t.frame (Some clock) h
      go false = refl

  -- all places that a record keeps are inside
  abbrev pub Within : List Kept → Type 0
  Within [] = Unit
  Within (k ∷ ks) = (k.touch.frame < frames) × Within ks

  abbrev pub AllWithin : List (List Kept) → Type 0
  AllWithin [] = Unit
  AllWithin (r ∷ rs) = Within r × AllWithin rs

  pub replace_all_bytes : (clock : ℕ) (e : Kept → Option ℕ) → ((k : Kept) → Fits (e k)) → (ks : List Kept) (ix : Index) → Within ks → ((g : ℕ) → Fits (ix g)) →
      replace_all_in clock e ks (index_bytes frames ix) ≡ index_bytes frames (replace_all clock e ks ix)
  replace_all_bytes clock e es [] ix inside all = refl
  replace_all_bytes clock e es (k ∷ ks) ix inside all =
      ap (replace_all_in clock e ks) (replace_bytes clock ix k.touch.frame (e k) inside.0 (all k.touch.frame))
      ∙ replace_all_bytes clock e es ks (replace clock k.touch.frame (e k) ix) inside.1 (fits_replace clock ix k.touch.frame (e k) all (es k))

  pub fits_replace_all : (clock : ℕ) (e : Kept → Option ℕ) → ((k : Kept) → Fits (e k)) → (ks : List Kept) (ix : Index) → ((g : ℕ) → Fits (ix g)) → (g : ℕ) → Fits (replace_all clock e ks ix g)
  fits_replace_all clock e es [] ix all = all
  fits_replace_all clock e es (k ∷ ks) ix all =
      fits_replace_all clock e es ks (replace clock k.touch.frame (e k) ix) (fits_replace clock ix k.touch.frame (e k) all (es k))

  pub mark_all_bytes : (clock : ℕ) (ts : List Touch) (ix : Index) → Inside frames ts → mark_all_in clock ts (index_bytes frames ix) ≡ index_bytes frames (mark_all clock ts ix)
  mark_all_bytes clock [] ix inside = refl
  mark_all_bytes clock (t ∷ ts) ix inside =
      ap (mark_all_in clock ts) (mark_bytes clock ix t inside.0) ∙ mark_all_bytes clock ts (mark clock t ix) inside.1

  pub fits_mark_all : (clock : ℕ) (ts : List Touch) (ix : Index) → ((g : ℕ) → Fits (ix g)) → clock < 2 ^ 64 → (g : ℕ) → Fits (mark_all clock ts ix g)
  fits_mark_all clock [] ix all small = all
  fits_mark_all clock (t ∷ ts) ix all small = fits_mark_all clock ts (mark clock t ix) (fits_mark clock ix t all small) small

  -- ---- the ledger in bytes is the ledger

  pub record Is (b : LedgerIn) (l : Ledger) : Type 0 where
    pub clock : b.clock ≡ l.clock
    pub records : b.records ≡ l.records
    pub bytes : b.bytes ≡ index_bytes frames l.index
    pub fits : (g : ℕ) → Fits (l.index g)
    pub inside : AllWithin l.records

  nothing_fits : (k : Kept) → Fits None
  nothing_fits k = tt

  within_at : (rs : List (List Kept)) (i : ℕ) → AllWithin rs → Within (get_or rs i [])
  within_at [] i h = tt
  within_at (r ∷ rs) zero h = h.0
  within_at (r ∷ rs) (suc i) h = within_at rs i h.1

  within_take : (n : ℕ) (rs : List (List Kept)) → AllWithin rs → AllWithin (take n rs)
  within_take zero rs h = tt
  within_take (suc n) [] h = tt
  within_take (suc n) (r ∷ rs) h = (h.0, within_take n rs h.1)

  within_keep : (clock h : ℕ) (ix : Index) (ts : List Touch) → Inside frames ts → Within (map (keep whole clock h ix) ts)
  within_keep clock h ix [] i = tt
  within_keep clock h ix (t ∷ ts) i = (i.0, within_keep clock h ix ts i.1)

  -- a ledger in bytes, by its parts
  abbrev of : ℕ → List (List Kept) → Index → LedgerIn
  of clock records ix = record { clock = clock; records = records; bytes = index_bytes frames ix }

  is_of : (b : LedgerIn) (l : Ledger) → Is b l → b ≡ of l.clock l.records l.index
  is_of b l h = λ i. record { clock = h.clock i; records = h.records i; bytes = h.bytes i }

  module _ (m : ℕ) (l : Ledger) (fits : (g : ℕ) → Fits (l.index g)) (inside : AllWithin l.records) where
    drops : dropped_in m (of l.clock l.records l.index) ≡ index_bytes frames (dropped whole m l)
    drops = go (ltb m (length l.records))
      where
        go : (b : Bool) →
            cond b (replace_all_in (slot_back whole l.clock m) (λ k. None) (get_or l.records m []) (index_bytes frames l.index)) (index_bytes frames l.index)
            ≡ index_bytes frames (cond b (replace_all (slot_back whole l.clock m) (λ k. None) (get_or l.records m []) l.index) l.index)
        go true = replace_all_bytes (slot_back whole l.clock m) (λ k. None) nothing_fits (get_or l.records m []) l.index (within_at l.records m inside) fits
        go false = refl

    fits_dropped : (g : ℕ) → Fits (dropped whole m l g)
    fits_dropped g = go (ltb m (length l.records))
      where
        go : (b : Bool) → Fits (cond b (replace_all (slot_back whole l.clock m) (λ k. None) (get_or l.records m []) l.index) l.index g)
        go true = fits_replace_all (slot_back whole l.clock m) (λ k. None) nothing_fits (get_or l.records m []) l.index fits g
        go false = fits g

    keeps : (clock h : ℕ) (ts : List Touch) → Inside frames ts → map (keep_in clock h (index_bytes frames (dropped whole m l))) ts ≡ map (keep whole clock h (dropped whole m l)) ts
    keeps clock h [] i = refl
    keeps clock h (t ∷ ts) i =
        let e = read_entry frames (dropped whole m l) t.frame i.0 (fits_dropped t.frame) in
        let k : ◌≡◌ {A = Kept} (keep_in clock h (index_bytes frames (dropped whole m l)) t) (keep whole clock h (dropped whole m l) t) =
        (λ j. record { touch = t; saved = up_to h (distance whole clock (e j)) }) in
        let ks = keeps clock h ts i.1 in
        (λ j. k j ∷ ks j)

  pub is_pushed : (n : ℕ) (ts : List Touch) (b : LedgerIn) (l : Ledger) → l.clock < whole → Inside frames ts → Is b l → Is (pushed_in n ts b) (pushed whole n ts l)
  is_pushed zero ts b l small inside h =
      record { clock = ap (next_slot whole) h.clock; records = h.records; bytes = h.bytes; fits = h.fits; inside = h.inside }
  is_pushed (suc m) ts b l small inside h =
      let next = next_slot whole l.clock in
      let below = take m l.records in
      let d = drops m l h.fits h.inside in
      let kept = ap (λ (bs : List ℕ). map (keep_in next (length below) bs) ts) d ∙ keeps m l h.fits h.inside next (length below) ts inside in
      subst (λ (x : LedgerIn). Is (pushed_in (suc m) ts x) (pushed whole (suc m) ts l)) (sym (is_of b l h))
      (record {
        clock = refl;
        records = λ j. kept j ∷ below;
        bytes = ap (mark_all_in next ts) d ∙ mark_all_bytes next ts (dropped whole m l) inside;
        fits = fits_mark_all next ts (dropped whole m l) (fits_dropped m l h.fits h.inside) (next_below whole l.clock small);
        inside = (within_keep next (length below) (dropped whole m l) ts inside, within_take m l.records h.inside);
      })

  fits_restored : (clock h d : ℕ) → clock < whole → h ≤ whole → Fits (restored whole clock h d)
  fits_restored clock h d small few = go (ltb 0 d) (ltb d h) refl
    where
      go : (x y : Bool) → ltb d h ≡ y → Fits (cond (x && y) (Some (slot_back whole clock d)) None)
      go true true e = back_below whole clock d small (omega (arith, ltb-true d h e))
      go true false e = tt
      go false y e = tt

  pub is_popped : (n : ℕ) (b : LedgerIn) (l : Ledger) → n ≤ whole → l.clock < whole → length l.records ≤ n → Is b l →
      Is (popped_in b.records b) (popped whole l.records l)
  is_popped n b l few small most h =
      subst (λ (x : LedgerIn). Is (popped_in x.records x) (popped whole l.records l)) (sym (is_of b l h)) (go l.records most h.inside)
    where
      go : (rs : List (List Kept)) → length rs ≤ n → AllWithin rs → Is (popped_in rs (of l.clock l.records l.index)) (popped whole rs l)
      go [] m i = record { clock = refl; records = refl; bytes = refl; fits = h.fits; inside = h.inside }
      go (r ∷ older) m i =
          let e : Kept → Option ℕ = λ k. restored whole l.clock (suc (length older)) k.saved in
          let es : (k : Kept) → Fits (restored whole l.clock (suc (length older)) k.saved) =
          λ k. fits_restored l.clock (suc (length older)) k.saved small (omega arith) in
          record {
            clock = refl;
            records = refl;
            bytes = replace_all_bytes l.clock e es r l.index i.0 h.fits;
            fits = fits_replace_all l.clock e es r l.index h.fits;
            inside = i.1;
          }

  pub zeros : (n : ℕ) → replicate (16 * n) 0 ≡ index_bytes n (λ f. None)
  zeros zero = refl
  zeros (suc n) =
      let more : 16 * suc n ≡ 16 * n + 16 = omega arith in
      ap (λ (k : ℕ). replicate k 0) more
      ∙ sym (replicate-append-replicate (16 * n) 16 0)
      ∙ ap (λ (l : List ℕ). l ++ replicate 16 0) (zeros n)
      ∙ sym (flat_append entry_bytes (tabulate n (λ f. None)) (None ∷ []))

  module _ (n clock : ℕ) (few : n ≤ whole) (small : clock < whole) where
    pub is_after : (events : List Event) → AllInside frames events → Is (ledger_in frames n clock events) (ledger whole n clock events)
    is_after [] i = record { clock = refl; records = refl; bytes = zeros frames; fits = λ g. tt; inside = tt }
    is_after (ran ts ∷ before) i =
        is_pushed n ts (ledger_in frames n clock before) (ledger whole n clock before) (sound whole n clock few small before).small i.0 (is_after before i.1)
    is_after (took ∷ before) i =
        let s = sound whole n clock few small before in
        is_popped n (ledger_in frames n clock before) (ledger whole n clock before) few s.small s.most (is_after before i)

    -- THE THEOREM
    pub bytes_are_afresh : (events : List Event) → AllInside frames events →
        (ledger_in frames n clock events).bytes
        ≡ index_bytes frames (index_of whole (on_hand whole n clock events).clock (on_hand whole n clock events).steps)
    bytes_are_afresh events i =
        (is_after events i).bytes
        ∙ ap (flat entry_bytes)
        (tabulate_ext frames (ledger whole n clock events).index (index_of whole (on_hand whole n clock events).clock (on_hand whole n clock events).steps)
        (λ f h. kept_is_afresh whole n clock few small events f))
