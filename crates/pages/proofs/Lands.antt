-- A page that is remembered answers for every address in it as the plain search does.
use mathlib.Core.Path.{◌≡◌, refl, sym, ap, subst, ◌∙◌}
use mathlib.Core.Bool.{Bool, true, false, cond, ◌&&◌, ◌||◌, not}
use mathlib.Core.List.{List}
use Prim.Native.Nat.{ℕ, ◌+◌, ◌*◌, ◌-◌, ◌/◌, ◌%◌, ◌≤◌, ◌<◌}
use native.Mathlib.Omega.{arith}
use lib.Dec.{eqb, leb}
use lib.ListN.{get_or}
use borrow.Author.Tests.{leb-true, ltb-true, eqb-true, le-leb, lt-ltb}
use Rattle.std.specs.Prelude.{Option, Some, None, Ok}
use Rattle.std.proofs.lemmas.Option.{none-some, cond_some}
use Rattle.std.proofs.lemmas.Bool.{false≢true}
use Rattle.word.specs.Map.{bit}
use Rattle.word.proofs.Cond.{both, and_true}
use Rattle.board.specs.Places.{ram_base, spans, mapped_of}
use Rattle.board.specs.declared.places.Sizes.{Sizes}
use Rattle.board.specs.declared.places.Place.TheVariants.{Ram}
use Rattle.cp0.specs.Privilege.{mode_of}
use Rattle.tlb.specs.Entry.{no_row, asid_of, is_global, matches_of, read_at}
use Rattle.tlb.specs.Entry as entry
use Rattle.tlb.specs.Search.{hit_at, first_from, found_in}
use Rattle.tlb.specs.declared.Row.{Row}
use Rattle.tlb.specs.declared.Hit.{Hit}
use Rattle.tlb.proofs.Laws.{found_lowest, read_row}
use Rattle.reach.specs.Access.{is_store}
use Rattle.reach.specs.Check.{aligned_of, allowed_of}
use Rattle.reach.specs.Translate.{sought_of, by_row, translated_of}
use Rattle.reach.specs.Reach.{reach_of}
use Rattle.reach.specs.declared.access.Kind.{Kind}
use Rattle.reach.specs.declared.access.Kind.TheVariants.{Store}
use Rattle.reach.specs.declared.access.Width.{Width}
use Rattle.pages.specs.Pages.{key_of, in_ram, single_in, is_open, frame_of, page_in, is_near, near_of, dirty_of, Kept, Told}
use Rattle.pages.specs.declared.Page.{Page}
use Rattle.pages.specs.Pages as pages

-- ---- the key

-- what a key is made of, by its parts
module _ (page asid user : ℕ) (short : asid < 64) (one : user < 2) where
  made_page : (page * 4096 + asid * 64 + user * 2 + 1) / 4096 ≡ page
  made_page = omega arith

  made_asid : (page * 4096 + asid * 64 + user * 2 + 1) / 64 % 64 ≡ asid
  made_asid = omega arith

  made_user : (page * 4096 + asid * 64 + user * 2 + 1) / 2 % 2 ≡ user
  made_user = omega arith

module _ (status entry a : ℕ) where
  key_page : key_of status entry a / 4096 ≡ a / 4096
  unfolding key_of
  key_page = made_page _ _ _ (omega arith) (omega arith)

  key_asid : key_of status entry a / 64 % 64 ≡ entry / 64 % 64
  unfolding key_of
  key_asid = made_asid _ _ _ (omega arith) (omega arith)

  key_user : key_of status entry a / 2 % 2 ≡ status / 2 % 2
  unfolding key_of
  key_user = made_user _ _ _ (omega arith) (omega arith)

  sought_page : sought_of a entry / 4096 ≡ a / 4096
  sought_page = omega arith

  sought_asid : sought_of a entry / 64 % 64 ≡ entry / 64 % 64
  sought_asid = split (a / 4096) entry
    where
      split : (page low : ℕ) → (page * 4096 + low % 4096) / 64 % 64 ≡ low / 64 % 64
      split page low = omega arith

-- ---- the search goes by page and ASID alone

by_parts : ℕ → ℕ → Row → Bool
unfolding matches_of
by_parts page asid row = eqb (entry.page_of row.high) page && (eqb (asid_of row.high) asid || is_global row.low)

found_parts : (sought : ℕ) (t : List Row) → found_in sought t ≡ first_from (by_parts (sought / 4096) (sought / 64 % 64)) 0 t
unfolding matches_of by_parts
found_parts sought t = refl

found_key : (status entry a : ℕ) (t : List Row) → found_in (sought_of a entry) t ≡ found_in (key_of status entry a) t
found_key status e a t =
    found_parts (sought_of a e) t
    ∙ ap (λ (p : ℕ). first_from (by_parts p (sought_of a e / 64 % 64)) 0 t) (sought_page status e a ∙ sym (key_page status e a))
    ∙ ap (λ (p : ℕ). first_from (by_parts (key_of status e a / 4096) p) 0 t) (sought_asid status e a ∙ sym (key_asid status e a))
    ∙ sym (found_parts (key_of status e a) t)

-- ---- what a page that is remembered is

record InRam (low ram : ℕ) : Type 0 where
  above : 0x20000000 ≤ low
  valid : bit 9 low ≡ true
  below : (low - 0x20000000) / 4096 < ram / 4096

in_ram_lem : (low ram : ℕ) → in_ram low ram ≡ true → InRam low ram
unfolding in_ram
in_ram_lem low ram e =
    let first = both (leb 0x20000000 low) _ e in
    let rest = both (bit 9 low) _ first.1 in
    record { above = leb-true _ _ first.0; valid = rest.0; below = ltb-true _ _ rest.1 }

-- a key's page: open, with a single match that lies in RAM
record Paged (key : ℕ) (page : Page) (t : List Row) (ram : ℕ) : Type 0 where
  free : is_open key ≡ true
  at : ℕ
  found : found_in key t ≡ hit_at at false
  held : InRam (get_or t at no_row).low ram
  is : page ≡ record { key = key; frame = frame_of (get_or t at no_row).low; dirty = bit 10 (get_or t at no_row).low }

module _ (key : ℕ) (page : Page) (t : List Row) (ram : ℕ) where
  paged_at : (i : ℕ) (second : Bool) → is_open key ≡ true → found_in key t ≡ hit_at i second → page_in key ram (cond second None (Some (read_at t i).low)) ≡ Some page → Paged key page t ram
  paged_at i true o e g = absurd (none-some page g)
  paged_at i false o e g =
      let within = (found_lowest (matches_of key) t i false e).within in
      let made = cond_some (in_ram (get_or t i no_row).low ram) _ page (rw (read_row t i within) at g) in
      record { free = o; at = i; found = e; held = in_ram_lem _ ram made.0; is = sym made.1 }

  paged : pages.page_of key t ram ≡ Some page → Paged key page t ram
  unfolding pages.page_of
  paged h = go (is_open key) refl (found_in key t) refl h
    where
      go : (b : Bool) → is_open key ≡ b → (f : Option Hit) → found_in key t ≡ f → cond b (page_in key ram (single_in f t)) None ≡ Some page → Paged key page t ram
      go false o f e g = absurd (none-some page g)
      go true o None e g = absurd (none-some page g)
      go true o (Some hit) e g = paged_at hit.at hit.twice o e g

-- what is worked out for a key is kept under it
pub page_kept : (key : ℕ) (t : List Row) (ram : ℕ) {page : Page} → pages.page_of key t ram ≡ Some page → Kept page t ram
page_kept key t ram {page} h =
    let same : page.key ≡ key = ap (λ (p : Page). p.key) (paged key page t ram h).is in
    subst (λ (k : ℕ). pages.page_of k t ram ≡ Some page) (sym same) h

-- the EntryLo of a key's single match in the table; 0 is none
abbrev low_in : Option ℕ → ℕ
low_in (Some low) = low
low_in None = 0

abbrev pub entry_of : ℕ → List Row → ℕ
entry_of key t = low_in (single_in (found_in key t) t)

paged_entry : {key : ℕ} {page : Page} {t : List Row} {ram : ℕ} (p : Paged key page t ram) → entry_of key t ≡ (get_or t p.at no_row).low
paged_entry {key} {page} {t} {ram} p = let within = (found_lowest (matches_of key) t p.at false p.found).within in rw (p.found, read_row t p.at within)

-- ---- what it answers

pub record Near (known : ℕ) (width : Width) (status entry a : ℕ) : Type 0 where
  pub same : known ≡ key_of status entry a
  pub vm : bit 24 status ≡ true
  pub aligned : aligned_of width a ≡ true

pub hit : (known : ℕ) (width : Width) (status entry a : ℕ) → is_near known width status entry a ≡ true → Near known width status entry a
unfolding is_near
hit known width status e a h =
    let first = both (eqb known (key_of status e a)) _ h in
    let rest = both (bit 24 status) (aligned_of width a) first.1 in
    record { same = eqb-true _ _ first.0; vm = rest.0; aligned = rest.1 }

frame_in : (low ram : ℕ) → InRam low ram → frame_of low + 4096 ≤ ram
frame_in low ram r = let a = r.above in let b = r.below in omega (arith, a, b)

pub kept_inside : (page : Page) (t : List Row) (ram : ℕ) → Kept page t ram → page.frame + 4096 ≤ ram
kept_inside page t ram k =
    let p = paged page.key page t ram k in
    let whole = frame_in (get_or t p.at no_row).low ram p.held in
    rw (ap (λ (x : Page). x.frame) p.is) whole

-- a frame begins at a whole word
pub kept_whole : (page : Page) (t : List Row) (ram : ℕ) → Kept page t ram → page.frame % 4 ≡ 0
kept_whole page t ram k =
    let p = paged page.key page t ram k in
    let whole : (low : ℕ) → frame_of low % 4 ≡ 0 = λ low. omega arith in
    rw (ap (λ (x : Page). x.frame) p.is) (whole (get_or t p.at no_row).low)

-- the frame of an EntryLo in RAM begins there
pub low_above : (low ram : ℕ) → in_ram low ram ≡ true → 0x20000000 ≤ low
low_above low ram e = (in_ram_lem low ram e).above

or_same : (u v b : Bool) → u ≡ v → (not v || b) ≡ true → (not u || b) ≡ true
or_same u v b e h = rw e h

-- an open key's page is translated, and allowed
module _ (status entry a : ℕ) (vm : bit 24 status ≡ true) (free : is_open (key_of status entry a) ≡ true) where
  high : leb 0x20000000 a ≡ true
  high =
      let parts = both (leb 0x20000000 (key_of status entry a)) _ free in
      let above = leb-true 0x20000000 (key_of status entry a) parts.0 in
      let page = key_page status entry a in
      le-leb 0x20000000 a (omega (arith, above, page))

  user : bit 1 (key_of status entry a) ≡ bit 1 status
  user = ap (λ (x : ℕ). eqb x 1) (key_user status entry a)

  allowed : allowed_of (mode_of status) a ≡ true
  allowed =
      let parts = both (leb 0x20000000 (key_of status entry a)) _ free in
      go (bit 1 status) refl (rw user at parts.1)
    where
      go : (b : Bool) → bit 1 status ≡ b → (not b || leb 0x80000000 (key_of status entry a)) ≡ true → (not (bit 1 status) || leb (cond (bit 24 status) 0x80000000 0x20000000) a) ≡ true
      go false e h = rw e
      go true e h =
          let above = leb-true 0x80000000 (key_of status entry a) h in
          let page = key_page status entry a in
          rw (e, vm) (le-leb 0x80000000 a (omega (arith, above, page)))

-- a store only where D is on
abbrev pub MayReach : Kind → ℕ → Type 0
MayReach kind low = (is_store kind && not (bit 10 low)) ≡ false

spanned : (low a ram : ℕ) → InRam low ram → spans ram_base ram (low / 4096 * 4096 + a % 4096) ≡ true
spanned low a ram r =
    let above = r.above in
    let below = r.below in
    and_true (le-leb 0x20000000 (low / 4096 * 4096 + a % 4096) (omega (arith, above))) (lt-ltb (low / 4096 * 4096 + a % 4096 - 0x20000000) ram (omega (arith, above, below)))

placed : (low a ram : ℕ) → InRam low ram → low / 4096 * 4096 + a % 4096 - 0x20000000 ≡ frame_of low + a % 4096
placed low a ram r = let above = r.above in omega (arith, above)

module _ (kind : Kind) (width : Width) (sizes : Sizes) (t : List Row) (status entry a : ℕ) (page : Page) (p : Paged (key_of status entry a) page t sizes.ram)
    (vm : bit 24 status ≡ true) (aligned : aligned_of width a ≡ true) (may : MayReach kind (get_or t p.at no_row).low) where
  paged_reach : reach_of (mode_of status) (record { kind = kind; width = width }) sizes a t entry ≡ Ok (Ram (frame_of (get_or t p.at no_row).low + a % 4096))
  unfolding reach_of translated_of by_row mapped_of
  paged_reach =
      let low = (get_or t p.at no_row).low in
      rw (aligned, allowed status entry a vm p.free, vm, high status entry a vm p.free, found_key status entry a t, p.found, p.held.valid, may, spanned low a sizes.ram p.held, placed low a sizes.ram p.held)

-- the sentence of L9: near the page that is remembered, the answer is the one that the plain search gives
pub near_reach : (kind : Kind) (width : Width) (sizes : Sizes) (t : List Row) (known frame status entry a : ℕ) {page : Page} → is_near known width status entry a ≡ true →
    pages.page_of known t sizes.ram ≡ Some page → frame ≡ page.frame → MayReach kind (entry_of known t) →
    reach_of (mode_of status) (record { kind = kind; width = width }) sizes a t entry ≡ Ok (Ram (frame + a % 4096))
near_reach kind width sizes t known frame status e a {page} h k same may =
    let hit = hit known width status e a h in
    let p = paged (key_of status e a) page t sizes.ram (subst (λ (x : ℕ). pages.page_of x t sizes.ram ≡ Some page) hit.same k) in
    let place : frame ≡ frame_of (get_or t p.at no_row).low = same ∙ ap (λ (x : Page). x.frame) p.is in
    let may' = rw (hit.same, paged_entry p) at may in
    rw place (paged_reach kind width sizes t status e a page p hit.vm hit.aligned may')

-- D, as it is remembered, is that of the table's own entry
pub may_store : (t : List Row) (ram known : ℕ) (dirty : Bool) → dirty ≡ dirty_of (pages.page_of known t ram) → dirty ≡ true → MayReach Store (entry_of known t)
may_store t ram known dirty is on = go (pages.page_of known t ram) refl (sym is ∙ on)
  where
    go : (made : Option Page) → pages.page_of known t ram ≡ made → dirty_of made ≡ true → MayReach Store (entry_of known t)
    go (Some page) e told =
        let p = paged known page t ram e in
        let entry : bit 10 (get_or t p.at no_row).low ≡ true = sym (ap (λ (x : Page). x.dirty) p.is) ∙ told in
        rw (paged_entry p, entry)
    go None e told = absurd (false≢true told)

-- what is told of the page of an access that is near it
pub record NearPage (page : Page) (width : Width) (status entry a : ℕ) (t : List Row) (ram : ℕ) : Type 0 where
  pub near : is_near page.key width status entry a ≡ true
  pub kept : Kept page t ram

pub near_page : (known : Option Page) {page : Page} (width : Width) (status entry a : ℕ) {t : List Row} {ram : ℕ} → near_of known width status entry a ≡ Some page → Told known t ram →
    NearPage page width status entry a t ram
near_page None {page} width status e a h told = absurd (none-some page h)
near_page (Some p) {page} width status e a {t} {ram} h told =
    let made = cond_some (is_near p.key width status e a) p page h in
    subst (λ (x : Page). NearPage x width status e a t ram) made.1 (record { near = made.0; kept = told })
