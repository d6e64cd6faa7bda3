-- Document 02, L9: "You may remember the last page translated, if the answer is the same as the plain search for every table and address." What a page is remembered by,
-- which pages are, and when what is remembered is true of a table. Law `near-reach` is the sentence.
use Rattle.std.specs.Prelude.{◌≡◌, Bool, false, cond, ◌&&◌, ◌||◌, not, List, ℕ, ◌+◌, ◌*◌, ◌-◌, ◌/◌, ◌%◌, ◌^◌, ◌≤◌, eqb, leb, ltb, Option, Some, None}
use Rattle.word.specs.Map.{bit}
use Rattle.board.specs.Places.{ram_base}
use Rattle.tlb.specs.Entry.{read_at}
use Rattle.tlb.specs.Search.{found_in}
use Rattle.tlb.specs.declared.Row.{Row}
use Rattle.tlb.specs.declared.Hit.{Hit}
use Rattle.reach.specs.Check.{aligned_of}
use Rattle.reach.specs.declared.access.Width.{Width}
use Rattle.pages.specs.declared.Page.{Page}
use Rattle.pages.specs.declared.Pages.{Pages}

-- ---- aids to proofs: nothing that a reader must believe

-- the page of the address, the ASID of EntryHi, and KUc
unfoldable pub key_of : ℕ → ℕ → ℕ → ℕ
key_of status entry a = a / 2 ^ 12 * 2 ^ 12 + entry / 2 ^ 6 % 2 ^ 6 * 2 ^ 6 + status / 2 % 2 * 2 + 1

-- an EntryLo with V on, whose frame RAM holds
unfoldable pub in_ram : ℕ → ℕ → Bool
in_ram low ram = leb ram_base low && (bit 9 low && ltb ((low - ram_base) / 2 ^ 12) (ram / 2 ^ 12))

-- the EntryLo of a single match
abbrev pub single_in : Option Hit → List Row → Option ℕ
single_in (Some hit) t = cond hit.twice None (Some (read_at t hit.at).low)
single_in None t = None

-- the page is translated, and the mode may reach it
abbrev pub is_open : ℕ → Bool
is_open key = leb 0x20000000 key && (not (bit 1 key) || leb 0x80000000 key)

-- where a frame begins in RAM
abbrev pub frame_of : ℕ → ℕ
frame_of low = low / 2 ^ 12 * 2 ^ 12 - ram_base

abbrev pub page_in : ℕ → ℕ → Option ℕ → Option Page
page_in key ram (Some low) = cond (in_ram low ram) (Some (record { key = key; frame = frame_of low; dirty = bit 10 low })) None
page_in key ram None = None

-- what a key's page is remembered as, if at all
unfoldable pub page_of : ℕ → List Row → ℕ → Option Page
page_of key t ram = cond (is_open key) (page_in key ram (single_in (found_in key t) t)) None

-- D, as a page is remembered; where none is, it is off
abbrev pub dirty_of : Option Page → Bool
dirty_of (Some page) = page.dirty
dirty_of None = false

-- an access to the page that `known` is the key of: translated, and aligned
unfoldable pub is_near : ℕ → Width → ℕ → ℕ → ℕ → Bool
is_near known width status entry a = eqb known (key_of status entry a) && (bit 24 status && aligned_of width a)

abbrev pub with_key : Option Page → ℕ → Option Page
with_key (Some page) key = cond (eqb page.key key) (Some page) None
with_key None key = None

abbrev pub near_of : Option Page → Width → ℕ → ℕ → ℕ → Option Page
near_of (Some page) width status entry a = cond (is_near page.key width status entry a) (Some page) None
near_of None width status entry a = None

-- what is remembered of a page is true of the table: it is what is worked out for its key
abbrev pub Kept : Page → List Row → ℕ → Type 0
Kept page t ram = page_of page.key t ram ≡ Some page

abbrev pub Told : Option Page → List Row → ℕ → Type 0
Told (Some page) t ram = Kept page t ram
Told None t ram = Unit {0}

-- the page of fetches, and the page of data
pub record Known (pages : Pages) (t : List Row) (ram : ℕ) : Type 0 where
  pub fetches : Told pages.fetches t ram
  pub accesses : Told pages.accesses t ram

abbrev pub Holds : Option Page → ℕ → Type 0
Holds (Some page) ram = page.frame + 2 ^ 12 ≤ ram
Holds None ram = Unit {0}

-- the frame of fetches, if there is one, lies in RAM
abbrev pub Inside : Pages → ℕ → Type 0
Inside pages ram = Holds pages.fetches ram
