-- What is remembered stays true where a page is remembered anew, and where all is forgotten.
use mathlib.Core.Path.{◌≡◌, sym, subst}
use mathlib.Core.List.{List}
use Prim.Native.Nat.{ℕ, ◌+◌, ◌≤◌}
use lib.Dec.{eqb}
use Rattle.std.specs.Prelude.{Option, Some, None}
use Rattle.std.specs.Option.{option_or}
use Rattle.std.proofs.lemmas.Option.{none-some, cond_some}
use Rattle.tlb.specs.declared.Row.{Row}
use Rattle.pages.specs.Pages.{page_of, with_key, Told, Known, Holds, Inside}
use Rattle.pages.specs.declared.Page.{Page}
use Rattle.pages.specs.declared.Pages.{Pages}
use Rattle.pages.proofs.Lands.{page_kept, kept_inside}

-- what is worked out, or else what was known
pub told_anew : (key : ℕ) (t : List Row) (ram : ℕ) (known made : Option Page) → made ≡ page_of key t ram → Told known t ram → Told (option_or made known) t ram
told_anew key t ram known (Some page) e told = page_kept key t ram (sym e)
told_anew key t ram known None e told = told

pub told_holds : (known : Option Page) (t : List Row) (ram : ℕ) → Told known t ram → Holds known ram
told_holds (Some page) t ram k = kept_inside page t ram k
told_holds None t ram k = tt

-- nothing remembered is true of every table
pub knows_none : (t : List Row) (ram : ℕ) → Known (record { fetches = None; accesses = None }) t ram
knows_none t ram = record { fetches = tt; accesses = tt }

pub known_inside : {pages : Pages} {t : List Row} {ram : ℕ} → Known pages t ram → Inside pages ram
known_inside {pages} {t} {ram} k = told_holds pages.fetches t ram k.fetches

-- the frame of the page of a key
pub inside_key : (known : Option Page) (key : ℕ) {ram : ℕ} {page : Page} → with_key known key ≡ Some page → Holds known ram → page.frame + 4096 ≤ ram
inside_key None key {page = page} h inside = absurd (none-some page h)
inside_key (Some p) key {ram} {page} h inside = subst (λ (x : Page). x.frame + 4096 ≤ ram) (cond_some (eqb p.key key) p page h).1 inside
