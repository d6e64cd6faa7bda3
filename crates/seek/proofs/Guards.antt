-- The guards of the public calls: numbers that do not fit leave no records to look at.
use Prim.Native.Nat.{ℕ, ◌+◌, ◌%◌, ◌≤◌}
use mathlib.Core.Path.{◌≡◌, refl, sym, ap, ap₂, ◌∙◌}
use mathlib.Core.Bool.{Bool, true, false, cond}
use mathlib.Core.List.{List, [], map}
use lib.Dec.{eqb, leb}
use lib.ListN.{length}
use borrow.Author.Tests.{leb-true}
use Rattle.word.proofs.Cond.{both}
use Rattle.memory.specs.Memory.{load_at}
use Rattle.seek.specs.OnHand.{fits_in, held_of, records_of}
use Rattle.seek.specs.Latest.{scan}
use Rattle.seek.specs.Pcs.{newest, oldest}
use Rattle.seek.specs.Seek.{has_word, writes_of, pc_of, last_change_of, newest_at_of, oldest_at_of}
use Rattle.std.specs.Prelude.{Option, None}
use Rattle.seek.specs.declared.Change.{Change}
use Rattle.seek.proofs.OnHand.{held_long}

pub has_room : (ram : List ℕ) (place : ℕ) → has_word ram place ≡ true → place + 4 ≤ length ram
has_room ram place e = leb-true (place + 4) (length ram) (both (eqb (place % 4) 0) (leb (place + 4) (length ram)) e).1

pub no_word : (ram journal : List ℕ) (hand next place : ℕ) → has_word ram place ≡ false → None ≡ last_change_of ram journal hand next place
unfolding last_change_of
no_word ram journal hand next place e =
    ap (λ (b : Bool). cond b (scan place (load_at 4 ram place) 0 (map writes_of (records_of journal hand next))) None) (sym e)

module _ (journal : List ℕ) (hand next : ℕ) where
  records : Bool → List (List ℕ)
  records b = cond b (held_of journal hand next) []

  module _ (e : fits_in journal hand next ≡ false) where
    none : [] ≡ records_of journal hand next
    unfolding records
    none = ap records (sym e)

    pub unfit_newest : (pc : ℕ) → None ≡ newest_at_of journal hand next pc
    unfolding newest_at_of
    unfit_newest pc = ap (λ (l : List (List ℕ)). newest pc 0 (map pc_of l)) none

    pub unfit_oldest : (pc : ℕ) → None ≡ oldest_at_of journal hand next pc
    unfolding oldest_at_of
    unfit_oldest pc = ap (λ (l : List (List ℕ)). oldest pc (map pc_of l) (length (map pc_of l))) none

    pub unfit_change : (ram : List ℕ) (place : ℕ) → None ≡ last_change_of ram journal hand next place
    unfolding last_change_of
    unfit_change ram place =
        either (has_word ram place)
        ∙ ap (λ (l : List (List ℕ)). cond (has_word ram place) (scan place (load_at 4 ram place) 0 (map writes_of l)) None) none
      where
        either : (b : Bool) → None ≡ cond {A = Option Change} b None None
        either true = refl
        either false = refl

  module _ (e : fits_in journal hand next ≡ true) where
    all : held_of journal hand next ≡ records_of journal hand next
    unfolding records
    all = ap records (sym e)

    pub fit_newest : (pc : ℕ) → newest pc 0 (map pc_of (held_of journal hand next)) ≡ newest_at_of journal hand next pc
    unfolding newest_at_of
    fit_newest pc = ap (λ (l : List (List ℕ)). newest pc 0 (map pc_of l)) all

    pub fit_oldest : (pc : ℕ) → oldest pc (map pc_of (held_of journal hand next)) hand ≡ oldest_at_of journal hand next pc
    unfolding oldest_at_of
    fit_oldest pc =
        ap (oldest pc (map pc_of (held_of journal hand next))) (sym (held_long pc_of journal hand next))
        ∙ ap (λ (l : List (List ℕ)). oldest pc (map pc_of l) (length (map pc_of l))) all

    pub fit_change : (ram : List ℕ) (place : ℕ) → has_word ram place ≡ true → (present : ℕ) → present ≡ load_at 4 ram place →
        scan place present 0 (map writes_of (held_of journal hand next)) ≡ last_change_of ram journal hand next place
    unfolding last_change_of
    fit_change ram place has present is =
        ap (λ (word : ℕ). scan place word 0 (map writes_of (held_of journal hand next))) is
        ∙ ap₂ (λ (l : List (List ℕ)) (b : Bool). cond b (scan place (load_at 4 ram place) 0 (map writes_of l)) None) all (sym has)
