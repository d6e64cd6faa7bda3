-- Where an access can land, and where not: what a caller needs who then reads or writes there.
use mathlib.Core.Path.{◌≡◌, refl, ap, sym, ◌∙◌}
use mathlib.Core.Bool.{true, not, false≢true}
use mathlib.Core.List.{List}
use Prim.Native.Nat.{ℕ, ◌+◌, ◌*◌, ◌/◌, ◌%◌, ◌≤◌, ◌<◌}
use native.Mathlib.Omega.{arith}
use borrow.Author.Tests.{eqb-true}
use Rattle.std.specs.Prelude.{Ok}
use Rattle.word.proofs.Cond.{both}
use Rattle.board.proofs.Areas.{offset_of, size_of, mapped_inside}
use Rattle.board.specs.declared.places.Sizes.{Sizes}
use Rattle.board.specs.declared.places.Place.{Place}
use Rattle.board.specs.declared.places.Place.TheVariants.{Ram, Execution, Bootstrap, Device}
use Rattle.cp0.specs.declared.privilege.Mode.{Mode}
use Rattle.tlb.specs.declared.Row.{Row}
use Rattle.reach.specs.Access.{is_fetch, is_word, alignment}
use Rattle.reach.specs.Bus.{permits}
use Rattle.reach.specs.Reach.{reach_of}
use Rattle.reach.specs.declared.access.Kind.{Kind}
use Rattle.reach.specs.declared.access.Kind.TheVariants.{Fetch, Load, Store}
use Rattle.reach.specs.declared.access.Width.{Width}
use Rattle.reach.specs.declared.access.Width.TheVariants.{One, Two, Four, Part}
use Rattle.reach.specs.declared.access.Access.{Access}
use Rattle.reach.proofs.Landing.{landing}

abbrev pub NotRom : Place → Type 0
NotRom (Ram at) = Unit
NotRom (Execution at) = ⊥
NotRom (Bootstrap at) = ⊥
NotRom (Device at) = Unit

store_permitted : (width : Width) (place : Place) → permits Store width place ≡ true → NotRom place
store_permitted width (Ram at) h = tt
store_permitted width (Execution at) h = false≢true h
store_permitted width (Bootstrap at) h = false≢true h
store_permitted width (Device at) h = tt

word_only : (width : Width) → is_word width ≡ true → width ≡ Four
word_only One h = absurd (false≢true h)
word_only Two h = absurd (false≢true h)
word_only Four h = refl
word_only Part h = absurd (false≢true h)

not_fetch : (kind : Kind) → not (is_fetch kind) ≡ true → kind ≡ Fetch → ⊥
not_fetch Fetch h e = false≢true h
not_fetch Load h e = let z : ◌≡◌ {A = ℕ} 0 1 = cc in omega arith
not_fetch Store h e = let z : ◌≡◌ {A = ℕ} 0 1 = cc in omega arith

-- the bytes of an access lie in the area: all of the width's, and the whole aligned word of which Part is one
abbrev pub Fits : Width → ℕ → ℕ → Type 0
Fits One at size = at + 1 ≤ size
Fits Two at size = at + 2 ≤ size
Fits Four at size = at + 4 ≤ size
Fits Part at size = at / 4 * 4 + 4 ≤ size

-- an area of whole words has room for what is aligned there
room : (width : Width) (at size : ℕ) → size % 4 ≡ 0 → at < size → at % alignment width ≡ 0 → Fits width at size
room One at size w l m = omega arith
room Two at size w l m = omega arith
room Four at size w l m = omega arith
room Part at size w l m = omega arith

-- alignment looks at the place in a word alone
moved : (width : Width) (at a : ℕ) → at % 4 ≡ a % 4 → a % alignment width ≡ 0 → at % alignment width ≡ 0
moved One at a s m = omega arith
moved Two at a s m = omega arith
moved Four at a s m = omega arith
moved Part at a s m = omega arith

module _ (mode : Mode) (access : Access) (sizes : Sizes) (a : ℕ) (t : List Row) (entry : ℕ) where
  pub lands_within : {place : Place} → reach_of mode access sizes a t entry ≡ Ok place → offset_of place < size_of sizes place
  lands_within h =
      let l = landing mode access sizes a t entry h in
      (mapped_inside sizes l.physical l.maps).within

  pub lands_aligned : {place : Place} → reach_of mode access sizes a t entry ≡ Ok place → offset_of place % alignment access.width ≡ 0
  lands_aligned {place} h =
      let l = landing mode access sizes a t entry h in
      moved access.width (offset_of place) a
      ((mapped_inside sizes l.physical l.maps).same ∙ l.same)
      (eqb-true (a % alignment access.width) 0 l.aligned)

  -- what a caller asks who reads or writes the width's bytes at the offset
  pub lands_fits : {place : Place} → reach_of mode access sizes a t entry ≡ Ok place →
      size_of sizes place % 4 ≡ 0 → Fits access.width (offset_of place) (size_of sizes place)
  lands_fits {place} h w = room access.width (offset_of place) (size_of sizes place) w (lands_within h) (lands_aligned h)

  -- a store never lands in ROM
  pub store_not_rom : {place : Place} → access.kind ≡ Store → reach_of mode access sizes a t entry ≡ Ok place → NotRom place
  store_not_rom {place} s h =
      store_permitted access.width place
      (ap (λ k. permits k access.width place) (sym s) ∙ (landing mode access sizes a t entry h).permitted)

  -- what lands in the device area is LW or SW: neither a fetch nor another width
  pub device_word_lem : {at : ℕ} → reach_of mode access sizes a t entry ≡ Ok (Device at) → access.width ≡ Four
  device_word_lem h =
      word_only access.width
      (both (not (is_fetch access.kind)) (is_word access.width) (landing mode access sizes a t entry h).permitted).1

  pub device_not_fetch : {at : ℕ} → reach_of mode access sizes a t entry ≡ Ok (Device at) → access.kind ≡ Fetch → ⊥
  device_not_fetch h =
      not_fetch access.kind
      (both (not (is_fetch access.kind)) (is_word access.width) (landing mode access sizes a t entry h).permitted).0
