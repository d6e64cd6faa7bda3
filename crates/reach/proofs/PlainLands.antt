-- A plain access lands in RAM, whatever the table holds and whoever asks.
use mathlib.Core.Path.{◌≡◌, refl}
use mathlib.Core.Bool.{Bool, true, false, ◌||◌, ◌&&◌, not}
use mathlib.Core.List.{List}
use Prim.Native.Nat.{ℕ, ◌-◌, ◌%◌, ◌≤◌, ◌<◌}
use lib.Dec.{leb, ltb}
use borrow.Author.Tests.{not-true, leb-true, ltb-true, eqb-true}
use Rattle.std.specs.Prelude.{Ok}
use Rattle.word.specs.Map.{bit}
use Rattle.word.proofs.Cond.{both}
use Rattle.board.specs.Places.{ram_base, spans, mapped_of}
use Rattle.board.specs.declared.places.Sizes.{Sizes}
use Rattle.board.specs.declared.places.Place.TheVariants.{Ram}
use Rattle.cp0.specs.Privilege.{mode_of}
use Rattle.tlb.specs.declared.Row.{Row}
use Rattle.reach.specs.Access.{alignment}
use Rattle.reach.specs.Check.{aligned_of, allowed_of}
use Rattle.reach.specs.Translate.{translated_of}
use Rattle.reach.specs.Reach.{reach_of}
use Rattle.reach.specs.Plain.{plain_of}
use Rattle.reach.specs.declared.access.Kind.{Kind}
use Rattle.reach.specs.declared.access.Width.{Width}

-- what the test tells
pub record Plain (status : ℕ) (width : Width) (ram va : ℕ) : Type 0 where
  pub vm : bit 24 status ≡ false
  pub aligned : aligned_of width va ≡ true
  pub spanned : spans ram_base ram va ≡ true
  pub multiple : va % alignment width ≡ 0
  pub above : 0x20000000 ≤ va
  pub within : va - 0x20000000 < ram

pub is_plain : (status : ℕ) (width : Width) (ram va : ℕ) → plain_of status width ram va ≡ true → Plain status width ram va
unfolding plain_of
is_plain status width ram va h =
    let off = both (not (bit 24 status)) (aligned_of width va && spans ram_base ram va) h in
    let rest = both (aligned_of width va) (spans ram_base ram va) off.1 in
    let ends = both (leb 0x20000000 va) (ltb (va - 0x20000000) ram) rest.1 in
    record {
      vm = not-true (bit 24 status) off.0;
      aligned = rest.0;
      spanned = rest.1;
      multiple = eqb-true (va % alignment width) 0 rest.0;
      above = leb-true 0x20000000 va ends.0;
      within = ltb-true (va - 0x20000000) ram ends.1;
    }

or_true : (u b : Bool) → b ≡ true → (u || b) ≡ true
or_true true b h = refl
or_true false b h = h

module _ (status : ℕ) (kind : Kind) (width : Width) (sizes : Sizes) (va : ℕ) (t : List Row) (entry : ℕ) where
  pub plain_reach : plain_of status width sizes.ram va ≡ true →
      reach_of (mode_of status) (record { kind = kind; width = width }) sizes va t entry ≡ Ok (Ram (va - 0x20000000))
  unfolding reach_of translated_of mapped_of
  plain_reach h =
      let p = is_plain status width sizes.ram va h in
      let high = (both (leb 0x20000000 va) (ltb (va - 0x20000000) sizes.ram) p.spanned).0 in
      let allowed : allowed_of (mode_of status) va ≡ true = or_true (not (bit 1 status)) _ (rw p.vm high) in
      rw (p.aligned, allowed, p.vm, p.spanned)
