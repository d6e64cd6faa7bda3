-- THE MACHINE OF DOCUMENTS 01 AND 02 KEEPS THE LAWS THAT THE INDEX ASKS, so that all that `indexed` proves of the index holds of it.
use Prim.{tt}
use Prim.Native.Nat.{ℕ, ◌*◌, ◌<◌}
use mathlib.Core.Path.{◌≡◌, refl, ap, ◌∙◌}
use mathlib.Core.List.{List, [], ◌∷◌}
use native.Mathlib.Nat.{mod-eq_of_lt}
use native.Mathlib.Omega.{arith}
use lib.ListN.{length}
use Rattle.word.specs.Lists.{Below}
use Rattle.ring.specs.Slots.{next_slot}
use Rattle.ring.specs.Machine.{Laws}
use Rattle.clock.specs.Tick.{time_of}
use Rattle.decide.specs.Range.{Within}
use Rattle.decide.specs.declared.effect.Effect.{Effect}
use Rattle.decide.specs.declared.effect.Effect.TheVariants.{Nothing, Register, HiLo, Control, Entry, TlbRow, Ram, DeviceLoad, DeviceStore, Raise}
use Rattle.record.specs.declared.Record.{Record}
use Rattle.step.specs.World.{World, Roms}
use Rattle.step.specs.Tick.{tick_of}
use Rattle.step.specs.Step.{effect_in, step_of}
use Rattle.step.specs.Note.{saved_of, note_of}
use Rattle.step.proofs.Stepped.{step_time}
use Rattle.good.proofs.Lengths.{step_lengths}
use Rattle.good.proofs.Sound.{good_sound}
use Rattle.restored.proofs.Undoes.{within}
use Rattle.restored.proofs.Notes.{recorded}
use Rattle.frames.specs.Bytes.{whole}
use Rattle.indexed.specs.Ahead.{Noted}
use Rattle.indexed.specs.Base as indexed
use Rattle.indexed.specs.Base.{Under, noted_by, BaseLaws}
use Rattle.marks.specs.Index.{places_of, noted_in, distance_in, ahead}
use Rattle.marks.proofs.Clock.{tick_next}
use Rattle.back.specs.Back.{base, both}
use Rattle.back.specs.Allowed.{Framed}
use Rattle.back.proofs.Law.{laws}

-- ---- the places: those that the record says

frames_of : (frames room rows : ℕ) (e : Effect) → room ≡ 4096 * frames → Within room rows e → indexed.Framed frames (places_of e)
frames_of frames room rows Nothing long h = tt
frames_of frames room rows (Register d word) long h = tt
frames_of frames room rows (HiLo hi lo) long h = tt
frames_of frames room rows (Control r word) long h = tt
frames_of frames room rows (Entry row) long h = tt
frames_of frames room rows (TlbRow i high low) long h = tt
frames_of frames room rows (Ram at word) long h = (omega (arith, h.1), tt)
frames_of frames room rows (DeviceLoad d offset) long h = tt
frames_of frames room rows (DeviceStore offset word) long h = tt
frames_of frames room rows (Raise e) long h = tt

module _ (roms : Roms) (w : World) where
  abbrev says : Effect → List ℕ → List Noted
  says e ds = noted_in (saved_of (distance_in ds) e w.cpu.regs w.cpu.tlb w.ram)

  one_place : (at : ℕ) (word : ℕ) (ds : List ℕ) → length ds ≡ 1 → Under 65536 ds → says (Ram at word) ds ≡ noted_by (ahead roms) w (at ∷ []) ds
  one_place at word [] long few = absurd (omega (arith, long))
  one_place at word (d ∷ []) long few =
      ap {B = List Noted} (λ (k : ℕ). record { place = at; old = (ahead roms).word w at; saved = k } ∷ []) (mod-eq_of_lt few.0)
  one_place at word (d ∷ e ∷ ds) long few = absurd (omega (arith, long))

  noted_places : (e : Effect) (ds : List ℕ) → length ds ≡ length (places_of e) → Under 65536 ds → says e ds ≡ noted_by (ahead roms) w (places_of e) ds
  noted_places Nothing ds long few = refl
  noted_places (Register d word) ds long few = refl
  noted_places (HiLo hi lo) ds long few = refl
  noted_places (Control r word) ds long few = refl
  noted_places (Entry row) ds long few = refl
  noted_places (TlbRow i high low) ds long few = refl
  noted_places (Ram at word) ds long few = one_place at word ds long few
  noted_places (DeviceLoad d offset) ds long few = refl
  noted_places (DeviceStore offset word) ds long few = refl
  noted_places (Raise e) ds long few = refl

-- ---- the laws, with ROMs of bytes and a RAM of so many frames

module _ (roms : Roms) (execution : Below 256 roms.execution) (bootstrap : Below 256 roms.bootstrap) (frames : ℕ) where
  keeps : (w : World) → Framed roms frames w → Framed roms frames (step_of roms w)
  keeps w f =
      let a = f.allowed in
      let some : 0 < length w.cpu.tlb = omega (arith, a.good.typed.sized.tlb) in
      record { allowed = (laws roms execution bootstrap).keeps w a; ram = (step_lengths roms w a.whole some).ram ∙ f.ram }

  pub framed_laws : Laws (both roms) (Framed roms frames)
  framed_laws =
      let L = laws roms execution bootstrap in
      record {
        keeps = keeps;
        noted = λ tag w f. L.noted tag w f.allowed;
        fits = λ tag w f. L.fits tag w f.allowed;
        undoes = λ tag w f. L.undoes tag w f.allowed;
        cored = L.cored;
      }

  small : (w : World) → Framed roms frames w → time_of w.board.clock < whole
  small w f =
      let clock = (good_sound w f.allowed.good).board.clock in
      omega (arith, clock 0 (omega arith), clock 1 (omega arith))

  ticks : (w : World) → Framed roms frames w → time_of (step_of roms w).board.clock ≡ next_slot whole (time_of w.board.clock)
  unfolding tick_of
  ticks w f = step_time roms w ∙ tick_next w.board.clock (small w f)

  notes : (w : World) → Framed roms frames w → (ds : List ℕ) → length ds ≡ length (places_of (effect_in roms w)) → Under 65536 ds →
      (ahead roms).noted ((ahead roms).note ds w) ≡ noted_by (ahead roms) w (places_of (effect_in roms w)) ds
  unfolding note_of
  notes w f ds long few =
      ap (λ (r : Record). noted_in r.saved) (recorded (distance_in ds) roms w f.allowed.good f.allowed.whole)
      ∙ noted_places roms w (effect_in roms w) ds long few

  pub index_laws : BaseLaws (base roms) (Framed roms frames) frames
  index_laws =
      record {
        back = framed_laws;
        small = small;
        ticks = ticks;
        inside = λ w f. frames_of frames (length w.ram) (length w.cpu.tlb) (effect_in roms w) f.ram (within roms w f.allowed.good f.allowed.whole);
        notes = notes;
        room = omega arith;
      }
