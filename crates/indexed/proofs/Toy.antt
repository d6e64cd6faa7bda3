-- The laws can be kept: a toy machine whose step stores 1 at place 0, so that only the first step changes the word. And what its index is, by computing.
use Prim.{tt}
use Prim.Native.Nat.{ℕ, ◌<◌}
use mathlib.Core.Path.{◌≡◌, refl}
use mathlib.Core.Bool.{true, false}
use mathlib.Core.List.{List, [], ◌∷◌}
use native.Mathlib.Omega.{arith}
use lib.ListN.{length, get_or, replicate}
use Rattle.ring.specs.Slots.{next_slot, slot_back, written}
use Rattle.ring.proofs.Slots.{next_below}
use Rattle.ring.specs.Run as Run
use Rattle.ring.specs.Run.{advance}
use Rattle.ring.specs.Back.{undone, undone_side, all_fit, take_back}
use Rattle.ring.specs.Calls.{Call, run, back, called, called_all, start}
use Rattle.frames.specs.Bytes.{whole, entry_at}
use Rattle.word.specs.Big.{word_at}
use Rattle.frames.proofs.Clocks.{next_back}
use Rattle.indexed.specs.Ahead.{Ahead}
use Rattle.indexed.specs.Base.{Base, BaseLaws, machine_of, noted_by, Under}

record Toy : Type 0 where
  pub clock : ℕ
  pub word : ℕ

abbrev ahead : Ahead
ahead =
    record {
      State = Toy;
      step = λ s. record { clock = next_slot whole s.clock; word = 1 };
      stops = λ s. false;
      halts = λ s. false;
      size = 2;
      note = λ ds s. s.word ∷ get_or ds 0 0 ∷ [];
      clock = λ s. s.clock;
      word = λ s p. s.word;
      places = λ s. 0 ∷ [];
      noted = λ r. record { place = 0; old = get_or r 0 0; saved = get_or r 1 0 } ∷ [];
      bound = 65536;
    }

abbrev toy : Base
toy =
    record {
      ahead = ahead;
      undo = λ r s. record { clock = slot_back whole s.clock 1; word = get_or r 0 0 };
      Core = Unit;
      core = λ s. tt;
      fit = λ r o. true;
      undo_core = λ r o. tt;
    }

abbrev Good : Toy → Type 0
Good s = s.clock < whole

toy_laws : BaseLaws toy Good 1
toy_laws =
    record {
      back =
          record {
            keeps = λ s g. next_below whole s.clock g;
            noted = λ t s g. refl;
            fits = λ t s g. refl;
            undoes = λ t s g. (λ i. record { clock = next_back whole s.clock g i; word = s.word });
            cored = λ r s. refl;
          };
      small = λ s g. g;
      ticks = λ s g. refl;
      inside = λ s g. (omega arith, tt);
      notes = notes;
      room = omega arith;
    }
  where
    notes : (s : Toy) → Good s → (ds : List ℕ) → length ds ≡ 1 → Under 65536 ds → ahead.noted (ahead.note ds s) ≡ noted_by ahead s (0 ∷ []) ds
    notes s g [] e u = absurd (omega arith)
    notes s g (d ∷ []) e u = refl
    notes s g (d ∷ d' ∷ ds) e u = absurd (omega arith)

s₀ : Toy
s₀ = record { clock = 0; word = 0 }

-- the bytes of the index after some calls, with n slots
abbrev side : ℕ → List Call → List ℕ
side n calls = (called_all (machine_of toy) n calls (start s₀ (replicate 16 0) (replicate 8 0))).config.side

-- the first step changed the word; the second only stored it again
first : side 2 (run 2 false ∷ []) ≡ 0 ∷ 0 ∷ 0 ∷ 1 ∷ 0 ∷ 0 ∷ 0 ∷ 0 ∷ 0 ∷ 0 ∷ 0 ∷ 1 ∷ 0 ∷ 0 ∷ 0 ∷ 0 ∷ []
unfolding called_all called Run.run advance written entry_at word_at s₀
first = refl

-- with two slots the third step drops it
gone : side 2 (run 3 false ∷ []) ≡ replicate 16 0
unfolding called_all called Run.run advance written entry_at word_at s₀
gone = refl

-- with four it is still on hand, and taking all back leaves nothing
taken : side 4 (run 3 false ∷ back 3 ∷ []) ≡ replicate 16 0
unfolding called_all called Run.run advance written entry_at word_at s₀ take_back all_fit undone undone_side
taken = refl

-- taken back and run again it is the first step once more
again : side 4 (run 3 false ∷ back 3 ∷ run 1 false ∷ []) ≡ 0 ∷ 0 ∷ 0 ∷ 1 ∷ 0 ∷ 0 ∷ 0 ∷ 0 ∷ 0 ∷ 0 ∷ 0 ∷ 1 ∷ 0 ∷ 0 ∷ 0 ∷ 0 ∷ []
unfolding called_all called Run.run advance written entry_at word_at s₀ take_back all_fit undone undone_side
again = refl
