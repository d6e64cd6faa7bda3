-- What a step saves of the place that it overwrites is in range and made of words, effect by effect.
use Prim.Native.Nat.{ℕ, ◌%◌, ◌^◌, ◌<◌}
use mathlib.Core.Path.{◌≡◌, refl}
use mathlib.Core.Bool.{true}
use mathlib.Core.List.{List}
use native.Mathlib.Nat.{mod-lt}
use native.Mathlib.Omega.{arith}
use borrow.Author.Tests.{le-leb, lt-ltb, eq-eqb}
use lib.ListN.{length, get_or}
use Rattle.word.specs.Lists.{Below}
use Rattle.word.proofs.Cond.{and_true}
use Rattle.word.proofs.Lists.{below_numerals}
use Rattle.memory.specs.Memory.{load_at}
use Rattle.memory.proofs.OneCell.{load_small}
use Rattle.tlb.specs.Entry.{no_row}
use Rattle.tlb.specs.declared.Row.{Row}
use Rattle.decide.specs.Range.{Within}
use Rattle.decide.specs.declared.effect.Effect.{Effect}
use Rattle.decide.specs.declared.effect.Effect.TheVariants.{Nothing, Register, HiLo, Control, Entry, TlbRow, Ram, DeviceLoad, DeviceStore, Raise}
use Rattle.record.specs.declared.Saved.{Saved}
use Rattle.record.specs.declared.Saved.TheVariants as saved
use Rattle.record.specs.Layout.{distance_room, saved_words}
use Rattle.record.specs.Keeps.{saved_ranged}
use Rattle.step.specs.Note.{saved_of}
use Rattle.good.proofs.Belows.{below_any, each_below}
use Rattle.good.proofs.Sound.{Registers, Table}
use Rattle.undo.specs.Fit.{ram_place_fits}

-- all that is asked of what is saved, for RAM of so many bytes
pub record SavedGood (s : Saved) (room : ℕ) : Type 0 where
  pub ranged : saved_ranged s ≡ true
  pub words : Below (2 ^ 32) (saved_words s)
  pub place : ram_place_fits s room ≡ true

module _ (distance : ℕ) (regs : List ℕ) (t : List Row) (ram : List ℕ) (registers : Registers regs) (table : Table t) (few : length ram < 2 ^ 32) (bytes : Below 256 ram) where
  abbrev Saves : Effect → Type 0
  Saves e = SavedGood (saved_of distance e regs t ram) (length ram)

  nothing : SavedGood saved.Nothing (length ram)
  nothing = record { ranged = refl; words = below_numerals (saved_words saved.Nothing) refl; place = refl }

  register : (d : ℕ) → 0 < d → d < 32 → SavedGood (saved.Register d (get_or regs d 0)) (length ram)
  register d above small =
      let old : get_or regs d 0 < 2 ^ 32 = below_any regs registers.small (omega arith) d in
      record {
        ranged = and_true (le-leb 1 d above) (le-leb d 31 (omega arith));
        words = each_below (saved_words (saved.Register d (get_or regs d 0))) (omega arith);
        place = refl;
      }

  table_row : (i : ℕ) → i < 16 → SavedGood (saved.TlbRow i (get_or t i no_row)) (length ram)
  table_row i small =
      let old = table.each i small in
      record {
        ranged = lt-ltb i 16 small;
        words = each_below (saved_words (saved.TlbRow i (get_or t i no_row))) (omega arith);
        place = refl;
      }

  pub saves : (e : Effect) → Within (length ram) 16 e → Saves e
  saves Nothing i = nothing
  saves (Register d word) i = register d i.0 i.1
  saves (HiLo hi lo) i = nothing
  saves (Control r word) i = nothing
  saves (Entry row) i = nothing
  saves (TlbRow k high low) i = table_row k i
  saves (Ram at word) i =
      let old : load_at 4 ram at < 2 ^ 32 = load_small 4 ram at i.1 bytes in
      let short : distance % distance_room < distance_room = mod-lt distance (omega arith) in
      record {
        ranged = and_true (eq-eqb _ 0 i.0) (lt-ltb _ distance_room short);
        words = each_below (saved_words (saved.RamWord at (load_at 4 ram at) (distance % distance_room))) (omega arith);
        place = le-leb _ (length ram) i.1;
      }
  saves (DeviceLoad d offset) i = register d i.0 i.1
  saves (DeviceStore offset word) i = nothing
  saves (Raise e) i = nothing
