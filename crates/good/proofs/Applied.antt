-- What is decided, applied to a good world, leaves it good: effect by effect, then the PC pair and the slot.
use Prim.Native.Nat.{ℕ, ◌+◌, ◌^◌, ◌<◌}
use mathlib.Core.Path.{◌≡◌, ◌∙◌, sym, subst}
use mathlib.Core.List.{List, ◌++◌}
use native.Mathlib.Decide.{ℕ_discrete}
use lib.ListN.{length, get_or, set, take, drop, length-set, take-append-drop}
use lib.Seq.{get_or-set_same, get_or-set_other}
use Rattle.word.specs.Lists.{Below}
use Rattle.word.specs.Little.{to_bytes}
use Rattle.word.proofs.Lists.{below_append}
use Rattle.board.specs.declared.places.Sizes.{Sizes}
use Rattle.bus.specs.Store.{bus_write_of}
use Rattle.bus.proofs.Stores.{in_line}
use Rattle.memory.specs.Memory.{stored_at}
use Rattle.memory.proofs.OneCell.{to_below}
use Rattle.tlb.specs.Entry.{no_row}
use Rattle.tlb.specs.declared.Row.{Row}
use Rattle.state.specs.Layout.{row_of}
use Rattle.decide.specs.Range.{Within}
use Rattle.decide.specs.declared.effect.Effect.{Effect}
use Rattle.decide.specs.declared.effect.Effect.TheVariants.{Nothing, Register, HiLo, Control, Entry, TlbRow, Ram, DeviceLoad, DeviceStore, Raise}
use Rattle.decide.specs.declared.effect.Decision.{Decision}
use Rattle.proper.specs.Proper.{RowGood, Leaves, Proper}
use Rattle.step.specs.World.{World}
use Rattle.step.proofs.Zero.{zero_set}
use Rattle.step.specs.Apply.{board_stored, device_word, paired, effect_of, applied_of}
use Rattle.good.specs.Good.{Good}
use Rattle.good.proofs.Belows.{below_left, below_right, below_set}
use Rattle.good.proofs.Control.{with_cp0_lem, with_hi_lo_lem, with_pc_lem, slot_after_lem}
use Rattle.good.proofs.Device.{Countable, device_word_lem, small_store, board_stored_lem, lines_stored_lem}
use Rattle.good.proofs.Sound.{Registers, Table, Sound, good_sound, sound_good}

-- ---- one register, one row, one word of RAM

register_set : {l : List ℕ} (d word : ℕ) → Registers l → 0 < d → word < 2 ^ 32 → Registers (set l d word)
register_set {l} d word r above h = record {
  long = length-set l d word ∙ r.long;
  zero = zero_set l d word above r.zero;
  small = below_set l d word r.small h;
}

row_set : {t : List Row} (k : ℕ) (row : Row) → Table t → k < 16 → RowGood row → Table (set t k row)
row_set {t} k row s h g = record { long = length-set t k row ∙ s.long; each = λ i l. by i l (ℕ_discrete i k) }
  where
    by : (i : ℕ) → i < 16 → Dec (i ≡ k) → RowGood (get_or (set t k row) i no_row)
    by i l (yes e) =
        let inside : k < length t = rw s.long h in
        let same : get_or (set t k row) i no_row ≡ row = rw e (get_or-set_same t k row no_row inside) in
        subst RowGood (sym same) g
    by i l (no apart) = subst RowGood (sym (get_or-set_other t k i row no_row apart)) (s.each i l)

bytes_stored : (ram : List ℕ) (at word : ℕ) → Below 256 ram → Below 256 (stored_at 4 ram at word)
unfolding stored_at
bytes_stored ram at word h =
    let front : Below 256 (take at ram) = below_left (take at ram) (drop at ram) (subst (Below 256) (sym (take-append-drop at ram)) h) in
    let back : Below 256 (drop (at + 4) ram) = below_right (take (at + 4) ram) (drop (at + 4) ram) (subst (Below 256) (sym (take-append-drop (at + 4) ram)) h) in
    below_append (take at ram ++ to_bytes 4 word) (drop (at + 4) ram) (below_append (take at ram) (to_bytes 4 word) front (to_below 4 word)) back

-- ---- the effect

-- `Leaves` speaks of the core and the pending map as they are before the effect
pub effect_sound : (sizes : Sizes) (e : Effect) (w : World) → Countable sizes → Sound w → Within (length w.ram) 16 e →
    Leaves w.cpu.core w.board.line.pending e → Sound (effect_of sizes e w)
unfolding effect_of
effect_sound sizes Nothing w c s i l = s
effect_sound sizes (Register d word) w c s i l =
    record { regs = register_set d word s.regs i.0 l; core = s.core; rows = s.rows; board = s.board; ram = s.ram; paper = s.paper }
effect_sound sizes (HiLo hi lo) w c s i l =
    record { regs = s.regs; core = with_hi_lo_lem s.core hi lo l.0 l.1; rows = s.rows; board = s.board; ram = s.ram; paper = s.paper }
effect_sound sizes (Control r word) w c s i l =
    record { regs = s.regs; core = with_cp0_lem s.core _ _ l; rows = s.rows; board = s.board; ram = s.ram; paper = s.paper }
effect_sound sizes (Entry row) w c s i l =
    record { regs = s.regs; core = with_cp0_lem s.core _ _ l; rows = s.rows; board = s.board; ram = s.ram; paper = s.paper }
effect_sound sizes (TlbRow k high low) w c s i l =
    record { regs = s.regs; core = s.core; rows = row_set k (row_of high low) s.rows i l; board = s.board; ram = s.ram; paper = s.paper }
effect_sound sizes (Ram at word) w c s i l =
    record { regs = s.regs; core = s.core; rows = s.rows; board = s.board; ram = bytes_stored w.ram at word s.ram; paper = s.paper }
effect_sound sizes (DeviceLoad d offset) w c s i l =
    record {
      regs = register_set d (device_word sizes w.board offset) s.regs i.0 (device_word_lem sizes w.board c s.board offset);
      core = s.core;
      rows = s.rows;
      board = s.board;
      ram = s.ram;
      paper = s.paper;
    }
effect_sound sizes (DeviceStore offset word) w c s i l =
    let store = bus_write_of offset word in
    record {
      regs = s.regs;
      core = lines_stored_lem store (board_stored store w.board).line.pending s.core;
      rows = s.rows;
      board = board_stored_lem w.board s.board store (in_line offset word) (small_store offset word l);
      ram = s.ram;
      paper = s.paper;
    }
effect_sound sizes (Raise e) w c s i l =
    record { regs = s.regs; core = with_cp0_lem s.core _ _ l; rows = s.rows; board = s.board; ram = s.ram; paper = s.paper }

paired_sound : (d : Decision) (w : World) → d.pc < 2 ^ 32 → d.next_pc < 2 ^ 32 → Sound w → Sound (paired d w)
paired_sound d w pc next s =
    record { regs = s.regs; core = with_pc_lem (slot_after_lem s.core d.branched) d.pc d.next_pc pc next; rows = s.rows; board = s.board; ram = s.ram; paper = s.paper }

pub apply_sound : (sizes : Sizes) (d : Decision) (w : World) → Countable sizes → Sound w → Within (length w.ram) 16 d.effect →
    Proper w.cpu.core w.board.line.pending d → Sound (applied_of sizes d w)
apply_sound sizes d w c s i p = paired_sound d (effect_of sizes d.effect w) p.pc p.next (effect_sound sizes d.effect w c s i p.leaves)

pub apply_good : (sizes : Sizes) (d : Decision) (w : World) → Countable sizes → Good w → Within (length w.ram) 16 d.effect →
    Proper w.cpu.core w.board.line.pending d → Good (applied_of sizes d w)
apply_good sizes d w c g i p = sound_good (applied_of sizes d w) (apply_sound sizes d w c (good_sound w g) i p)
