-- The effect of a user step: none on CP0 by an instruction, on the table or on a device; and on RAM only where the word fetched is a store, which lands through its row.
use Rattle.std.specs.Prelude.{Result, Ok, Err}
use Prim.{tt}
use Prim.Native.Nat.{ℕ, ◌*◌, ◌/◌, ◌≤◌, ◌<◌}
use mathlib.Core.Path.{◌≡◌, refl, sym, ap, subst, ◌∙◌}
use mathlib.Core.Bool.{Bool, true, false, not, ◌||◌, false≢true}
use mathlib.Core.List.{List}
use native.Mathlib.Omega.{arith}
use lib.Dec.{eqb}
use lib.ListN.{length, get_or}
use Rattle.word.specs.Map.{bit}
use Rattle.word.proofs.Cond.{picked}
use Rattle.alu.specs.Sum.{addiu_of}
use Rattle.isa.specs.Opcode.{decode_of}
use Rattle.isa.specs.declared.instr.Instr.{Instr}
use Rattle.isa.specs.declared.instr.Instr.TheVariants as instr
use Rattle.isa.specs.declared.instr.LoadOp.{LoadOp}
use Rattle.isa.specs.declared.instr.StoreOp.{StoreOp}
use Rattle.board.specs.Places.{ram_base}
use Rattle.board.specs.declared.places.Place.{Place}
use Rattle.board.specs.declared.places.Place.TheVariants as place
use Rattle.cp0.specs.Interrupt.{interrupts_of}
use Rattle.tlb.specs.Entry.{no_row}
use Rattle.tlb.specs.declared.Row.{Row}
use Rattle.reach.specs.Translate.{is_valid, is_dirty}
use Rattle.reach.specs.declared.Fault.{Fault}
use Rattle.reach.specs.declared.access.Kind.TheVariants.{Fetch, Store}
use Rattle.reach.specs.declared.access.Width.TheVariants.{Four}
use Rattle.state.specs.declared.machine.Core.{Core}
use Rattle.intend.specs.Access.{reached_of, store_width}
use Rattle.intend.specs.Intend.{intend_of}
use Rattle.intend.specs.Operand.{reg_of}
use Rattle.intend.specs.declared.intent.Intent.{Intent}
use Rattle.intend.specs.declared.intent.Intent.TheVariants as intent
use Rattle.decide.specs.Decide.{execute_of, fetched_of, decide_of}
use Rattle.decide.specs.Lent.{Lent, sizes_of, word_in, around}
use Rattle.decide.specs.Part.{store_part}
use Rattle.decide.specs.Settle.{to_register, loads_of, stores_of, stored_of, settle_of}
use Rattle.decide.specs.declared.effect.Effect.{Effect}
use Rattle.decide.specs.declared.effect.Effect.TheVariants.{Nothing, Register, HiLo, Control, Entry, TlbRow, Ram, DeviceLoad, DeviceStore, Raise}
use Rattle.decide.specs.declared.effect.Decision.{Decision}
use Rattle.step.specs.Step.{enters}
use Rattle.confined.specs.Confined.{frame_of}
use Rattle.confined.proofs.Through.{ThroughRow, store_through}
use Rattle.confined.proofs.Asked.{Asked, intend_asked}

pub unusable_user : {user cu : Bool} → user ≡ true → cu ≡ false → (not user || cu) ≡ false
unusable_user p q = rw (p, q)

-- what such a step's effect can be
abbrev pub Confines : Type 0 → Effect → Type 0
Confines S Nothing = Unit {0}
Confines S (Register d word) = Unit {0}
Confines S (HiLo hi lo) = Unit {0}
Confines S (Control r word) = ⊥
Confines S (Entry row) = ⊥
Confines S (TlbRow i high low) = ⊥
Confines S (Ram at word) = S
Confines S (DeviceLoad d offset) = Unit {0}
Confines S (DeviceStore offset word) = ⊥
Confines S (Raise e) = Unit {0}

to_register_lem : (S : Type 0) (d : ℕ) (e : Effect) → Confines S e → Confines S (to_register d e)
to_register_lem S d e h = picked (Confines S) (eqb d 0) Nothing e (λ _. tt) (λ _. h)

loads : (S : Type 0) (op : LoadOp) (d old word : ℕ) (p : Place) → Confines S (loads_of op d old word p)
loads S op d old word (place.Ram at) = to_register_lem S d _ tt
loads S op d old word (place.Execution at) = to_register_lem S d _ tt
loads S op d old word (place.Bootstrap at) = to_register_lem S d _ tt
loads S op d old word (place.Device at) = to_register_lem S d _ tt

module _ (core : Core) (regs : List ℕ) (t : List Row) (lent : Lent) where
  -- no interrupt entry, and the word fetched is a store
  pub record StoreFetched (op : StoreOp) (rt base offset : ℕ) : Type 0 where
    pub uninterrupted : interrupts_of core.cp0.status core.cp0.cause ≡ false
    pub place : Place
    pub fetched : reached_of Fetch Four core.cp0 t (sizes_of lent) core.pc ≡ Ok place
    pub decoded : decode_of (word_in lent place) ≡ instr.Store op rt base offset

  pub record SomeStore : Type 0 where
    pub op : StoreOp
    pub rt : ℕ
    pub base : ℕ
    pub offset : ℕ
    pub is : StoreFetched op rt base offset

  abbrev Through : StoreOp → ℕ → Place → Type 0
  Through op va p = ThroughRow t core.cp0.entry_hi (sizes_of lent) va (store_width op) p

  -- the store lands at a place of RAM, through its row, and its effect is the word around the place
  pub record Landed (op : StoreOp) (rt base offset : ℕ) : Type 0 where
    pub at : ℕ
    pub through : Through op (addiu_of (reg_of regs base) offset) (place.Ram at)
    pub effect : (decide_of core regs t lent).effect ≡ Ram (at / 4 * 4) (store_part op (reg_of regs rt) (around lent.ram at) at)

  module _ (user : bit 1 core.cp0.status ≡ true) (unusable : bit 28 core.cp0.status ≡ false) (virtual : bit 24 core.cp0.status ≡ true)
      (frames : (i : ℕ) → i < length t → is_valid (get_or t i no_row) ≡ true → is_dirty (get_or t i no_row) ≡ true → ram_base ≤ frame_of (get_or t i no_row)) where
    stores : (S : Type 0) (op : StoreOp) (x word va : ℕ) (p : Place) → Through op va p → S → Confines S (stores_of op x word p)
    stores S op x word va (place.Ram at) through s = s
    stores S op x word va (place.Execution at) through s = tt
    stores S op x word va (place.Bootstrap at) through s = tt
    stores S op x word va (place.Device at) through s = never through.is_ram
      where
        never : {k : ℕ} → place.Device at ≡ place.Ram k → ⊥
        never e = let z : ◌≡◌ {A = ℕ} 0 1 = cc in omega arith

    settles : (S : Type 0) (i : Instr) (j : Intent) → Asked core regs t (sizes_of lent) i j →
        ((op : StoreOp) (rt base offset : ℕ) → i ≡ instr.Store op rt base offset → S) → Confines S (settle_of core regs lent j).effect
    unfolding settle_of
    settles S i (intent.Write d v) asked some = to_register_lem S d _ tt
    settles S i (intent.Branch d v next) asked some = to_register_lem S d _ tt
    settles S i (intent.HiLo hi lo) asked some = tt
    settles S i (intent.Load op d va (Ok p)) asked some = loads S op d _ _ p
    settles S i (intent.Load op d va (Err fault)) asked some = tt
    settles S i (intent.Store op x va (Ok p)) asked some =
        stores S op x _ va p (store_through core.cp0 t (sizes_of lent) va (store_width op) user virtual frames (sym asked.answered))
        (some op asked.rt asked.base asked.offset asked.is)
    settles S i (intent.Store op x va (Err fault)) asked some = tt
    settles S i (intent.SetControl r word) asked some = asked
    settles S i (intent.SetEntry row) asked some = asked
    settles S i (intent.SetRow k row) asked some = asked
    settles S i (intent.Trap code coprocessor) asked some = tt

    module _ (quiet : interrupts_of core.cp0.status core.cp0.cause ≡ false) where
      fetched_confines : (answer : Result Place Fault) → reached_of Fetch Four core.cp0 t (sizes_of lent) core.pc ≡ answer →
          Confines SomeStore (fetched_of core regs t lent answer).effect
      unfolding execute_of
      fetched_confines (Ok p) e =
          settles SomeStore (decode_of (word_in lent p)) (intend_of core regs t (sizes_of lent) (decode_of (word_in lent p)))
          (intend_asked core regs t (sizes_of lent) (unusable_user user unusable) (decode_of (word_in lent p)))
          (λ op rt base offset is. record {
            op = op;
            rt = rt;
            base = base;
            offset = offset;
            is = record { uninterrupted = quiet; place = p; fetched = e; decoded = is };
          })
      fetched_confines (Err fault) e = tt

    pub decide_confines : Confines SomeStore (decide_of core regs t lent).effect
    unfolding decide_of
    decide_confines =
        picked (λ (d : Decision). Confines SomeStore d.effect) (interrupts_of core.cp0.status core.cp0.cause) _ _ (λ _. tt)
        (λ quiet. fetched_confines quiet (reached_of Fetch Four core.cp0 t (sizes_of lent) core.pc) refl)

    -- ---- and a store that raises nothing lands

    module _ (op : StoreOp) (rt base offset : ℕ) (s : StoreFetched op rt base offset) where
      abbrev va : ℕ
      va = addiu_of (reg_of regs base) offset

      decided : decide_of core regs t lent ≡ stored_of core lent op (reg_of regs rt) va (reached_of Store (store_width op) core.cp0 t (sizes_of lent) va)
      unfolding decide_of execute_of settle_of intend_of
      decided = rw (s.uninterrupted, s.fetched) (ap (λ i. settle_of core regs lent (intend_of core regs t (sizes_of lent) i)) s.decoded)

      lands : (answer : Result Place Fault) → reached_of Store (store_width op) core.cp0 t (sizes_of lent) va ≡ answer →
          enters (stored_of core lent op (reg_of regs rt) va answer).effect ≡ false → Landed op rt base offset
      lands (Ok p) e quiet =
          let through = store_through core.cp0 t (sizes_of lent) va (store_width op) user virtual frames e in
          record {
            at = through.at;
            through = subst (Through op va) through.is_ram through;
            effect =
                ap (λ (d : Decision). d.effect)
                (decided ∙ ap (stored_of core lent op (reg_of regs rt) va) (e ∙ ap Ok through.is_ram));
          }
      lands (Err fault) e quiet = absurd (false≢true (sym quiet))

      pub store_landed : enters (decide_of core regs t lent).effect ≡ false → Landed op rt base offset
      store_landed quiet = lands _ refl (ap (λ (d : Decision). enters d.effect) (sym decided) ∙ quiet)
