-- The word of an instruction says that instruction again.
use mathlib.Core.Path.{◌≡◌, refl, ◌∙◌}
use Prim.Native.Nat.{ℕ, ◌^◌, ◌<◌}
use lib.Dec.{lit<}
use lib.ListN.{get_or}
use Rattle.isa.specs.Fields.{rs, rt, rd, shamt, immediate}
use Rattle.isa.specs.Special.{Function, functions}
use Rattle.isa.specs.Special as F
use Rattle.isa.specs.Opcode.{Opcode, opcodes, decode_of}
use Rattle.isa.specs.Opcode as O
use Rattle.isa.specs.Regimm.{conditions}
use Rattle.isa.specs.Regimm as R
use Rattle.isa.specs.Cop0.{control_of, register_of}
use Rattle.std.proofs.Common.{Some}
use Rattle.isa.specs.declared.instr.ControlRegister.{ControlRegister}
use Rattle.isa.specs.Encode.{r_type, i_type, encode_of, Proper, encode_control, ProperControl}
use Rattle.isa.specs.Encode as E
use Rattle.isa.proofs.Words.{r_opcode, r_rs, r_rt, r_rd, r_shamt, r_funct, i_opcode, i_rs, i_rt, i_immediate, j_opcode, j_target}
use Rattle.isa.proofs.Listed.{At, shift_listed, shift_by_listed, register_listed, product_listed, from_listed, to_listed, jump_listed, compare_listed, immediate_listed, load_listed, store_listed, control_listed}
use Rattle.isa.specs.declared.instr.Instr.{Instr}
use Rattle.isa.specs.declared.instr.Instr.TheVariants.{Reserved, Unusable, Syscall, Break, Shift, ShiftBy, Register, Product, MoveFrom, MoveTo, JumpRegister, JumpLinkRegister, Jump, Compare, Sign, Immediate, LoadUpper, Load, Store}
use Rattle.isa.specs.declared.instr.Instr.TheVariants as instr
use Rattle.isa.specs.declared.instr.SignOp.{SignOp}
use Rattle.isa.specs.declared.instr.SignOp.TheVariants.{Bltz, Bgez, Bltzal, Bgezal, Blez, Bgtz}
use Rattle.isa.specs.declared.instr.Control.{Control}
use Rattle.isa.specs.declared.instr.Control.TheVariants.{Undefined, Mfc0, Mtc0, Tlbr, Tlbwi, Tlbwr, Tlbp, Rfe}

-- ---- a word of SPECIAL says what its function's entry makes of its fields, and an I-type word what its opcode's does
special_back : (s t d h f : ℕ) → s < 32 → t < 32 → d < 32 → h < 32 → (e : Function) → At 64 functions F.none f e → (P : ℕ → ℕ → ℕ → ℕ → Instr) → ((w : ℕ) → F.formed e w ≡ P (rs w) (rt w) (rd w) (shamt w)) → decode_of (r_type 0 s t d h f) ≡ P s t d h
special_back s t d h f hs ht hd hh e at P form =
    let hf = at.fits in
    rw (r_opcode 0 s t d h f hs ht hd hh hf, r_funct 0 s t d h f hs ht hd hh hf, at.entry)
    (form (r_type 0 s t d h f)
    ∙ rw (r_rs 0 s t d h f hs ht hd hh hf, r_rt 0 s t d h f hs ht hd hh hf, r_rd 0 s t d h f hs ht hd hh hf, r_shamt 0 s t d h f hs ht hd hh hf))

immediate_back : (o s t i : ℕ) → s < 32 → t < 32 → i < 2 ^ 16 → (e : Opcode) → At 64 opcodes O.none o e → (P : ℕ → ℕ → ℕ → Instr) → ((w : ℕ) → O.formed e w ≡ P (rs w) (rt w) (immediate w)) → decode_of (i_type o s t i) ≡ P s t i
immediate_back o s t i hs ht hi e at P form =
    rw (i_opcode o s t i hs ht hi, at.entry)
    (form (i_type o s t i) ∙ rw (i_rs o s t i hs ht hi, i_rt o s t i hs ht hi, i_immediate o s t i hs ht hi))

regimm_back : (k s i : ℕ) → s < 32 → k < 32 → i < 2 ^ 16 → (op : SignOp) → get_or conditions k R.none ≡ R.sign op → decode_of (i_type 1 s k i) ≡ Sign op s i
regimm_back k s i hs hk hi op e = rw (i_opcode 1 s k i hs hk hi, i_rt 1 s k i hs hk hi, e, i_rs 1 s k i hs hk hi, i_immediate 1 s k i hs hk hi)

sign_back : (op : SignOp) (s i : ℕ) → s < 32 → i < 2 ^ 16 → decode_of (encode_of (Sign op s i)) ≡ Sign op s i
sign_back Bltz s i hs hi = regimm_back 0 s i hs (lit< tt) hi Bltz refl
sign_back Bgez s i hs hi = regimm_back 1 s i hs (lit< tt) hi Bgez refl
sign_back Bltzal s i hs hi = regimm_back 16 s i hs (lit< tt) hi Bltzal refl
sign_back Bgezal s i hs hi = regimm_back 17 s i hs (lit< tt) hi Bgezal refl
sign_back Blez s i hs hi = immediate_back 6 s 0 i hs (lit< tt) hi (O.sign Blez) (record { fits = lit< tt; entry = refl }) (λ s t i. Sign Blez s i) (λ w. refl)
sign_back Bgtz s i hs hi = immediate_back 7 s 0 i hs (lit< tt) hi (O.sign Bgtz) (record { fits = lit< tt; entry = refl }) (λ s t i. Sign Bgtz s i) (λ w. refl)

-- ---- a word of COP0
module _ (s t : ℕ) (r : ControlRegister) (hs : s < 32) (ht : t < 32) where
  abbrev moved : ℕ
  moved = r_type 16 s t (E.control_code r) 0 0

  says_control : decode_of moved ≡ instr.Control (control_of moved)
  says_control = rw (r_opcode 16 s t (E.control_code r) 0 0 hs ht (control_listed r).fits (lit< tt) (lit< tt))

  its_move : rs moved ≡ s
  its_move = r_rs 16 s t (E.control_code r) 0 0 hs ht (control_listed r).fits (lit< tt) (lit< tt)

  its_rt : rt moved ≡ t
  its_rt = r_rt 16 s t (E.control_code r) 0 0 hs ht (control_listed r).fits (lit< tt) (lit< tt)

  its_register : register_of moved ≡ Some r
  its_register = rw (r_rd 16 s t (E.control_code r) 0 0 hs ht (control_listed r).fits (lit< tt) (lit< tt)) (control_listed r).entry

control_back : (c : Control) → ProperControl c → decode_of (encode_control c) ≡ instr.Control c
control_back Undefined p = absurd p
control_back (Mfc0 t r) p = says_control 0 t r (lit< tt) p ∙ rw (its_move 0 t r (lit< tt) p, its_register 0 t r (lit< tt) p, its_rt 0 t r (lit< tt) p)
control_back (Mtc0 t r) p = says_control 4 t r (lit< tt) p ∙ rw (its_move 4 t r (lit< tt) p, its_register 4 t r (lit< tt) p, its_rt 4 t r (lit< tt) p)
control_back Tlbr p = refl
control_back Tlbwi p = refl
control_back Tlbwr p = refl
control_back Tlbp p = refl
control_back Rfe p = refl

zero_fits : 0 < 32
zero_fits = lit< tt

pub decode_encode : (i : Instr) → Proper i → decode_of (encode_of i) ≡ i
decode_encode Reserved p = absurd p
decode_encode (Unusable z) p = absurd p
decode_encode Syscall p = refl
decode_encode Break p = refl
decode_encode (Shift op d t h) p = special_back 0 t d h (E.shift_code op) zero_fits p.1 p.0 p.2 (F.shift op) (shift_listed op) (λ s t d h. Shift op d t h) (λ w. refl)
decode_encode (ShiftBy op d t s) p = special_back s t d 0 (E.shift_by_code op) p.2 p.1 p.0 zero_fits (F.shift_by op) (shift_by_listed op) (λ s t d h. ShiftBy op d t s) (λ w. refl)
decode_encode (Register op d s t) p = special_back s t d 0 (E.register_code op) p.1 p.2 p.0 zero_fits (F.register op) (register_listed op) (λ s t d h. Register op d s t) (λ w. refl)
decode_encode (Product op s t) p = special_back s t 0 0 (E.product_code op) p.0 p.1 zero_fits zero_fits (F.product op) (product_listed op) (λ s t d h. Product op s t) (λ w. refl)
decode_encode (MoveFrom half d) p = special_back 0 0 d 0 (E.from_code half) zero_fits zero_fits p zero_fits (F.mf half) (from_listed half) (λ s t d h. MoveFrom half d) (λ w. refl)
decode_encode (MoveTo half s) p = special_back s 0 0 0 (E.to_code half) p zero_fits zero_fits zero_fits (F.mt half) (to_listed half) (λ s t d h. MoveTo half s) (λ w. refl)
decode_encode (JumpRegister s) p = special_back s 0 0 0 8 p zero_fits zero_fits zero_fits F.JR (record { fits = lit< tt; entry = refl }) (λ s t d h. JumpRegister s) (λ w. refl)
decode_encode (JumpLinkRegister d s) p = special_back s 0 d 0 9 p.1 zero_fits p.0 zero_fits F.JALR (record { fits = lit< tt; entry = refl }) (λ s t d h. JumpLinkRegister d s) (λ w. refl)
decode_encode (Jump op n) p = rw (j_opcode (E.jump_code op) n p, (jump_listed op).entry, j_target (E.jump_code op) n p)
decode_encode (Compare op s t i) p = immediate_back (E.compare_code op) s t i p.0 p.1 p.2 (O.compare op) (compare_listed op) (λ s t i. Compare op s t i) (λ w. refl)
decode_encode (Sign op s i) p = sign_back op s i p.0 p.1
decode_encode (Immediate op t s i) p = immediate_back (E.immediate_code op) s t i p.1 p.0 p.2 (O.arith op) (immediate_listed op) (λ s t i. Immediate op t s i) (λ w. refl)
decode_encode (LoadUpper t i) p = immediate_back 15 0 t i zero_fits p.0 p.1 O.LUI (record { fits = lit< tt; entry = refl }) (λ s t i. LoadUpper t i) (λ w. refl)
decode_encode (Load op t b i) p = immediate_back (E.load_code op) b t i p.1 p.0 p.2 (O.load op) (load_listed op) (λ s t i. Load op t s i) (λ w. refl)
decode_encode (Store op t b i) p = immediate_back (E.store_code op) b t i p.1 p.0 p.2 (O.store op) (store_listed op) (λ s t i. Store op t s i) (λ w. refl)
decode_encode (instr.Control c) p = control_back c p
