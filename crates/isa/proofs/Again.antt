-- What a word says has a word, which says the same: for request L10's listing. The words that have none are those that the listing writes as numbers.
use mathlib.Core.Path.{◌≡◌, refl, ap}
use mathlib.Core.Logic.{◌⊎◌, inl, inr, ⊎_elim}
use mathlib.Core.List.{List, [], ◌∷◌}
use Prim.Native.Nat.{ℕ, zero, suc, ◌%◌, ◌/◌, ◌^◌, ◌<◌}
use native.Mathlib.Nat.{mod-lt}
use lib.Dec.{lit<}
use lib.ListN.{get_or}
use Rattle.isa.specs.Fields.{rs, rt, funct, opcode}
use Rattle.isa.specs.Special.{Function, functions}
use Rattle.isa.specs.Special as F
use Rattle.isa.specs.Regimm.{Condition, conditions}
use Rattle.isa.specs.Regimm as R
use Rattle.isa.specs.Cop0.{Move, moves, register_of}
use Rattle.isa.specs.Cop0 as C
use Rattle.isa.specs.Opcode.{Opcode, opcodes, decode_of}
use Rattle.isa.specs.Opcode as O
use Rattle.isa.specs.Encode.{encode_of, Proper, ProperControl}
use Rattle.isa.proofs.RoundTrip.{decode_encode}
use Rattle.std.proofs.Common.{Option, Some, None}
use Rattle.isa.specs.declared.instr.ControlRegister.{ControlRegister}
use Rattle.isa.specs.declared.instr.Instr.{Instr}
use Rattle.isa.specs.declared.instr.Instr.TheVariants.{Reserved, Unusable}
use Rattle.isa.specs.declared.instr.Instr.TheVariants as instr
use Rattle.isa.specs.declared.instr.Control.{Control}
use Rattle.isa.specs.declared.instr.Control.TheVariants.{Undefined}

abbrev pub Wordless : Instr → Type 0
Wordless i = (i ≡ Reserved) ⊎ ((i ≡ instr.Control Undefined) ⊎ ((z : ℕ) × (i ≡ Unusable z)))

reg : (n : ℕ) → n % 32 < 32
reg n = mod-lt n (lit< tt)

half : (n : ℕ) → n % 2 ^ 16 < 2 ^ 16
half n = mod-lt n (lit< tt)

-- ---- of COP0
abbrev Fine : Control → Type 0
Fine c = ProperControl c ⊎ (c ≡ Undefined)

each : (xs : List Control) → Type 0
each [] = Unit {0}
each (c ∷ cs) = Fine c × each cs

entry : (xs : List Control) → each xs → (n : ℕ) → Fine (get_or xs n Undefined)
unfolding each
entry [] a n = inr refl
entry (c ∷ cs) a zero = a.0
entry (c ∷ cs) a (suc n) = entry cs a.1 n

none_fine : Fine Undefined
none_fine = inr refl

functions_fine : each C.functions
unfolding each
functions_fine = (
  none_fine,
  (
    inl tt,
    (
      inl tt,
      (
        none_fine,
        (
          none_fine,
          (
            none_fine,
            (
              inl tt,
              (
                none_fine,
                (
                  inl tt,
                  (
                    none_fine,
                    (
                      none_fine,
                      (
                        none_fine,
                        (
                          none_fine,
                          (
                            none_fine,
                            (
                              none_fine,
                              (
                                none_fine,
                                (inl tt, (none_fine, (none_fine, (none_fine, (none_fine, (none_fine, (none_fine, (none_fine, tt)))))))),
                              ),
                            ),
                          ),
                        ),
                      ),
                    ),
                  ),
                ),
              ),
            ),
          ),
        ),
      ),
    ),
  ),
)

from_fine : (n : Option ControlRegister) (t : ℕ) → t < 32 → Fine (C.from_of n t)
from_fine None t h = inr refl
from_fine (Some r) t h = inl h

to_fine : (n : Option ControlRegister) (t : ℕ) → t < 32 → Fine (C.to_of n t)
to_fine None t h = inr refl
to_fine (Some r) t h = inl h

move_fine : (m : Move) (w : ℕ) → Fine (C.formed m w)
move_fine C.none w = inr refl
move_fine C.MF w = from_fine (register_of w) (rt w) (reg (w / 2 ^ 16))
move_fine C.MT w = to_fine (register_of w) (rt w) (reg (w / 2 ^ 16))
move_fine C.CO w = entry C.functions functions_fine (funct w)

-- ---- of each opcode
abbrev Good : Instr → Type 0
Good i = Proper i ⊎ Wordless i

special_good : (f : Function) (w : ℕ) → Good (F.formed f w)
special_good F.none w = inr (inl refl)
special_good F.JR w = inl (reg (w / 2 ^ 21))
special_good F.JALR w = inl (reg (w / 2 ^ 11), reg (w / 2 ^ 21))
special_good F.SYSCALL w = inl tt
special_good F.BREAK w = inl tt
special_good (F.shift op) w = inl (reg (w / 2 ^ 11), reg (w / 2 ^ 16), reg (w / 2 ^ 6))
special_good (F.shift_by op) w = inl (reg (w / 2 ^ 11), reg (w / 2 ^ 16), reg (w / 2 ^ 21))
special_good (F.mf h) w = inl (reg (w / 2 ^ 11))
special_good (F.mt h) w = inl (reg (w / 2 ^ 21))
special_good (F.product op) w = inl (reg (w / 2 ^ 21), reg (w / 2 ^ 16))
special_good (F.register op) w = inl (reg (w / 2 ^ 11), reg (w / 2 ^ 21), reg (w / 2 ^ 16))

regimm_good : (c : Condition) (w : ℕ) → Good (R.formed c w)
regimm_good R.none w = inr (inl refl)
regimm_good (R.sign op) w = inl (reg (w / 2 ^ 21), half w)

control_good : (c : Control) → Fine c → Good (instr.Control c)
control_good c f = ⊎_elim (λ p. inl p) (λ e. inr (inr (inl (ap instr.Control e)))) f

opcode_good : (o : Opcode) (w : ℕ) → Good (O.formed o w)
opcode_good O.none w = inr (inl refl)
opcode_good O.SPECIAL w = special_good (get_or functions (funct w) F.none) w
opcode_good O.REGIMM w = regimm_good (get_or conditions (rt w) R.none) w
opcode_good O.COP0 w = control_good (C.control_of w) (move_fine (get_or moves (rs w) C.none) w)
opcode_good O.LUI w = inl (reg (w / 2 ^ 16), half w)
opcode_good (O.cop z) w = inr (inr (inr (z, refl)))
opcode_good (O.jump op) w = inl (mod-lt w (lit< tt))
opcode_good (O.compare op) w = inl (reg (w / 2 ^ 21), reg (w / 2 ^ 16), half w)
opcode_good (O.sign op) w = inl (reg (w / 2 ^ 21), half w)
opcode_good (O.arith op) w = inl (reg (w / 2 ^ 16), reg (w / 2 ^ 21), half w)
opcode_good (O.load op) w = inl (reg (w / 2 ^ 16), reg (w / 2 ^ 21), half w)
opcode_good (O.store op) w = inl (reg (w / 2 ^ 16), reg (w / 2 ^ 21), half w)

pub decode_again : (w : ℕ) → (decode_of (encode_of (decode_of w)) ≡ decode_of w) ⊎ Wordless (decode_of w)
decode_again w =
    ⊎_elim (λ p. inl (decode_encode (decode_of w) p)) (λ n. inr n) (opcode_good (get_or opcodes (opcode w) O.none) w)
