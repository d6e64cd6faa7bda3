-- A register read where it stands: register 0 holds 0, which is what it reads.
use Rattle.std.proofs.Common.{◌≡◌, ℕ, ◌%◌, Bool, true, false, eqb, List, get_or, refl, ap, ◌∙◌, eqb-true}
use Rattle.state.specs.Layout.{HoldsZero}
use Rattle.intend.specs.Operand.{reg_of}

pub reads : (regs : List ℕ) (i : ℕ) → HoldsZero regs → get_or regs (i % 32) 0 ≡ reg_of regs i
unfolding reg_of
reads regs i zero = go (eqb (i % 32) 0) refl
  where
    go : (b : Bool) → eqb (i % 32) 0 ≡ b → get_or regs (i % 32) 0 ≡ reg_of regs i
    go true e = rw e (ap (λ (k : ℕ). get_or regs k 0) (eqb-true (i % 32) 0 e) ∙ zero)
    go false e = rw e
