-- Document 01, "Addresses": alignment, then privilege (user mode below 0x20000000, or below 0x80000000 with VMc 1): AdEL or AdES.
use Rattle.std.specs.Prelude.{Bool, cond, ◌||◌, not, ℕ, ◌%◌, eqb, leb}
use Rattle.cp0.specs.declared.privilege.Mode.{Mode}
use Rattle.reach.specs.Access.{is_store, alignment}
use Rattle.reach.specs.Codes.{code_adel, code_ades}
use Rattle.reach.specs.declared.access.Kind.{Kind}
use Rattle.reach.specs.declared.access.Width.{Width}

abbrev pub address_error : Kind → ℕ
address_error kind = cond (is_store kind) code_ades code_adel

abbrev pub aligned_of : Width → ℕ → Bool
aligned_of width a = eqb (a % alignment width) 0

abbrev pub allowed_of : Mode → ℕ → Bool
allowed_of mode a = not mode.user || leb (cond mode.vm 0x80000000 0x20000000) a
