-- HI and LO: what MULT, MULTU, DIV and DIVU leave there, and the moves from and to them.
use Rattle.std.specs.Prelude.{ℕ}
use Rattle.alu.specs.HiLo.{mult_of, multu_of, div_of, divu_of}
use Rattle.alu.specs.declared.product.HiLo.{HiLo}
use Rattle.isa.specs.declared.instr.ProductOp.{ProductOp}
use Rattle.isa.specs.declared.instr.ProductOp.TheVariants.{Mult, Multu, Div, Divu}
use Rattle.isa.specs.declared.instr.HiLo as isa
use Rattle.isa.specs.declared.instr.HiLo.TheVariants.{Hi, Lo}
use Rattle.state.specs.declared.machine.Core.{Core}
use Rattle.intend.specs.declared.intent.Intent.{Intent}
use Rattle.intend.specs.declared.intent.Intent.TheVariants as intent

-- what HI and LO hold
abbrev pub kept_of : Core → HiLo
kept_of core = record { hi = core.hi; lo = core.lo }

-- a division by 0 keeps both
abbrev pub product_of : ProductOp → ℕ → ℕ → HiLo → HiLo
product_of Mult x y kept = mult_of x y
product_of Multu x y kept = multu_of x y
product_of Div x y kept = div_of x y kept
product_of Divu x y kept = divu_of x y kept

abbrev pub half_of : isa.HiLo → HiLo → ℕ
half_of Hi kept = kept.hi
half_of Lo kept = kept.lo

abbrev pub with_half : isa.HiLo → ℕ → HiLo → HiLo
with_half Hi x kept = record { hi = x; lo = kept.lo }
with_half Lo x kept = record { hi = kept.hi; lo = x }

abbrev pub hi_lo_of : HiLo → Intent
hi_lo_of words = intent.HiLo words.hi words.lo
