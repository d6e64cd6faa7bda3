-- Loads and stores: the virtual address is the base and the offset, extended by its sign, modulo 2^32; then document 01, "Addresses".
use Rattle.std.specs.Prelude.{ℕ, Bool, List, Result}
use Rattle.alu.specs.Sum.{addiu_of}
use Rattle.isa.specs.declared.instr.LoadOp.{LoadOp}
use Rattle.isa.specs.declared.instr.LoadOp.TheVariants.{Lb, Lh, Lwl, Lw, Lbu, Lhu, Lwr}
use Rattle.isa.specs.declared.instr.StoreOp.{StoreOp}
use Rattle.isa.specs.declared.instr.StoreOp.TheVariants.{Sb, Sh, Swl, Sw, Swr}
use Rattle.board.specs.declared.places.Sizes.{Sizes}
use Rattle.cp0.specs.Privilege.{mode_of}
use Rattle.cp0.specs.declared.registers.Cp0.{Cp0}
use Rattle.tlb.specs.declared.Row.{Row}
use Rattle.reach.specs.Reach.{reach_of, meets_two}
use Rattle.reach.specs.declared.Fault.{Fault}
use Rattle.board.specs.declared.places.Place.{Place}
use Rattle.reach.specs.declared.access.Kind.{Kind}
use Rattle.reach.specs.declared.access.Kind.TheVariants as kind
use Rattle.reach.specs.declared.access.Width.{Width}
use Rattle.reach.specs.declared.access.Width.TheVariants.{One, Two, Four, Part}
use Rattle.intend.specs.declared.intent.Intent.{Intent}
use Rattle.intend.specs.declared.intent.Intent.TheVariants.{Load, Store}

abbrev pub load_width : LoadOp → Width
load_width Lb = One
load_width Lh = Two
load_width Lwl = Part
load_width Lw = Four
load_width Lbu = One
load_width Lhu = Two
load_width Lwr = Part

abbrev pub store_width : StoreOp → Width
store_width Sb = One
store_width Sh = Two
store_width Swl = Part
store_width Sw = Four
store_width Swr = Part

-- the answer under Status and EntryHi as they are
unfoldable pub reached_of : Kind → Width → Cp0 → List Row → Sizes → ℕ → Result Place Fault
reached_of kind width cp0 t sizes va =
    reach_of (mode_of cp0.status) (record { kind = kind; width = width }) sizes va t cp0.entry_hi

-- and whether it meets two matches (document 02, L5)
unfoldable pub twice_of : Kind → Width → Cp0 → List Row → ℕ → Bool
twice_of kind width cp0 t va = meets_two (mode_of cp0.status) (record { kind = kind; width = width }) va t cp0.entry_hi

abbrev pub load_of : LoadOp → ℕ → ℕ → ℕ → Cp0 → List Row → Sizes → Intent
load_of op rt base offset cp0 t sizes =
    Load op rt (addiu_of base offset) (reached_of kind.Load (load_width op) cp0 t sizes (addiu_of base offset))

abbrev pub store_of : StoreOp → ℕ → ℕ → ℕ → Cp0 → List Row → Sizes → Intent
store_of op x base offset cp0 t sizes =
    Store op x (addiu_of base offset) (reached_of kind.Store (store_width op) cp0 t sizes (addiu_of base offset))
