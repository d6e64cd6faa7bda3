-- MTC0: a register that keeps its rule keeps it after a word is written under its mask.
use Prim.{tt}
use Prim.Native.Nat.{ℕ, ◌+◌, ◌^◌, ◌<◌}
use mathlib.Core.Path.{◌≡◌, refl, ◌∙◌}
use mathlib.Core.Bool.{true}
use native.Mathlib.Omega.{arith}
use lib.Dec.{lit<}
use Rattle.word.specs.Mask.{within, overlaid_of}
use Rattle.word.proofs.BitLaws.{no_bit}
use Rattle.word.proofs.Masks.{field_kept, overlaid_bit, overlaid_within, overlaid_small, overlaid_none}
use Rattle.isa.specs.declared.instr.ControlRegister.{ControlRegister}
use Rattle.isa.specs.declared.instr.ControlRegister.TheVariants.{Index, Random, EntryLo, BadVAddr, EntryHi, Status, Cause, Epc}
use Rattle.cp0.specs.Written.{mask_of, index_mask, cause_mask, status_mask, entry_hi_mask, entry_lo_mask}
use Rattle.rules.specs.Rules.{cause_keeps}
use Rattle.rules.proofs.Masks.{within_bits, bits_within}
use Rattle.proper.proofs.Causes.{cause_bits, cause_rules, cause_moves}
use Rattle.proper.proofs.Registers.{Good}

-- a word within m stays so where a mask within m is written
module _ (mask m old new : ℕ) (fits : mask < 2 ^ 32) (wide : m < 2 ^ 32) (own : within m mask ≡ true) (small : old < 2 ^ 32) where
  pub overlaid_word : overlaid_of mask old new < 2 ^ 32
  unfolding overlaid_of
  overlaid_word = overlaid_small 32 mask old new fits small

  pub overlaid_keeps : within m old ≡ true → within m (overlaid_of mask old new) ≡ true
  unfolding overlaid_of
  overlaid_keeps was =
      bits_within m (overlaid_of mask old new) wide overlaid_word
      (overlaid_within 32 mask old new fits m (within_bits m old wide was) (within_bits m mask wide own))

module _ (pending old new : ℕ) where
  masked_good : (mask m : ℕ) → mask < 2 ^ 32 → m < 2 ^ 32 → within m mask ≡ true → old < 2 ^ 32 → within m old ≡ true →
      (overlaid_of mask old new < 2 ^ 32) × (within m (overlaid_of mask old new) ≡ true)
  masked_good mask m fits wide own small was =
      (overlaid_word mask m old new fits wide own small, overlaid_keeps mask m old new fits wide own small was)

  cause_written : Good Cause pending old → cause_keeps (overlaid_of cause_mask old new) pending ≡ true
  unfolding overlaid_of
  cause_written g =
      let h = cause_rules old pending g.kept in
      let field = field_kept 32 cause_mask old new 2 5 refl refl in
      cause_moves old (overlaid_of cause_mask old new) pending
      (λ k low high. overlaid_bit 32 cause_mask old new (lit< tt) (8 + k) (omega arith) ∙ rw (no_bit 10 (8 + k) cause_mask (lit< tt) (omega arith)))
      g.kept (masked_good cause_mask cause_bits (lit< tt) (lit< tt) refl g.small h.inside).1 (omega arith)

  unwritten : (r : ControlRegister) → Good r pending old → Good r pending (overlaid_of 0 old new)
  unfolding overlaid_of
  unwritten r g = rw (overlaid_none 32 old new g.small) g

  pub overlaid_good : (r : ControlRegister) → Good r pending old → Good r pending (overlaid_of (mask_of r) old new)
  overlaid_good Index g =
      let h = masked_good index_mask 0x80003F00 (lit< tt) (lit< tt) refl g.small g.kept in record { small = h.0; kept = h.1 }
  overlaid_good EntryHi g =
      let h = masked_good entry_hi_mask entry_hi_mask (lit< tt) (lit< tt) refl g.small g.kept in record { small = h.0; kept = h.1 }
  overlaid_good EntryLo g =
      let h = masked_good entry_lo_mask entry_lo_mask (lit< tt) (lit< tt) refl g.small g.kept in record { small = h.0; kept = h.1 }
  overlaid_good Status g =
      let h = masked_good status_mask status_mask (lit< tt) (lit< tt) refl g.small g.kept in record { small = h.0; kept = h.1 }
  overlaid_good Cause g = record { small = overlaid_word cause_mask cause_bits old new (lit< tt) (lit< tt) refl g.small; kept = cause_written g }
  overlaid_good Random g = unwritten Random g
  overlaid_good BadVAddr g = unwritten BadVAddr g
  overlaid_good Epc g = unwritten Epc g
