-- The Index and Random registers: an entry's number in bits 8-13; in Index, P is bit 31.
use Rattle.std.specs.Prelude.{ℕ, ◌*◌, ◌/◌, ◌%◌, ◌^◌, Option, Some, None}
use Rattle.tlb.specs.declared.Hit.{Hit}

abbrev pub index_of : ℕ → ℕ
index_of word = word / 2 ^ 8 % 2 ^ 6

-- document 01, "CP0": TLBP gives the lowest match's index with P 0, or 0x80000000; "TLBP still answers the lowest" (document 02, L5)
abbrev pub probed_of : Option Hit → ℕ
probed_of (Some hit) = hit.at % 2 ^ 6 * 2 ^ 8
probed_of None = 0x80000000

-- ---- aids to proofs: nothing that a reader must believe

abbrev pub probed_at : Option ℕ → ℕ
probed_at (Some i) = i % 2 ^ 6 * 2 ^ 8
probed_at None = 0x80000000
