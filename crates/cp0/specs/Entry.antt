-- Document 01, "Exception entry": "EPC takes PC, ExcCode is set, BD 0, CE the coprocessor for code 11 and 0 otherwise. Low six Status bits become themselves
-- times 4 modulo 64; VM bits 24-26 times 2 modulo 8. BadVAddr is loaded for codes 1 to 5, the top 20 bits of EntryHi for 1 to 3." Document 02, L2, corrects it:
-- "In a branch's delay slot MIPS I says that EPC takes the address of the branch and BD is 1." Which address that is, is the step's to say.
use Rattle.std.specs.Prelude.{ℕ, ◌+◌, ◌*◌, ◌/◌, ◌%◌, ◌^◌, Bool, cond, eqb}
use Rattle.word.specs.Map.{bit}
use Rattle.word.specs.Mask.{overlaid_of}
use Rattle.word.specs.Number.{between}
use Rattle.cp0.specs.declared.registers.Cp0.{Cp0}
use Rattle.cp0.specs.declared.entry.Exception.{Exception}
use Rattle.cp0.specs.Word.{pushed_of}

-- bits 12-31
abbrev pub page_mask : ℕ
page_mask = 0xFFFFF000

-- BD is bit 31, CE bits 28-29, ExcCode bits 2-6
abbrev pub entry_mask : ℕ
entry_mask = 0xB000007C

abbrev pub exc_code : ℕ → ℕ
exc_code cause = cause / 2 ^ 2 % 2 ^ 5

abbrev pub ce_of : Exception → ℕ
ce_of e = cond (eqb e.code 11) (e.coprocessor % 4) 0

abbrev pub bd_of : Bool → ℕ
bd_of slot = cond slot (2 ^ 31) 0

-- the word that says BD, CE and ExcCode; `slot` is whether the exception is in a slot
abbrev pub fields_of : Exception → Bool → ℕ
fields_of e slot = bd_of slot + (ce_of e * 2 ^ 28 + e.code % 2 ^ 5 * 2 ^ 2)

unfoldable pub cause_of : Exception → Bool → ℕ → ℕ
cause_of e slot old = overlaid_of entry_mask old (fields_of e slot)

unfoldable pub bad_v_addr_of : Exception → ℕ → ℕ
bad_v_addr_of e old = cond (between 1 5 e.code) e.address old

unfoldable pub entry_hi_of : Exception → ℕ → ℕ
entry_hi_of e old = cond (between 1 3 e.code) (overlaid_of page_mask old e.address) old

unfoldable pub entered_of : Exception → Bool → ℕ → Cp0 → Cp0
entered_of e slot epc c =
    record {
      index = c.index;
      random = c.random;
      entry_hi = entry_hi_of e c.entry_hi;
      entry_lo = c.entry_lo;
      bad_vaddr = bad_v_addr_of e c.bad_vaddr;
      status = (pushed_of (record { word = c.status })).word;
      cause = cause_of e slot c.cause;
      epc = epc;
    }

-- "PC goes to 0x80 (BEV 0) or 0x1FC00180 (BEV 1); on a TLB miss to 0x0 or 0x1FC00100." BEV is bit 22 of Status.
unfoldable pub vector_of : ℕ → Bool → ℕ
vector_of status miss = cond miss (cond (bit 22 status) 0x1FC00100 0x0) (cond (bit 22 status) 0x1FC00180 0x80)
