-- Document 01, "Addresses": with VMc 1, addresses from 0x20000000 up are translated. No match: TLBL/TLBS as a miss. V off: TLBL/TLBS.
-- Store with D off: Mod. EntryLo: D is bit 10, V bit 9. Over any list of entries.
use Rattle.std.specs.Prelude.{Bool, cond, ◌&&◌, not, List, ℕ, ◌+◌, ◌*◌, ◌/◌, ◌%◌, ◌^◌, leb, get_or, Option, Some, None, Result, Ok, Err}
use Rattle.word.specs.Map.{bit}
use Rattle.cp0.specs.declared.privilege.Mode.{Mode}
use Rattle.tlb.specs.Entry.{no_row}
use Rattle.tlb.specs.Search.{found_in}
use Rattle.tlb.specs.declared.Row.{Row}
use Rattle.tlb.specs.declared.Hit.{Hit}
use Rattle.reach.specs.Access.{is_store}
use Rattle.reach.specs.Codes.{code_mod, code_tlbl, code_tlbs, raises, misses}
use Rattle.reach.specs.declared.access.Kind.{Kind}
use Rattle.reach.specs.declared.Fault.{Fault}

abbrev pub tlb_error : Kind → ℕ
tlb_error kind = cond (is_store kind) code_tlbs code_tlbl

-- the EntryHi that is searched for: the address's page, and the register's ASID
abbrev pub sought_of : ℕ → ℕ → ℕ
sought_of a entry = a / 2 ^ 12 * 2 ^ 12 + entry % 2 ^ 12

abbrev pub is_valid : Row → Bool
is_valid row = bit 9 row.low

abbrev pub is_dirty : Row → Bool
is_dirty row = bit 10 row.low

-- a store with D off
abbrev pub is_locked : Kind → Row → Bool
is_locked kind row = is_store kind && not (is_dirty row)

-- an entry that matches: V, then D, then the frame with the address's place in the page
unfoldable pub by_row : Kind → ℕ → Row → Result ℕ Fault
by_row kind a row =
    cond (is_valid row)
    (cond (is_locked kind row) (Err (raises code_mod)) (Ok (row.low / 2 ^ 12 * 2 ^ 12 + a % 2 ^ 12)))
    (Err (raises (tlb_error kind)))

abbrev pub by_found : Kind → ℕ → List Row → Option Hit → Result ℕ Fault
by_found kind a t (Some hit) = by_row kind a (get_or t hit.at no_row)
by_found kind a t None = Err (misses (tlb_error kind))

abbrev pub is_virtual : Mode → ℕ → Bool
is_virtual mode a = mode.vm && leb 0x20000000 a

unfoldable pub translated_of : Mode → Kind → ℕ → List Row → ℕ → Result ℕ Fault
translated_of mode kind a t entry = cond (is_virtual mode a) (by_found kind a t (found_in (sought_of a entry) t)) (Ok a)
