-- Document 01, "The state image", paragraph "Rules", rule by rule in its order, and what requests L2 and L4 add.
use Rattle.std.specs.Prelude.{ℕ, ◌+◌, ◌*◌, ◌/◌, ◌%◌, ◌^◌, Bool, not, ◌&&◌, ◌||◌, List, leb, ltb, eqb, length, get_or}
use Rattle.std.specs.Bool.{beq}
use Rattle.word.specs.Lists.{every}
use Rattle.word.specs.Map.{bit}
use Rattle.word.specs.Big.{word_at}
use Rattle.word.specs.Mask.{within}
use Rattle.word.specs.Number.{between}
use Rattle.word.specs.Sizes.{table_size, devices, record_size}
use Rattle.cp0.specs.declared.registers.Cp0.{Cp0}
use Rattle.cp0.specs.Written.{status_mask, entry_hi_mask, entry_lo_mask}
use Rattle.cp0.specs.Entry.{exc_code}
use Rattle.cp0.specs.Random.{field, top_entry}
use Rattle.tlb.specs.declared.Row.{Row}
use Rattle.tlb.specs.Entry.{no_row}
use Rattle.printer.specs.Rules.{line_keeps}
use Rattle.state.specs.declared.machine.Machine.{Machine}
use Rattle.state.specs.declared.machine.Journal.{Journal}
use Rattle.state.specs.Layout.{disk_words, disks_base, body_length, image_length, image_version, machine_of}

-- the length word and the version: document 02 makes version 3 of them
abbrev pub header_keeps : List ℕ → Bool
header_keeps image = eqb (word_at image 0) body_length && eqb (get_or image 4 0) image_version

-- document 02, L4: the disks' words. None is installed yet, and "an uninstalled one is all 0".
abbrev pub disks_keep : List ℕ → Bool
disks_keep image = every (4 * disk_words) (λ (k : ℕ). eqb (get_or image (5 + 4 * disks_base + k) 0) 0)

-- what the bytes say of themselves
abbrev pub bytes_keep : List ℕ → Bool
bytes_keep image = header_keeps image && disks_keep image

-- IP[k]
abbrev pub ip : ℕ → ℕ → Bool
ip k cause = bit (8 + k) cause

-- "Cause within 0xB000FF7C, ExcCode at most 12, IP[6] on exactly if the pending map is not 0, IP[3], [4], [5], [7] off"
abbrev pub cause_keeps : ℕ → ℕ → Bool
cause_keeps cause pending =
    within 0xB000FF7C cause && leb (exc_code cause) 12 && beq (ip 6 cause) (not (eqb pending 0))
    && not (ip 3 cause) && not (ip 4 cause) && not (ip 5 cause) && not (ip 7 cause)

-- "Random bits 8-13 hold 1 to 15, others 0": nothing below bit 8, and 1 to 15 from there up
abbrev pub random_keeps : ℕ → Bool
random_keeps random = eqb (random % 2 ^ 8) 0 && between 1 top_entry (field random)

-- "every EntryHi within 0xFFFFFFC0, EntryLo within 0xFFFFFF00": the two registers' and each row's
abbrev pub entry_keeps : ℕ → ℕ → Bool
entry_keeps high low = within entry_hi_mask high && within entry_lo_mask low

-- "Status within mask 0x1740FF3F; Cause ..; Index within 0x80003F00; Random ..; every EntryHi .., EntryLo .."
abbrev pub cp0_keeps : Cp0 → ℕ → Bool
cp0_keeps p pending =
    within status_mask p.status && cause_keeps p.cause pending && within 0x80003F00 p.index && random_keeps p.random
    && entry_keeps p.entry_hi p.entry_lo

abbrev pub row_keeps : List Row → ℕ → Bool
row_keeps rows i = let r = get_or rows i no_row in entry_keeps r.high r.low

abbrev pub tlb_keeps : List Row → Bool
tlb_keeps rows = every table_size (row_keeps rows)

-- "the ranges of row 6": time scale 1 to 255, printer delay 1 to 65,535, installed map at most 255
abbrev pub ranges_keep : ℕ → ℕ → ℕ → Bool
ranges_keep scale delay installed = between 1 255 scale && between 1 65535 delay && leb installed 255

-- document 02, L2: "a flag and the branch's address (0 if the flag is 0)"
abbrev pub slot_keeps : ℕ → ℕ → Bool
slot_keeps slot branch = eqb slot 0 && eqb branch 0 || eqb slot 1

-- "on hand at most journal length / 256; next slot below that number, or 0 if it is 0"; document 02, L4: "01's row 4 and its on-hand rule read 512"
abbrev pub journal_keeps : Journal → ℕ → Bool
journal_keeps j slots = leb j.on_hand slots && (ltb j.next_slot slots || eqb slots 0 && eqb j.next_slot 0)

-- every rule but the journal's, for paper of so many bytes. What holds of the pending map and the printers is `line_keeps` of the crate `printer`.
unfoldable pub state_keeps : Machine → ℕ → Bool
state_keeps m paper =
    cp0_keeps m.cpu.core.cp0 m.board.line.pending && tlb_keeps m.cpu.tlb
    && ranges_keep m.board.settings.scale m.board.settings.delay m.board.settings.installed
    && line_keeps m.board.settings.installed m.board.settings.delay (paper / devices) m.board.line
    && slot_keeps m.cpu.core.slot m.cpu.core.branch

unfoldable pub machine_keeps : Machine → ℕ → ℕ → Bool
machine_keeps m paper journal = state_keeps m paper && journal_keeps m.journal (journal / record_size)

-- every rule, of an image of the right length
unfoldable pub keeps_rules : List ℕ → ℕ → ℕ → Bool
keeps_rules image paper journal = bytes_keep image && machine_keeps (machine_of image) paper journal

-- an image that refusal 5 does not meet: another length, or it "breaks a rule below"
abbrev pub good_image : List ℕ → ℕ → ℕ → Bool
good_image image paper journal = eqb (length image) image_length && keeps_rules image paper journal
