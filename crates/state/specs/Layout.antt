-- The layout of the state image, version 3: document 01's, and what requests L2 and L4 add. `words_of` is the paragraph "The state image"; `machine_at` reads it back, and
-- proofs/RoundTrip.antt shows that the two agree.
use Rattle.std.specs.Prelude.{ℕ, ◌+◌, ◌*◌, ◌^◌, List, [], ◌∷◌, ◌++◌, ◌≡◌, length, get_or, drop, replicate}
use Rattle.word.specs.Lists.{tabulate, flat, joined, Below}
use Rattle.word.specs.Sizes.{table_size, devices}
use Rattle.word.specs.Big.{word_bytes, word_at}
use Rattle.cp0.specs.declared.registers.Cp0.{Cp0}
use Rattle.tlb.specs.declared.Row.{Row}
use Rattle.clock.specs.declared.Clock.{Clock}
use Rattle.printer.specs.declared.Printer.{Printer}
use Rattle.printer.specs.declared.Line.{Line}
use Rattle.state.specs.declared.machine.Machine.{Machine}
use Rattle.state.specs.declared.machine.Cpu.{Cpu}
use Rattle.state.specs.declared.machine.Core.{Core}
use Rattle.state.specs.declared.machine.Board.{Board}
use Rattle.state.specs.declared.machine.Settings.{Settings}
use Rattle.state.specs.declared.machine.Journal.{Journal}

-- ---- the fields of each part: as words, and read back from the words that start at `base`, where word k is `word k`

-- "Index, Random, EntryHi, EntryLo, BadVAddr, Status, Cause, EPC"
abbrev pub cp0_words : Cp0 → List ℕ
cp0_words p = p.index ∷ p.random ∷ p.entry_hi ∷ p.entry_lo ∷ p.bad_vaddr ∷ p.status ∷ p.cause ∷ p.epc ∷ []

abbrev pub cp0_from : ℕ → (ℕ → ℕ) → Cp0
cp0_from base word =
    record {
      index = word base;
      random = word (base + 1);
      entry_hi = word (base + 2);
      entry_lo = word (base + 3);
      bad_vaddr = word (base + 4);
      status = word (base + 5);
      cause = word (base + 6);
      epc = word (base + 7);
    }

-- "HI, LO, PC, next PC", and CP0's
abbrev pub core_words : Core → List ℕ
core_words c = c.hi ∷ c.lo ∷ c.pc ∷ c.next_pc ∷ cp0_words c.cp0

-- document 02, L2: "a flag and the branch's address"
abbrev pub slot_words : Core → List ℕ
slot_words c = c.slot ∷ c.branch ∷ []

-- all of them, as a record keeps them
abbrev pub kept_words : Core → List ℕ
kept_words c = core_words c ++ slot_words c

-- in the image the two stand apart from the others: `slot_base` is the word that they start at
abbrev pub core_from : ℕ → ℕ → (ℕ → ℕ) → Core
core_from base slot_base word =
    record {
      hi = word base;
      lo = word (base + 1);
      pc = word (base + 2);
      next_pc = word (base + 3);
      cp0 = cp0_from (base + 4) word;
      slot = word slot_base;
      branch = word (slot_base + 1);
    }

-- "(high, low)"
abbrev pub row_words : Row → List ℕ
row_words r = r.high ∷ r.low ∷ []

abbrev pub row_of : ℕ → ℕ → Row
row_of high low = record { high = high; low = low }

abbrev pub row_from : ℕ → (ℕ → ℕ) → Row
row_from base word = row_of (word base) (word (base + 1))

-- "clock high, clock low, timer"
abbrev pub clock_words : Clock → List ℕ
clock_words c = c.high ∷ c.low ∷ c.timer ∷ []

abbrev pub clock_from : ℕ → (ℕ → ℕ) → Clock
clock_from base word = record { high = word base; low = word (base + 1); timer = word (base + 2) }

-- "time scale, printer delay, installed map"
abbrev pub settings_words : Settings → List ℕ
settings_words s = s.scale ∷ s.delay ∷ s.installed ∷ []

abbrev pub settings_from : ℕ → (ℕ → ℕ) → Settings
settings_from base word = record { scale = word base; delay = word (base + 1); installed = word (base + 2) }

-- "(STATUS, COMMAND, DATA0, ticks left, paper count)"
abbrev pub printer_words : Printer → List ℕ
printer_words p = p.status ∷ p.command ∷ p.data0 ∷ p.left ∷ p.count ∷ []

abbrev pub printer_from : ℕ → (ℕ → ℕ) → Printer
printer_from base word =
    record { status = word base; command = word (base + 1); data0 = word (base + 2); left = word (base + 3); count = word (base + 4) }

-- "steps on hand, next slot"
abbrev pub journal_words : Journal → List ℕ
journal_words j = j.on_hand ∷ j.next_slot ∷ []

abbrev pub journal_from : ℕ → (ℕ → ℕ) → Journal
journal_from base word = record { on_hand = word base; next_slot = word (base + 1) }

-- the disks' installed map, seven words a disk, and their pending map
abbrev pub disk_words : ℕ
disk_words = 1 + 7 * devices + 1

abbrev pub no_disks : List ℕ
no_disks = replicate disk_words 0

-- ---- THE layout: groups of words, one after the other, so that a version adds a group

abbrev pub groups_of : Machine → List (List ℕ)
groups_of m =
    -- "registers 1 to 31"
    drop 1 m.cpu.regs
    -- "HI, LO, PC, next PC, Index, .., EPC"
    ∷ core_words m.cpu.core
    -- "16 TLB pairs (high, low)"
    ∷ flat row_words m.cpu.tlb
    ∷ clock_words m.board.clock
    ∷ settings_words m.board.settings
    -- "eight printers of (STATUS, COMMAND, DATA0, ticks left, paper count)"
    ∷ flat printer_words m.board.line.printers
    -- "pending map"
    ∷ (m.board.line.pending ∷ [])
    ∷ journal_words m.journal
    -- document 02, L2: "The image gains a flag and the branch's address"
    ∷ slot_words m.cpu.core
    -- document 02, L4: the disks, of which none is installed yet: "an uninstalled one is all 0"
    ∷ no_disks
    ∷ []

unfoldable pub words_of : Machine → List ℕ
words_of m = joined (groups_of m)

-- the word that each group but the first starts at: behind the group before it
abbrev pub core_base : ℕ
core_base = 31

abbrev pub table_base : ℕ
table_base = core_base + 12

abbrev pub clock_base : ℕ
clock_base = table_base + 2 * table_size

abbrev pub settings_base : ℕ
settings_base = clock_base + 3

abbrev pub printers_base : ℕ
printers_base = settings_base + 3

abbrev pub pending_base : ℕ
pending_base = printers_base + 5 * devices

abbrev pub journal_base : ℕ
journal_base = pending_base + 1

abbrev pub slot_base : ℕ
slot_base = journal_base + 2

abbrev pub disks_base : ℕ
disks_base = slot_base + 2

-- 184 words
abbrev pub image_words : ℕ
image_words = disks_base + disk_words

-- the bytes after the length word, of an image of so many words: the version byte and the words
abbrev pub body_of : ℕ → ℕ
body_of words = 1 + 4 * words

-- the length word: 737
abbrev pub body_length : ℕ
body_length = body_of image_words

-- 741 bytes
abbrev pub image_length : ℕ
image_length = 4 + body_length

abbrev pub image_version : ℕ
image_version = 3

-- "a length word .., a version byte"
abbrev pub header : List ℕ
header = word_bytes body_length ++ (image_version ∷ [])

unfoldable pub bytes_of : Machine → List ℕ
bytes_of m = header ++ flat word_bytes (words_of m)

-- ---- words as a machine

abbrev pub row_at : (ℕ → ℕ) → ℕ → Row
row_at word i = row_from (2 * i + table_base) word

abbrev pub cpu_at : (ℕ → ℕ) → Cpu
cpu_at word = record { regs = 0 ∷ tabulate core_base word; core = core_from core_base slot_base word; tlb = tabulate table_size (row_at word) }

abbrev pub printer_at : (ℕ → ℕ) → ℕ → Printer
printer_at word i = printer_from (5 * i + printers_base) word

abbrev pub line_at : (ℕ → ℕ) → Line
line_at word = record { printers = tabulate devices (printer_at word); pending = word pending_base }

abbrev pub board_at : (ℕ → ℕ) → Board
board_at word = record { clock = clock_from clock_base word; settings = settings_from settings_base word; line = line_at word }

unfoldable pub machine_at : (ℕ → ℕ) → Machine
machine_at word = record { cpu = cpu_at word; board = board_at word; journal = journal_from journal_base word }

-- word k of a body, the bytes after the header
abbrev pub body_word : List ℕ → ℕ → ℕ
body_word body k = word_at body (4 * k)

unfoldable pub machine_of : List ℕ → Machine
machine_of bytes = machine_at (body_word (drop 5 bytes))

-- ---- the machines that an image can hold, as the types of `Machine` have them

-- the arrays have their lengths
pub record Sized (m : Machine) : Type 0 where
  pub regs : length m.cpu.regs ≡ 32
  pub tlb : length m.cpu.tlb ≡ table_size
  pub printers : length m.board.line.printers ≡ devices

-- register 0 is 0
abbrev pub HoldsZero : List ℕ → Type 0
HoldsZero regs = get_or regs 0 0 ≡ 0

-- and so it is, and every word is a word
pub record WellTyped (m : Machine) : Type 0 where
  pub sized : Sized m
  pub zero : HoldsZero m.cpu.regs
  pub small : Below (2 ^ 32) (words_of m)
