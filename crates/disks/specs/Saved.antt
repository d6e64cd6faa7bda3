-- What a record keeps of all eight disks, and how it is given back: a store's word first, then the disks, the last first.
use Rattle.std.specs.Prelude.{ℕ, zero, suc, ◌+◌, ◌*◌, Bool, cond, List, [], get_or, set}
use Rattle.word.specs.Lists.{tabulate, flat}
use Rattle.word.specs.Sizes.{devices}
use Rattle.disk.specs.declared.Disk.{Disk}
use Rattle.disk.specs.declared.saved.Kept.{Kept}
use Rattle.disk.specs.Tick.{no_disk}
use Rattle.disk.specs.Words.{kept_words, kept_from}
use Rattle.disk.specs.Saved.{no_kept, kept_of, given_back, ram_back, bytes_back}
use Rattle.disks.specs.declared.Line.{Line}
use Rattle.disks.specs.Tick.{Spinning, spinning, Turned, turned, put_by}

-- all that a record keeps of the disks' tick
pub record Note : Type 0 where
  pub kept : List Kept
  pub pending : ℕ

abbrev pub kept_at : Spinning → ℕ → Kept
kept_at s n = kept_of s.ram (get_or s.stores n []) (get_or s.line.disks n no_disk)

abbrev pub note_of : Spinning → Note
note_of s = record { kept = tabulate devices (kept_at s); pending = s.line.pending }

-- as the words of a record, four a disk; they say nothing of the pending map
unfoldable pub note_words : Spinning → List ℕ
note_words s = flat kept_words (note_of s).kept

-- and read back
abbrev pub kept_in : List ℕ → ℕ → Kept
kept_in words n = kept_from (get_or words (4 * n) 0) (get_or words (4 * n + 1) 0) (get_or words (4 * n + 2) 0) (get_or words (4 * n + 3) 0)

unfoldable pub kepts_in : List ℕ → List Kept
kepts_in words = tabulate devices (kept_in words)

-- disk n given back, with its bytes
unfoldable pub back_of : ℕ → Kept → Line → List ℕ → List ℕ → Turned
back_of n k line ram bytes =
    let d = given_back k (get_or line.disks n no_disk) in
    turned (record { disks = set line.disks n d; pending = line.pending }) (ram_back k ram) (bytes_back k d bytes)

unfoldable pub back_one : ℕ → Kept → Spinning → Spinning
back_one n k s = put_by n s.stores (back_of n k s.line s.ram (get_or s.stores n []))

-- disks n - 1 to 0
unfoldable pub backs : ℕ → List Kept → Spinning → Spinning
backs zero kept s = s
backs (suc n) kept s = backs n kept (back_one n (get_or kept n no_kept) s)

abbrev pub with_pending : ℕ → Spinning → Spinning
with_pending pending s = spinning (record { disks = s.line.disks; pending = pending }) s.ram s.stores

unfoldable pub undo_of : Note → Spinning → Spinning
undo_of note s = with_pending note.pending (backs devices note.kept s)

-- ---- a store to COMMAND, or to DATA0, of a disk: "the disk's COMMAND or DATA0 becomes word 61, its STATUS word 62, its ticks left and words left 0"

-- the word that the store landed on: DATA0, or COMMAND
abbrev pub word_of : Bool → Disk → ℕ
word_of of_data d = cond of_data d.data0 d.command

abbrev pub word_back : Bool → ℕ → ℕ → Disk → Disk
word_back of_data word status d =
    record {
      status = status;
      command = cond of_data d.command word;
      data0 = cond of_data word d.data0;
      data1 = d.data1;
      ticks = 0;
      words = 0;
      cylinder = d.cylinder;
    }

unfoldable pub undo_word : Bool → ℕ → ℕ → ℕ → Line → Line
undo_word of_data n word status line =
    record { disks = set line.disks n (word_back of_data word status (get_or line.disks n no_disk)); pending = line.pending }
