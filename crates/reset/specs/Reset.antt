-- Document 01, "Reset", with its refusals.
use Rattle.std.specs.Prelude.{ℕ, ◌*◌, Bool, cond, List, ◌≡◌, eqb, length, replicate, Ok, Err}
use Rattle.word.specs.Lists.{tabulate}
use Rattle.word.specs.Map.{bit}
use Rattle.word.specs.Sizes.{table_size, devices}
use Rattle.cp0.specs.Random.{top_entry}
use Rattle.printer.specs.declared.Printer.{Printer}
use Rattle.tlb.specs.Entry.{no_row}
use Rattle.state.specs.declared.machine.Machine.{Machine}
use Rattle.state.specs.declared.machine.Cpu.{Cpu}
use Rattle.state.specs.declared.machine.Board.{Board}
use Rattle.state.specs.Layout.{image_length, bytes_of}
use Rattle.rules.specs.Rules.{ranges_keep}
use Rattle.answer.specs.Lent.{any_index_fits}
use Rattle.answer.specs.declared.Reason.TheVariants.{NoReason}
use Rattle.answer.specs.declared.Refusal.TheVariants.{Image, Range, Index}
use Rattle.answer.specs.Answer.{Answer, done_with}

-- ---- the machine after a reset: "words all 0 except PC 0x1FC00000, next PC 0x1FC00004, Status 0x10400000, Random field 15, timer 0xFFFFFFFF, the three
-- parameters, STATUS 1 for installed printers"

abbrev pub fresh_printer : Bool → Printer
fresh_printer installed = record { status = cond installed 1 0; command = 0; data0 = 0; left = 0; count = 0 }

unfoldable pub reset_cpu : Cpu
reset_cpu =
    record {
      regs = replicate 32 0;
      core =
          record {
            hi = 0;
            lo = 0;
            pc = 0x1FC00000;
            next_pc = 0x1FC00004;
            cp0 =
                record {
                  index = 0;
                  random = top_entry * 0x100;
                  entry_hi = 0;
                  entry_lo = 0;
                  bad_vaddr = 0;
                  status = 0x10400000;
                  cause = 0;
                  epc = 0;
                };
            slot = 0;
            branch = 0;
          };
      tlb = replicate table_size no_row;
    }

unfoldable pub reset_board : ℕ → ℕ → ℕ → Board
reset_board scale delay installed =
    record {
      clock = record { high = 0; low = 0; timer = 0xFFFFFFFF };
      settings = record { scale = scale; delay = delay; installed = installed };
      line = record { printers = tabulate devices (λ (k : ℕ). fresh_printer (bit k installed)); pending = 0 };
    }

unfoldable pub reset_machine : ℕ → ℕ → ℕ → Machine
reset_machine scale delay installed =
    record {
      cpu = reset_cpu;
      board = reset_board scale delay installed;
      journal = record { on_hand = 0; next_slot = 0 };
    }

-- ---- the call

-- the lowest number that applies: 5 for another length of the image, 6 for the ranges, 10 for an index that fits no RAM (document 02, L6)
abbrev pub reset_answer : List ℕ → List ℕ → ℕ → ℕ → ℕ → Answer
reset_answer image index scale delay installed =
    cond (eqb (length image) image_length)
    (cond (ranges_keep scale delay installed) (cond (any_index_fits (length index)) (done_with 0 NoReason) (Err Index)) (Err Range))
    (Err Image)

-- a refusal writes nothing
abbrev pub image_after : Answer → List ℕ → ℕ → ℕ → ℕ → List ℕ
image_after (Ok d) image scale delay installed = bytes_of (reset_machine scale delay installed)
image_after (Err refusal) image scale delay installed = image

abbrev pub reset_image : List ℕ → List ℕ → ℕ → ℕ → ℕ → List ℕ
reset_image image index scale delay installed = image_after (reset_answer image index scale delay installed) image scale delay installed

-- "which reset empties"
abbrev pub index_after : Answer → List ℕ → List ℕ
index_after (Ok d) index = replicate (length index) 0
index_after (Err refusal) index = index

abbrev pub reset_index : List ℕ → List ℕ → ℕ → ℕ → ℕ → List ℕ
reset_index image index scale delay installed = index_after (reset_answer image index scale delay installed) index

-- all that the call says: the answer, and every byte of the image and of the index
pub record ResetIs (image index : List ℕ) (scale delay installed : ℕ) (answer : Answer) (after emptied : List ℕ) : Type 0 where
  pub answer_is : answer ≡ reset_answer image index scale delay installed
  pub image_is : after ≡ reset_image image index scale delay installed
  pub index_is : emptied ≡ reset_index image index scale delay installed
