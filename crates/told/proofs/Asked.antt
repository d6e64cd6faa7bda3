-- What a done last_write tells of any image that is accepted, whatever the journal's bytes are: row 8 has judged every record on hand.
use Prim.Native.Nat.{ℕ, ◌+◌, ◌/◌, ◌%◌}
use native.Mathlib.Omega.{arith}
use mathlib.Core.Path.{◌≡◌}
use mathlib.Core.Bool.{true}
use mathlib.Core.List.{List}
use borrow.Author.Tests.{eqb-true, eq-eqb, le-leb}
use lib.Dec.{eqb}
use lib.ListN.{length}
use Rattle.word.specs.Lists.{Below}
use Rattle.word.specs.Number.{between}
use Rattle.word.proofs.Cond.{both, and_true}
use Rattle.journal.specs.Journal.{slots_of, ring_of}
use Rattle.ring.specs.Slots.{Sound}
use Rattle.state.specs.Layout.{machine_of}
use Rattle.state.specs.declared.machine.Journal.{Journal}
use Rattle.turn.specs.Buffers.{Buffers}
use Rattle.answer.specs.Lent.{ram_fits}
use Rattle.accepted.specs.After.{world_from}
use Rattle.accepted.proofs.Start.{ring_sound, image_mark}
use Rattle.seek.specs.Seek.{has_word}
use Rattle.std.specs.Prelude.{Option}
use Rattle.seek.specs.declared.Change.{Change}
use Rattle.lastwrite.specs.LastWrite.{word_fits, place_of, found_in}
use Rattle.lastwrite.proofs.Answers.{word_says}
use Rattle.lastwrite.proofs.Theorems.{last_write_number, number_0}
use Rattle.told.specs.Told.{Tells}
use Rattle.told.proofs.Back.{taken_back, back_tells, back_only}

-- an address that row 11 lets through is that of a word
pub word_there : (ram : List ℕ) (address : ℕ) → ram_fits (length ram) ≡ true → word_fits (length ram) address ≡ true → has_word ram (place_of address) ≡ true
word_there ram address fits word =
    let w = word_says (length ram) address word in
    let frames = eqb-true (length ram % 4096) 0 (both (eqb (length ram % 4096) 0) (between 1 4096 (length ram / 4096)) fits).0 in
    let place = place_of address in
    and_true (eq-eqb (place % 4) 0 (omega (arith, w.0, w.2))) (le-leb (place + 4) (length ram) (omega (arith, w.0, w.1, w.2, frames)))

module _ (b : Buffers) (address room : ℕ) (number : last_write_number b address room ≡ 0) (bytes : Below 256 b.beside.journal) where
  abbrev journal : List ℕ
  journal = b.beside.journal

  abbrev mark : Journal
  mark = (machine_of b.image).journal

  sound : Sound 512 (slots_of journal) (ring_of mark journal)
  sound = ring_sound journal mark (image_mark b.image (length b.beside.paper) (length journal) ((number_0 b address room).0 number).1.1.1.0)

  has : has_word b.beside.ram (place_of address) ≡ true
  has =
      let t = (number_0 b address room).0 number in
      word_there b.beside.ram address t.0 t.1.1.1.1.1.1.0

  -- what is found is what taking back finds, and no other answer is
  pub asked_tells : Tells (taken_back journal b.beside.index mark.on_hand mark.next_slot (world_from b)) mark.on_hand (place_of address) (found_in b address)
  asked_tells =
      back_tells journal b.beside.index mark.on_hand mark.next_slot (world_from b) sound ((number_0 b address room).0 number).1.1.1.1.0 (place_of address) has bytes

  pub asked_only : (r : Option Change) →
      Tells (taken_back journal b.beside.index mark.on_hand mark.next_slot (world_from b)) mark.on_hand (place_of address) r → r ≡ found_in b address
  asked_only =
      back_only journal b.beside.index mark.on_hand mark.next_slot (world_from b) sound ((number_0 b address room).0 number).1.1.1.1.0 (place_of address) has bytes
