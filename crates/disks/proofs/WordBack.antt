-- A store to COMMAND or DATA0 of a disk is taken back with the step: that word and STATUS as they were before the step, no ticks and no words left, and then what was
-- kept of the tick. Here the rule is used that a disk with STATUS other than 3 has no ticks and no words left.
use Prim.Native.Nat.{ℕ, ◌<◌}
use mathlib.Core.Path.{◌≡◌, refl, sym, ap, ◌∙◌}
use mathlib.Core.Bool.{Bool, true, false, not, cond, ◌&&◌}
use mathlib.Core.List.{List}
use native.Mathlib.Decide.{ℕ_discrete}
use borrow.Author.Tests.{eqb-true}
use lib.Dec.{eqb}
use lib.ListN.{length, get_or, set, length-set}
use lib.Seq.{set-set, set-get_or, get_or-set_same, get_or-set_other}
use Rattle.word.specs.Map.{bit, with_bit}
use Rattle.word.proofs.Cond.{both}
use Rattle.disk.specs.declared.Disk.{Disk}
use Rattle.disk.specs.Tick.{no_disk, is_busy, disk_ticked}
use Rattle.disk.specs.Command.{status_of, is_refused, commanded_of, with_data}
use Rattle.disk.specs.Saved.{given_back}
use Rattle.disk.proofs.DiskKeeps.{nothing_left}
use Rattle.disk.proofs.Given.{SameWords, ticked_same, idle_still, idle_back, busy_back}
use Rattle.disks.specs.declared.Line.{Line}
use Rattle.disks.specs.Tick.{Spinning, spinning, ticked_of}
use Rattle.disks.specs.Command.{command_of, data_of}
use Rattle.disks.specs.Rules.{Keeps}
use Rattle.disks.specs.Saved.{kept_at, note_of, undo_of, word_of, word_back, undo_word}
use Rattle.disks.proofs.Passed.{old, store, length_ticks, passed}
use Rattle.disks.proofs.Undo.{Back, ram_back_lem, undo_after, ticked_back, ticked_eight}

-- two disks alike in all seven words
alike : {x y : Disk} → x.status ≡ y.status → x.command ≡ y.command → x.data0 ≡ y.data0 → x.data1 ≡ y.data1 → x.ticks ≡ y.ticks → x.words ≡ y.words → x.cylinder ≡ y.cylinder → x ≡ y
alike {x} {y} a b c d e f g =
    λ i. record { status = a i; command = b i; data0 = c i; data1 = d i; ticks = e i; words = f i; cylinder = g i }

module _ (installed delay room : ℕ) (s : Spinning) (k : Keeps installed delay room s.line) (stores_eight : length s.stores ≡ 8) (n : ℕ) (in_line : n < 8) where
  -- disk n before the step
  abbrev d : Disk
  d = old s n

  -- what a store leaves of the disk: the other word, DATA1 and the cylinder are as the tick left them
  record Beside (of_data : Bool) (x : Disk) : Type 0 where
    other : word_of (not of_data) x ≡ word_of (not of_data) d
    data1 : x.data1 ≡ d.data1
    cylinder : x.cylinder ≡ (disk_ticked d).cylinder

  same : (of_data : Bool) (x : Disk) → Beside of_data x → SameWords (word_back of_data (word_of of_data d) d.status x) d
  same true x b = record { command = b.other; data0 = refl; data1 = b.data1 }
  same false x b = record { command = refl; data0 = b.other; data1 = b.data1 }

  given : (of_data : Bool) (x : Disk) → Beside of_data x → Back s n (word_back of_data (word_of of_data d) d.status x)
  given of_data x b = go (is_busy d) refl
    where
      go : (busy : Bool) → is_busy d ≡ busy → Back s n (word_back of_data (word_of of_data d) d.status x)
      go true e = busy_back d s.ram (store s n) e (word_back of_data (word_of of_data d) d.status x) (same of_data x b)
      go false e =
          let left = both (eqb d.ticks 0) (eqb d.words 0) (nothing_left (bit n installed) (bit n s.line.pending) delay room d (k.each n in_line) e) in
          let w = same of_data x b in
          idle_back d s.ram (store s n) e (word_back of_data (word_of of_data d) d.status x)
          ∙ alike refl w.command w.data0 w.data1 (sym (eqb-true d.ticks 0 left.0)) (sym (eqb-true d.words 0 left.1))
          (b.cylinder ∙ ap (λ (y : Disk). y.cylinder) (idle_still d e))

  -- ---- the line

  abbrev disks : List Disk
  disks = (ticked_of s).line.disks

  inside : n < length disks
  inside = rw (ticked_eight s stores_eight k.eight) in_line

  abbrev undone : Bool → Line → Spinning
  undone of_data line = undo_of (note_of s) (spinning (undo_word of_data n (word_of of_data d) d.status line) (ticked_of s).ram (ticked_of s).stores)

  word_undone : (of_data : Bool) (x : Disk) (pending : ℕ) → Beside of_data x → undone of_data (record { disks = set disks n x; pending = pending }) ≡ s
  unfolding undo_word
  word_undone of_data x pending b =
      rw (get_or-set_same disks n x no_disk inside, set-set disks n x (word_back of_data (word_of of_data d) d.status x))
      (undo_after s stores_eight k.eight (set disks n (word_back of_data (word_of of_data d) d.status x)) pending (ticked_of s).ram
      (length-set disks n (word_back of_data (word_of of_data d) d.status x) ∙ ticked_eight s stores_eight k.eight)
      (λ m few. back m few (ℕ_discrete m n)) (length_ticks s 8) (ram_back_lem s 8))
    where
      back : (m : ℕ) → m < 8 → Dec (m ≡ n) → Back s m (get_or (set disks n (word_back of_data (word_of of_data d) d.status x)) m no_disk)
      back m few (yes e) =
          rw (e, get_or-set_same disks n (word_back of_data (word_of of_data d) d.status x) no_disk inside) (given of_data x b)
      back m few (no ne) =
          ap (given_back (kept_at s m)) (get_or-set_other disks n m (word_back of_data (word_of of_data d) d.status x) no_disk ne)
          ∙ ticked_back s stores_eight k.eight m few

  -- the disk that the store finds
  found : get_or disks n no_disk ≡ disk_ticked d
  found = let there : n < length s.line.disks = rw k.eight in_line in passed s 8 n in_line there

  beside_ticked : (of_data : Bool) → Beside of_data (disk_ticked d)
  beside_ticked true = record { other = (ticked_same d).command; data1 = (ticked_same d).data1; cylinder = refl }
  beside_ticked false = record { other = (ticked_same d).data0; data1 = (ticked_same d).data1; cylinder = refl }

  -- a store that the disk does not take
  passed_over : (of_data : Bool) → undone of_data (ticked_of s).line ≡ s
  passed_over of_data =
      let same_line : set disks n (disk_ticked d) ≡ disks = ap (set disks n) (sym found) ∙ set-get_or disks n no_disk in
      ap (λ (l : List Disk). undone of_data (record { disks = l; pending = (ticked_of s).line.pending })) (sym same_line)
      ∙ word_undone of_data (disk_ticked d) (ticked_of s).line.pending (beside_ticked of_data)

  commanded_beside : (word : ℕ) → Beside false (commanded_of delay room word (disk_ticked d))
  unfolding commanded_of
  commanded_beside word = record { other = (ticked_same d).data0; data1 = (ticked_same d).data1; cylinder = refl }

  -- A store to COMMAND of disk n, whether the disk takes it or not.
  pub undo_command : (word : ℕ) → undone false (command_of installed delay room n word (ticked_of s).line) ≡ s
  unfolding command_of
  undo_command word = rw found (go (bit n installed && not (is_busy (disk_ticked d))))
    where
      go : (takes : Bool) →
          undone false
          (cond takes
          (record {
            disks = set disks n (commanded_of delay room word (disk_ticked d));
            pending = with_bit n (is_refused (status_of room word (disk_ticked d))) (ticked_of s).line.pending;
          })
          (ticked_of s).line)
          ≡ s
      go true =
          word_undone false (commanded_of delay room word (disk_ticked d)) (with_bit n (is_refused (status_of room word (disk_ticked d))) (ticked_of s).line.pending) (commanded_beside word)
      go false = passed_over false

  -- A store to DATA0.
  pub undo_data : (word : ℕ) → undone true (data_of installed n word (ticked_of s).line) ≡ s
  unfolding data_of
  undo_data word = rw found (go (bit n installed && not (is_busy (disk_ticked d))))
    where
      go : (takes : Bool) →
          undone true (cond takes (record { disks = set disks n (with_data word (disk_ticked d)); pending = (ticked_of s).line.pending }) (ticked_of s).line) ≡ s
      go true =
          word_undone true (with_data word (disk_ticked d)) (ticked_of s).line.pending
          (record { other = (ticked_same d).command; data1 = (ticked_same d).data1; cylinder = refl })
      go false = passed_over true
