-- The moves of the disks' line on the words that a run holds, over plain values: a disk that was put back is the one that changed.
use Prim.Native.Nat.{ℕ, suc, ◌+◌, ◌*◌, ◌<◌}
use mathlib.Core.Path.{◌≡◌, refl, sym, ap, ◌∙◌}
use mathlib.Core.Bool.{Bool, true, false, cond, ◌&&◌}
use mathlib.Core.List.{List, [], ◌∷◌}
use native.Mathlib.Nat.{add-zero}
use native.Mathlib.Omega.{arith}
use borrow.Author.Tests.{eq-eqb, ne_eqb}
use lib.Dec.{eqb}
use lib.ListN.{length, get_or, set}
use lib.Seq.{sets, set-get_or}
use Rattle.word.specs.Map.{with_bit}
use Rattle.device.proofs.Stored as device
use Rattle.disk.specs.declared.Disk.{Disk}
use Rattle.disk.specs.declared.tick.One.{One}
use Rattle.disk.specs.Tick.{no_disk, is_busy, is_last, finishes, disk_ticked, ram_ticked, bytes_ticked, OneIs}
use Rattle.disk.specs.Command.{is_refused, commanded_of, with_data}
use Rattle.disks.specs.Tick.{turned, turn_of}
use Rattle.disks.specs.Command.{command_of, data_of}
use Rattle.disks.specs.Words.{disk_words, disk_from, disk_in, disks_in, line_in, takes_in, TurnIs, CommandIs, DataIs}
use Rattle.disks.proofs.Turns.{one_turn}

-- ---- a disk is its seven words

pub same : (f g : ℕ → ℕ) → ((j : ℕ) → j < 7 → f j ≡ g j) → disk_from f ≡ disk_from g
same f g h =
    rw (h 0 (omega arith), h 1 (omega arith), h 2 (omega arith), h 3 (omega arith), h 4 (omega arith), h 5 (omega arith), h 6 (omega arith))

pub first_word : (words : List ℕ) (n : ℕ) → get_or words (7 * n + 0) 0 ≡ get_or words (7 * n) 0
first_word words n = ap (λ (k : ℕ). get_or words k 0) (add-zero (7 * n))

pub disk_at : (words : List ℕ) (n : ℕ) → n < 8 → get_or (disks_in words) n no_disk ≡ disk_in words n
unfolding disks_in
disk_at words n few = device.device_at no_disk 7 disk_words disk_from (λ d. refl) same (λ d. refl) words n few

-- whether a disk finishes is told by STATUS, and then by what is left
pub not_ending : (words : List ℕ) (n : ℕ) → (get_or words (7 * n) 0 ≡ 3 → ⊥) → false ≡ finishes (disk_in words n)
not_ending words n idle =
    let off : is_busy (disk_in words n) ≡ false = ap (λ (x : ℕ). eqb x 3) (first_word words n) ∙ ne_eqb (get_or words (7 * n) 0) 3 idle in
    ap (λ (b : Bool). b && is_last (disk_in words n)) (sym off)

pub ending_told : (words : List ℕ) (n : ℕ) {d : Disk} {last : Bool} → get_or words (7 * n) 0 ≡ 3 → d ≡ disk_in words n → last ≡ is_last d → last ≡ finishes (disk_in words n)
ending_told words n works is e =
    let on : is_busy (disk_in words n) ≡ true = ap (λ (x : ℕ). eqb x 3) (first_word words n) ∙ eq-eqb (get_or words (7 * n) 0) 3 works in
    e ∙ ap is_last is ∙ ap (λ (b : Bool). b && is_last (disk_in words n)) (sym on)

-- seven words stored one after the other
pub store_seven : (l : List ℕ) (at a b c d e f g : ℕ) →
    set (set (set (set (set (set (set l at a) (at + 1) b) (at + 2) c) (at + 3) d) (at + 4) e) (at + 5) f) (at + 6) g ≡ sets l at (a ∷ b ∷ c ∷ d ∷ e ∷ f ∷ g ∷ [])
store_seven l at a b c d e f g =
    let one : at + 1 ≡ suc at = omega arith in
    let two : at + 2 ≡ suc (suc at) = omega arith in
    let three : at + 3 ≡ suc (suc (suc at)) = omega arith in
    let four : at + 4 ≡ suc (suc (suc (suc at))) = omega arith in
    let five : at + 5 ≡ suc (suc (suc (suc (suc at)))) = omega arith in
    let six : at + 6 ≡ suc (suc (suc (suc (suc (suc at))))) = omega arith in
    rw (one, two, three, four, five, six)

module _ (words : List ℕ) (n : ℕ) (few : n < 8) (all : length words ≡ 56) where
  pub stored_disk : (d : Disk) → disks_in (sets words (7 * n) (disk_words d)) ≡ set (disks_in words) n d
  unfolding disks_in
  stored_disk d = device.stored no_disk 7 disk_words disk_from (λ d. refl) same (λ d. refl) words n d all few

  pub stored_all : (d : Disk) → length (sets words (7 * n) (disk_words d)) ≡ 56
  stored_all d = device.stored_all no_disk 7 disk_words disk_from (λ d. refl) same (λ d. refl) words n d all few

  -- ---- the tick

  -- a disk that is not busy stands still
  pub still : (pending : ℕ) (ram bytes : List ℕ) → (get_or words (7 * n) 0 ≡ 3 → ⊥) → TurnIs n words pending ram bytes pending words ram bytes
  unfolding turn_of disk_ticked ram_ticked bytes_ticked
  still pending ram bytes idle =
      let off : is_busy (get_or (disks_in words) n no_disk) ≡ false =
      ap is_busy (disk_at words n few) ∙ ne_eqb (get_or words (7 * n + 0) 0) 3 (λ e. idle (sym (first_word words n) ∙ e)) in
      record {
        turn_is = rw off (ap (λ (l : List Disk). turned (record { disks = l; pending = pending }) ram bytes) (sym (set-get_or (disks_in words) n no_disk)));
        all = all;
      }

  pub worked : (pending : ℕ) (ram bytes : List ℕ) {d : Disk} {one : One} {map : ℕ} {words' ram' bytes' : List ℕ} → d ≡ disk_in words n → OneIs d ram bytes one ram' bytes' →
      words' ≡ sets words (7 * n) (disk_words one.disk) → map ≡ cond one.finished (with_bit n true pending) pending →
      TurnIs n words pending ram bytes map words' ram' bytes'
  worked pending ram bytes {d} {one} {map} {words'} {ram'} {bytes'} is ticked put Turned-on =
      let there : d ≡ get_or (disks_in words) n no_disk = is ∙ sym (disk_at words n few) in
      record {
        turn_is =
            ap (λ (l : List Disk). turned (record { disks = l; pending = map }) ram' bytes') (ap disks_in put ∙ stored_disk one.disk)
            ∙ one_turn n (line_in words pending) ram bytes one map ram' bytes' (rw there at ticked) Turned-on;
        all = ap length put ∙ stored_all one.disk;
      }

  -- ---- writes

  module _ (installed : ℕ) where
    takes : {d : Disk} {b : Bool} → d ≡ disk_in words n → takes_in installed n d ≡ b → takes_in installed n (get_or (disks_in words) n no_disk) ≡ b
    takes is e = ap (takes_in installed n) (disk_at words n few ∙ sym is) ∙ e

    pub not_commanded : (delay room word pending : ℕ) {d : Disk} → d ≡ disk_in words n → takes_in installed n d ≡ false →
        CommandIs installed delay room n word words pending pending words
    unfolding command_of
    not_commanded delay room word pending is off = record { line_is = rw (takes is off); all = all }

    pub commanded_held : (delay room word pending : ℕ) {d next : Disk} {map : ℕ} {words' : List ℕ} → d ≡ disk_in words n → takes_in installed n d ≡ true →
        next ≡ commanded_of delay room word d → words' ≡ sets words (7 * n) (disk_words next) → map ≡ with_bit n (is_refused next.status) pending →
        CommandIs installed delay room n word words pending map words'
    unfolding command_of commanded_of
    commanded_held delay room word pending {next = next} is on made put Turned-on =
        record {
          line_is = rw (takes is on, Turned-on, put, stored_disk next, made, is, disk_at words n few);
          all = ap length put ∙ stored_all next;
        }

    pub not_written : (word : ℕ) {d : Disk} → d ≡ disk_in words n → takes_in installed n d ≡ false → DataIs installed n word words words
    unfolding data_of
    not_written word is off = record { line_is = λ pending. rw (takes is off); all = all }

    pub written_held : (word : ℕ) {d next : Disk} {words' : List ℕ} → d ≡ disk_in words n → takes_in installed n d ≡ true →
        next ≡ with_data word d → words' ≡ sets words (7 * n) (disk_words next) → DataIs installed n word words words'
    unfolding data_of
    written_held word {next = next} is on made put =
        record {
          line_is = λ pending. rw (takes is on, put, stored_disk next, made, is, disk_at words n few);
          all = ap length put ∙ stored_all next;
        }
