-- What a run holds of the disks is the disks: their words laid side by side, and read back.
use Prim.Native.Nat.{ℕ, ◌+◌, ◌*◌, ◌<◌}
use mathlib.Core.Path.{◌≡◌, refl, sym, ap, ◌∙◌}
use mathlib.Core.List.{List}
use native.Mathlib.Omega.{arith}
use lib.ListN.{length, get_or}
use Rattle.word.specs.Lists.{tabulate, flat}
use Rattle.word.proofs.Lists.{tabulate_ext, tabulate_get_d, length_flat, flat_at}
use Rattle.disk.specs.declared.Disk.{Disk}
use Rattle.disk.specs.Tick.{no_disk}
use Rattle.disks.specs.Words.{disk_words, disk_in, disks_in}
use Rattle.disks.proofs.LineHeld.{same}

pub seven_words : (d : Disk) → length (disk_words d) ≡ 7
seven_words d = refl

pub length_held : (disks : List Disk) → length disks ≡ 8 → length (flat disk_words disks) ≡ 56
length_held disks eight = length_flat 7 disk_words seven_words disks ∙ ap (λ (n : ℕ). 7 * n) eight

module _ (disks : List Disk) (eight : length disks ≡ 8) where
  one_in : (i : ℕ) → i < 8 → disk_in (flat disk_words disks) i ≡ get_or disks i no_disk
  one_in i l =
      same (λ (j : ℕ). get_or (flat disk_words disks) (7 * i + j) 0) (λ (j : ℕ). get_or (disk_words (get_or disks i no_disk)) j 0)
      (λ j m. flat_at 7 disk_words seven_words disks no_disk i j (omega (arith, eight)) m)

  pub held_disks : disks_in (flat disk_words disks) ≡ disks
  unfolding disks_in
  held_disks =
      tabulate_ext 8 (disk_in (flat disk_words disks)) (λ (i : ℕ). get_or disks i no_disk) one_in
      ∙ ap (λ (n : ℕ). tabulate n (λ (i : ℕ). get_or disks i no_disk)) (sym eight)
      ∙ tabulate_get_d disks no_disk

-- the fifty-six words, one after the other
in_order : (words : List ℕ) → flat disk_words (disks_in words) ≡ tabulate 56 (λ (i : ℕ). get_or words i 0)
unfolding disks_in
in_order words = refl

pub words_held : (words : List ℕ) → length words ≡ 56 → flat disk_words (disks_in words) ≡ words
words_held words all = in_order words ∙ ap (λ (n : ℕ). tabulate n (λ (i : ℕ). get_or words i 0)) (sym all) ∙ tabulate_get_d words 0
