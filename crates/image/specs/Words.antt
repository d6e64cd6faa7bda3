-- The words of the state image, which an image of another length has as 0.
use Rattle.std.specs.Prelude.{Bool, cond, ◌&&◌, List, length, ℕ, ◌+◌, ◌-◌, ◌*◌, ◌/◌, ◌%◌, ◌^◌, eqb, ltb, leb, Option, Some, None}
use Rattle.word.specs.Big.{word_at}
use Rattle.image.specs.declared.TlbEntry.{TlbEntry}
use Rattle.image.specs.declared.PrinterWords.{PrinterWords}

-- word k behind the length word and the version
unfoldable pub word_of : List ℕ → ℕ → ℕ
word_of image k = cond (leb 184 k) 0 (cond (eqb (length image) 741) (word_at image (4 * k + 5)) 0)

-- register 0 is in no image
abbrev pub register_of : List ℕ → ℕ → ℕ
register_of image n = cond (eqb n 0) 0 (word_of image (n - 1))

abbrev pub clock_of : List ℕ → ℕ
clock_of image = word_of image 75 * 2 ^ 32 + word_of image 76

-- two words for each entry of the translation table
abbrev pub entry_of : List ℕ → ℕ → TlbEntry
entry_of image i = record { high = word_of image (43 + 2 * (i % 16)); low = word_of image (43 + 2 * (i % 16) + 1) }

-- whether a map of the 8 printers has printer n
abbrev pub has : (map n : ℕ) → Bool
has map n = ltb n 8 && eqb (map / 2 ^ n % 2) 1

-- five words for each printer, if it is installed
unfoldable pub printer_of : List ℕ → ℕ → Option PrinterWords
printer_of image n =
    cond (has (word_of image 80) n)
    (Some (record {
      status = word_of image (81 + 5 * (n % 8));
      command = word_of image (81 + 5 * (n % 8) + 1);
      data0 = word_of image (81 + 5 * (n % 8) + 2);
      steps_left = word_of image (81 + 5 * (n % 8) + 3);
      printed = word_of image (81 + 5 * (n % 8) + 4);
      is_pending = has (word_of image 121) n;
    }))
    None
