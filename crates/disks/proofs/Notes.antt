-- What a record keeps of each disk of a line has the layout, and room in its words where the line keeps the rules.
use Prim.Native.Nat.{ℕ, ◌^◌, ◌<◌}
use mathlib.Core.Path.{◌≡◌}
use mathlib.Core.Bool.{true}
use Rattle.word.specs.Lists.{Below}
use Rattle.word.specs.Map.{bit}
use Rattle.disk.specs.Saved.{kept_fits}
use Rattle.disk.specs.Words.{Ranged}
use Rattle.disk.proofs.Given.{kept_fits_lem}
use Rattle.disk.proofs.Ranges.{ranged}
use Rattle.disks.specs.Tick.{Spinning}
use Rattle.disks.specs.Rules.{Keeps}
use Rattle.disks.specs.Saved.{kept_at}
use Rattle.disks.proofs.Passed.{old, store}

pub note_fits : (s : Spinning) (n : ℕ) → kept_fits (kept_at s n) ≡ true
note_fits s n = kept_fits_lem (old s n) s.ram (store s n)

-- DATA1 is a word, RAM and the disks' bytes are bytes
pub note_ranged : (installed delay room : ℕ) (s : Spinning) → Keeps installed delay room s.line → delay < 65536 →
    Below 256 s.ram → (n : ℕ) → n < 8 → (old s n).data1 < 2 ^ 32 → Below 256 (store s n) → Ranged (kept_at s n)
note_ranged installed delay room s k short ram n few word bytes =
    ranged (bit n installed) (bit n s.line.pending) delay room (old s n) (k.each n few) short word s.ram (store s n) ram bytes
