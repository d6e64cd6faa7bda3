-- What the host lends to read from, and the word around a place of it.
use Rattle.std.specs.Prelude.{ℕ, ◌+◌, ◌*◌, ◌/◌, ◌%◌, ◌^◌, ◌≤◌, ◌<◌, ◌≡◌, List, length}
use Rattle.memory.specs.Memory.{load_at}
use Rattle.board.specs.Places.{device_size}
use Rattle.board.specs.declared.places.Sizes.{Sizes}
use Rattle.board.specs.declared.places.Place.{Place}
use Rattle.board.specs.declared.places.Place.TheVariants.{Ram, Execution, Bootstrap, Device}

pub record Lent : Type 0 where
  pub execution : List ℕ
  pub bootstrap : List ℕ
  pub ram : List ℕ

abbrev pub lent_of : List ℕ → List ℕ → List ℕ → Lent
lent_of execution bootstrap ram = record { execution = execution; bootstrap = bootstrap; ram = ram }

abbrev pub sizes_of : Lent → Sizes
sizes_of lent = record { ram = length lent.ram; execution = length lent.execution; bootstrap = length lent.bootstrap }

-- whole words, and few enough that a word can count them
pub record Words (bytes : List ℕ) : Type 0 where
  pub whole : length bytes % 4 ≡ 0
  pub few : length bytes < 2 ^ 32

pub record Whole (lent : Lent) : Type 0 where
  pub execution : Words lent.execution
  pub bootstrap : Words lent.bootstrap
  pub ram : Words lent.ram

-- the aligned word of which the byte at a place is one
abbrev pub around : List ℕ → ℕ → ℕ
around bytes at = load_at 4 bytes (at / 4 * 4)

-- the bus answers in the device area, and not this
abbrev pub word_in : Lent → Place → ℕ
word_in lent (Ram at) = around lent.ram at
word_in lent (Execution at) = around lent.execution at
word_in lent (Bootstrap at) = around lent.bootstrap at
word_in lent (Device at) = 0

-- ---- aids to proofs: nothing that a reader must believe

-- the word around a place lies in its area
abbrev pub Room : Lent → Place → Type 0
Room lent (Ram at) = at / 4 * 4 + 4 ≤ length lent.ram
Room lent (Execution at) = at / 4 * 4 + 4 ≤ length lent.execution
Room lent (Bootstrap at) = at / 4 * 4 + 4 ≤ length lent.bootstrap
Room lent (Device at) = (at < device_size) × (at % 4 ≡ 0)
