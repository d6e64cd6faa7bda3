-- Document 01, "One step": "Random goes down one, from 1 to 15." The field is bits 8-13; a field of 0, which the rules exclude, goes to the top as well.
use Rattle.std.specs.Prelude.{ℕ, ◌-◌, ◌*◌, ◌/◌, ◌^◌, cond, leb}
use Rattle.word.specs.Sizes.{table_size}

abbrev pub field : ℕ → ℕ
field random = random / 2 ^ 8

-- the last entry of the table
abbrev pub top_entry : ℕ
top_entry = table_size - 1

abbrev pub random_of : ℕ → ℕ → ℕ
random_of top random = cond (leb (field random) 1) top (field random - 1) * 2 ^ 8
