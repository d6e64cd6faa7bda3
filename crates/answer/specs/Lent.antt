-- Document 01, "Numbers for yes and no", rows 1 to 4, and document 02, row 10: the lengths of what the host lends.
use Rattle.std.specs.Prelude.{ℕ, ◌*◌, ◌/◌, ◌%◌, Bool, cond, ◌&&◌, eqb, leb, Result, Ok, Err}
use Rattle.word.specs.Number.{between}
use Rattle.word.specs.Sizes.{devices, record_size}
use Rattle.board.specs.Rom.{fit_of}
use Rattle.answer.specs.declared.Refusal.{Refusal}
use Rattle.answer.specs.declared.Refusal.TheVariants.{Ram, Rom, Paper, Journal}

-- 1: "RAM is not 1 to 4,096 whole frames of 4,096 bytes"
abbrev pub ram_fits : ℕ → Bool
ram_fits len = eqb (len % 4096) 0 && between 1 4096 (len / 4096)

-- 2: "either ROM is not 4 to 65,536 bytes, a multiple of 4"
abbrev pub roms_fit : ℕ → ℕ → Bool
roms_fit execution bootstrap = fit_of execution && fit_of bootstrap

-- 3: "paper is over 65,536 bytes or not a multiple of 8 (0 is allowed)"
abbrev pub paper_fits : ℕ → Bool
paper_fits len = leb len 65536 && eqb (len % devices) 0

-- 4: "journal is over 16,777,216 bytes or not a multiple of 256 (0 is allowed)"; document 02, L4: "01's row 4 and its on-hand rule read 512"
abbrev pub journal_fits : ℕ → Bool
journal_fits len = leb len 16777216 && eqb (len % record_size) 0

-- 10 (document 02, L6): "Another index length", 16 bytes for each frame of the RAM lent
abbrev pub index_fits : ℕ → ℕ → Bool
index_fits ram len = eqb len (16 * (ram / 4096))

-- at reset no RAM is lent: for some RAM that row 1 allows
abbrev pub any_index_fits : ℕ → Bool
any_index_fits len = eqb (len % 16) 0 && between 1 4096 (len / 16)

-- whether a call is refused before it does anything, and with what
abbrev pub Test : Type 0
Test = Result Unit Refusal

abbrev pub passed : Test
passed = Ok tt

-- the lowest of rows 1 to 4 that applies
unfoldable pub lent_test : (execution bootstrap ram paper journal : ℕ) → Test
lent_test execution bootstrap ram paper journal =
    cond (ram_fits ram)
    (cond (roms_fit execution bootstrap) (cond (paper_fits paper) (cond (journal_fits journal) passed (Err Journal)) (Err Paper)) (Err Rom))
    (Err Ram)
