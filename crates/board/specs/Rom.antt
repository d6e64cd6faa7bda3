-- Document 01, rows 0, 2 and 9, and "Two further public calls": what is answered for a physical address, and the four bytes there.
use Rattle.std.specs.Prelude.{Bool, cond, ◌&&◌, ◌||◌, List, [], ℕ, ◌-◌, ◌%◌, eqb, leb, length, take, drop, Result, Ok, Err}
use Rattle.board.specs.Places.{execution_base, bootstrap_base, spans}
use Rattle.board.specs.declared.rom.RomError.{RomError}
use Rattle.board.specs.declared.rom.RomError.TheVariants.{BadRom, BadAddress}

-- 4 to 65,536 bytes, a multiple of 4
abbrev pub fit_of : ℕ → Bool
fit_of len = leb 4 len && (leb len 65536 && eqb (len % 4) 0)

-- a multiple of 4, in one of the two ROMs, of e and b bytes
abbrev pub held_of : ℕ → ℕ → ℕ → Bool
held_of e b a = eqb (a % 4) 0 && (spans execution_base e a || spans bootstrap_base b a)

-- the lowest number that applies: 2 where a ROM is not fit, 9 where the address is not held
unfoldable pub answer_of : ℕ → ℕ → ℕ → Result Unit RomError
answer_of e b a = cond (fit_of e && fit_of b) (cond (held_of e b a) (Ok tt) (Err BadAddress)) (Err BadRom)

abbrev pub four_at : List ℕ → ℕ → List ℕ
four_at rom at = take 4 (drop at rom)

-- of whichever of the two ROMs holds the address
abbrev pub from_of : List ℕ → List ℕ → ℕ → List ℕ
from_of execution bootstrap a =
    cond (spans execution_base (length execution) a)
    (four_at execution (a - execution_base))
    (four_at bootstrap (a - bootstrap_base))

-- the returned part: empty where the answer refuses
abbrev pub part_of : List ℕ → List ℕ → ℕ → Result Unit RomError → List ℕ
part_of execution bootstrap a (Ok done) = from_of execution bootstrap a
part_of execution bootstrap a (Err BadRom) = []
part_of execution bootstrap a (Err BadAddress) = []

abbrev pub window_of : List ℕ → List ℕ → ℕ → List ℕ
window_of execution bootstrap a = part_of execution bootstrap a (answer_of (length execution) (length bootstrap) a)

-- ---- aids to proofs: nothing that a reader must believe

-- document 01's number of each answer
abbrev pub number_of : Result Unit RomError → ℕ
number_of (Ok done) = 0
number_of (Err BadRom) = 2
number_of (Err BadAddress) = 9
