-- What is answered from the bytes that are lent.
use Rattle.std.specs.Prelude.{ℕ, ◌+◌, ◌%◌, Bool, cond, ◌&&◌, List, [], ◌∷◌, map, eqb, leb, length, Option, None}
use Rattle.memory.specs.Memory.{load_at}
use Rattle.record.specs.declared.Saved.{Saved}
use Rattle.record.specs.declared.Saved.TheVariants as saved
use Rattle.record.specs.Layout.{record_of}
use Rattle.seek.specs.OnHand.{records_of}
use Rattle.seek.specs.Latest.{Write, scan}
use Rattle.seek.specs.Pcs.{newest, oldest}
use Rattle.seek.specs.declared.Change.{Change}

-- a step writes at most one word of RAM
abbrev pub writes_in : Saved → List Write
writes_in saved.Nothing = []
writes_in (saved.Register n old) = []
writes_in (saved.TlbRow i row) = []
writes_in (saved.RamWord place old distance) = record { place = place; old = old } ∷ []

abbrev pub writes_of : List ℕ → List Write
writes_of slot = writes_in (record_of slot).saved

abbrev pub pc_of : List ℕ → ℕ
pc_of slot = (record_of slot).core.pc

-- RAM has a word at `place`
abbrev pub has_word : List ℕ → ℕ → Bool
has_word ram place = eqb (place % 4) 0 && leb (place + 4) (length ram)

unfoldable pub last_change_of : List ℕ → List ℕ → ℕ → ℕ → ℕ → Option Change
last_change_of ram journal hand next place =
    cond (has_word ram place) (scan place (load_at 4 ram place) 0 (map writes_of (records_of journal hand next))) None

unfoldable pub newest_at_of : List ℕ → ℕ → ℕ → ℕ → Option ℕ
newest_at_of journal hand next pc = newest pc 0 (map pc_of (records_of journal hand next))

unfoldable pub oldest_at_of : List ℕ → ℕ → ℕ → ℕ → Option ℕ
oldest_at_of journal hand next pc =
    let pcs = map pc_of (records_of journal hand next) in
    oldest pc pcs (length pcs)
