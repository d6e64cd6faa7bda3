-- ---- aids to proofs: nothing that a reader must believe

-- Two rows that match one address that is translated, anywhere in a table.
use Rattle.std.specs.Prelude.{Bool, false, ◌&&◌, ◌||◌, List, [], ◌∷◌, leb}
use Rattle.std.specs.List.{list_any}
use Rattle.tlb.specs.Entry.{matches_of}
use Rattle.tlb.specs.declared.Row.{Row}

unfoldable pub clash_of : Row → Row → Bool
clash_of a b = leb 0x20000000 a.high && (matches_of a.high b || matches_of b.high a)

abbrev pub clashes_in : Row → List Row → Bool
clashes_in row rows = list_any (clash_of row) rows

unfoldable pub doubled_in : List Row → Bool
doubled_in [] = false
doubled_in (row ∷ rows) = clashes_in row rows || doubled_in rows
