-- Where the printers' bytes lie: each in its own eighth, all of them inside the paper.
use Prim.Native.Nat.{ℕ, ◌+◌, ◌*◌, ◌/◌, ◌≤◌, ◌<◌}
use mathlib.Core.Path.{◌≡◌, refl}
use native.Mathlib.Nat.{mul-le-mul_right}
use native.Mathlib.Omega.{arith}
use mathlib.Core.Bool.{true, ◌&&◌}
use mathlib.Core.List.{List}
use borrow.Author.Tests.{ltb-true}
use lib.Dec.{eqb, ltb}
use lib.ListN.{length}
use Rattle.word.proofs.Cond.{both}
pub use Rattle.device.proofs.Places.{below_higher}
use Rattle.printer.specs.declared.Printer.{Printer}
use Rattle.printer.specs.Tick.{finishes, place_of, prints, room_of}

pub inside : (room n count : ℕ) → count < room → (whole : ℕ) → n < 8 → room ≡ whole / 8 → n * room + count < whole
inside room n count some whole h e =
    let end = below_higher room n count some 8 h in
    omega arith

-- a printer that prints has room left
pub prints_room : (room : ℕ) (p : Printer) → prints room p ≡ true → p.count < room
prints_room room p e =
    let print = (both (finishes p) (eqb p.command 2 && ltb p.count room) e).1 in
    ltb-true p.count room (both (eqb p.command 2) (ltb p.count room) print).1

-- the place of the byte, where the printer prints
pub place_in : (n : ℕ) (p : Printer) (paper : List ℕ) → prints (room_of paper) p ≡ true → n < 8 → place_of (room_of paper) n p.count < length paper
place_in n p paper on few = inside (room_of paper) n p.count (prints_room (room_of paper) p on) (length paper) few refl

-- where the highest eighth starts
pub last_eighth : (n room : ℕ) → n < 8 → n * room ≤ 7 * room
last_eighth n room h = mul-le-mul_right room (let g : n ≤ 7 = omega arith in g)
