-- `held::line::saved_paper` meets its contract. The invariant: the map and the bytes of the printers passed are made.
use Rattle.std.specs.Prelude.{◌≡◌, ◌<◌, ℕ, get_or, Option, is_some, unwrap_or}
use mathlib.Core.Path.{refl, sym, ap, ◌∙◌}
use native.Mathlib.Omega.{arith}
use native.Mathlib.Numerals.{add-one}
use Rattle.word.proofs.Lists.{fill_step, fill_end}
use Rattle.printer.specs.Tick.{no_printer, room_of, place_of, prints}
use Rattle.printer.specs.Saved.{printing_map, saved_byte, saved_paper_of}
use Rattle.held.specs.Board.{printers_in}
use Rattle.held.proofs.LineHeld.{byte_of, there_told, byte_told}
use Rattle.held.proofs.Stored.{printer_at}
use Rattle.held.proofs.line.saved_paper.Goals as goal

pub loop-n-init : goal.loop-n-init
unfolding printing_map
loop-n-init c = (omega arith, refl, refl)

pub loop-n-preserved : goal.loop-n-preserved
unfolding printing_map
loop-n-preserved c =
    let l = c.loop-n in
    let a = c.args in
    let few : l.n < 8 = omega arith in
    let room = room_of a.paper.now in
    let p = get_or (printers_in a.words.now) l.n no_printer in
    let at = c.saved_at-byte.ensures ∙ ap (byte_of l.n a.paper.now) (sym (printer_at a.words.now l.n few)) in
    let there = c.is_some.ensures ∙ ap (is_some {T = ℕ}) at ∙ there_told (prints room p) (get_or a.paper.now (place_of room l.n p.count) 0) in
    let byte = c.unwrap_or.ensures ∙ ap (λ (o : Option ℕ). unwrap_or o 0) at ∙ byte_told (prints room p) (get_or a.paper.now (place_of room l.n p.count) 0) in (
      omega arith,
      rw (add-one l.n, c.with_bit-mask.ensures, there, l.invariant.1),
      rw byte (fill_step (saved_byte (printers_in a.words.now) a.paper.now) _ l.bytes l.n (omega arith) l.invariant.2),
    )

pub returns : goal.returns
unfolding saved_paper_of
returns c =
    let l = c.loop-n in
    let a = c.args in
    let all : l.n ≡ 8 = omega arith in
    let map = rw all at l.invariant.1 in
    let bytes = fill_end (saved_byte (printers_in a.words.now) a.paper.now) _ l.bytes l.n all l.invariant.2 in
    rw (map, bytes)
