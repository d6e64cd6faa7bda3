-- `state::encode::encode` meets its contract. The lengths of the arrays in m are in what owning m tells.
use native.Mathlib.Omega.{arith}
use Rattle.state.specs.Layout.{Sized}
use Rattle.state.proofs.Stored.{stored}
use Rattle.state.proofs.encode.encode.Goals as goal

pub returns : goal.returns
returns c =
    let m = c.args.m in
    let sized : Sized m = record { regs = omega arith; tlb = omega arith; printers = omega arith } in
    stored m sized c.args.image.now c.requires
    c.core_words.ensures
    c.row_words.ensures
    c.clock_words-clock.ensures
    c.printer_words.ensures
    c.last_words-last.ensures
    c.put_front.ensures
    c.put_back.ensures
