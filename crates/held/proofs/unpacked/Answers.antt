-- `held::unpacked` meets its contract: each place of the array is read.
use Rattle.std.proofs.Common.{rules}
use Rattle.device.proofs.Made.{made_by}
use Rattle.printer.specs.Tick.{no_printer}
use Rattle.held.specs.Board.{printer_in, printers_in}
use Rattle.held.proofs.unpacked.Goals as goal

pub returns : goal.returns
unfolding printers_in
returns c = made_by _ _ (printer_in c.args.words.now) (λ i y q k. search rules) c.from_fn.result 8 no_printer c.from_fn.ensures.items
