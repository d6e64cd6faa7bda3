-- `record::decode::printers` meets its contract: each place of the array is read.
use Rattle.std.proofs.Common.{rules}
use Rattle.device.proofs.Made.{made_by}
use Rattle.printer.specs.Tick.{no_printer}
use Rattle.record.specs.Layout.{slot_word, printer_at}
use Rattle.record.proofs.decode.printers.Goals as goal

pub returns : goal.returns
returns c = made_by _ _ (printer_at (slot_word c.args.slot.now)) (λ i y q k. search rules) c.from_fn.result 8 no_printer c.from_fn.ensures.items
