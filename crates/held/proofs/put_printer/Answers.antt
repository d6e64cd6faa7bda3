-- `held::put_printer` meets its contract.
use Rattle.held.proofs.Board.{store_five}
use Rattle.held.proofs.put_printer.Goals as goal

pub returns : goal.returns
returns c = let p = c.args.p in
    store_five c.args.words.now c.args.at p.status p.command p.data0 p.left p.count
