-- The number's text is what crate `text` laid.
use Rattle.text.specs.Spelt.{hex_of}
use Rattle.phrase.proofs.Showing.{shown}
use Rattle.phrase.proofs.Widths.{hex_fits}
use Rattle.phrase.proofs.number.hex.Goals as goal

pub returns : goal.returns
returns g c =
    let n = c.args.count in
    let v = c.args.value in
    rw (← shown (hex_of n v) (hex_fits n v) c.put_hex-len.ensures) c.pad.ensures
