-- `board::rom::rom_window` meets its contract: each arm is given what `rom_answer` returned.
use mathlib.Core.Path.{sym, ap, ◌∙◌}
use Rattle.board.specs.Rom.{part_of}
use Rattle.board.proofs.Windows.{refused_part}
use Rattle.board.proofs.rom.rom_window.Goals as goal

pub from_rom-requires : goal.from_rom-requires
from_rom-requires c = sym c.rom_answer.ensures ∙ c.in-Ok.is

pub returns-in-Ok : goal.returns-in-Ok
returns-in-Ok c =
    c.from_rom.ensures
    ∙ ap (part_of c.args.execution.now c.args.bootstrap.now c.args.address) (sym c.in-Ok.is ∙ c.rom_answer.ensures)

pub returns-in-Err : goal.returns-in-Err
returns-in-Err c =
    sym (refused_part c.args.execution.now c.args.bootstrap.now c.args.address c.in-Err.field-0)
    ∙ ap (part_of c.args.execution.now c.args.bootstrap.now c.args.address) (sym c.in-Err.is ∙ c.rom_answer.ensures)
