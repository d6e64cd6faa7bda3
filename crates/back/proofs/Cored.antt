-- Checking by the processor, the board and the two lengths is checking by the whole state.
use Rattle.ring.specs.Machine.{Laws}
use Rattle.record.specs.Layout.{record_of}
use Rattle.step.specs.World.{World, Roms}
use Rattle.undo.proofs.Laws.{cored}
use Rattle.back.specs.Back.{both}

-- no state at all, so that of ring's laws only the one of every state is left: `cored`
abbrev pub Never : World → Type 0
Never w = ⊥

pub core_laws : (roms : Roms) → Laws (both roms) Never
core_laws roms =
    record {
      keeps = λ w never. never;
      noted = λ tag w never. absurd never;
      fits = λ tag w never. absurd never;
      undoes = λ tag w never. absurd never;
      cored = λ slot w. cored (record_of slot) w;
    }
