-- Document 01, "Two further public calls": one answers 0, 2 or 9.
use Rattle.std.specs.Prelude.{ℕ, List, length, Result, Ok, Err}
use Rattle.board.specs.Rom.{answer_of}
use Rattle.board.specs.declared.rom.RomError.{RomError}
use Rattle.board.specs.declared.rom.RomError.TheVariants.{BadRom, BadAddress}
use Rattle.answer.specs.declared.Reason.TheVariants.{NoReason}
use Rattle.answer.specs.declared.Refusal.TheVariants.{Rom, Address}
use Rattle.answer.specs.Answer.{Answer, done_with}

abbrev pub told : Result Unit RomError → Answer
told (Ok _) = done_with 0 NoReason
told (Err BadRom) = Err Rom
told (Err BadAddress) = Err Address

abbrev pub rom_answer : List ℕ → List ℕ → ℕ → Answer
rom_answer execution bootstrap a = told (answer_of (length execution) (length bootstrap) a)
