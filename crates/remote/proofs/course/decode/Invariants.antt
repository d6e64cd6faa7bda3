-- `remote::course::decode` meets its contract. The loop's invariant: the bytes still to come, read behind those before, are read as all of them are.
use mathlib.Core.Path.{◌≡◌}
use Prim.Native.Nat.{◌≤◌}
use lib.ListN.{length, drop}
use Rattle.remote.specs.Payload.{read_of, steps_of}
use Rattle.remote.specs.Course.{laid_in, reading_of}
use Rattle.remote.proofs.course.decode.Given as goal

abbrev pub invariant-loop-b : goal.invariant-loop-b
invariant-loop-b l = record {
  room : length l.payload ≡ length l.initial.payload;
  within : laid_in l.course ≤ length l.payload;
  told : steps_of (length l.initial.payload) (reading_of l.course l.payload) (drop l.b-index l.body) ≡ read_of (length l.initial.payload) l.body;
}
