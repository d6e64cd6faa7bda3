-- The world that lent buffers are, and the machine and the buffers that a run or a take-back leaves.
use Rattle.std.specs.Prelude.{ℕ, List}
use Rattle.ring.specs.Slots.{Ring}
use Rattle.state.specs.Layout.{bytes_of, machine_of}
use Rattle.state.specs.declared.machine.Machine.{Machine}
use Rattle.step.specs.World.{World, world_in}
use Rattle.turn.specs.Buffers.{Beside, Buffers, beside_after}

-- the machine of the image, with RAM and paper
abbrev pub world_from : Buffers → World
world_from b = world_in (machine_of b.image) b.beside.ram b.beside.paper

-- the machine of a run's end: on hand and next slot are the ring's
abbrev pub machine_after : World → Ring → Machine
machine_after w g = record { cpu = w.cpu; board = w.board; journal = record { on_hand = g.hand; next_slot = g.next } }

abbrev pub buffers_after : Beside → World → List ℕ → Ring → Buffers
buffers_after b w index g = record { image = bytes_of (machine_after w g); beside = beside_after b w index g }
