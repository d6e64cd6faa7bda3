-- A good world and a sound ring, written as an image: it is bytes, it is accepted, and read again it is the same machine.
use Prim.Native.Nat.{ℕ, ◌/◌, ◌^◌, ◌<◌}
use mathlib.Core.Path.{◌≡◌, ◌∙◌}
use mathlib.Core.Bool.{true}
use native.Mathlib.Omega.{arith}
use lib.ListN.{length}
use Rattle.word.specs.Lists.{Below}
use Rattle.ring.specs.Slots.{Ring, Sound}
use Rattle.state.specs.Layout.{bytes_of, machine_of, WellTyped}
use Rattle.state.specs.declared.machine.Journal.{Journal}
use Rattle.state.proofs.RoundTrip.{decode_encode}
use Rattle.rules.specs.Rules.{good_image}
use Rattle.rules.proofs.Good.{encoded_good}
use Rattle.step.specs.World.{World}
use Rattle.good.specs.Good.{machine_in, Good}
use Rattle.good.proofs.Image.{good_image_lem, good_keeps}
use Rattle.accepted.specs.After.{machine_after}
use Rattle.accepted.proofs.Start.{sound_kept, image_bytes}

module _ (w : World) (g : Ring) (slots : ℕ) (few : slots < 2 ^ 32) (good : Good w) (sound : Sound 512 slots g) where
  abbrev mark : Journal
  mark = record { on_hand = g.hand; next_slot = g.next }

  pub end_typed : WellTyped (machine_in w mark)
  end_typed =
      let hand : g.hand < 2 ^ 32 = omega (arith, sound.most, few) in
      let next : g.next < 2 ^ 32 = omega (arith, sound.place, few) in
      good_image_lem w mark (hand, next) good

  -- and read again
  pub end_read : machine_of (bytes_of (machine_after w g)) ≡ machine_after w g
  end_read = decode_encode (machine_in w mark) end_typed

  pub end_bytes : Below 256 (bytes_of (machine_after w g))
  end_bytes = image_bytes (machine_in w mark) end_typed

  pub end_good : slots ≡ length g.bytes / 512 → good_image (bytes_of (machine_after w g)) (length w.paper) (length g.bytes) ≡ true
  end_good e =
      encoded_good (machine_in w mark) (length w.paper) (length g.bytes) end_typed
      ∙ good_keeps w mark (length g.bytes) (rw (← e) (sound_kept 512 slots g sound)) good
