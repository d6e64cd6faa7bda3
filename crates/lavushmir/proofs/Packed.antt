-- What a call leaves, with its answer packed: the parts of the one equation, over plain values.
use Prim.Native.Nat.{ℕ}
use mathlib.Core.Path.{◌≡◌, ap, ◌∙◌}
use Rattle.turn.specs.Buffers.{Buffers}
use Rattle.answer.specs.Answer.{Answer, packed_of}
use Rattle.accepted.specs.Left.{Left, left_of}
use Rattle.lavushmir.specs.Panel.{PackedIs}

pub packed_is : {a : Answer} {r : ℕ} {after : Buffers} {left : Left} → left_of a after ≡ left → r ≡ packed_of a → PackedIs left r after
packed_is e packed =
    record {
      answer_is = packed ∙ ap (λ (l : Left). packed_of l.answer) e;
      buffers_are = ap (λ (l : Left). l.buffers) e;
    }
