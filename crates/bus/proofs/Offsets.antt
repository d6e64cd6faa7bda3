-- Every device register has its own place in the area, and document 01's marked example.
use Prim.Native.Nat.{ℕ, ◌≤◌, ◌<◌}
use mathlib.Core.Path.{◌≡◌}
use native.Mathlib.Omega.{arith}
use Rattle.bus.specs.Offset.{offset_of, line_of, number_of, field_of}

module _ (line number field : ℕ) (above : 3 ≤ line) (eight : number < 8) (four : field < 4) where
  pub line_there : line_of (offset_of line number field) ≡ line
  line_there = omega arith

  pub number_there : number_of (offset_of line number field) ≡ number
  number_there = omega arith

  pub field_there : field_of (offset_of line number field) ≡ field
  field_there = omega arith

  -- the area ends at 0x2D0
  pub inside_area : line ≤ 7 → offset_of line number field < 0x2D0
  inside_area last = omega arith
