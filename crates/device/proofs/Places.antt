-- Where things lie that are counted in rows: the place of one in its row lies below every higher row.
use Prim.Native.Nat.{ℕ, ◌+◌, ◌*◌, ◌≤◌, ◌<◌}
use mathlib.Core.Path.{◌≡◌}
use native.Mathlib.Nat.{mul-le-mul_right, add-mul, one-mul}
use native.Mathlib.Omega.{arith}

pub below_higher : (room n count : ℕ) → count < room → (m : ℕ) → n < m → n * room + count < m * room
below_higher room n count some m h =
    let next : (n + 1) * room ≤ m * room = mul-le-mul_right room (let g : n + 1 ≤ m = omega arith in g) in
    let one : (n + 1) * room ≡ n * room + 1 * room = add-mul n 1 room in
    let same : 1 * room ≡ room = one-mul room in
    omega arith
