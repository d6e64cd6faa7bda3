-- `state::encode::put_front` meets its contract: each part is stored where the one before it ends.
use mathlib.Core.Path.{◌≡◌, refl}
use mathlib.Core.List.{◌++◌}
use native.Mathlib.Omega.{arith}
use lib.ListN.{length, take, drop, length-drop}
use lib.Seq.{sets, take_all}
use Rattle.word.specs.Lists.{flat}
use Rattle.word.specs.Big.{word_bytes}
use Rattle.word.proofs.Lists.{store_append, sets_append}
use Rattle.state.specs.Layout.{header}
use Rattle.state.proofs.encode.put_front.Goals as goal

pub returns : goal.returns
returns c =
    let regs = drop 1 c.args.regs in
    let core = c.args.core in
    let rows = c.args.rows in
    let image = c.args.image.now in
    let e₀ = sets_append header (flat word_bytes (regs ++ (core ++ rows))) image 0 in
    let long : length regs ≡ 31 = simp length-drop (omega (arith, c)) in
    let whole : take 31 regs ≡ regs = take_all 31 regs (omega (arith, long)) in
    let e₁ = store_append 4 word_bytes (λ w. refl) regs (core ++ rows) (sets image 0 header) 5 129 (omega (arith, long)) in
    let e₂ = store_append 4 word_bytes (λ w. refl) core rows (sets (sets image 0 header) 5 (flat word_bytes regs)) 129 177 (omega (arith, c)) in
    cc
