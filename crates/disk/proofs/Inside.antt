-- Nothing lies outside: a disk that keeps the rules and is at a transfer, with a buffer of its own size (row 13), fits. So a busy READBLK reads and a busy
-- WRITEBLK writes in every step, and the test `fits` of the definitions passes over nothing.
use Prim.Native.Nat.{ℕ, ◌+◌, ◌*◌, ◌≤◌, ◌<◌}
use mathlib.Core.Path.{◌≡◌}
use mathlib.Core.Bool.{Bool, true, ◌&&◌}
use native.Mathlib.Omega.{arith}
use borrow.Author.Tests.{eqb-true, ltb-true, le-leb}
use lib.Dec.{eqb, ltb}
use Rattle.word.proofs.Cond.{both, and_true}
use Rattle.word.specs.Number.{between}
use Rattle.device.proofs.Places.{below_higher}
use Rattle.disk.specs.declared.Disk.{Disk}
use Rattle.disk.specs.Fields.{cylinders, heads, sectors, size_of, code_of, headnum, sectnum, has_cylinder, has_block, in_ram, block_of}
use Rattle.disk.specs.Tick.{is_busy, transfers, fits, reads, writes}
use Rattle.disk.specs.Rules.{present_keeps, size_keeps}
use Rattle.disk.proofs.DiskKeeps.{present, transfer_keeps_lem}

-- a block of the disk lies within its bytes
block_inside : (d : Disk) → has_block d.data1 d.cylinder d.command ≡ true → block_of d + 4096 ≤ size_of d.data1
unfolding block_of
block_inside d e =
    let data1 = d.data1 in
    let track = d.cylinder * heads data1 + headnum d.command in
    let h = both (has_cylinder data1 d.cylinder) (ltb (headnum d.command) (heads data1) && ltb (sectnum d.command) (sectors data1)) e in
    let g = both (ltb (headnum d.command) (heads data1)) (ltb (sectnum d.command) (sectors data1)) h.1 in
    let cylinder : d.cylinder < cylinders data1 = ltb-true d.cylinder (cylinders data1) h.0 in
    let head : headnum d.command < heads data1 = ltb-true (headnum d.command) (heads data1) g.0 in
    let sector : sectnum d.command < sectors data1 = ltb-true (sectnum d.command) (sectors data1) g.1 in
    let on_track : track < cylinders data1 * heads data1 = below_higher (heads data1) d.cylinder (headnum d.command) head (cylinders data1) cylinder in
    let on_disk : track * sectors data1 + sectnum d.command < cylinders data1 * heads data1 * sectors data1 =
    below_higher (sectors data1) track (sectnum d.command) sector (cylinders data1 * heads data1) on_track in
    omega arith

module _ (pending : Bool) (delay room size : ℕ) (d : Disk) (k : present_keeps pending delay room d ≡ true) (busy : is_busy d ≡ true) (own : size_keeps size d ≡ true) where
  pub keeps_fits : transfers d ≡ true → fits room size d ≡ true
  keeps_fits t =
      let h =
      both (between 1 1024 d.words && eqb d.ticks 0) (has_block d.data1 d.cylinder d.command && in_ram room d.data0)
      (transfer_keeps_lem pending delay room d (present pending delay room d k) busy t) in
      let left = (both (between 1 1024 d.words) (eqb d.ticks 0) h.0).0 in
      let place = both (has_block d.data1 d.cylinder d.command) (in_ram room d.data0) h.1 in
      let inside = block_inside d place.0 in
      let same : size ≡ size_of d.data1 = eqb-true size (size_of d.data1) own in
      let enough : block_of d + 4096 ≤ size = rw same inside in
      and_true place.1 (and_true (le-leb (block_of d + 4096) size enough) left)

  pub reads_always : code_of d.command ≡ 3 → reads room size d ≡ true
  reads_always e = let f = keeps_fits (rw e) in rw (busy, e, f)

  pub writes_always : code_of d.command ≡ 4 → writes room size d ≡ true
  writes_always e = let f = keeps_fits (rw e) in rw (busy, e, f)
