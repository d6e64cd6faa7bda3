-- Eight turns, one after the other, are the tick of the line; and eight disks given back, the last first.
use Prim.Native.Nat.{ℕ}
use mathlib.Core.Path.{◌≡◌, sym, ap, ◌∙◌}
use mathlib.Core.List.{List, []}
use mathlib.Core.Bool.{true, cond}
use lib.ListN.{get_or, set}
use Rattle.word.specs.Map.{with_bit}
use Rattle.disk.specs.declared.Disk.{Disk}
use Rattle.disks.specs.declared.Line.{Line}
use Rattle.disk.specs.declared.tick.One.{One}
use Rattle.disk.specs.declared.saved.Kept.{Kept}
use Rattle.disk.specs.Tick.{no_disk, OneIs}
use Rattle.disks.specs.Tick.{Spinning, spinning, eight, turned, turn_of, put_by, tick_one, ticks, ticked_of}
use Rattle.disk.specs.Saved.{no_kept, given_back, ram_back, bytes_back}
use Rattle.disks.specs.Saved.{back_of, back_one, backs, with_pending, undo_of}

-- the tick of one disk put back in the line
pub one_turn : (n : ℕ) (line : Line) (ram bytes : List ℕ) (one : One) (pending : ℕ) (ram' bytes' : List ℕ) →
    OneIs (get_or line.disks n no_disk) ram bytes one ram' bytes' → pending ≡ cond one.finished (with_bit n true line.pending) line.pending →
    turned (record { disks = set line.disks n one.disk; pending = pending }) ram' bytes' ≡ turn_of n line ram bytes
unfolding turn_of
one_turn n line ram bytes one pending ram' bytes' o p = rw (o.disk_is, p, o.finished_is, o.ram_is, o.bytes_is)

-- one disk given back, put back in the line
pub one_back : (n : ℕ) (k : Kept) (line : Line) (ram bytes : List ℕ) (was : Disk) (ram' bytes' : List ℕ) →
    was ≡ given_back k (get_or line.disks n no_disk) → ram' ≡ ram_back k ram → bytes' ≡ bytes_back k was bytes →
    turned (record { disks = set line.disks n was; pending = line.pending }) ram' bytes' ≡ back_of n k line ram bytes
unfolding back_of
one_back n k line ram bytes was ram' bytes' e f g = rw (f, g, e)

-- one turn
turn_on : (n : ℕ) (s : Spinning) (l : Line) (r c : List ℕ) → turned l r c ≡ turn_of n s.line s.ram (get_or s.stores n []) →
    tick_one n s ≡ spinning l r (set s.stores n c)
unfolding tick_one
turn_on n s l r c e = ap (put_by n s.stores) (sym e)

module _
    (l l0 l1 l2 l3 l4 l5 l6 l7 : Line)
    (r r0 r1 r2 r3 r4 r5 r6 r7 : List ℕ)
    (b0 b1 b2 b3 b4 b5 b6 b7 : List ℕ)
    (c0 c1 c2 c3 c4 c5 c6 c7 : List ℕ)
  where
    abbrev s0 : Spinning
    s0 = spinning l r (eight b0 b1 b2 b3 b4 b5 b6 b7)

    abbrev s1 : Spinning
    s1 = spinning l0 r0 (eight c0 b1 b2 b3 b4 b5 b6 b7)

    abbrev s2 : Spinning
    s2 = spinning l1 r1 (eight c0 c1 b2 b3 b4 b5 b6 b7)

    abbrev s3 : Spinning
    s3 = spinning l2 r2 (eight c0 c1 c2 b3 b4 b5 b6 b7)

    abbrev s4 : Spinning
    s4 = spinning l3 r3 (eight c0 c1 c2 c3 b4 b5 b6 b7)

    abbrev s5 : Spinning
    s5 = spinning l4 r4 (eight c0 c1 c2 c3 c4 b5 b6 b7)

    abbrev s6 : Spinning
    s6 = spinning l5 r5 (eight c0 c1 c2 c3 c4 c5 b6 b7)

    abbrev s7 : Spinning
    s7 = spinning l6 r6 (eight c0 c1 c2 c3 c4 c5 c6 b7)

    abbrev s8 : Spinning
    s8 = spinning l7 r7 (eight c0 c1 c2 c3 c4 c5 c6 c7)

    pub eight_turns :
        turned l0 r0 c0 ≡ turn_of 0 l r b0 →
        turned l1 r1 c1 ≡ turn_of 1 l0 r0 b1 →
        turned l2 r2 c2 ≡ turn_of 2 l1 r1 b2 →
        turned l3 r3 c3 ≡ turn_of 3 l2 r2 b3 →
        turned l4 r4 c4 ≡ turn_of 4 l3 r3 b4 →
        turned l5 r5 c5 ≡ turn_of 5 l4 r4 b5 →
        turned l6 r6 c6 ≡ turn_of 6 l5 r5 b6 →
        turned l7 r7 c7 ≡ turn_of 7 l6 r6 b7 →
        s8 ≡ ticked_of s0
    unfolding ticks
    eight_turns h0 h1 h2 h3 h4 h5 h6 h7 =
        let t1 : ticks 1 s0 ≡ s1 = turn_on 0 s0 l0 r0 c0 h0 in
        let t2 : ticks 2 s0 ≡ s2 = ap (tick_one 1) t1 ∙ turn_on 1 s1 l1 r1 c1 h1 in
        let t3 : ticks 3 s0 ≡ s3 = ap (tick_one 2) t2 ∙ turn_on 2 s2 l2 r2 c2 h2 in
        let t4 : ticks 4 s0 ≡ s4 = ap (tick_one 3) t3 ∙ turn_on 3 s3 l3 r3 c3 h3 in
        let t5 : ticks 5 s0 ≡ s5 = ap (tick_one 4) t4 ∙ turn_on 4 s4 l4 r4 c4 h4 in
        let t6 : ticks 6 s0 ≡ s6 = ap (tick_one 5) t5 ∙ turn_on 5 s5 l5 r5 c5 h5 in
        let t7 : ticks 7 s0 ≡ s7 = ap (tick_one 6) t6 ∙ turn_on 6 s6 l6 r6 c6 h6 in
        let t8 : ticks 8 s0 ≡ s8 = ap (tick_one 7) t7 ∙ turn_on 7 s7 l7 r7 c7 h7 in
        sym t8

-- one disk back
back_on : (n : ℕ) (k : Kept) (s : Spinning) (l : Line) (r c : List ℕ) → turned l r c ≡ back_of n k s.line s.ram (get_or s.stores n []) →
    back_one n k s ≡ spinning l r (set s.stores n c)
unfolding back_one
back_on n k s l r c e = ap (put_by n s.stores) (sym e)

module _
    (kept : List Kept) (pending : ℕ)
    (l l0 l1 l2 l3 l4 l5 l6 l7 : Line)
    (r r0 r1 r2 r3 r4 r5 r6 r7 : List ℕ)
    (b0 b1 b2 b3 b4 b5 b6 b7 : List ℕ)
    (c0 c1 c2 c3 c4 c5 c6 c7 : List ℕ)
  where
    abbrev g8 : Spinning
    g8 = spinning l r (eight b0 b1 b2 b3 b4 b5 b6 b7)

    abbrev g7 : Spinning
    g7 = spinning l7 r7 (eight b0 b1 b2 b3 b4 b5 b6 c7)

    abbrev g6 : Spinning
    g6 = spinning l6 r6 (eight b0 b1 b2 b3 b4 b5 c6 c7)

    abbrev g5 : Spinning
    g5 = spinning l5 r5 (eight b0 b1 b2 b3 b4 c5 c6 c7)

    abbrev g4 : Spinning
    g4 = spinning l4 r4 (eight b0 b1 b2 b3 c4 c5 c6 c7)

    abbrev g3 : Spinning
    g3 = spinning l3 r3 (eight b0 b1 b2 c3 c4 c5 c6 c7)

    abbrev g2 : Spinning
    g2 = spinning l2 r2 (eight b0 b1 c2 c3 c4 c5 c6 c7)

    abbrev g1 : Spinning
    g1 = spinning l1 r1 (eight b0 c1 c2 c3 c4 c5 c6 c7)

    abbrev g0 : Spinning
    g0 = spinning l0 r0 (eight c0 c1 c2 c3 c4 c5 c6 c7)

    pub eight_backs :
        turned l7 r7 c7 ≡ back_of 7 (get_or kept 7 no_kept) l r b7 →
        turned l6 r6 c6 ≡ back_of 6 (get_or kept 6 no_kept) l7 r7 b6 →
        turned l5 r5 c5 ≡ back_of 5 (get_or kept 5 no_kept) l6 r6 b5 →
        turned l4 r4 c4 ≡ back_of 4 (get_or kept 4 no_kept) l5 r5 b4 →
        turned l3 r3 c3 ≡ back_of 3 (get_or kept 3 no_kept) l4 r4 b3 →
        turned l2 r2 c2 ≡ back_of 2 (get_or kept 2 no_kept) l3 r3 b2 →
        turned l1 r1 c1 ≡ back_of 1 (get_or kept 1 no_kept) l2 r2 b1 →
        turned l0 r0 c0 ≡ back_of 0 (get_or kept 0 no_kept) l1 r1 b0 →
        with_pending pending g0 ≡ undo_of (record { kept = kept; pending = pending }) g8
    unfolding backs undo_of
    eight_backs h7 h6 h5 h4 h3 h2 h1 h0 =
        let t7 : backs 8 kept g8 ≡ backs 7 kept g7 = ap (backs 7 kept) (back_on 7 (get_or kept 7 no_kept) g8 l7 r7 c7 h7) in
        let t6 : backs 7 kept g7 ≡ backs 6 kept g6 = ap (backs 6 kept) (back_on 6 (get_or kept 6 no_kept) g7 l6 r6 c6 h6) in
        let t5 : backs 6 kept g6 ≡ backs 5 kept g5 = ap (backs 5 kept) (back_on 5 (get_or kept 5 no_kept) g6 l5 r5 c5 h5) in
        let t4 : backs 5 kept g5 ≡ backs 4 kept g4 = ap (backs 4 kept) (back_on 4 (get_or kept 4 no_kept) g5 l4 r4 c4 h4) in
        let t3 : backs 4 kept g4 ≡ backs 3 kept g3 = ap (backs 3 kept) (back_on 3 (get_or kept 3 no_kept) g4 l3 r3 c3 h3) in
        let t2 : backs 3 kept g3 ≡ backs 2 kept g2 = ap (backs 2 kept) (back_on 2 (get_or kept 2 no_kept) g3 l2 r2 c2 h2) in
        let t1 : backs 2 kept g2 ≡ backs 1 kept g1 = ap (backs 1 kept) (back_on 1 (get_or kept 1 no_kept) g2 l1 r1 c1 h1) in
        let t0 : backs 1 kept g1 ≡ backs 0 kept g0 = ap (backs 0 kept) (back_on 0 (get_or kept 0 no_kept) g1 l0 r0 c0 h0) in
        ap (with_pending pending) (sym (t7 ∙ t6 ∙ t5 ∙ t4 ∙ t3 ∙ t2 ∙ t1 ∙ t0))
