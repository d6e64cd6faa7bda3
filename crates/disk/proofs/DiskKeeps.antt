-- One disk keeps its rules over a tick, a command and a write of DATA0.
use Prim.Native.Nat.{ℕ, ◌-◌, ◌≤◌, ◌<◌}
use mathlib.Core.Path.{◌≡◌, refl}
use mathlib.Core.Bool.{Bool, true, false, not, ◌&&◌, ◌||◌, cond}
use native.Mathlib.Decide.{ℕ_discrete}
use native.Mathlib.Omega.{arith}
use borrow.Author.Tests.{leb-true, leb-false, le-leb, eqb-true, ne_eqb}
use lib.Dec.{eqb, leb}
use Rattle.word.proofs.Cond.{both, and_true}
use Rattle.word.specs.Number.{between}
use Rattle.disk.specs.declared.Disk.{Disk}
use Rattle.disk.specs.Fields.{code_of, cylnum, is_boom, is_transfer, has_cylinder, has_block, in_ram}
use Rattle.disk.specs.Tick.{is_busy, transfers, is_last, finishes, arrived, ended, fallen, disk_ticked}
use Rattle.disk.specs.Command.{sought_status, block_status, status_of, is_refused, started_with, commanded_of, with_data}
use Rattle.disk.specs.Rules.{absent_keeps, transfer_keeps, boom_keeps, work_keeps, place_keeps, present_keeps, disk_keeps}

or_right : (a : Bool) → (a || true) ≡ true
or_right true = refl
or_right false = refl

-- what an installed disk's rules say
pub record Present (pending : Bool) (delay room : ℕ) (d : Disk) : Type 0 where
  pub status : between 1 7 d.status ≡ true
  pub work : work_keeps pending delay room d ≡ true
  pub place : place_keeps d ≡ true

pub present : (pending : Bool) (delay room : ℕ) (d : Disk) → present_keeps pending delay room d ≡ true → Present pending delay room d
unfolding present_keeps
present pending delay room d e =
    let h = both (between 1 7 d.status && work_keeps pending delay room d) (place_keeps d) e in
    let g = both (between 1 7 d.status) (work_keeps pending delay room d) h.0 in
    record { status = g.0; work = g.1; place = h.1 }

-- an uninstalled disk is not busy
pub absent_idle : (d : Disk) → absent_keeps d ≡ true → is_busy d ≡ true → ⊥
absent_idle d k busy =
    let six = eqb d.status 0 && eqb d.command 0 && eqb d.data0 0 && eqb d.data1 0 && eqb d.ticks 0 && eqb d.words 0 in
    let five = eqb d.status 0 && eqb d.command 0 && eqb d.data0 0 && eqb d.data1 0 && eqb d.ticks 0 in
    let four = eqb d.status 0 && eqb d.command 0 && eqb d.data0 0 && eqb d.data1 0 in
    let three = eqb d.status 0 && eqb d.command 0 && eqb d.data0 0 in
    let h₁ = (both six (eqb d.cylinder 0) k).0 in
    let h₂ = (both five (eqb d.words 0) h₁).0 in
    let h₃ = (both four (eqb d.ticks 0) h₂).0 in
    let h₄ = (both three (eqb d.data1 0) h₃).0 in
    let h₅ = (both (eqb d.status 0 && eqb d.command 0) (eqb d.data0 0) h₄).0 in
    let none : d.status ≡ 0 = eqb-true d.status 0 (both (eqb d.status 0) (eqb d.command 0) h₅).0 in
    let busy_is : d.status ≡ 3 = eqb-true d.status 3 busy in
    omega arith

-- a disk that is not busy, installed or not, has nothing left
pub nothing_left : (installed pending : Bool) (delay room : ℕ) (d : Disk) → disk_keeps installed pending delay room d ≡ true → is_busy d ≡ false → (eqb d.ticks 0 && eqb d.words 0) ≡ true
unfolding disk_keeps
nothing_left true pending delay room d k idle = rw idle at (present pending delay room d k).work
nothing_left false pending delay room d k idle =
    let five = eqb d.status 0 && eqb d.command 0 && eqb d.data0 0 && eqb d.data1 0 && eqb d.ticks 0 in
    let h = (both (five && eqb d.words 0) (eqb d.cylinder 0) k).0 in
    let g = both five (eqb d.words 0) h in
    let ticks = (both (eqb d.status 0 && eqb d.command 0 && eqb d.data0 0 && eqb d.data1 0) (eqb d.ticks 0) g.0).1 in
    and_true ticks g.1

-- ---- what a busy disk's rules say

module _ (pending : Bool) (delay room : ℕ) (d : Disk) (k : Present pending delay room d) (busy : is_busy d ≡ true) where
  at_work : (not pending && cond (transfers d) (transfer_keeps room d) (boom_keeps delay d)) ≡ true
  at_work = rw busy at k.work

  quiet : not pending ≡ true
  quiet = (both (not pending) (cond (transfers d) (transfer_keeps room d) (boom_keeps delay d)) at_work).0

  its_work : cond (transfers d) (transfer_keeps room d) (boom_keeps delay d) ≡ true
  its_work = (both (not pending) (cond (transfers d) (transfer_keeps room d) (boom_keeps delay d)) at_work).1

  pub transfer_keeps_lem : transfers d ≡ true → transfer_keeps room d ≡ true
  transfer_keeps_lem t = rw t at its_work

  pub boom_keeps_lem : transfers d ≡ false → boom_keeps delay d ≡ true
  boom_keeps_lem t = rw t at its_work

  -- where the boom arrives is a cylinder of the disk, or 0
  arrives : (has_cylinder d.data1 (arrived d) || eqb (arrived d) 0) ≡ true
  arrives =
      elim (ℕ_discrete (code_of d.command) 0) [
        | yes zero ↦ rw zero (or_right (has_cylinder d.data1 0))
        | no not_zero ↦
            elim (ℕ_discrete (code_of d.command) 2) [
              | yes two ↦ rw two (sought two)
              | no not_two ↦ rw (ne_eqb (code_of d.command) 0 not_zero, ne_eqb (code_of d.command) 2 not_two) k.place
            ]
      ]
    where
      sought : code_of d.command ≡ 2 → (has_cylinder d.data1 (cylnum d.command) || eqb (cylnum d.command) 0) ≡ true
      sought two =
          let boom : boom_keeps delay d ≡ true = boom_keeps_lem (rw two) in
          let legal =
          (both (between 1 delay d.ticks && eqb d.words 0)
          (is_boom (code_of d.command) && (eqb (code_of d.command) 0 || has_cylinder d.data1 (cylnum d.command))) boom).1 in
          let here : has_cylinder d.data1 (cylnum d.command) ≡ true =
          rw two at (both (is_boom (code_of d.command)) (eqb (code_of d.command) 0 || has_cylinder d.data1 (cylnum d.command)) legal).1 in
          rw here

  -- it ends: STATUS 1, nothing left, and a cylinder of the disk
  ended_keeps : (on : Bool) → present_keeps on delay room (ended d) ≡ true
  unfolding present_keeps
  ended_keeps on = arrives

  -- it goes on: one word less
  words_less : transfers d ≡ true → leb d.words 1 ≡ false →
      transfer_keeps room (record { status = d.status; command = d.command; data0 = d.data0; data1 = d.data1; ticks = d.ticks; words = d.words - 1; cylinder = d.cylinder }) ≡ true
  words_less t more =
      let h = both (between 1 1024 d.words && eqb d.ticks 0) (has_block d.data1 d.cylinder d.command && in_ram room d.data0) (transfer_keeps_lem t) in
      let g = both (between 1 1024 d.words) (eqb d.ticks 0) h.0 in
      let high : d.words ≤ 1024 = leb-true d.words 1024 (both (leb 1 d.words) (leb d.words 1024) g.0).1 in
      let low : 1 < d.words = leb-false d.words 1 more in
      and_true (and_true (and_true (le-leb 1 (d.words - 1) (omega arith)) (le-leb (d.words - 1) 1024 (omega arith))) g.1) h.1

  -- or one tick less
  ticks_less : transfers d ≡ false → leb d.ticks 1 ≡ false →
      boom_keeps delay (record { status = d.status; command = d.command; data0 = d.data0; data1 = d.data1; ticks = d.ticks - 1; words = d.words; cylinder = d.cylinder }) ≡ true
  ticks_less t more =
      let h =
      both (between 1 delay d.ticks && eqb d.words 0)
      (is_boom (code_of d.command) && (eqb (code_of d.command) 0 || has_cylinder d.data1 (cylnum d.command))) (boom_keeps_lem t) in
      let g = both (between 1 delay d.ticks) (eqb d.words 0) h.0 in
      let high : d.ticks ≤ delay = leb-true d.ticks delay (both (leb 1 d.ticks) (leb d.ticks delay) g.0).1 in
      let low : 1 < d.ticks = leb-false d.ticks 1 more in
      and_true (and_true (and_true (le-leb 1 (d.ticks - 1) (omega arith)) (le-leb (d.ticks - 1) delay (omega arith))) g.1) h.1

  fallen_keeps : is_last d ≡ false → present_keeps pending delay room (fallen d) ≡ true
  unfolding present_keeps
  fallen_keeps more = go (transfers d) refl
    where
      go : (t : Bool) → transfers d ≡ t →
          (between 1 7 d.status && work_keeps pending delay room (fallen d) && place_keeps d) ≡ true
      go true t = and_true (and_true k.status (rw (busy, t) (and_true quiet (words_less t (rw t at more))))) k.place
      go false t = and_true (and_true k.status (rw (busy, t) (and_true quiet (ticks_less t (rw t at more))))) k.place

-- ---- the tick of one disk: pending goes on where it finishes

pub ticked_keeps : (delay room : ℕ) (d : Disk) (installed pending : Bool) → disk_keeps installed pending delay room d ≡ true →
    disk_keeps installed (cond (finishes d) true pending) delay room (disk_ticked d) ≡ true
unfolding disk_keeps disk_ticked
ticked_keeps delay room d installed pending k = go installed k (is_busy d) refl (is_last d) refl
  where
    go : (here : Bool) → cond here (present_keeps pending delay room d) (absent_keeps d) ≡ true →
        (busy : Bool) → is_busy d ≡ busy → (last : Bool) → is_last d ≡ last →
        cond here (present_keeps (cond (busy && last) true pending) delay room (cond busy (cond last (ended d) (fallen d)) d))
        (absent_keeps (cond busy (cond last (ended d) (fallen d)) d)) ≡ true
    go here k false b last l = k
    go true k true b true l = ended_keeps pending delay room d (present pending delay room d k) b true
    go true k true b false l = fallen_keeps pending delay room d (present pending delay room d k) b l
    go false k true b last l = absurd (absent_idle d k b)

-- ---- STATUS after a command, code by code

module _ (room command : ℕ) (d : Disk) where
  pub at_zero : code_of command ≡ 0 → status_of room command d ≡ 3
  unfolding status_of
  at_zero e = rw e

  pub at_one : code_of command ≡ 1 → status_of room command d ≡ 1
  unfolding status_of
  at_one e = rw e

  pub at_two : code_of command ≡ 2 → status_of room command d ≡ sought_status d.data1 command
  unfolding status_of
  at_two e = rw e

  pub at_three : code_of command ≡ 3 → status_of room command d ≡ block_status 5 room command d
  unfolding status_of
  at_three e = rw e

  pub at_four : code_of command ≡ 4 → status_of room command d ≡ block_status 6 room command d
  unfolding status_of
  at_four e = rw e

  pub at_other : (code_of command ≡ 0 → ⊥) → (code_of command ≡ 1 → ⊥) → (code_of command ≡ 2 → ⊥) → (code_of command ≡ 3 → ⊥) → (code_of command ≡ 4 → ⊥) →
      status_of room command d ≡ 2
  unfolding status_of
  at_other n0 n1 n2 n3 n4 =
      rw (
        ne_eqb (code_of command) 0 n0,
        ne_eqb (code_of command) 1 n1,
        ne_eqb (code_of command) 2 n2,
        ne_eqb (code_of command) 3 n3,
        ne_eqb (code_of command) 4 n4,
      )

-- ---- writes to one disk

module _ (pending : Bool) (delay room : ℕ) (d : Disk) (k : Present pending delay room d) (idle : is_busy d ≡ false) where
  -- an installed, idle disk has nothing left
  none_left : (eqb d.ticks 0 && eqb d.words 0) ≡ true
  none_left = rw idle at k.work

  no_ticks : eqb d.ticks 0 ≡ true
  no_ticks = (both (eqb d.ticks 0) (eqb d.words 0) none_left).0

  no_words : eqb d.words 0 ≡ true
  no_words = (both (eqb d.ticks 0) (eqb d.words 0) none_left).1

  -- a command that is at its end at once
  at_once : (on : Bool) (status command : ℕ) → between 1 7 status ≡ true → eqb status 3 ≡ false →
      present_keeps on delay room (started_with delay status command d) ≡ true
  unfolding present_keeps
  at_once on status command s i = and_true (and_true s (rw i none_left)) k.place

  -- RESET and a legal SEEKCYL
  boom_starts : (command : ℕ) → 1 ≤ delay → is_transfer (code_of command) ≡ false → is_boom (code_of command) ≡ true →
      (eqb (code_of command) 0 || has_cylinder d.data1 (cylnum command)) ≡ true → present_keeps false delay room (started_with delay 3 command d) ≡ true
  unfolding present_keeps
  boom_starts command some t b legal =
      rw (t, b) (and_true (and_true (and_true (and_true (le-leb 1 delay some) (le-leb delay delay (omega arith))) no_words) legal) k.place)

  -- a legal READBLK or WRITEBLK
  block_starts : (command : ℕ) → is_transfer (code_of command) ≡ true → is_boom (code_of command) ≡ false → has_block d.data1 d.cylinder command ≡ true →
      in_ram room d.data0 ≡ true → present_keeps false delay room (started_with delay 3 command d) ≡ true
  unfolding present_keeps
  block_starts command t b legal here = rw (t, b) (and_true (and_true no_ticks (and_true legal here)) k.place)

  module _ (command : ℕ) (some : 1 ≤ delay) where
    -- by the STATUS that the command sets
    abbrev Started : ℕ → Type 0
    Started status = present_keeps (is_refused status) delay room (started_with delay status command d) ≡ true

    sought : code_of command ≡ 2 → Started (sought_status d.data1 command)
    sought e = go (has_cylinder d.data1 (cylnum command)) refl
      where
        go : (legal : Bool) → has_cylinder d.data1 (cylnum command) ≡ legal → Started (cond legal 3 4)
        go true l = boom_starts command some (rw e) (rw e) (rw (l, e))
        go false l = at_once true 4 command refl refl

    block : (wrong : ℕ) → between 1 7 wrong ≡ true → eqb wrong 3 ≡ false → is_transfer (code_of command) ≡ true → is_boom (code_of command) ≡ false →
        Started (block_status wrong room command d)
    block wrong w i t b = go (has_block d.data1 d.cylinder command) refl (in_ram room d.data0) refl
      where
        go : (legal : Bool) → has_block d.data1 d.cylinder command ≡ legal → (here : Bool) → in_ram room d.data0 ≡ here →
            Started (cond legal (cond here 3 7) wrong)
        go true l true h = block_starts command t b l h
        go true l false h = at_once true 7 command refl refl
        go false l here h = at_once (is_refused wrong) wrong command w i

    -- the STATUS that the rules of STATUS say
    told : (status : ℕ) → status_of room command d ≡ status → Started status → Started (status_of room command d)
    told status e h = rw e h

    by_code : Started (status_of room command d)
    by_code =
        elim (ℕ_discrete (code_of command) 0) [
          | yes e ↦ told 3 (at_zero room command d e) (boom_starts command some (rw e) (rw e) (rw e))
          | no n0 ↦
              elim (ℕ_discrete (code_of command) 1) [
                | yes e ↦ told 1 (at_one room command d e) (at_once false 1 command refl refl)
                | no n1 ↦
                    elim (ℕ_discrete (code_of command) 2) [
                      | yes e ↦ told _ (at_two room command d e) (sought e)
                      | no n2 ↦
                          elim (ℕ_discrete (code_of command) 3) [
                            | yes e ↦ told _ (at_three room command d e) (block 5 refl refl (rw e) (rw e))
                            | no n3 ↦
                                elim (ℕ_discrete (code_of command) 4) [
                                  | yes e ↦ told _ (at_four room command d e) (block 6 refl refl (rw e) (rw e))
                                  | no n4 ↦ told 2 (at_other room command d n0 n1 n2 n3 n4) (at_once true 2 command refl refl)
                                ]
                          ]
                    ]
              ]
        ]

    pub commanded_keeps : present_keeps (is_refused (status_of room command d)) delay room (commanded_of delay room command d) ≡ true
    unfolding commanded_of
    commanded_keeps = by_code

  pub with_data_keeps : (word : ℕ) → present_keeps pending delay room (with_data word d) ≡ true
  unfolding present_keeps
  with_data_keeps word = and_true (and_true k.status (rw idle none_left)) k.place
