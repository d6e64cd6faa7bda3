-- One printer keeps its rules over a tick, a command and a write of DATA0.
use Prim.Native.Nat.{ℕ, ◌+◌, ◌-◌, ◌≤◌, ◌<◌}
use mathlib.Core.Path.{◌≡◌, refl}
use mathlib.Core.Bool.{Bool, true, false, not, ◌&&◌, ◌||◌, cond}
use native.Mathlib.Omega.{arith}
use borrow.Author.Tests.{leb-true, leb-false, ltb-true, le-leb, eqb-true}
use lib.Dec.{eqb, leb, ltb}
use Rattle.word.specs.Number.{between}
use Rattle.word.proofs.Cond.{both, and_true}
use Rattle.printer.specs.declared.Printer.{Printer}
use Rattle.printer.specs.Tick.{is_busy, finishes, ended_with, fallen, finished_of, printer_ticked}
use Rattle.printer.specs.Command.{starts_work, is_ack, is_illegal, commanded_of, with_data}
use Rattle.printer.specs.Rules.{absent_keeps, work_keeps, present_keeps, printer_keeps}

-- what an installed printer's rules say
pub record Present (pending : Bool) (delay room : ℕ) (p : Printer) : Type 0 where
  pub status : between 1 4 p.status ≡ true
  pub work : work_keeps pending delay p ≡ true
  pub count : leb p.count room ≡ true

pub present : (pending : Bool) (delay room : ℕ) (p : Printer) → present_keeps pending delay room p ≡ true → Present pending delay room p
unfolding present_keeps
present pending delay room p e =
    let h = both (between 1 4 p.status && work_keeps pending delay p) (leb p.count room) e in
    let g = both (between 1 4 p.status) (work_keeps pending delay p) h.0 in
    record { status = g.0; work = g.1; count = h.1 }

-- an idle printer with no ticks left
idle_keeps : (pending : Bool) (delay room : ℕ) (p : Printer) → between 1 4 p.status ≡ true → is_busy p ≡ false → eqb p.left 0 ≡ true → leb p.count room ≡ true → present_keeps pending delay room p ≡ true
unfolding present_keeps
idle_keeps pending delay room p s i l c = and_true (and_true s (rw i l)) c

-- an uninstalled printer is not busy
pub absent_idle : (p : Printer) → absent_keeps p ≡ true → is_busy p ≡ true → ⊥
absent_idle p k busy =
    let zeros = eqb p.status 0 && eqb p.command 0 && eqb p.data0 0 && eqb p.left 0 in
    let h₁ = (both zeros (eqb p.count 0) k).0 in
    let h₂ = (both (eqb p.status 0 && eqb p.command 0 && eqb p.data0 0) (eqb p.left 0) h₁).0 in
    let h₃ = (both (eqb p.status 0 && eqb p.command 0) (eqb p.data0 0) h₂).0 in
    let none : p.status ≡ 0 = eqb-true p.status 0 (both (eqb p.status 0) (eqb p.command 0) h₃).0 in
    let three : p.status ≡ 3 = eqb-true p.status 3 busy in
    omega arith

-- ---- the tick of one printer

module _ (delay room : ℕ) (p : Printer) where
  -- it ends: STATUS 1 or 4, no ticks left, and a count within the eighth
  ended_keeps : (pending : Bool) → leb p.count room ≡ true → present_keeps pending delay room (finished_of room p) ≡ true
  unfolding present_keeps finished_of
  ended_keeps pending h = go (eqb p.command 2) (ltb p.count room) refl
    where
      go : (print some : Bool) → ltb p.count room ≡ some →
          present_keeps pending delay room (cond print (cond some (ended_with 1 (p.count + 1) p) (ended_with 4 p.count p)) (ended_with 1 p.count p)) ≡ true
      go true true e = let less : p.count < room = ltb-true p.count room e in le-leb (p.count + 1) room (omega arith)
      go true false e = h
      go false some e = h

  -- it goes on: one tick less
  fallen_keeps : (pending : Bool) → Present pending delay room p → is_busy p ≡ true → leb p.left 1 ≡ false → present_keeps pending delay room (fallen p) ≡ true
  unfolding present_keeps
  fallen_keeps pending k busy more =
      let work = rw busy at k.work in
      let h = both (between 1 delay p.left) (not pending && (eqb p.command 0 || eqb p.command 2)) work in
      let left = both (leb 1 p.left) (leb p.left delay) h.0 in
      let high : p.left ≤ delay = leb-true p.left delay left.1 in
      let low : 1 < p.left = leb-false p.left 1 more in
      and_true (and_true k.status (rw busy (and_true (and_true (le-leb 1 (p.left - 1) (omega arith)) (le-leb (p.left - 1) delay (omega arith))) h.1))) k.count

  -- pending goes on where it finishes
  pub ticked_keeps : (installed pending : Bool) → printer_keeps installed pending delay room p ≡ true →
      printer_keeps installed (cond (finishes p) true pending) delay room (printer_ticked room p) ≡ true
  unfolding printer_keeps printer_ticked
  ticked_keeps installed pending k = go installed k (is_busy p) refl (leb p.left 1) refl
    where
      go : (here : Bool) → cond here (present_keeps pending delay room p) (absent_keeps p) ≡ true →
          (busy : Bool) → is_busy p ≡ busy → (last : Bool) → leb p.left 1 ≡ last →
          cond here (present_keeps (cond (busy && last) true pending) delay room (cond busy (cond last (finished_of room p) (fallen p)) p))
          (absent_keeps (cond busy (cond last (finished_of room p) (fallen p)) p)) ≡ true
      go here k false b last l = k
      go true k true b true l = ended_keeps true (present pending delay room p k).count
      go true k true b false l = fallen_keeps pending (present pending delay room p k) b l
      go false k true b last l = absurd (absent_idle p k b)

-- ---- writes to one printer

-- an installed, idle printer has no ticks left
no_ticks : (pending : Bool) (delay room : ℕ) (p : Printer) → Present pending delay room p → is_busy p ≡ false → eqb p.left 0 ≡ true
no_ticks pending delay room p k idle = rw idle at k.work

module _ (pending : Bool) (delay room : ℕ) (p : Printer) (k : Present pending delay room p) (idle : is_busy p ≡ false) where
  pub commanded_keeps : (word : ℕ) → 1 ≤ delay → present_keeps (is_illegal word) delay room (commanded_of delay word p) ≡ true
  unfolding present_keeps commanded_of
  commanded_keeps word some = go (starts_work word) refl (is_ack word)
    where
      go : (starts : Bool) → starts_work word ≡ starts → (ack : Bool) →
          present_keeps (not starts && not ack) delay room
          (record { status = cond starts 3 (cond ack 1 2); command = word; data0 = p.data0; left = cond starts delay p.left; count = p.count })
          ≡ true
      go true e ack = and_true (and_true (and_true (le-leb 1 delay some) (le-leb delay delay (omega arith))) e) k.count
      go false e true = and_true (no_ticks pending delay room p k idle) k.count
      go false e false = and_true (no_ticks pending delay room p k idle) k.count

  pub with_data_keeps : (word : ℕ) → present_keeps pending delay room (with_data word p) ≡ true
  unfolding present_keeps
  with_data_keeps word = and_true (and_true k.status k.work) k.count
