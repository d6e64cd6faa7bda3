-- `soon`: what it says of the printers stays true while they wait, and what is worked out anew is true.
use Rattle.std.specs.Prelude.{◌≡◌, ℕ, zero, suc, ◌+◌, ◌-◌, ◌<◌, ◌≤◌, Bool, true, false, cond, ◌&&◌, eqb, leb, List, [], get_or}
use mathlib.Core.Path.{refl, sym, ap, subst, ◌∙◌}
use mathlib.Core.Bool.{false≢true}
use native.Mathlib.Omega.{arith}
use borrow.Author.Tests.{eqb-true, eqb-false, leb-true, leb-false, lt-leb}
use native.Mathlib.Decide.{dec_lt}
use Rattle.printer.specs.Tick.{Printing, printing, no_printer, is_busy, finishes, prints, room_of, fallen, printer_ticked, some_of, any_busy}
use Rattle.printer.specs.declared.Printer.{Printer}
use Rattle.printer.proofs.Passed.{passed}
use Rattle.held.specs.Board.{printer_in, printers_in, Waits1, Waits, least_of}
use Rattle.held.specs.Line.{GoesOn, WaitsIs}
use Rattle.held.proofs.Board.{length_printers}
use Rattle.held.proofs.Stored.{printer_at}

-- ---- 0: none works

idle : (p : Printer) → Waits1 0 p → is_busy p ≡ false
idle p w = go (is_busy p) refl
  where
    go : (b : Bool) → is_busy p ≡ b → b ≡ false
    go false e = refl
    go true e = absurd (omega (arith, (w e).0))

none_of : (words : List ℕ) → Waits 0 words → (n : ℕ) → n ≤ 8 → some_of is_busy n (printers_in words) ≡ false
unfolding some_of
none_of words w zero h = refl
none_of words w (suc n) h = rw (none_of words w n (omega arith), printer_at words n (omega arith)) (idle (printer_in words n) (w n (omega arith)))

pub quiet : (words : List ℕ) → Waits 0 words → any_busy (printers_in words) ≡ false
quiet words w = none_of words w 8 (omega arith)

-- ---- 1: nothing is said

pub any_waits : (words : List ℕ) → Waits 1 words
any_waits words n few busy = (omega arith, λ more. absurd (omega (arith, more)))

-- ---- more: none ends

pub goes_on : (soon : ℕ) (words : List ℕ) → 1 < soon → Waits soon words → (n : ℕ) → n < 8 → GoesOn words n
goes_on soon words many w n few busy = let left = (w n few busy).1 many in omega (arith, left, many)

no_end : (soon : ℕ) (p : Printer) → (soon ≡ 1 → ⊥) → Waits1 soon p → finishes p ≡ false
no_end soon p not-one w = go (is_busy p) refl
  where
    go : (b : Bool) → is_busy p ≡ b → (b && leb p.left 1) ≡ false
    go false e = refl
    go true e =
        let told = w e in
        let many : 1 < soon = omega (arith, not-one, told.0) in
        let left = told.1 many in
        lt-leb p.left 1 (omega (arith, many, left))

pub none_prints : (soon : ℕ) (words : List ℕ) → (soon ≡ 1 → ⊥) → Waits soon words → (room k : ℕ) → k < 8 → prints room (get_or (printers_in words) k no_printer) ≡ false
none_prints soon words not-one w room k few = rw (printer_at words k few, no_end soon (printer_in words k) not-one (w k few))

-- ---- one tick on

idle_stays : (room : ℕ) (p : Printer) → is_busy p ≡ false → printer_ticked room p ≡ p
unfolding printer_ticked
idle_stays room p e = rw e

busy_falls : (room : ℕ) (p : Printer) → is_busy p ≡ true → leb p.left 1 ≡ false → printer_ticked room p ≡ fallen p
unfolding printer_ticked
busy_falls room p e more = rw (e, more)

on_one : (soon room : ℕ) (p : Printer) → 1 < soon → Waits1 soon p → Waits1 (soon - 1) (printer_ticked room p)
on_one soon room p many w = go (is_busy p) refl
  where
    go : (b : Bool) → is_busy p ≡ b → Waits1 (soon - 1) (printer_ticked room p)
    go false e = rw (idle_stays room p e) (λ busy. absurd (false≢true (sym e ∙ busy)))
    go true e =
        let left = (w e).1 many in
        rw (busy_falls room p e (lt-leb p.left 1 (omega (arith, many, left)))) (λ busy. (omega (arith, many), λ more. omega (arith, left, many)))

pub waits_on : (soon : ℕ) (words words' : List ℕ) → 1 < soon → Waits soon words → WaitsIs words words' → Waits (soon - 1) words'
waits_on soon words words' many w done n few =
    let s = printing (printers_in words) 0 [] in
    let there : get_or (printers_in words') n no_printer ≡ printer_ticked (room_of []) (get_or (printers_in words) n no_printer) =
    ap (λ (x : Printing). get_or x.line.printers n no_printer) (done.ticked 0 []) ∙ passed s 8 n few (rw (length_printers words) few) in
    let is : printer_in words' n ≡ printer_ticked (room_of []) (printer_in words n) = sym (printer_at words' n few) ∙ there ∙ ap (printer_ticked (room_of [])) (printer_at words n few) in
    subst (λ (q : Printer). Waits1 (soon - 1) q) (sym is) (on_one soon (room_of []) (printer_in words n) many (w n few))

-- ---- worked out anew

least_new : (p : Printer) (soon : ℕ) → Waits1 (least_of p soon) p
unfolding least_of
least_new p soon busy = rw busy (go (leb p.left 1) refl (eqb soon 0) refl (leb p.left soon) refl)
  where
    go : (a : Bool) → leb p.left 1 ≡ a → (b : Bool) → eqb soon 0 ≡ b → (c : Bool) → leb p.left soon ≡ c →
        (1 ≤ cond a 1 (cond b p.left (cond c p.left soon))) × (1 < cond a 1 (cond b p.left (cond c p.left soon)) → cond a 1 (cond b p.left (cond c p.left soon)) ≤ p.left)
    go true e b f c g = (omega arith, λ more. absurd (omega (arith, more)))
    go false e true f c g = let much = leb-false p.left 1 e in (omega (arith, much), λ more. omega arith)
    go false e false f true g = let much = leb-false p.left 1 e in (omega (arith, much), λ more. omega arith)
    go false e false f false g =
        let much = leb-false p.left 1 e in
        let less = leb-false p.left soon g in
        let some = eqb-false soon 0 f in
        (omega (arith, some), λ more. omega (arith, less))

least_old : (p q : Printer) (soon : ℕ) → Waits1 soon q → Waits1 (least_of p soon) q
unfolding least_of
least_old p q soon w busy = go (is_busy p) (leb p.left 1) refl (eqb soon 0) refl (leb p.left soon) refl (w busy)
  where
    go : (z a : Bool) → leb p.left 1 ≡ a → (b : Bool) → eqb soon 0 ≡ b → (c : Bool) → leb p.left soon ≡ c → (1 ≤ soon) × (1 < soon → soon ≤ q.left) →
        (1 ≤ cond z (cond a 1 (cond b p.left (cond c p.left soon))) soon)
        × (1 < cond z (cond a 1 (cond b p.left (cond c p.left soon))) soon → cond z (cond a 1 (cond b p.left (cond c p.left soon))) soon ≤ q.left)
    go false a e b f c g t = t
    go true true e b f c g t = (omega arith, λ more. absurd (omega (arith, more)))
    go true false e true f c g t = let none = eqb-true soon 0 f in absurd (omega (arith, none, t.0))
    go true false e false f true g t =
        let much = leb-false p.left 1 e in
        let less = leb-true p.left soon g in
        (omega (arith, much), λ more. let far = t.1 (omega (arith, much, less)) in omega (arith, far, less))
    go true false e false f false g t = t

-- the printers passed
abbrev pub WaitsTo : ℕ → ℕ → List ℕ → Type 0
WaitsTo k soon words = (n : ℕ) → n < k → Waits1 soon (printer_in words n)

pub waits_to : (k soon : ℕ) (words : List ℕ) {next : ℕ} → next ≡ least_of (printer_in words k) soon → WaitsTo k soon words → WaitsTo (k + 1) next words
waits_to k soon words is w n few =
    rw is
    (elim (dec_lt n k) [
      | yes lower ↦ least_old (printer_in words k) (printer_in words n) soon (w n lower)
      | no not_lower ↦ let last : n ≡ k = omega arith in rw last (least_new (printer_in words k) soon)
    ])
