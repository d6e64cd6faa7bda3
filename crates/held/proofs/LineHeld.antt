-- The moves of the printers' line on the words that a run holds, over plain values: a printer that was put back is the one that changed.
use Rattle.std.specs.Prelude.{◌≡◌, ℕ, ◌+◌, ◌-◌, ◌*◌, ◌<◌, Bool, true, false, cond, ◌&&◌, eqb, ltb, leb, List, length, get_or, set, Option, Some, None, is_some, unwrap_or}
use mathlib.Core.Path.{refl, sym, ap, ◌∙◌}
use native.Mathlib.Omega.{arith}
use borrow.Author.Tests.{eqb-true, eqb-false, eq-eqb, ne_eqb, lt-leb}
use lib.ListN.{length-set}
use lib.Seq.{sets, set-get_or, get_or-set_other}
use Rattle.word.specs.Map.{with_bit}
use Rattle.printer.specs.Tick.{printing, no_printer, room_of, place_of, is_busy, finishes, prints, fallen, printer_ticked, paper_ticked, tick_one, OneIs}
use Rattle.printer.specs.Command.{is_illegal, commanded_of, with_data, command_of, data_of}
use Rattle.printer.specs.declared.Printer.{Printer}
use Rattle.printer.specs.declared.tick.One.{One}
use Rattle.state.specs.Layout.{printer_words}
use Rattle.held.specs.Board.{printer_in, printers_in}
use Rattle.held.specs.Line.{OneHeldIs, GoesOn, WaitIs, takes_in, CommandIs, DataIs, kept_at}
use Rattle.held.proofs.Board.{store_five}
use Rattle.held.proofs.Stored.{stored_printer, stored_forty, printer_at}

module _ (words : List ℕ) (n : ℕ) (few : n < 8) (forty : length words ≡ 40) where
  same : set (printers_in words) n (printer_in words n) ≡ printers_in words
  same = ap (set (printers_in words) n) (sym (printer_at words n few)) ∙ set-get_or (printers_in words) n no_printer

  -- ---- the tick

  pub still : (paper : List ℕ) {p : Printer} → p ≡ printer_in words n → (p.status ≡ 3 → ⊥) → OneHeldIs n words paper false words paper
  unfolding printer_ticked paper_ticked
  still paper {p} is idle =
      let off : is_busy (printer_in words n) ≡ false = ap is_busy (sym is) ∙ ne_eqb p.status 3 idle in
      record { printers_are = rw off (sym same); finished_is = rw off; paper_is = rw off; forty = forty }

  -- a printer put back with only its ticks left anew
  left_alone : (left : ℕ) → let p = printer_in words n in
      sets words (5 * n) (printer_words (record { status = p.status; command = p.command; data0 = p.data0; left = left; count = p.count })) ≡ set words (5 * n + 3) left
  left_alone left =
      let p = printer_in words n in
      let far : 5 * n + 4 ≡ 5 * n + 3 → ⊥ = λ e. absurd (omega (arith, e)) in
      sym (store_five words (5 * n) p.status p.command p.data0 left p.count)
      ∙ ap (λ (l : List ℕ). set (set (set (set l (5 * n + 1) p.command) (5 * n + 2) p.data0) (5 * n + 3) left) (5 * n + 4) p.count) (set-get_or words (5 * n) 0)
      ∙ ap (λ (l : List ℕ). set (set (set l (5 * n + 2) p.data0) (5 * n + 3) left) (5 * n + 4) p.count) (set-get_or words (5 * n + 1) 0)
      ∙ ap (λ (l : List ℕ). set (set l (5 * n + 3) left) (5 * n + 4) p.count) (set-get_or words (5 * n + 2) 0)
      ∙ ap (set (set words (5 * n + 3) left) (5 * n + 4)) (sym (get_or-set_other words (5 * n + 3) (5 * n + 4) left 0 far))
      ∙ set-get_or (set words (5 * n + 3) left) (5 * n + 4) 0

  pub falls : (paper : List ℕ) {p : Printer} {words' : List ℕ} → p ≡ printer_in words n → p.status ≡ 3 → 1 < p.left →
      words' ≡ set words (5 * n + 3) (p.left - 1) → OneHeldIs n words paper false words' paper
  unfolding printer_ticked paper_ticked
  falls paper {p} {words'} is works more put =
      let q = printer_in words n in
      let busy : is_busy q ≡ true = ap is_busy (sym is) ∙ eq-eqb p.status 3 works in
      let goes : leb q.left 1 ≡ false = ap (λ (x : Printer). leb x.left 1) (sym is) ∙ lt-leb p.left 1 more in
      let written : words' ≡ sets words (5 * n) (printer_words (fallen q)) = put ∙ ap (λ (x : Printer). set words (5 * n + 3) (x.left - 1)) is ∙ sym (left_alone (q.left - 1)) in
      record {
        printers_are = ap printers_in written ∙ stored_printer words n (fallen q) forty few ∙ ap (set (printers_in words) n) (sym (rw (busy, goes)));
        finished_is = rw (busy, goes);
        paper_is = rw (busy, goes);
        forty = ap (λ (l : List ℕ). length l) put ∙ length-set words (5 * n + 3) (p.left - 1) ∙ forty;
      }

  -- a tick that does not end it, whether it works or not
  pub waits : {words' : List ℕ} → GoesOn words n → words' ≡ set words (5 * n + 3) (cond (is_busy (printer_in words n)) ((printer_in words n).left - 1) (printer_in words n).left) →
      WaitIs n words words'
  waits {words'} more put paper = go (is_busy (printer_in words n)) refl more put
    where
      go : (b : Bool) → is_busy (printer_in words n) ≡ b → (b ≡ true → 1 < (printer_in words n).left) →
          words' ≡ set words (5 * n + 3) (cond b ((printer_in words n).left - 1) (printer_in words n).left) → OneHeldIs n words paper false words' paper
      go true e m p = falls paper refl (eqb-true (printer_in words n).status 3 e) (m refl) p
      go false e m p = rw (p ∙ set-get_or words (5 * n + 3) 0) (still paper refl (eqb-false (printer_in words n).status 3 e))

  pub worked : (paper : List ℕ) {p : Printer} {one : One} {words' paper' : List ℕ} → p ≡ printer_in words n → OneIs n p paper one paper' →
      words' ≡ sets words (5 * n) (printer_words one.printer) → OneHeldIs n words paper one.finished words' paper'
  worked paper {p} {one} is ticked put =
      record {
        printers_are = ap printers_in put ∙ stored_printer words n one.printer forty few ∙ ap (set (printers_in words) n) (ticked.printer_is ∙ ap (printer_ticked (room_of paper)) is);
        finished_is = ticked.finished_is ∙ ap finishes is;
        paper_is = ticked.paper_is ∙ ap (λ (q : Printer). paper_ticked n q paper) is;
        forty = ap (λ (l : List ℕ). length l) put ∙ stored_forty words n one.printer forty few;
      }

  pub tick_held : {paper words' paper' : List ℕ} {finished : Bool} (map : ℕ) {map' : ℕ} → OneHeldIs n words paper finished words' paper' →
      map' ≡ cond finished (with_bit n true map) map →
      printing (printers_in words') map' paper' ≡ tick_one n (printing (printers_in words) map paper)
  unfolding tick_one
  tick_held map one turned = rw (turned, one.printers_are, one.finished_is, one.paper_is, printer_at words n few)

  -- ---- writes

  module _ (installed : ℕ) where
    takes : {p : Printer} {b : Bool} → p ≡ printer_in words n → takes_in installed n p ≡ b → takes_in installed n (get_or (printers_in words) n no_printer) ≡ b
    takes is e = ap (takes_in installed n) (printer_at words n few ∙ sym is) ∙ e

    pub not_commanded : (delay word pending : ℕ) {p : Printer} → p ≡ printer_in words n → takes_in installed n p ≡ false →
        CommandIs installed delay n word words pending pending words
    unfolding command_of
    not_commanded delay word pending is off = record { line_is = rw (takes is off); forty = forty }

    pub commanded_held : (delay word pending : ℕ) {p next : Printer} {map : ℕ} {words' : List ℕ} → p ≡ printer_in words n → takes_in installed n p ≡ true →
        next ≡ commanded_of delay word p → words' ≡ sets words (5 * n) (printer_words next) → map ≡ with_bit n (is_illegal word) pending →
        CommandIs installed delay n word words pending map words'
    unfolding command_of
    commanded_held delay word pending {next = next} is on made put turned =
        record {
          line_is =
              rw (takes is on, turned, put, stored_printer words n next forty few, made, is, printer_at words n few);
          forty = ap (λ (l : List ℕ). length l) put ∙ stored_forty words n next forty few;
        }

    pub not_written : (word : ℕ) {p : Printer} → p ≡ printer_in words n → takes_in installed n p ≡ false → DataIs installed n word words words
    unfolding data_of
    not_written word is off = record { line_is = λ pending. rw (takes is off); forty = forty }

    pub written_held : (word : ℕ) {p : Printer} {words' : List ℕ} → p ≡ printer_in words n → takes_in installed n p ≡ true →
        words' ≡ sets words (5 * n) (printer_words (with_data word p)) → DataIs installed n word words words'
    unfolding data_of
    written_held word {p} is on put =
        record {
          line_is = λ pending. rw (takes is on, put, stored_printer words n (with_data word p) forty few, is, printer_at words n few);
          forty = ap (λ (l : List ℕ). length l) put ∙ stored_forty words n (with_data word p) forty few;
        }

-- ---- what a record keeps of paper

not_ended : (b c : Bool) → ((b && false) && c) ≡ false
not_ended true c = refl
not_ended false c = refl

-- a printer with more than one tick left prints nothing
pub goes_on : (words : List ℕ) (n : ℕ) (paper : List ℕ) → 1 < get_or words (5 * n + 3) 0 → None ≡ kept_at n words paper
goes_on words n paper more =
    let p = printer_in words n in
    let last : Bool = eqb p.command 2 && ltb p.count (room_of paper) in
    let off : prints (room_of paper) p ≡ false = ap (λ (b : Bool). (is_busy p && b) && last) (lt-leb p.left 1 more) ∙ not_ended (is_busy p) last in
    sym (ap (λ (b : Bool). cond b (Some (get_or paper (place_of (room_of paper) n p.count) 0)) None) off)

-- the byte of a printer that is looked at
abbrev pub byte_of : ℕ → List ℕ → Printer → Option ℕ
byte_of n paper p = cond (prints (room_of paper) p) (Some (get_or paper (place_of (room_of paper) n p.count) 0)) None

pub looked_at : (words : List ℕ) (n : ℕ) (paper : List ℕ) {p : Printer} {byte : Option ℕ} → p ≡ printer_in words n → byte ≡ byte_of n paper p →
    byte ≡ kept_at n words paper
looked_at words n paper is e = e ∙ ap (byte_of n paper) is

-- whether there is a byte tells whether the printer prints, and 0 stands where there is none
pub there_told : (on : Bool) (byte : ℕ) → is_some (cond on (Some byte) None) ≡ on
there_told true byte = refl
there_told false byte = refl

pub byte_told : (on : Bool) (byte : ℕ) → unwrap_or (cond on (Some byte) None) 0 ≡ cond on byte 0
byte_told true byte = refl
byte_told false byte = refl
