-- What the two loops keep from turn to turn. Each turn looks at record j, lent as the part of the journal at the slot x that it has turned back to.
use Prim.Native.Nat.{ℕ, ◌+◌, ◌-◌, ◌*◌, ◌≤◌, ◌<◌}
use native.Mathlib.Omega.{arith}
use mathlib.Core.Path.{◌≡◌, refl, sym, ap, ap₂, subst, ◌∙◌}
use mathlib.Core.Bool.{Bool, true, false}
use mathlib.Core.List.{List}
use lib.ListN.{length, take, drop}
use Rattle.std.specs.Prelude.{Some, None}
use Rattle.std.specs.Bool.{then_some}
use Rattle.std.proofs.lemmas.Option.{none-some, same_Some}
use Rattle.ring.specs.Slots.{slot_back}
use Rattle.ring.specs.Back.{record_at, undone, undone_side, undone_core, all_fit_core}
use Rattle.ring.proofs.Back.{record_part, undone_none, undone_more, side_none, side_more, core_none, core_more, fits_at, fit_none, fit_more, fit_bad, fit_each, core_undone}
use Rattle.record.specs.Layout.{record_of}
use Rattle.journal.specs.Journal.{slots_of}
use Rattle.state.specs.declared.machine.Machine.{Machine}
use Rattle.clock.specs.Tick.{time_of}
use Rattle.marks.specs.Steps.{given_back_of}
use Rattle.step.specs.World.{World}
use Rattle.undo.specs.Undo.{View, view_of, undo_of, undo_view}
use Rattle.undo.specs.Fit.{fit_of, Undoable, checked_of}
use Rattle.undo.proofs.Laws.{cored, fit_undoable}
use Rattle.back.specs.Back.{both, no_roms, view_in}
use Rattle.back.proofs.Cored.{core_laws}

-- the part that is lent
abbrev pub part : List ℕ → ℕ → List ℕ
part journal x = take (512 * x + 512 - 512 * x) (drop (512 * x) journal)

some_says : (b : Bool) (x y : Machine) → then_some b x ≡ Some y → (b ≡ true) × (x ≡ y)
some_says true x y e = (refl, same_Some x y e)
some_says false x y e = absurd (none-some y e)

none_says : (b : Bool) (x : Machine) → then_some b x ≡ None → b ≡ false
none_says true x e = absurd (none-some x (sym e))
none_says false x e = refl

-- ---- the pass that checks: v is what undoing the first j records makes of v₀

pub record Checked (journal : List ℕ) (next k : ℕ) (v₀ v : View) (j : ℕ) : Type 0 where
  pub within : j ≤ k
  pub good : all_fit_core (both no_roms) (slots_of journal) journal next j v₀ ≡ true
  pub view : undone_core (both no_roms) (slots_of journal) journal next j v₀ ≡ v

pub checked_start : (journal : List ℕ) (next k : ℕ) (v : View) → Checked journal next k v v 0
checked_start journal next k v =
    record {
      within = omega arith;
      good = fit_none (both no_roms) (slots_of journal) journal next v;
      view = core_none (both no_roms) (slots_of journal) journal next v;
    }

pub checked_end : {journal : List ℕ} {next k : ℕ} {v₀ v : View} {j : ℕ} → Checked journal next k v₀ v j → k ≤ j →
    all_fit_core (both no_roms) (slots_of journal) journal next k v₀ ≡ true
checked_end {journal} {next} {k} {v₀} {v} {j} h past =
    let all : j ≡ k = omega (arith, h.within) in
    subst (λ (i : ℕ). all_fit_core (both no_roms) (slots_of journal) journal next i v₀ ≡ true) all h.good

module _ {journal : List ℕ} {next k : ℕ} {v₀ : View} (m : Machine) {ram paper j : ℕ} (h : Checked journal next k v₀ (view_in m ram paper) j) (left : j < k) (x : ℕ)
    (at : x ≡ slot_back (slots_of journal) next (j + 1)) where
  same : fit_of (part journal x) (view_in m ram paper) ≡ fits_at (both no_roms) (slots_of journal) journal next v₀ j
  same = ap₂ fit_of (record_part (both no_roms) (slots_of journal) journal next j x at) (sym h.view)

  pub checked_bad : None ≡ checked_of (part journal x) m ram paper → all_fit_core (both no_roms) (slots_of journal) journal next k v₀ ≡ false
  checked_bad is = fit_bad (both no_roms) (slots_of journal) journal next v₀ j k left (sym same ∙ none_says _ _ (sym is))

  pub checked_more : (before : Machine) → Some before ≡ checked_of (part journal x) m ram paper → Checked journal next k v₀ (view_in before ram paper) (j + 1)
  checked_more before is =
      let M = both no_roms in
      let n = slots_of journal in
      let said = some_says _ _ _ (sym is) in
      record {
        within = omega arith;
        good = fit_more M n journal next v₀ j h.good (sym same ∙ said.0);
        view =
            core_more M n journal next v₀ j
            ∙ ap₂ (λ (slot : List ℕ) (v : View). undo_view (record_of slot) v) (sym (record_part M n journal next j x at)) h.view
            ∙ ap (λ (b : Machine). view_in b ram paper) said.1;
      }

-- ---- the pass that undoes: w is what undoing the first j records makes of w₀, and x what it makes of the index x₀

pub record Undoing (journal : List ℕ) (next hand k : ℕ) (w₀ : World) (x₀ : List ℕ) (w : World) (x : List ℕ) (j : ℕ) : Type 0 where
  pub within : j ≤ k
  pub index : length x ≡ length x₀
  pub side : undone_side (both no_roms) (slots_of journal) journal next j hand w₀ x₀ ≡ x
  pub ram : length w.ram ≡ length w₀.ram
  pub paper : length w.paper ≡ length w₀.paper
  pub state : undone (both no_roms) (slots_of journal) journal next j w₀ ≡ w

pub undoing_start : (journal : List ℕ) (next hand k : ℕ) (w : World) (x : List ℕ) → Undoing journal next hand k w x w x 0
undoing_start journal next hand k w x =
    record {
      within = omega arith;
      index = refl;
      side = side_none (both no_roms) (slots_of journal) journal next w hand x;
      ram = refl;
      paper = refl;
      state = undone_none (both no_roms) (slots_of journal) journal next w;
    }

module _ {journal : List ℕ} {next hand k : ℕ} {w₀ w : World} {x₀ x : List ℕ} {j : ℕ} (h : Undoing journal next hand k w₀ x₀ w x j) where
  pub undoing_end : k ≤ j → w ≡ undone (both no_roms) (slots_of journal) journal next k w₀
  undoing_end past =
      let all : j ≡ k = omega (arith, h.within) in
      sym (subst (λ (i : ℕ). undone (both no_roms) (slots_of journal) journal next i w₀ ≡ w) all h.state)

  pub side_end : k ≤ j → x ≡ undone_side (both no_roms) (slots_of journal) journal next k hand w₀ x₀
  side_end past =
      let all : j ≡ k = omega (arith, h.within) in
      sym (subst (λ (i : ℕ). undone_side (both no_roms) (slots_of journal) journal next i hand w₀ x₀ ≡ x) all h.side)

  module _ (left : j < k) (place : ℕ) (at : place ≡ slot_back (slots_of journal) next (j + 1)) where
    -- record j is well formed where the loop stands, since all are
    pub undoing_tells : all_fit_core (both no_roms) (slots_of journal) journal next k (view_of w₀) ≡ true → Undoable (record_of (part journal place)) (length w.ram)
    undoing_tells all =
        let M = both no_roms in
        let n = slots_of journal in
        fit_undoable (part journal place) (view_of w)
        (ap₂ fit_of (record_part M n journal next j place at) (ap view_of (sym h.state) ∙ core_undone M n journal next (core_laws no_roms) w₀ j)
        ∙ fit_each M n journal next (view_of w₀) j k left all)

    pub undoing_more : (t : World) (y : List ℕ) → t ≡ undo_of (record_of (part journal place)) w →
        y ≡ given_back_of (time_of w.board.clock) (hand - j) (record_of (part journal place)).saved x → length y ≡ length x → Undoing journal next hand k w₀ x₀ t y (j + 1)
    undoing_more t y e given long =
        let M = both no_roms in
        let n = slots_of journal in
        let r = record_of (part journal place) in
        let view : view_of t ≡ undo_view r (view_of w) = ap view_of e ∙ cored r w in
        record {
          within = omega arith;
          index = long ∙ h.index;
          side =
              side_more M n journal next w₀ hand x₀ j
              ∙ ap₂ (λ (s : World) (z : List ℕ). M.backward (hand - j) (record_at M n journal next j) s z) h.state h.side
              ∙ ap (λ (slot : List ℕ). M.backward (hand - j) slot w x) (sym (record_part M n journal next j place at))
              ∙ sym given;
          ram = ap (λ (v : View). v.ram) view ∙ h.ram;
          paper = ap (λ (v : View). v.paper) view ∙ h.paper;
          state =
              undone_more M n journal next w₀ j
              ∙ ap₂ (λ (slot : List ℕ) (s : World). undo_of (record_of slot) s) (sym (record_part M n journal next j place at)) h.state
              ∙ sym e;
        }
