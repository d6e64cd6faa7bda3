-- What the tests of take-back say, and what one that passed them leaves: over plain values, so that the walk of the code hands its facts over by name.
use Prim.Native.Nat.{ℕ, ◌*◌, ◌/◌, ◌%◌, ◌^◌, ◌<◌}
use mathlib.Core.Path.{◌≡◌, refl, sym, ap, ◌∙◌}
use mathlib.Core.Bool.{Bool, true, false, cond, true≢false}
use mathlib.Core.List.{List}
use native.Mathlib.Omega.{arith}
use borrow.Author.Tests.{eq-eqb, ne_eqb, eqb-true, leb-true}
use lib.Dec.{eqb, leb}
use lib.ListN.{length}
use Rattle.word.specs.Number.{between}
use Rattle.word.proofs.Cond.{both}
use Rattle.ring.specs.Back.{How, done, too_far, bad_record}
use Rattle.ring.specs.Run.{Config}
use Rattle.journal.specs.Journal.{Ready}
use Rattle.state.specs.Layout.{bytes_of, machine_of}
use Rattle.state.specs.declared.machine.Machine.{Machine}
use Rattle.rules.specs.Rules.{bytes_keep, journal_keeps, state_keeps, machine_keeps, keeps_rules}
use Rattle.turn.specs.Buffers.{Beside, Buffers, beside_of}
use Rattle.back.specs.Back.{no_roms, back_of, refusal_of, how_of, asked_of, Fits, TakeIs}
use Rattle.back.specs.declared.Fault.{Fault}
use Rattle.back.specs.declared.Fault.TheVariants.{TooFar, Bad}
use Rattle.back.proofs.Answers.{asked_is, done_says}
use Rattle.back.specs.Back as taking
use Rattle.answer.specs.Lent.{ram_fits, paper_fits, journal_fits, index_fits, passed}
use Rattle.std.specs.Prelude.{Err, is_ok}
use Rattle.answer.specs.Answer.{done_with}
use Rattle.answer.specs.declared.Reason.TheVariants.{NoReason}
use Rattle.accepted.specs.Left.{Left, left_of}
use Rattle.backward.specs.Back.{buffers_test, beside_back_test, rule_test, done_back, left_how, tried_back, Judged}
use Rattle.answer.specs.declared.Refusal.TheVariants as refusal
use Rattle.answer.specs.declared.Refusal.TheVariants.{Ram, Paper, Image}
use Rattle.accepted.proofs.Start.{ring_sound}

-- ---- what is lent

pub buffers_allowed : (ram paper journal : ℕ) → buffers_test ram paper journal ≡ passed → (ram_fits ram ≡ true) × (paper_fits paper ≡ true) × (journal_fits journal ≡ true)
unfolding buffers_test
buffers_allowed ram paper journal e = go (ram_fits ram) (paper_fits paper) (journal_fits journal) (ap is_ok e)
  where
    go : (a b c : Bool) → is_ok (cond a (cond b (cond c passed (Err refusal.Journal)) (Err Paper)) (Err Ram)) ≡ true → (a ≡ true) × (b ≡ true) × (c ≡ true)
    go true true true e = (refl, refl, refl)
    go true true false e = absurd (true≢false (sym e))
    go true false c e = absurd (true≢false (sym e))
    go false b c e = absurd (true≢false (sym e))

-- what the tests leave is what taking back asks for
pub judged_is : (b : Buffers) {m : Machine} → beside_back_test b.beside ≡ passed →
    keeps_rules b.image (length b.beside.paper) (length b.beside.journal) ≡ true → m ≡ machine_of b.image → Judged b.beside m
unfolding keeps_rules machine_keeps
judged_is b passed keeps is =
    let m = machine_of b.image in
    let ram = length b.beside.ram in
    let paper = length b.beside.paper in
    let journal = length b.beside.journal in
    let a = buffers_allowed ram paper journal passed in
    let r = both (eqb (ram % 4096) 0) (between 1 4096 (ram / 4096)) a.0 in
    let p = both (leb paper 65536) (eqb (paper % 8) 0) a.1 in
    let f = both (leb journal 16777216) (eqb (journal % 512) 0) a.2 in
    let k = both (bytes_keep b.image) (machine_keeps m paper journal) keeps in
    let j = both (state_keeps m paper) (journal_keeps m.journal (journal / 512)) k.1 in
    record {
      whole_frames = eqb-true (ram % 4096) 0 r.0;
      short = leb-true paper 65536 p.0;
      ready = rw is (record { few = leb-true journal 16777216 f.0; sound = ring_sound b.beside.journal m.journal j.1 });
    }

-- and with an index for each frame
pub fits_back : (b : Beside) {m : Machine} → Judged b m → index_fits (length b.ram) (length b.index) ≡ true → Fits b m
fits_back b j each =
    record {
      short = j.short;
      ready = j.ready;
      framed = record { whole_frames = j.whole_frames; sixteen_each = eqb-true (length b.index) (16 * (length b.ram / 4096)) each };
    }

-- ---- the image

module _ (b : Buffers) where
  pub bad_length : (length b.image ≡ 741 → ⊥) → rule_test b ≡ Err Image
  unfolding rule_test
  bad_length h = rw (ne_eqb (length b.image) 741 h)

  module _ (long : length b.image ≡ 741) where
    pub bad_rules : keeps_rules b.image (length b.beside.paper) (length b.beside.journal) ≡ false → rule_test b ≡ Err Image
    unfolding rule_test
    bad_rules e = rw (eq-eqb (length b.image) 741 long, e)

    pub all_passed : keeps_rules b.image (length b.beside.paper) (length b.beside.journal) ≡ true → rule_test b ≡ passed
    unfolding rule_test
    all_passed e = rw (eq-eqb (length b.image) 741 long, e)

-- ---- taking back

-- a count that can be taken back is small: there are at most 65,536 slots
pub few_steps : (k : ℕ) (m : Machine) (ram paper : ℕ) (journal : List ℕ) → Ready journal m.journal → asked_of k m ram paper journal ≡ done → k < 2 ^ 32
few_steps k m ram paper journal ready e = omega (arith, (done_says k m ram paper journal e).0, ready.few, ready.sound.most)

module _ (b : Buffers) (k : ℕ) {m : Machine} (is : m ≡ machine_of b.image) where
  abbrev lent : Beside
  lent = b.beside

  abbrev each : Bool
  each = index_fits (length lent.ram) (length lent.index)

  abbrev said : How
  said = asked_of k m (length lent.ram) (length lent.paper) lent.journal

  answer_is : (h : How) → said ≡ h → (back_of k (machine_of b.image) lent).answer ≡ h
  answer_is h e = ap (λ (x : Machine). (back_of k x lent).answer) (sym is) ∙ sym (asked_is k m lent) ∙ e

  leaves : (h : How) → said ≡ h → (left : Left) →
      left ≡ left_how h (let c = (back_of k (machine_of b.image) lent).config in done_back k lent c.state c.side c.ring) b → left ≡ tried_back b k
  unfolding tried_back
  leaves h e left l =
      l
      ∙ ap (λ (x : How). left_how x (let c = (back_of k (machine_of b.image) lent).config in done_back k lent c.state c.side c.ring) b)
      (sym (answer_is h e))

  pub tried_far : too_far ≡ said → left_of (Err refusal.TooFar) b ≡ tried_back b k
  tried_far e = leaves too_far (sym e) _ refl

  pub tried_bad : bad_record ≡ said → left_of (Err refusal.BadRecord) b ≡ tried_back b k
  tried_bad e = leaves bad_record (sym e) _ refl

  -- by the fault that was found
  pub tried_fault : (fault : Fault) → how_of (Err fault) ≡ said → left_of (Err (refusal_of fault)) b ≡ tried_back b k
  tried_fault TooFar e = tried_far e
  tried_fault Bad e = tried_bad e

  pub tried_index : done ≡ said → each ≡ false → left_of (Err refusal.Index) b ≡ tried_back b k
  tried_index e other = leaves done (sym e) _ (rw other)

  pub tried_done : said ≡ done → each ≡ true → (after : Machine) (ram paper index : List ℕ) →
      TakeIs k m lent after (beside_of lent.execution lent.bootstrap ram paper lent.journal index) →
      left_of (done_with k NoReason) (record { image = bytes_of after; beside = beside_of lent.execution lent.bootstrap ram paper lent.journal index }) ≡ tried_back b k
  tried_done e fits after ram paper index took =
      let M = taking.both no_roms in
      leaves done e _
      (rw fits
      (ap (λ (c : Config M.forward). done_back k lent c.state c.side c.ring)
      (took ∙ ap (λ (x : Machine). (back_of k x lent).config) is)))
