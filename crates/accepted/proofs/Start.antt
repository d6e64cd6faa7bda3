-- What the tests of run leave: what is lent is in whole words, the image's machine with it is a good world, and the journal is a sound ring.
use Prim.Native.Nat.{ℕ, zero, suc, ◌/◌, ◌%◌, ◌^◌, ◌<◌, max}
use mathlib.Core.Path.{◌≡◌, refl}
use mathlib.Core.Bool.{Bool, true, false, ◌&&◌, ◌||◌}
use mathlib.Core.List.{List, [], ◌∷◌}
use native.Mathlib.Omega.{arith}
use borrow.Author.Tests.{eqb-true, leb-true, ltb-true, le-leb, lt-ltb}
use lib.Dec.{eqb, leb, ltb}
use lib.ListN.{length}
use Rattle.word.specs.Lists.{flat, Below}
use Rattle.word.specs.Big.{word_bytes}
use Rattle.word.specs.Number.{between}
use Rattle.word.proofs.Cond.{both, and_true}
use Rattle.word.proofs.Lists.{below_nil, below_append, below_numerals}
use Rattle.ring.specs.Slots.{Ring, Sound}
use Rattle.board.specs.Rom.{fit_of}
use Rattle.journal.specs.Journal.{slots_of, ring_of}
use Rattle.state.specs.Layout.{journal_words, words_of, header, bytes_of, machine_of, WellTyped}
use Rattle.state.specs.declared.machine.Machine.{Machine}
use Rattle.state.specs.declared.machine.Journal.{Journal}
use Rattle.state.proofs.RoundTrip.{decoded_typed}
use Rattle.rules.specs.Rules.{bytes_keep, journal_keeps, state_keeps, machine_keeps, keeps_rules, good_image}
use Rattle.decide.specs.Lent.{Words, Whole, lent_of}
use Rattle.good.specs.Good.{no_mark, Good}
use Rattle.good.proofs.Belows.{each_below}
use Rattle.good.proofs.Parts.{words, well_typed}
use Rattle.step.specs.World.{world_in}
use Rattle.answer.specs.Lent.{ram_fits, roms_fit, paper_fits, journal_fits}

-- ---- the lengths

rom_words : (rom : List ℕ) → fit_of (length rom) ≡ true → Words rom
rom_words rom e =
    let h = both (leb 4 (length rom)) (leb (length rom) 65536 && eqb (length rom % 4) 0) e in
    let g = both (leb (length rom) 65536) (eqb (length rom % 4) 0) h.1 in
    let most = leb-true (length rom) 65536 g.0 in
    record { whole = eqb-true (length rom % 4) 0 g.1; few = omega (arith, most) }

ram_words : (ram : List ℕ) → ram_fits (length ram) ≡ true → Words ram
ram_words ram e =
    let h = both (eqb (length ram % 4096) 0) (between 1 4096 (length ram / 4096)) e in
    let g = both (leb 1 (length ram / 4096)) (leb (length ram / 4096) 4096) h.1 in
    let whole = eqb-true (length ram % 4096) 0 h.0 in
    let most = leb-true (length ram / 4096) 4096 g.1 in
    record { whole = omega (arith, whole); few = omega (arith, most) }

pub lent_whole : (execution bootstrap ram : List ℕ) → ram_fits (length ram) ≡ true → roms_fit (length execution) (length bootstrap) ≡ true →
    Whole (lent_of execution bootstrap ram)
lent_whole execution bootstrap ram r e =
    let h = both (fit_of (length execution)) (fit_of (length bootstrap)) e in
    record { execution = rom_words execution h.0; bootstrap = rom_words bootstrap h.1; ram = ram_words ram r }

pub paper_short : (len : ℕ) → paper_fits len ≡ true → len < 2 ^ 32
paper_short len e =
    let most = leb-true len 65536 (both (leb len 65536) (eqb (len % 8) 0) e).0 in
    omega (arith, most)

pub few_slots : (journal : List ℕ) → journal_fits (length journal) ≡ true → slots_of journal < 2 ^ 32
few_slots journal e =
    let most = leb-true (length journal) 16777216 (both (leb (length journal) 16777216) (eqb (length journal % 512) 0) e).0 in
    omega (arith, most)

-- ---- the journal's two words

placed : (n x : ℕ) (t : Bool) → ltb x n ≡ t → (t || eqb n 0 && eqb x 0) ≡ true → x < max n 1
placed n x true e h = let l = ltb-true x n e in omega (arith, l)
placed n x false e h =
    let g = both (eqb n 0) (eqb x 0) h in
    let x-zero = eqb-true x 0 g.1 in
    omega (arith, x-zero)

pub ring_sound : (journal : List ℕ) (mark : Journal) → journal_keeps mark (slots_of journal) ≡ true → Sound 512 (slots_of journal) (ring_of mark journal)
ring_sound journal mark e =
    let n = slots_of journal in
    let x = mark.next_slot in
    let h = both (leb mark.on_hand n) (ltb x n || eqb n 0 && eqb x 0) e in
    record { room = omega arith; most = leb-true mark.on_hand n h.0; place = placed n x (ltb x n) refl h.1 }

place_kept : (n x : ℕ) → x < max n 1 → (ltb x n || eqb n 0 && eqb x 0) ≡ true
place_kept zero x h = let none : x ≡ 0 = omega arith in rw none
place_kept (suc n) x h = rw (lt-ltb x (suc n) (omega arith))

pub sound_kept : (size n : ℕ) (g : Ring) → Sound size n g → journal_keeps (record { on_hand = g.hand; next_slot = g.next }) n ≡ true
sound_kept size n g s = and_true (le-leb g.hand n s.most) (place_kept n g.next s.place)

-- ---- the image

words_bytes : (ws : List ℕ) → Below (2 ^ 32) ws → Below 256 (flat word_bytes ws)
words_bytes [] h = below_nil 256
words_bytes (w ∷ ws) h =
    let small : w < 2 ^ 32 = h 0 (omega arith) in
    below_append (word_bytes w) (flat word_bytes ws) (each_below (word_bytes w) (omega (arith, small))) (words_bytes ws (λ i l. h (suc i) (omega arith)))

-- what is written for a machine of words is bytes
pub image_bytes : (m : Machine) → WellTyped m → Below 256 (bytes_of m)
unfolding bytes_of
image_bytes m t = below_append header (flat word_bytes (words_of m)) (below_numerals header refl) (words_bytes (words_of m) t.small)

-- only two words of a machine are the journal's, and only one rule asks for them
unmarked_typed : (m : Machine) → WellTyped m → WellTyped (record { cpu = m.cpu; board = m.board; journal = no_mark })
unmarked_typed m t =
    let v = words m t in
    let s = t.sized in
    well_typed (record { cpu = m.cpu; board = m.board; journal = no_mark })
    (record { regs = s.regs; tlb = s.tlb; printers = s.printers }) t.zero
    (record {
      regs = v.regs;
      core = v.core;
      rows = v.rows;
      clock = v.clock;
      settings = v.settings;
      printers = v.printers;
      pending = v.pending;
      journal = each_below (journal_words no_mark) (omega arith);
    })

unmarked_keeps : (m : Machine) (paper : ℕ) → state_keeps m paper ≡ true → state_keeps (record { cpu = m.cpu; board = m.board; journal = no_mark }) paper ≡ true
unfolding state_keeps
unmarked_keeps m paper e = e

module _ (image : List ℕ) (paper journal : ℕ) (good : good_image image paper journal ≡ true) where
  abbrev m : Machine
  m = machine_of image

  image_long : length image ≡ 741
  image_long = eqb-true (length image) 741 (both (eqb (length image) 741) (keeps_rules image paper journal) good).0

  rules : (state_keeps m paper ≡ true) × (journal_keeps m.journal (journal / 512) ≡ true)
  unfolding keeps_rules machine_keeps
  rules =
      let h = both (eqb (length image) 741) (keeps_rules image paper journal) good in
      let k = both (bytes_keep image) (machine_keeps m paper journal) h.1 in
      both (state_keeps m paper) (journal_keeps m.journal (journal / 512)) k.1

  pub image_mark : journal_keeps m.journal (journal / 512) ≡ true
  image_mark = rules.1

  image_typed : Below 256 image → WellTyped (record { cpu = m.cpu; board = m.board; journal = no_mark })
  image_typed bytes = unmarked_typed m (decoded_typed image image_long bytes)

  image_kept : state_keeps (record { cpu = m.cpu; board = m.board; journal = no_mark }) paper ≡ true
  image_kept = unmarked_keeps m paper rules.0

-- the world that a run starts in is good
pub start_good : (image ram paper : List ℕ) (journal : ℕ) → good_image image (length paper) journal ≡ true → Below 256 image → Below 256 ram → Below 256 paper →
    Good (world_in (machine_of image) ram paper)
start_good image ram paper journal good bytes r p =
    record {
      typed = image_typed image (length paper) journal good bytes;
      kept = image_kept image (length paper) journal good;
      ram = r;
      paper = p;
    }
