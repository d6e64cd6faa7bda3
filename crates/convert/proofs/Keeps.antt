-- What a done conversion writes keeps the rules, and is decoded to the machine that it is said to be.
use Prim.Native.Nat.{ℕ, ◌/◌, ◌^◌, ◌<◌}
use mathlib.Core.Path.{◌≡◌, refl, sym, subst, ◌∙◌}
use mathlib.Core.Bool.{true, cond, ◌&&◌, ◌||◌}
use mathlib.Core.List.{List, ◌++◌}
use native.Mathlib.Omega.{arith}
use lib.Dec.{eqb}
use lib.ListN.{length, replicate, length-append, drop, get_or-append}
use Rattle.word.specs.Lists.{tabulate, Below}
use Rattle.word.proofs.Cond.{both, and_true, picked}
use Rattle.word.proofs.Lists.{get_d_tabulate, below_append, below_numerals}
use Rattle.state.specs.declared.machine.Machine.{Machine}
use Rattle.state.specs.Layout.{no_disks, words_of, bytes_of, body_word, machine_at, machine_of, Sized, WellTyped}
use Rattle.state.proofs.RoundTrip.{decode_encode, decoded_typed}
use Rattle.rules.specs.Rules.{state_keeps, journal_keeps, machine_keeps, good_image}
use Rattle.rules.proofs.Good.{none_kept, encoded_good}
use Rattle.convert.specs.Convert.{header_before, machine_before, keeps_before, emptied}

-- the words with 0 steps on hand and the first slot next
abbrev empty : (ℕ → ℕ) → ℕ → ℕ
empty f k = cond (eqb k 122 || eqb k 123) 0 (f k)

emptied_words : (f : ℕ → ℕ) → words_of (emptied (machine_at f)) ≡ tabulate 126 (empty f) ++ no_disks
unfolding words_of machine_at
emptied_words f = refl

machine_words : (f : ℕ → ℕ) → words_of (machine_at f) ≡ tabulate 126 f ++ no_disks
unfolding words_of machine_at
machine_words f = refl

emptied_sized : (m : Machine) → Sized m → Sized (emptied m)
emptied_sized m s = record { regs = s.regs; tlb = s.tlb; printers = s.printers }

emptied_small : (f : ℕ → ℕ) → Below (2 ^ 32) (words_of (machine_at f)) → Below (2 ^ 32) (words_of (emptied (machine_at f)))
emptied_small f small =
    let words : Below (2 ^ 32) (tabulate 126 f ++ no_disks) = subst (Below (2 ^ 32)) (machine_words f) small in
    let one : (i : ℕ) → i < 126 → f i < 2 ^ 32 =
    λ i h. subst (λ (x : ℕ). x < 2 ^ 32) (get_or-append (tabulate 126 f) no_disks 0 i h ∙ get_d_tabulate 126 f i 0 h) (words i (omega arith)) in
    let each : Below (2 ^ 32) (tabulate 126 (empty f)) =
    λ i h. rw (get_d_tabulate 126 (empty f) i 0 h) (picked (λ x. x < 2 ^ 32) (eqb i 122 || eqb i 123) 0 (f i) (λ _. omega arith) (λ _. one i h)) in
    subst (Below (2 ^ 32)) (sym (emptied_words f)) (below_append (tabulate 126 (empty f)) no_disks each (below_numerals no_disks refl))

module _ (old : List ℕ) (long : length old ≡ 509) (bytes : Below 256 old) where
  wide_typed : WellTyped (machine_before old)
  unfolding machine_before
  wide_typed =
      decoded_typed (old ++ replicate 232 0) (length-append old (replicate 232 0) ∙ omega arith)
      (below_append old (replicate 232 0) bytes (below_numerals (replicate 232 0) refl))

  pub emptied_typed : WellTyped (emptied (machine_before old))
  unfolding machine_before machine_of
  emptied_typed =
      let t = wide_typed in
      record {
        sized = emptied_sized (machine_before old) t.sized;
        zero = t.zero;
        small = emptied_small (body_word (drop 5 (old ++ replicate 232 0))) t.small;
      }

  -- the image is that of the old machine with no steps on hand
  pub converted_machine : machine_of (bytes_of (emptied (machine_before old))) ≡ emptied (machine_before old)
  converted_machine = decode_encode (emptied (machine_before old)) emptied_typed

  emptied_keeps : (paper now : ℕ) → state_keeps (machine_before old) paper ≡ true → machine_keeps (emptied (machine_before old)) paper now ≡ true
  unfolding machine_keeps state_keeps
  emptied_keeps paper now e = and_true e (none_kept (now / 512))

  -- it keeps the rules with any journal
  pub converted_keeps : (paper journal now : ℕ) → keeps_before old paper journal ≡ true → good_image (bytes_of (emptied (machine_before old))) paper now ≡ true
  unfolding keeps_before
  converted_keeps paper journal now e =
      let m = machine_before old in
      let rules = (both (header_before old) (state_keeps m paper && journal_keeps m.journal (journal / 256)) e).1 in
      encoded_good (emptied m) paper now emptied_typed ∙ emptied_keeps paper now (both (state_keeps m paper) (journal_keeps m.journal (journal / 256)) rules).0
