-- Document 01, "Running back", with its refusals: what take-back answers, and every byte that it leaves in what is lent. The journal is only read.
use Rattle.std.specs.Prelude.{ℕ, ◌%◌, ◌≤◌, cond, List, ◌≡◌, length, Err}
use Rattle.ring.specs.Slots.{Ring}
use Rattle.ring.specs.Back.{How, Took, done, too_far, bad_record}
use Rattle.journal.specs.Journal.{Ready}
use Rattle.state.specs.Layout.{machine_of}
use Rattle.state.specs.declared.machine.Machine.{Machine}
use Rattle.rules.specs.Rules.{good_image}
use Rattle.step.specs.World.{World}
use Rattle.turn.specs.Buffers.{Beside, Buffers}
use Rattle.back.specs.Back.{both, no_roms, back_of}
use Rattle.std.specs.Result.{result_and}
use Rattle.answer.specs.Lent.{ram_fits, paper_fits, journal_fits, index_fits, Test, passed}
use Rattle.accepted.specs.After.{buffers_after}
use Rattle.accepted.specs.Left.{Left, left_of, left_by}
use Rattle.answer.specs.declared.Reason.TheVariants.{NoReason}
use Rattle.answer.specs.declared.Refusal.TheVariants.{Ram, Paper, Journal, Image, TooFar, BadRecord, Index}
use Rattle.answer.specs.Answer.{done_with}

-- ---- the refusals by what is lent

-- rows 1, 3 and 4: "a call tests only what it is given", and no ROM is
unfoldable pub buffers_test : (ram paper journal : ℕ) → Test
buffers_test ram paper journal =
    cond (ram_fits ram) (cond (paper_fits paper) (cond (journal_fits journal) passed (Err Journal)) (Err Paper)) (Err Ram)

abbrev pub beside_back_test : Beside → Test
beside_back_test b = buffers_test (length b.ram) (length b.paper) (length b.journal)

-- row 5: the image is not 741 bytes or breaks a rule
unfoldable pub rule_test : Buffers → Test
rule_test b = cond (good_image b.image (length b.beside.paper) (length b.beside.journal)) passed (Err Image)

abbrev pub back_test : Buffers → Test
back_test b = result_and (beside_back_test b.beside) (rule_test b)

-- ---- what is left

-- "A done take-back of k reports k and no reason", and leaves the state of k steps before, with the ring's on hand and next slot: taking back "leaves the journal's
-- bytes", which are the ring's
abbrev pub done_back : ℕ → Beside → World → List ℕ → Ring → Left
done_back k b w index g = left_of (done_with k NoReason) (buffers_after b w index g)

-- rows 7 and 8, then 10: the index's length (document 02, L6). Each leaves every byte
abbrev pub left_how : How → Left → Buffers → Left
left_how done back b = cond (index_fits (length b.beside.ram) (length b.beside.index)) back (left_of (Err Index) b)
left_how too_far back b = left_of (Err TooFar) b
left_how bad_record back b = left_of (Err BadRecord) b

abbrev pub took_leaves : ℕ → Buffers → Took (both no_roms) → Left
took_leaves k b t = left_how t.answer (done_back k b.beside t.config.state t.config.side t.config.ring) b

unfoldable pub tried_back : Buffers → ℕ → Left
tried_back b k = took_leaves k b (back_of k (machine_of b.image) b.beside)

-- THE CALL
unfoldable pub back_leaves : Buffers → ℕ → Left
back_leaves b k = left_by (back_test b) (tried_back b k) b

-- ---- aids to proofs: nothing that a reader must believe

-- ---- for the code: the call of lengths that are allowed

abbrev pub rule_leaves : Buffers → ℕ → Left
rule_leaves b k = left_by (rule_test b) (tried_back b k) b

-- what rows 1 to 5 leave of what is lent
pub record Judged (b : Beside) (m : Machine) : Type 0 where
  pub whole_frames : length b.ram % 4096 ≡ 0
  pub short : length b.paper ≤ 65536
  pub ready : Ready b.journal m.journal
