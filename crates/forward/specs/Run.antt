-- Document 01, "Run", with its refusals: what the call answers, and every byte that it leaves in what is lent.
use Rattle.std.specs.Prelude.{ℕ, cond, not, eqb, leb, length, Err}
use Rattle.ring.specs.Run.{Why, Ran, spent, excepted, halted}
use Rattle.state.specs.Layout.{machine_of}
use Rattle.rules.specs.Rules.{good_image}
use Rattle.turn.specs.Buffers.{Beside, Buffers, roms_in}
use Rattle.run.specs.Run.{forward, run_of}
use Rattle.std.specs.Result.{result_and}
use Rattle.answer.specs.Lent.{index_fits, lent_test, Test, passed}
use Rattle.accepted.specs.After.{buffers_after}
use Rattle.accepted.specs.Left.{Left, left_of, left_by}
use Rattle.answer.specs.declared.Reason.{Reason}
use Rattle.answer.specs.declared.Reason.TheVariants.{BudgetSpent, Exception, TwoMatches}
use Rattle.answer.specs.declared.Refusal.TheVariants.{Image, Range, Index}
use Rattle.answer.specs.Answer.{done_with}

-- ---- the refusals

-- rows 1 to 4
abbrev pub beside_test : Beside → Test
beside_test b = lent_test (length b.execution) (length b.bootstrap) (length b.ram) (length b.paper) (length b.journal)

-- 5: the image is not 741 bytes or breaks a rule; 6: "a budget over 1,000,000"; 10: the index's length (document 02, L6)
unfoldable pub image_test : Buffers → ℕ → Test
image_test b budget =
    cond (good_image b.image (length b.beside.paper) (length b.beside.journal))
    (cond (leb budget 1000000) (cond (index_fits (length b.beside.ram) (length b.beside.index)) passed (Err Index)) (Err Range))
    (Err Image)

abbrev pub run_test : Buffers → ℕ → Test
run_test b budget = result_and (beside_test b.beside) (image_test b budget)

-- ---- what is left

-- document 01 has the first two, document 02, L5, the third
abbrev pub reason_named : Why → Reason
reason_named spent = BudgetSpent
reason_named excepted = Exception
reason_named halted = TwoMatches

abbrev pub ran_of : (b : Buffers) → ℕ → ℕ → Ran (forward (roms_in b.beside))
ran_of b budget stop = run_of budget (not (eqb stop 0)) (machine_of b.image) b.beside

-- a done run leaves its end, and answers the steps that it really took and why it ended
unfoldable pub done_run : Buffers → ℕ → ℕ → Left
done_run b budget stop =
    let ran = ran_of b budget stop in
    left_of (done_with ran.taken (reason_named ran.reason)) (buffers_after b.beside ran.config.state ran.config.side ran.config.ring)

-- THE CALL
unfoldable pub run_leaves : Buffers → ℕ → ℕ → Left
run_leaves b budget stop = left_by (run_test b budget) (done_run b budget stop) b

-- ---- aids to proofs: nothing that a reader must believe

-- ---- for the code: the call of lengths that are allowed

abbrev pub image_leaves : Buffers → ℕ → ℕ → Left
image_leaves b budget stop = left_by (image_test b budget) (done_run b budget stop) b
