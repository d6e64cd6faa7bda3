-- `step::apply::move_core` meets its contract.
use mathlib.Core.Path.{◌∙◌}
use Rattle.step.proofs.Held.{put_back}
use Rattle.step.proofs.apply.move_core.Goals as goal

pub returns-in-HiLo : goal.returns-in-HiLo
returns-in-HiLo c = rw c.in-HiLo.is (put_back c.put_core.ensures ∙ c.with_hi_lo.ensures ∙ rw c.core_in-c.ensures)

pub returns-in-Control : goal.returns-in-Control
returns-in-Control c =
    rw c.in-Control.is
    (put_back c.put_core-in-Control.ensures ∙ c.with_cp0.ensures ∙ rw (c.with_register.ensures, c.core_in-c.ensures))

pub returns-in-Entry : goal.returns-in-Entry
returns-in-Entry c =
    rw c.in-Entry.is
    (put_back c.put_core-in-Entry.ensures ∙ c.with_cp0-in-Entry.ensures ∙ rw (c.with_entry.ensures, c.core_in-c.ensures))

pub returns-in-DeviceStore : goal.returns-in-DeviceStore
returns-in-DeviceStore c = rw c.in-DeviceStore.is (put_back c.put_core-in-DeviceStore.ensures ∙ c.stored_lines.ensures ∙ rw c.core_in-c.ensures)

pub returns-in-Raise : goal.returns-in-Raise
returns-in-Raise c =
    rw c.in-Raise.is
    (put_back c.put_core-in-Raise.ensures ∙ c.raised.ensures ∙ rw c.core_in-c.ensures)
