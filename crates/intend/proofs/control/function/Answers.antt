-- `intend::control::function` meets its contract: by cases; the table has sixteen rows, so the definition's remainder is the code's.
use Rattle.std.proofs.Common.{◌≡◌, length, rules}
use Rattle.intend.specs.Control.{function_of}
use Rattle.intend.proofs.control.function.Goals as goal

pub returns-in-Undefined : goal.returns-in-Undefined
unfolding function_of
returns-in-Undefined c = rw c.in-Undefined.is

pub returns-in-Mfc0 : goal.returns-in-Mfc0
unfolding function_of
returns-in-Mfc0 c = rw (c.in-Mfc0.is, c.read.ensures)

pub returns-in-Mtc0 : goal.returns-in-Mtc0
unfolding function_of
returns-in-Mtc0 c = rw (c.in-Mtc0.is, c.written.ensures, c.reg.ensures)

pub returns-in-Tlbr : goal.returns-in-Tlbr
unfolding function_of
returns-in-Tlbr c = rw (c.in-Tlbr.is, c.read-in-Tlbr.ensures, c.index.ensures)

pub returns-in-Tlbwi : goal.returns-in-Tlbwi
unfolding function_of
returns-in-Tlbwi c = let sixteen : length c.args.rows ≡ 16 = search rules in rw (c.in-Tlbwi.is, c.entry.ensures, c.index-in-Tlbwi.ensures, sixteen)

pub returns-in-Tlbwr : goal.returns-in-Tlbwr
unfolding function_of
returns-in-Tlbwr c = let sixteen : length c.args.rows ≡ 16 = search rules in rw (c.in-Tlbwr.is, c.entry-in-Tlbwr.ensures, c.index-in-Tlbwr.ensures, sixteen)

pub returns-in-Tlbp : goal.returns-in-Tlbp
unfolding function_of
returns-in-Tlbp c = rw (c.in-Tlbp.is, c.probe.ensures)

pub returns-in-Rfe : goal.returns-in-Rfe
unfolding function_of
returns-in-Rfe c = rw (c.in-Rfe.is, c.popped.ensures)
