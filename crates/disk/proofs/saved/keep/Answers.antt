-- `saved::keep` meets its contract: what fits lies inside.
use mathlib.Core.Path.{refl, ◌≡◌, sym, ap, ◌∙◌}
use mathlib.Core.Bool.{true}
use borrow.Author.Tests.{eq-eqb, ne_eqb}
use Rattle.std.proofs.Common.{rules}
use Prim.Native.Nat.{ℕ, ◌+◌}
use Rattle.disk.specs.declared.Disk.{Disk}
use Rattle.disk.specs.declared.four.Four.{Four}
use Rattle.disk.specs.Fields.{offset_of}
use Rattle.disk.specs.Four.{no_four, four_at}
use Rattle.disk.specs.Tick.{ram_place, reads, writes}
use Rattle.disk.specs.Saved.{no_kept, work_kept}
use Rattle.disk.proofs.Given.{idle_kept, read_kept, written_kept, still_kept}
use Rattle.disk.proofs.Places.{Fitting, fitting, reads_fits, writes_fits}
use Rattle.disk.proofs.saved.keep.Goals as goal

-- what is read or written fits
read_fits : (ram bytes : ℕ) (d : Disk) → reads ram bytes d ≡ true → Fitting ram bytes d
read_fits ram bytes d on = fitting ram bytes d (reads_fits ram bytes d on)

write_fits : (ram bytes : ℕ) (d : Disk) → writes ram bytes d ≡ true → Fitting ram bytes d
write_fits ram bytes d on = fitting ram bytes d (writes_fits ram bytes d on)

pub returns-then-d-ne-BUSY : goal.returns-then-d-ne-BUSY
returns-then-d-ne-BUSY c =
    let a = c.args in
    let h : c.default.result ≡ no_kept = search rules in rw h (sym (idle_kept a.d a.ram.now a.bytes.now (ne_eqb a.d.status 3 c.if-d-ne-BUSY.true)))

pub returns-then-reads : goal.returns-then-reads
returns-then-reads c =
    let a = c.args in
    let on = sym c.reads.ensures ∙ c.if-reads.true in
    c.work_kept.ensures ∙ ap (λ (f : Four). work_kept 2 (ram_place a.d) f a.d) c.four_at-word.ensures ∙ sym (read_kept a.d a.ram.now a.bytes.now on)

pub returns-then-writes : goal.returns-then-writes
returns-then-writes c =
    let a = c.args in
    let on = sym c.writes.ensures ∙ c.if-writes.true in
    c.work_kept-then-writes.ensures
    ∙ ap (λ (f : Four). work_kept 3 0 f a.d) (c.four_at-word-then-writes.ensures ∙ ap (λ (b : ℕ). four_at a.bytes.now (b + offset_of a.d)) c.block_of.ensures.place_is)
    ∙ sym (written_kept a.d a.ram.now a.bytes.now on)

pub returns : goal.returns
returns c =
    let a = c.args in
    let busy = eq-eqb a.d.status 3 c.if-d-ne-BUSY.false in
    let unread = sym c.reads.ensures ∙ c.if-reads.false in
    let unwritten = sym c.writes.ensures ∙ c.if-writes.false in
    let none : c.default-2.result ≡ no_four = search rules in
    c.work_kept-2.ensures ∙ rw none refl ∙ sym (still_kept a.d a.ram.now a.bytes.now busy unread unwritten)
