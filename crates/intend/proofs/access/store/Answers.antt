-- `intend::access::store` meets its contract: the address, then its answer, which a plain access has without the table (`plain_lands`), and one near the page that is remembered
-- from that page, where D is on (`near_lands`, `may_store`).
use Rattle.std.proofs.Common.{sym, ap, ◌∙◌, arith}
use Rattle.reach.proofs.PlainLands.{is_plain}
use Rattle.reach.specs.declared.access.Kind.TheVariants as kind
use Rattle.pages.specs.Pages.{dirty_of}
use Rattle.pages.proofs.Lands.{MayReach, entry_of, near_page, kept_inside, may_store}
use Rattle.intend.proofs.Plain.{plain_lands}
use Rattle.intend.proofs.NearLands.{near_lands}
use Rattle.intend.proofs.access.store.Goals as goal

pub overflow_sub-result : goal.overflow_sub-result
overflow_sub-result c = let p = is_plain _ _ _ _ (sym c.plain.ensures ∙ c.if-plain.true) in omega arith

pub returns-then-plain : goal.returns-then-plain
returns-then-plain c =
    rw (
      ← c.reg.ensures,
      ← c.addiu-va.ensures,
      ← c.store_width-width.ensures,
      c.reg-then-plain.ensures,
      plain_lands kind.Store c.store_width-width.result c.args.cp0 c.args.rows c.args.sizes c.addiu-va.result (sym c.plain.ensures ∙ c.if-plain.true),
    )

-- where the access is near the page that is remembered, and D is on
pub place-requires : goal.place-requires
place-requires c =
    let told = near_page _ _ _ _ _ (sym c.near.ensures ∙ c.in-Some.is) c.requires.known.accesses in
    let inside = kept_inside _ _ _ told.kept in
    omega (arith, inside)

pub returns-in-Some : goal.returns-in-Some
returns-in-Some c =
    let told = near_page _ _ _ _ _ (sym c.near.ensures ∙ c.in-Some.is) c.requires.known.accesses in
    let dirty : MayReach kind.Store (entry_of c.in-Some.page.key c.args.rows) = may_store c.args.rows c.args.sizes.ram _ _ (sym (ap dirty_of told.kept)) c.if-page.true in
    rw (
      ← c.reg.ensures,
      ← c.addiu-va.ensures,
      ← c.store_width-width.ensures,
      c.reg-in-Some.ensures,
      c.place.ensures,
      near_lands kind.Store c.store_width-width.result c.args.cp0 c.args.rows c.args.sizes _ c.addiu-va.result told dirty,
    )

pub returns : goal.returns
returns c =
    rw (
      c.reached-answer.ensures,
      c.reg-2.ensures,
      c.store_width-width.ensures,
      c.addiu-va.ensures,
      c.reg.ensures,
    )
