-- `intend::access::load` meets its contract: the address, then its answer, which a plain access has without the table (`plain_lands`), and one near the page that is remembered
-- from that page (`near_lands`).
use Rattle.std.proofs.Common.{sym, refl, ◌∙◌, arith}
use Rattle.reach.proofs.PlainLands.{is_plain}
use Rattle.reach.specs.declared.access.Kind.TheVariants as kind
use Rattle.pages.proofs.Lands.{near_page, kept_inside}
use Rattle.intend.proofs.Plain.{plain_lands}
use Rattle.intend.proofs.NearLands.{near_lands}
use Rattle.intend.proofs.access.load.Goals as goal

pub overflow_sub-result : goal.overflow_sub-result
overflow_sub-result c = let p = is_plain _ _ _ _ (sym c.plain.ensures ∙ c.if-plain.true) in omega arith

pub returns-then-plain : goal.returns-then-plain
returns-then-plain c =
    rw (
      ← c.reg.ensures,
      ← c.addiu-va.ensures,
      ← c.load_width-width.ensures,
      plain_lands kind.Load c.load_width-width.result c.args.cp0 c.args.rows c.args.sizes c.addiu-va.result (sym c.plain.ensures ∙ c.if-plain.true),
    )

pub place-requires : goal.place-requires
place-requires c =
    let told = near_page _ _ _ _ _ (sym c.near.ensures ∙ c.in-Some.is) c.requires.known.accesses in
    let inside = kept_inside _ _ _ told.kept in
    omega (arith, inside)

pub returns-in-Some : goal.returns-in-Some
returns-in-Some c =
    let told = near_page _ _ _ _ _ (sym c.near.ensures ∙ c.in-Some.is) c.requires.known.accesses in
    rw (
      ← c.reg.ensures,
      ← c.addiu-va.ensures,
      ← c.load_width-width.ensures,
      c.place.ensures,
      near_lands kind.Load c.load_width-width.result c.args.cp0 c.args.rows c.args.sizes _ c.addiu-va.result told refl,
    )

pub returns : goal.returns
returns c =
    rw (
      c.reached-answer.ensures,
      c.load_width-width.ensures,
      c.addiu-va.ensures,
      c.reg.ensures,
    )
