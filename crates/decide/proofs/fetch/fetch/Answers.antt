-- `decide::fetch::fetch` meets its contract: a plain fetch has its word at once (`plain_fetch`), and one near the page that is remembered there (`near_fetch`).
use mathlib.Core.Path.{sym, ◌∙◌}
use native.Mathlib.Omega.{arith}
use Rattle.reach.proofs.PlainLands.{is_plain}
use Rattle.pages.proofs.Lands.{near_page, kept_inside}
use Rattle.decide.specs.Lent.{lent_of}
use Rattle.decide.proofs.PlainFetch.{plain_room, plain_fetch}
use Rattle.decide.proofs.NearFetch.{near_room, near_fetch}
use Rattle.decide.proofs.fetch.fetch.Goals as goal

pub overflow_sub-core : goal.overflow_sub-core
overflow_sub-core c = let p = is_plain _ _ _ _ (sym c.plain.ensures ∙ c.if-plain.true) in omega arith

pub load_word-requires : goal.load_word-requires
load_word-requires c = plain_room c.args.core _ c.requires.whole (sym c.plain.ensures ∙ c.if-plain.true)

pub returns-then-plain : goal.returns-then-plain
returns-then-plain c = rw c.load_word.ensures (sym (plain_fetch c.args.core _ c.requires.whole (sym c.plain.ensures ∙ c.if-plain.true) _))

-- where the fetch is near the page that is remembered
pub place-requires : goal.place-requires
place-requires c =
    let told = near_page _ _ _ _ _ (sym c.near.ensures ∙ c.in-Some.is) c.requires.known.fetches in
    let inside = kept_inside _ _ _ told.kept in
    let few = c.requires.whole.ram.few in
    omega (arith, inside, few)

pub load_word-requires-in-Some : goal.load_word-requires-in-Some
load_word-requires-in-Some c =
    let told = near_page _ _ _ _ _ (sym c.near.ensures ∙ c.in-Some.is) c.requires.known.fetches in
    rw c.place.ensures (near_room c.args.core c.args.rows (lent_of c.args.execution.now c.args.bootstrap.now c.args.ram.now) _ told)

pub returns-in-Some : goal.returns-in-Some
returns-in-Some c =
    let told = near_page _ _ _ _ _ (sym c.near.ensures ∙ c.in-Some.is) c.requires.known.fetches in
    rw (c.load_word-in-Some.ensures, c.place.ensures) (sym (near_fetch c.args.core c.args.rows (lent_of c.args.execution.now c.args.bootstrap.now c.args.ram.now) _ told))
