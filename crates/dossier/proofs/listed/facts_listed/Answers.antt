use Rattle.std.proofs.Common.{◌≡◌, Some, None, sym, ap, ◌∙◌, rules, tests}
use Rattle.dossier.specs.Fields.{ended_parts}
use Rattle.dossier.specs.Words.{facts_in, is_listing}
use Rattle.dossier.proofs.Listings.{listed-none, listed-not, listed-so, listed-otherwise}
use Rattle.dossier.proofs.listed.facts_listed.Goals as goal

pub returns-then-eq : goal.returns-then-eq
returns-then-eq c = ap Some c.new.ensures.items ∙ listed-none c.args.schema.now c.args.text.now (search (rules, tests))

pub returns-in_default : goal.returns-in_default
returns-in_default c =
    let none : None ≡ facts_in c.args.schema.now (ended_parts 41 c.args.text.now) = rw c.in_default.is at c.in_ok-facts.ensures.read in
    listed-not c.args.schema.now c.args.text.now (search (rules, tests)) none

pub is_listing-requires : goal.is_listing-requires
is_listing-requires c = rw c.deref.ensures.value (rw c.in-Some.is at c.in_ok-facts.ensures.of_schema)

pub returns-then-branch : goal.returns-then-branch
returns-then-branch c =
    let read : Some c.in-Some.facts.items ≡ facts_in c.args.schema.now (ended_parts 41 c.args.text.now) = rw c.in-Some.is at c.in_ok-facts.ensures.read in
    listed-so c.args.schema.now c.args.text.now (search (rules, tests)) c.in-Some.facts.items read
    (ap (is_listing c.args.schema.now c.args.text.now) (sym c.deref.ensures.value) ∙ sym c.in_ok-is_listing.ensures ∙ c.if-branch.true)

pub returns-else-branch : goal.returns-else-branch
returns-else-branch c =
    let read : Some c.in-Some.facts.items ≡ facts_in c.args.schema.now (ended_parts 41 c.args.text.now) = rw c.in-Some.is at c.in_ok-facts.ensures.read in
    listed-otherwise c.args.schema.now c.args.text.now (search (rules, tests)) c.in-Some.facts.items read
    (ap (is_listing c.args.schema.now c.args.text.now) (sym c.deref.ensures.value) ∙ sym c.in_ok-is_listing.ensures ∙ c.if-branch.false)
