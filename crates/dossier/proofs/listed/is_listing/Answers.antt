use Rattle.std.proofs.Common.{◌≡◌, Some, sym, ◌∙◌, rules, tests}
use Rattle.std.specs.Prelude.{bytes_eq}
use Rattle.audit_text.specs.Text.{world_text}
use Rattle.audit_print.specs.Said.{world_said}
use Rattle.dossier.proofs.Listings.{too-many, not-ascending, by-text}
use Rattle.dossier.proofs.listed.is_listing.Goals as goal

pub returns-then-are_many : goal.returns-then-are_many
returns-then-are_many c = too-many c.args.schema.now c.args.text.now c.args.facts.now c.requires (sym c.are_many.ensures ∙ c.if-are_many.true)

pub returns-then-not-ascends : goal.returns-then-not-ascends
returns-then-not-ascends c =
    not-ascending c.args.schema.now c.args.text.now c.args.facts.now c.requires (sym c.are_many.ensures ∙ c.if-are_many.false)
    (sym c.ascends.ensures ∙ c.if-not-ascends.true)

pub returns : goal.returns
returns c =
    let same : c.eq.result ≡ bytes_eq c.args.text.now (world_text (Some (world_said c.args.schema.now c.args.facts.now))) = search (rules, tests) in
    same
    ∙ by-text c.args.schema.now c.args.text.now c.args.facts.now c.requires (sym c.are_many.ensures ∙ c.if-are_many.false)
    (sym c.ascends.ensures ∙ c.if-not-ascends.false)
