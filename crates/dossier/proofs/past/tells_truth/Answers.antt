use Rattle.std.proofs.Common.{map, sym, ◌∙◌, arith}
use Rattle.std.proofs.lemmas.List.Folds.{list_all-map}
use Rattle.cqe_base.specs.declared.user.Entry.{Entry}
use Rattle.cqe_base.specs.Formula.{formula_of, is_sentence_of}
use Rattle.cqe_base.specs.Entailment.{all_hold_in}
use Rattle.cqe_base.specs.History.{AnsweredQuery, answered_query_of, told_by}
use Rattle.dossier.proofs.Each.{passes-at}
use Rattle.dossier.proofs.Truths.{fails-here, passes-here, passes-all, tells-all}
use Rattle.dossier.proofs.past.tells_truth.Goals as goal

pub is_true_there-requires : goal.is_true_there-requires
is_true_there-requires c =
    passes-at (λ (e : Entry). formula_of e.query) c.args.entries.now c.loop-entry.entry-index c.entry-item.result c.entry-item.is
    c.loop-entry-test.true (is_sentence_of c.args.schema.now)
    (list_all-map (is_sentence_of c.args.schema.now) (λ (e : Entry). formula_of e.query) c.args.entries.now
    ∙ sym (list_all-map (λ (e : AnsweredQuery). is_sentence_of c.args.schema.now e.query) answered_query_of c.args.entries.now) ∙ c.requires)

pub returns-then-not-is_true_there : goal.returns-then-not-is_true_there
returns-then-not-is_true_there c =
    let schema = c.args.schema.now in
    let world = c.args.world.now in
    let entries = c.args.entries.now in
    fails-here (λ (e : Entry). all_hold_in schema world (told_by e.mark (formula_of e.query))) entries c.loop-entry.entry-index
    c.entry-item.result c.entry-item.is c.loop-entry-test.true c.loop-entry.invariant (sym c.is_true_there.ensures ∙ c.if-not-is_true_there.true)
    ∙ sym (list_all-map (λ (e : AnsweredQuery). all_hold_in schema world (told_by e.mark e.query)) answered_query_of entries)
    ∙ sym (tells-all schema world (map answered_query_of entries))

pub loop-entry-preserved : goal.loop-entry-preserved
loop-entry-preserved c =
    passes-here (λ (e : Entry). all_hold_in c.args.schema.now c.args.world.now (told_by e.mark (formula_of e.query))) c.args.entries.now
    c.loop-entry.entry-index c.entry-item.result c.entry-item.is c.loop-entry-test.true c.loop-entry.invariant
    (sym c.is_true_there.ensures ∙ c.if-not-is_true_there.false)

pub returns : goal.returns
returns c =
    let schema = c.args.schema.now in
    let world = c.args.world.now in
    let entries = c.args.entries.now in
    passes-all (λ (e : Entry). all_hold_in schema world (told_by e.mark (formula_of e.query))) entries c.loop-entry.entry-index
    (omega (arith, c.loop-entry-test.false)) c.loop-entry.invariant
    ∙ sym (list_all-map (λ (e : AnsweredQuery). all_hold_in schema world (told_by e.mark e.query)) answered_query_of entries)
    ∙ sym (tells-all schema world (map answered_query_of entries))
