use Rattle.std.proofs.Common.{true, false, Ok, [], map, sym, ◌∙◌, rules, tests}
use Rattle.std.proofs.lemmas.Result.{err_from_is_err_and}
use Rattle.cqe_base.specs.History.{profile_of, answered_query_of, log}
use Rattle.clause_store.specs.PlainLines.{lines_of}
use Rattle.entailment.specs.Probes.{premise_of, goal_of}
use Rattle.dossier.specs.Checked.{step}
use Rattle.dossier.proofs.BlockReads.{confirmed-is, block-missing, block-opens, block-open-refused, block-form, block-may-not, block-refused, block-ended}
use Rattle.dossier.proofs.blocks.read_block.Goals as goal

pub returns-in_err-field-clause-reads : goal.returns-in_err-field-clause-reads
returns-in_err-field-clause-reads c world name user showing same of =
    let p = err_from_is_err_and c.from_residual.result c.from_residual.ensures.1 in
    rw (p.1, p.2)
    (block-missing c.args.told.schema.now world name user showing c.args.lines.now c.take_line.new.self _ c.in_err-field.ensures.takes)

pub returns-in_err-read_open-clause-reads : goal.returns-in_err-read_open-clause-reads
returns-in_err-read_open-clause-reads c world name user showing same of =
    let p = err_from_is_err_and c.from_residual-in_err-read_open.result c.from_residual-in_err-read_open.ensures.1 in
    rw (p.1, p.2)
    (block-open-refused c.args.told.schema.now world name user showing c.args.lines.now c.take_line.new.self
    c.in_ok-field.field c.in_ok-field.ensures.takes _ _
    same (search (rules, tests)) c.in_err-read_open.ensures)

pub returns-then-eq-clause-reads : goal.returns-then-eq-clause-reads
returns-then-eq-clause-reads c world name user showing same of =
    block-opens c.args.told.schema.now world name user showing c.args.lines.now c.take_line.new.self
    c.in_ok-field.field c.in_ok-field.ensures.takes _
    same (search (rules, tests)) c.in_ok-read_open.ensures

pub returns-then-not-is_alone-clause-reads : goal.returns-then-not-is_alone-clause-reads
returns-then-not-is_alone-clause-reads c world name user showing same of =
    block-form c.args.told.schema.now world name user showing c.args.lines.now c.take_line.new.self
    c.in_ok-field.field c.in_ok-field.ensures.takes
    (search (rules, tests)) (search (rules, tests))

pub returns-in_err-may_follow-clause-reads : goal.returns-in_err-may_follow-clause-reads
returns-in_err-may_follow-clause-reads c world name user showing same of =
    let p = err_from_is_err_and c.from_residual-in_err-may_follow.result c.from_residual-in_err-may_follow.ensures.1 in
    rw (p.1, p.2)
    (block-may-not c.args.told.schema.now world name user showing c.args.lines.now c.take_line.new.self
    c.in_ok-field.field c.in_ok-field.ensures.takes
    c.args.reason of (search (rules, tests)) (search (rules, tests)) _ c.in_err-may_follow.ensures)

pub returns-in_err-read-clause-reads : goal.returns-in_err-read-clause-reads
returns-in_err-read-clause-reads c world name user showing same of =
    let p = err_from_is_err_and c.from_residual-in_err-read.result c.from_residual-in_err-read.ensures.1 in
    rw (p.1, p.2)
    (block-refused c.args.told.schema.now world name user showing c.args.lines.now c.take_line.new.self
    c.in_ok-field.field c.in_ok-field.ensures.takes
    c.args.reason of (search (rules, tests)) (search (rules, tests)) {X = Unit {0}} c.read_refutation.new.lines (λ _. Ok (step showing [])) _
    c.in_ok-may_follow.ensures
    (c.in_err-read.ensures.reads c.args.told.schema.now world name user showing))

-- the refutation was confirmed, or wasn't
pub returns-then-branch-clause-reads : goal.returns-then-branch-clause-reads
returns-then-branch-clause-reads c world name user showing same of =
    block-ended c.args.told.schema.now world name user showing c.args.lines.now c.take_line.new.self
    c.in_ok-field.field c.in_ok-field.ensures.takes
    c.args.reason of (search (rules, tests)) (search (rules, tests)) c.read_refutation.new.lines c.in_ok-read.read.1 (lines_of c.in_ok-read.read.0) true
    c.in_ok-may_follow.ensures (c.in_ok-read.ensures.reads c.args.told.schema.now world name user showing)
    (sym c.if-branch.true
    ∙ confirmed-is c.args.told.schema.now _ (log (profile_of c.args.told.user.now) (map answered_query_of c.args.told.entries.now)) _
    (premise_of c.args.probe.now) (goal_of c.args.probe.now) showing.probe (lines_of c.in_ok-read.read.0) _ c.requires.view.0 c.requires.view.1 same
    c.in_ok-confirm.ensures.right)

pub returns-clause-reads : goal.returns-clause-reads
returns-clause-reads c world name user showing same of =
    block-ended c.args.told.schema.now world name user showing c.args.lines.now c.take_line.new.self
    c.in_ok-field.field c.in_ok-field.ensures.takes
    c.args.reason of (search (rules, tests)) (search (rules, tests)) c.read_refutation.new.lines c.in_ok-read.read.1 (lines_of c.in_ok-read.read.0) false
    c.in_ok-may_follow.ensures (c.in_ok-read.ensures.reads c.args.told.schema.now world name user showing)
    (sym c.if-branch.false
    ∙ confirmed-is c.args.told.schema.now _ (log (profile_of c.args.told.user.now) (map answered_query_of c.args.told.entries.now)) _
    (premise_of c.args.probe.now) (goal_of c.args.probe.now) showing.probe (lines_of c.in_ok-read.read.0) _ c.requires.view.0 c.requires.view.1 same
    c.in_ok-confirm.ensures.right)

-- ---- want of memory says nothing

pub returns-in_err-confirm-clause-reads : goal.returns-in_err-confirm-clause-reads
returns-in_err-confirm-clause-reads c world name user showing same of =
    let p = err_from_is_err_and c.from_residual-in_err-confirm.result c.from_residual-in_err-confirm.ensures.1 in
    rw (p.1, p.2) tt
