use Rattle.std.proofs.Common.{Ok, refl, sym, ◌∙◌, rules, tests}
use Rattle.std.specs.Prelude.{string_bytes}
use Rattle.std.proofs.lemmas.Result.{err_from_is_err_and}
use Rattle.cqe_base.specs.History.{profile_of}
use Rattle.dossier.specs.Checked.{head, admission}
use Rattle.dossier.specs.Reading.{field_said}
use Rattle.dossier.proofs.ItemLines.{line-missing, line-says, head-form, head-open, head-closed, head-sealed, head-other}
use Rattle.dossier.proofs.checking.read_head.Goals as goal

pub returns-in_err-field-clause-reads : goal.returns-in_err-field-clause-reads
returns-in_err-field-clause-reads c schema world =
    let p = err_from_is_err_and c.from_residual.result c.from_residual.ensures.1 in
    rw (p.1, p.2)
    (line-missing schema world (string_bytes c.args.user.now.name) (profile_of c.args.user.now) {X = Unit {0}} head c.args.lines.now c.take_line.new.self
    (λ _. Ok admission) _ refl c.in_err-field.ensures.takes)

-- the line isn't that of a user
pub returns-then-not-named-clause-reads : goal.returns-then-not-named-clause-reads
returns-then-not-named-clause-reads c schema world =
    line-says schema world (string_bytes c.args.user.now.name) (profile_of c.args.user.now) head c.args.lines.now c.take_line.new.self
    c.in_ok-field.field _ c.in_ok-field.ensures.takes
    (head-form schema world (string_bytes c.args.user.now.name) (profile_of c.args.user.now) (field_said c.in_ok-field.field) (search (rules, tests)))

-- he is this one, and open
pub returns-then-branch-clause-reads : goal.returns-then-branch-clause-reads
returns-then-branch-clause-reads c schema world =
    line-says schema world (string_bytes c.args.user.now.name) (profile_of c.args.user.now) head c.args.lines.now c.take_line.new.self
    c.in_ok-field.field _ c.in_ok-field.ensures.takes
    (head-open schema world (string_bytes c.args.user.now.name) (profile_of c.args.user.now) (field_said c.in_ok-field.field) (search (rules, tests))
    (sym c.in_ok-says_head.ensures ∙ search (rules, tests)))

-- closed, or sealed
pub returns-then-closed-clause-reads : goal.returns-then-closed-clause-reads
returns-then-closed-clause-reads c schema world =
    line-says schema world (string_bytes c.args.user.now.name) (profile_of c.args.user.now) head c.args.lines.now c.take_line.new.self
    c.in_ok-field.field _ c.in_ok-field.ensures.takes
    (head-closed schema world (string_bytes c.args.user.now.name) (profile_of c.args.user.now) (field_said c.in_ok-field.field) (search (rules, tests))
    (sym c.in_ok-says_head.ensures ∙ search (rules, tests))
    (sym c.in_ok-closed.ensures ∙ search (rules, tests)))

pub returns-then-sealed-clause-reads : goal.returns-then-sealed-clause-reads
returns-then-sealed-clause-reads c schema world =
    line-says schema world (string_bytes c.args.user.now.name) (profile_of c.args.user.now) head c.args.lines.now c.take_line.new.self
    c.in_ok-field.field _ c.in_ok-field.ensures.takes
    (head-sealed schema world (string_bytes c.args.user.now.name) (profile_of c.args.user.now) (field_said c.in_ok-field.field) (search (rules, tests))
    (sym c.in_ok-says_head.ensures ∙ search (rules, tests))
    (sym c.in_ok-closed.ensures ∙ search (rules, tests))
    (sym c.in_ok-sealed.ensures ∙ search (rules, tests)))

-- the line of another user, or of none
pub returns-clause-reads : goal.returns-clause-reads
returns-clause-reads c schema world =
    line-says schema world (string_bytes c.args.user.now.name) (profile_of c.args.user.now) head c.args.lines.now c.take_line.new.self
    c.in_ok-field.field _ c.in_ok-field.ensures.takes
    (head-other schema world (string_bytes c.args.user.now.name) (profile_of c.args.user.now) (field_said c.in_ok-field.field) (search (rules, tests))
    (sym c.in_ok-says_head.ensures ∙ search (rules, tests))
    (sym c.in_ok-closed.ensures ∙ search (rules, tests))
    (sym c.in_ok-sealed.ensures ∙ search (rules, tests)))

-- ---- want of memory says nothing

pub returns-in_err-says_head-clause-reads : goal.returns-in_err-says_head-clause-reads
returns-in_err-says_head-clause-reads c schema world =
    let p = err_from_is_err_and c.from_residual-in_err-says_head.result c.from_residual-in_err-says_head.ensures.1 in
    rw (p.1, p.2) tt

pub returns-in_err-closed-clause-reads : goal.returns-in_err-closed-clause-reads
returns-in_err-closed-clause-reads c schema world =
    let p = err_from_is_err_and c.from_residual-in_err-closed.result c.from_residual-in_err-closed.ensures.1 in
    rw (p.1, p.2) tt

pub returns-in_err-sealed-clause-reads : goal.returns-in_err-sealed-clause-reads
returns-in_err-sealed-clause-reads c schema world =
    let p = err_from_is_err_and c.from_residual-in_err-sealed.result c.from_residual-in_err-sealed.ensures.1 in
    rw (p.1, p.2) tt
