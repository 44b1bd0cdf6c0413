use Rattle.std.proofs.Common.{◌≡◌, List, [], ◌++◌, ℕ, Option, Some, None, append-nil, length, refl, sym, ap, subst, slice_get, string_bytes, ◌∙◌}
use Rattle.std.specs.Prelude.{OnOk, OnErr}
use Rattle.std.proofs.lemmas.Option.{slice_get_read, slice_get_past}
use Rattle.outside.specs.Streams.{AppendsPart}
use Rattle.cqe_base.specs.declared.user.User.{User}
use Rattle.cqe_top.specs.Complaints.{cause_line, user_line}
use Rattle.cqe_top.proofs.complaint.give_user.Goals as goal

-- the line that is given is that of the user who was found
line_is : (found : Option User) (user : User) (name cause more : List ℕ) → found ≡ Some user → name ≡ string_bytes user.name → more ≡ []
    → cause_line name (cause ++ more) ≡ user_line found cause
line_is found user name cause more is named none =
    ap (λ m. cause_line name (cause ++ m)) none ∙ ap (cause_line name) (append-nil cause) ∙ ap (λ n. cause_line n cause) named
    ∙ ap (λ one. user_line one cause) (sym is)

pub returns-in-Some-clause-all : goal.returns-in-Some-clause-all
returns-in-Some-clause-all g c = λ told.
    let look = c.in-Some.ensures.lookup in
    let found = slice_get_read c.args.users.now (length c.args.users.now) c.args.number c.in-Some.user.now refl look.3.0 look.1 in
    subst (λ text. OnOk c.give_cause.result (g.E.Sink.written c.give_cause.new.complaints ≡ g.E.Sink.written c.args.complaints.now ++ text))
    (line_is (slice_get c.args.users.now c.args.number) c.in-Some.user.now c.as_str.result.now c.args.cause c.new.result found c.as_str.ensures.value
    c.new.ensures)
    (c.give_cause.ensures.all told)

pub returns-in-Some-clause-part : goal.returns-in-Some-clause-part
returns-in-Some-clause-part g c = λ told.
    let look = c.in-Some.ensures.lookup in
    let found = slice_get_read c.args.users.now (length c.args.users.now) c.args.number c.in-Some.user.now refl look.3.0 look.1 in
    subst (λ text. OnErr c.give_cause.result (AppendsPart (g.E.Sink.written c.args.complaints.now) (g.E.Sink.written c.give_cause.new.complaints) text))
    (line_is (slice_get c.args.users.now c.args.number) c.in-Some.user.now c.as_str.result.now c.args.cause c.new.result found c.as_str.ensures.value
    c.new.ensures)
    (c.give_cause.ensures.part told)

pub returns-in-None-clause-all : goal.returns-in-None-clause-all
returns-in-None-clause-all g c = λ told.
    let none : None ≡ slice_get c.args.users.now c.args.number = sym (slice_get_past c.args.users.now c.args.number c.in-None.ensures.lookup.3) in
    subst (λ user. g.E.Sink.written c.args.complaints.now
    ≡ g.E.Sink.written c.args.complaints.now ++ user_line user c.args.cause) none (sym (append-nil (g.E.Sink.written c.args.complaints.now)))
