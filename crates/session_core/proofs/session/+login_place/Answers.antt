use Rattle.std.proofs.Common.{refl, sym, ap, ◌∙◌}
use Rattle.std.specs.Prelude.{bytes_eq}
use Rattle.session_core.proofs.Talking.{logs_here, logs_further}
use Rattle.session_core.proofs.session.+login_place.Goals as goal

pub returns-then-login_ok-clause-place : goal.returns-then-login_ok-clause-place
returns-then-login_ok-clause-place t c =
    logs_here c.args.name.now c.args.phrase.now c.args.users.now c.user-item.result c.in-len1-up.len_at_least c.user-item.is
    (ap (λ n. bytes_eq n c.args.name.now) (sym c.as_str.ensures.value) ∙ sym c.eq.ensures ∙ c.if-eq.true) (c.if-login_ok.ensures.0 refl)

pub returns-in-Some-clause-place : goal.returns-in-Some-clause-place
returns-in-Some-clause-place t c =
    logs_further c.args.name.now c.args.phrase.now c.args.users.now c.user-item.result c.in-Some.place c.in-len1-up.len_at_least c.user-item.is
    (ap (λ n. bytes_eq n c.args.name.now) (sym c.as_str.ensures.value) ∙ sym c.eq.ensures ∙ c.if-eq.false) c.in-Some.ensures.place
