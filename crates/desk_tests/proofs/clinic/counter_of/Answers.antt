use Rattle.std.proofs.Common.{ap, sym, ◌∙◌, subst}
use Rattle.cqe_base.specs.Schema.{is_valid_schema}
use Rattle.cqe_base.specs.History.{is_history_of}
use Rattle.cqe_base.specs.Censor.{IsLegal}
use Rattle.user_desk.specs.Desks.{desk_schema, desk_world, desk_user}
use Rattle.session_core.specs.Members.{HasSeenLegal}
use Rattle.desk_tests.proofs.clinic.counter_of.Goals as goal

-- the counter's history is the desk's, which is legal and within the limits
pub returns-clause-legal : goal.returns-clause-legal
returns-clause-legal g c =
    let desk = c.desk_on-desk.result in
    let made = c.in-Ok.ensures in
    let known = c.known-2.ensures in
    subst (λ fixed. HasSeenLegal fixed c.in-Ok.counter.1) (sym made.kept) (record {
      valid = ap is_valid_schema c.desk_on-desk.ensures.schema ∙ c.known.ensures;
      user_of = known.limits.sentences;
      admits = known.admits;
      legal = subst (λ history. IsLegal (desk_schema desk) (desk_world desk) (desk_user desk) history) (sym made.history) known.legal;
      sentences = ap (λ history. is_history_of (desk_schema desk) history) made.history ∙ c.law_sizes.ensures.of_schema _ _ _ known.sizes;
      last = made.last;
    })
