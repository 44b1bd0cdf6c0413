use Rattle.std.proofs.Common.{◌≡◌, ◌++◌, ◌∷◌, [], length, map, ap, sym, subst, arith}
use Rattle.cqe_base.specs.Formula.{formula_of}
use Rattle.cqe_base.specs.History.{AnsweredQuery, History, profile_of, answered_query_of}
use Rattle.cqe_base.specs.Censor.{IsLegal, IsLegalItem}
use Rattle.cqe_base.specs.Limits.{KeepsSizes, KeepsSizesAt}
use Rattle.user_log.proofs.Keeping.{answer_fits, sizes_push}
use Rattle.user_log.proofs.log.UserLog.prepare.Goals as goal

pub told_nodes-nodes-requires : goal.told_nodes-nodes-requires
told_nodes-nodes-requires c =
    let log = c.args.self.now in
    let fits = answer_fits _ _ _ _ _ _ _ c.law_reading.ensures.of_schema c.law_rules_add_none.ensures c.requires.answer in
    let small = c.law_limits.ensures.queries log.schema.now (profile_of log.user.now) (map answered_query_of log.entries.items) (formula_of c.args.query)
    log.kept.limits fits.0.small in
    small.query_nodes

pub behind-requires : goal.behind-requires
behind-requires c =
    let log = c.args.self.now in
    let entry : AnsweredQuery = record { query = formula_of c.args.query; mark = c.args.mark; length = length c.args.text.now } in
    let fits = answer_fits _ _ _ _ _ _ _ c.law_reading.ensures.of_schema c.law_rules_add_none.ensures c.requires.answer in
    let same : map answered_query_of log.entries.items ≡ map answered_query_of c.reserve.new.self.items =
    ap (λ l. map answered_query_of l) (sym c.reserve.ensures.items) in
    subst (λ (h : History). KeepsSizesAt log.schema.now (profile_of log.user.now) h entry) same fits.0

pub returns-clause-prepared : goal.returns-clause-prepared
returns-clause-prepared c =
    let log = c.args.self.now in
    let entry : AnsweredQuery = record { query = formula_of c.args.query; mark = c.args.mark; length = length c.args.text.now } in
    let fits = answer_fits _ _ _ _ _ _ _ c.law_reading.ensures.of_schema c.law_rules_add_none.ensures c.requires.answer in
    let same : map answered_query_of log.entries.items ≡ map answered_query_of c.reserve.new.self.items =
    ap (λ l. map answered_query_of l) (sym c.reserve.ensures.items) in
    record {
      room = omega (arith, c.in_ok-reserve.ensures.ok);
      view_room = c.in_ok-reserve-2.ensures.room;
      told = c.in_ok-told.ensures;
      nodes = c.told_nodes-nodes.ensures;
      sizes = subst (λ (h : History). KeepsSizesAt log.schema.now (profile_of log.user.now) h entry) same fits.0;
      legal = subst (λ (h : History). IsLegalItem log.schema.now log.world.now (profile_of log.user.now) h entry) same fits.1;
      amended = c.in_ok-amended.ensures;
    }

pub returns-clause-legal : goal.returns-clause-legal
returns-clause-legal c =
    let log = c.args.self.now in
    let entry : AnsweredQuery = record { query = formula_of c.args.query; mark = c.args.mark; length = length c.args.text.now } in
    let fits = answer_fits _ _ _ _ _ _ _ c.law_reading.ensures.of_schema c.law_rules_add_none.ensures c.requires.answer in
    let same : map answered_query_of log.entries.items ≡ map answered_query_of c.reserve.new.self.items =
    ap (λ l. map answered_query_of l) (sym c.reserve.ensures.items) in
    subst (λ (h : History). IsLegal log.schema.now log.world.now (profile_of log.user.now) (h ++ entry ∷ [])) same
    (c.law_legal_grows.ensures.grows log.schema.now log.world.now (profile_of log.user.now)
    (map answered_query_of log.entries.items) entry log.kept.legal fits.1)

pub returns-clause-sizes : goal.returns-clause-sizes
returns-clause-sizes c =
    let log = c.args.self.now in
    let entry : AnsweredQuery = record { query = formula_of c.args.query; mark = c.args.mark; length = length c.args.text.now } in
    let fits = answer_fits _ _ _ _ _ _ _ c.law_reading.ensures.of_schema c.law_rules_add_none.ensures c.requires.answer in
    let same : map answered_query_of log.entries.items ≡ map answered_query_of c.reserve.new.self.items =
    ap (λ l. map answered_query_of l) (sym c.reserve.ensures.items) in
    subst (λ (h : History). KeepsSizes log.schema.now (profile_of log.user.now) (h ++ entry ∷ [])) same
    (sizes_push log.schema.now (profile_of log.user.now) (map answered_query_of log.entries.items) entry log.kept.sizes fits.0)
