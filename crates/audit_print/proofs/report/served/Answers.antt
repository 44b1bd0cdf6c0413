use Rattle.std.proofs.Common.{◌≡◌, length, map, ◌∙◌, sym, ap, subst, arith}
use Rattle.std.specs.Prelude.{vec_len, IfSome}
use Rattle.std.proofs.lemmas.List.{length-map}
use Rattle.std.proofs.lemmas.List.FromFn.{length-map-range_with_len}
use Rattle.std.specs.List.{list_all}
use Rattle.cqe_base.specs.Facts.{IsWorldOf}
use Rattle.cqe_base.specs.Formula.{formula_of, is_sentence_of}
use Rattle.cqe_base.specs.Secrecies.{HasPairs}
use Rattle.audit_text.specs.Rows.{secret_in}
use Rattle.audit_print.specs.Found.{found_at}
use Rattle.audit_print.specs.Said.{secret_said}
use Rattle.cqe_base.specs.History.{UserProfile, AnsweredQuery, profile_of, answered_query_of, user_at}
use Rattle.user_desk.specs.Desks.{desk_schema, desk_world, desk_user, desk_history}
use Rattle.audit_print.proofs.Auditing.{somewhere, of_schema}
use Rattle.audit_print.proofs.Each.{sentences}
use Rattle.audit_print.proofs.report.served.Goals as goal

pub other_worlds-requires-clause-legal : goal.other_worlds-requires-clause-legal
other_worlds-requires-clause-legal g c =
    let desk = c.args.desk.now in
    somewhere c.args.schema.now (desk_schema desk) (desk_world desk) (profile_of c.args.user.now) (desk_user desk) _
    (desk_history desk) c.requires.schema c.requires.user c.entries-items.ensures
    (c.known.ensures.admits c.requires.open) c.known.ensures.legal

pub entry_rows-requires : goal.entry_rows-requires
entry_rows-requires g c =
    let desk = c.args.desk.now in
    (λ i. list_all (λ (e : AnsweredQuery). is_sentence_of (c.requires.schema i) e.query) (c.entries-items.ensures i))
    ∙ sentences (desk_schema desk) (desk_user desk) (desk_history desk) c.known.ensures.sizes

pub secret_rows-requires-clause-sentences : goal.secret_rows-requires-clause-sentences
secret_rows-requires-clause-sentences g c =
    let desk = c.args.desk.now in
    let is : profile_of c.in_ok-current.current ≡ user_at (desk_user desk) (desk_history desk) =
    c.in_ok-current.ensures ∙ (λ i. user_at (c.requires.user i) (c.entries-items.ensures i)) in
    let fits = c.law_amended_limits.ensures.probes (desk_schema desk) (desk_user desk) (desk_history desk) c.known.ensures.limits c.known.ensures.sizes in
    (λ i. list_all (is_sentence_of (c.requires.schema i)) (is i).secrets) ∙ fits.secret_sentences

pub secret_rows-requires-clause-of_schema : goal.secret_rows-requires-clause-of_schema
secret_rows-requires-clause-of_schema g c k low =
    let current = c.in_ok-current.current in
    let many = ap (λ (u : UserProfile). length u.secrets) c.in_ok-current.ensures in
    let sized = length-map current.secrets.items formula_of in
    let each = c.in_ok-worlds.ensures.others.each k (omega (arith, low, many, sized, current.secrets.ok.0)) in
    subst (λ found. IfSome (found_at current.method found k) (IsWorldOf c.args.schema.now)) (sym c.deref.ensures.value)
    (of_schema c.args.schema.now (profile_of c.args.user.now) (map answered_query_of c.entries-items.result.now) k
    (found_at current.method c.in_ok-worlds.worlds.items k) each.hides)

pub secrecy_rows-requires : goal.secrecy_rows-requires
secrecy_rows-requires g c =
    let current = c.in_ok-current.current in
    let rows = c.in_ok-secrets.secrets in
    let said = c.in_ok-secrets.ensures in
    let pairs = subst HasPairs (sym c.requires.user) c.known.ensures.limits.pairs in
    let enough = (c.law_pairs.ensures.stay (profile_of c.args.user.now) (map answered_query_of c.entries-items.result.now) pairs).enough in
    let many = ap (λ (u : UserProfile). length u.secrets) c.in_ok-current.ensures in
    let secrets = length-map current.secrets.items formula_of in
    let told = ap length said.whole in
    let numbered = length-map-range_with_len (secret_said c.args.schema.now (profile_of current) said.listings) 0 (vec_len current.secrets) in
    let rows_said = length-map rows.items secret_in in
    omega (arith, enough, many, secrets, told, numbered, rows_said, current.secrets.ok.0, rows.ok.0)
