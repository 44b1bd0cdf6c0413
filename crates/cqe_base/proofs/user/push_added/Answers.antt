use Rattle.std.proofs.Common.{◌≡◌, ℕ, ◌+◌, ◌<◌, ◌≤◌, List, [], ◌∷◌, ◌++◌, length, get_or, map, drop, sym, ap, ◌∙◌, append_assoc, append-nil, add-one, arith}
use Rattle.std.proofs.Math.Seq.{drop-cons}
use Rattle.std.proofs.lemmas.List.{drop_all}
use Rattle.cqe_base.specs.declared.user.Entry.{Entry}
use Rattle.cqe_base.specs.Formula.{formula_of}
use Rattle.cqe_base.specs.History.{answered_query_of, secrets_by, added_secrets}
use Rattle.cqe_base.proofs.user.push_added.Goals as goal

-- what the items from a place on add is what the one there adds, and what those behind it do
added_from : (entries : List Entry) (i : ℕ) (entry : Entry) → entry ≡ get_or entries i entry → i < length entries
    → added_secrets (map answered_query_of (drop i entries))
    ≡ secrets_by entry.mark (formula_of entry.query) ++ added_secrets (map answered_query_of (drop (i + 1) entries))
unfolding added_secrets
added_from entries i entry is low =
    ap (λ es. added_secrets (map answered_query_of es)) (drop-cons entries i entry low ∙ (λ k. sym is k ∷ drop (sym (add-one i) k) entries))

none_left : (entries : List Entry) (i : ℕ) → length entries ≤ i → added_secrets (map answered_query_of (drop i entries)) ≡ []
unfolding added_secrets
none_left entries i all = ap (λ es. added_secrets (map answered_query_of es)) (drop_all i entries all)

pub loop-entry-preserved : goal.loop-entry-preserved
loop-entry-preserved c =
    let rest = added_secrets (map answered_query_of (drop (c.loop-entry.entry-index + 1) c.args.entries.now)) in
    ap (λ secrets. secrets ++ rest) c.in_ok-push_if_added.ensures
    ∙ append_assoc (map formula_of c.loop-entry.secrets.items) (secrets_by c.entry-item.result.mark (formula_of c.entry-item.result.query)) rest
    ∙ ap (λ more. map formula_of c.loop-entry.secrets.items ++ more)
    (sym (added_from c.args.entries.now c.loop-entry.entry-index c.entry-item.result c.entry-item.is c.loop-entry-test.true))
    ∙ c.loop-entry.invariant

pub returns : goal.returns
returns c =
    sym (append-nil (map formula_of c.loop-entry.secrets.items))
    ∙ ap (λ more. map formula_of c.loop-entry.secrets.items ++ more)
    (sym (none_left c.args.entries.now c.loop-entry.entry-index (omega (arith, c.loop-entry-test.false))))
    ∙ c.loop-entry.invariant
