use Rattle.std.proofs.Common.{◌≡◌, ◌&&◌, Bool, true, false, ℕ, List, length, drop, ap, sym, ◌∙◌, rules}
use Rattle.std.proofs.lemmas.List.{drop-drop}
use Rattle.standby_core.specs.Frames.{agree}
use Rattle.standby_core.proofs.Framing.{agree-both}
use Rattle.standby_core.proofs.frame.has_header.Goals as goal

pub returns-then-has_policy-clause-same : goal.returns-then-has_policy-clause-same
returns-then-has_policy-clause-same c =
    let bytes = c.args.bytes.now in
    let header = c.args.header.now in
    let size : length header.policy ≡ 32 = search rules in
    let policy : agree (drop 8 bytes) header.policy ≡ true =
    sym (c.agrees-has_policy.ensures ∙ ap (λ (l : List ℕ). agree l header.policy) c.behind.ensures) ∙ c.if-has_policy.true in
    let facts : c.agrees-has_facts.result ≡ agree (drop (length header.policy) (drop 8 bytes)) header.facts =
    c.agrees-has_facts.ensures ∙ ap (λ (l : List ℕ). agree l header.facts) (c.behind-2.ensures ∙ sym (drop-drop 32 8 bytes))
    ∙ ap (λ (n : ℕ). agree (drop n (drop 8 bytes)) header.facts) (sym size) in
    facts ∙ sym (agree-both (drop 8 bytes) header.policy header.facts
    ∙ ap (λ (b : Bool). b && agree (drop (length header.policy) (drop 8 bytes)) header.facts) policy)

pub returns-else-has_policy-clause-same : goal.returns-else-has_policy-clause-same
returns-else-has_policy-clause-same c =
    let bytes = c.args.bytes.now in
    let header = c.args.header.now in
    let policy : agree (drop 8 bytes) header.policy ≡ false =
    sym (c.agrees-has_policy.ensures ∙ ap (λ (l : List ℕ). agree l header.policy) c.behind.ensures) ∙ c.if-has_policy.false in
    c.if-has_policy.false ∙ sym (agree-both (drop 8 bytes) header.policy header.facts
    ∙ ap (λ (b : Bool). b && agree (drop (length header.policy) (drop 8 bytes)) header.facts) policy)
