use Rattle.std.proofs.Common.{◌≡◌, ◌≤◌, ◌+◌, ◌∷◌, [], ◌++◌, map, sym, ap, subst, ◌∙◌, arith}
use Rattle.std.proofs.lemmas.Grind.{common_steps}
use Rattle.std.proofs.lemmas.List.{map-append}
use Rattle.cqe_base.specs.Formula.{formula_of}
use Rattle.case_engine.specs.Sound.{IsSound}
use Rattle.case_engine.specs.ScriptsRead.{script_is}
use Rattle.case_engine.proofs.Refusing.{secrecy_refused}
use Rattle.case_engine.proofs.Soundness.{sound_secrecy, kept_limits}
use Rattle.case_engine.proofs.script.Script.add_secrecy.Goals as goal

pub returns-then-not-keeps_limits-clause-refused : goal.returns-then-not-keeps_limits-clause-refused
returns-then-not-keeps_limits-clause-refused c =
    let self = c.args.self.now in
    let counted = c.nodes.ensures in
    let negated = c.saturating_add-count.ensures in
    let first = c.saturating_add.ensures in
    let second = c.saturating_add-2.ensures in
    let third = c.saturating_add-view_nodes.ensures in
    secrecy_refused (script_is self) self.schema self.view_nodes c.saturating_add-count.result c.saturating_add-view_nodes.result
    (formula_of c.in_ok-sentence.sentence) self.sound (λ few. omega (arith, counted, negated, few))
    (λ many. omega (arith, counted, negated, many)) c.law_views_without_entries.ensures
    _ c.in_ok-sentence.ensures.read (grind (arith, common_steps, first, second, third))
    (grind (arith, common_steps, c.keeps_limits.ensures, c.secret_count.ensures.count, c.if-not-keeps_limits.true))

pub invariant_of-self-2 : goal.invariant_of-self-2
invariant_of-self-2 c =
    let self = c.args.self.now in
    let q = formula_of c.in_ok-sentence.sentence in
    let n = self.view_nodes in
    let count = c.saturating_add-count.result in
    let total = c.saturating_add-view_nodes.result in
    let counted = c.nodes.ensures in
    let negated = c.saturating_add-count.ensures in
    let first = c.saturating_add.ensures in
    let second = c.saturating_add-2.ensures in
    let third = c.saturating_add-view_nodes.ensures in
    let kept = kept_limits count (c.secret_count.result + 1) total (sym c.keeps_limits.ensures ∙ c.if-not-keeps_limits.false) in
    let small : count ≤ 20000 = kept.0 in
    let few = kept.1 in
    let room : total ≤ 40000 = kept.2 in
    let is : total ≡ n + (count + (count + 1)) = omega (arith, first, second, third, room) in
    let secrets = c.secret_count.ensures.count in
    let pushed : map formula_of c.push.new.self.items ≡ map formula_of self.secrecies.items ++ q ∷ [] =
    ap (map formula_of) c.in_ok-push.ensures.items ∙ map-append formula_of self.secrecies.items (c.in_ok-sentence.sentence ∷ []) in
    record {
      sound = subst (λ l. IsSound (record (script_is self) { secrecies = l }) self.schema total) (sym pushed)
          (subst (λ m. IsSound (record (script_is self) { secrecies = map formula_of self.secrecies.items ++ q ∷ [] }) self.schema m) (sym is)
          (sound_secrecy (script_is self) self.schema n count q self.sound c.in_ok-sentence.ensures.sentence (omega (arith, counted, negated, small)) small
          (omega (arith, secrets, few)) (omega (arith, is, room)) c.law_views_without_entries.ensures));
    }
