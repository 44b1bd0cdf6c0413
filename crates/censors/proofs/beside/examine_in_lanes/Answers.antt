use Rattle.std.proofs.Common.{rules, ◌≡◌, ◌<◌, List, All, map, length, sym, ap, subst, ◌∙◌, arith}
use Rattle.std.specs.Prelude.{Option, IfSome}
use Rattle.std.proofs.lemmas.List.{length-map}
use Rattle.std.proofs.lemmas.List.Elements.{All-weaker}
use Rattle.list_sums.proofs.Lent.{lent_whole}
use Rattle.cqe_base.specs.Formula.{Formula}
use Rattle.cqe_base.specs.History.{profile_of}
use Rattle.cqe_base.specs.Censor.{guarded}
use Rattle.entailment.specs.Views.{schema_of, log_of, IsViewOf}
use Rattle.entailment.specs.GroundSentences.{sentence_of}
use Rattle.censors.specs.declared.lent.Lane.{Lane}
use Rattle.censors.specs.declared.parts.PartFound.{PartFound}
use Rattle.censors.specs.declared.examination.Harms.{Harms}
use Rattle.censors.specs.Found.{HasFindings}
use Rattle.censors.specs.Asked.{AreHarms}
use Rattle.censors.specs.Lent.{first_view}
use Rattle.censors.specs.Parts.{start_of, CanBeAskedAt, question_of, gathered, harms_of}
use Rattle.censors.proofs.Found.{found_by}
use Rattle.censors.proofs.Lanes.{all_in, same_views}
use Rattle.censors.proofs.Gathering.{IsFoundUpTo, gathered_found, all_found, asked_alike, asked_guarded, each_found, guarded_few}
use Rattle.censors.proofs.beside.examine_in_lanes.Goals as goal

pub cut_of-cut-requires-clause-few : goal.cut_of-cut-requires-clause-few
cut_of-cut-requires-clause-few g c =
    let user = profile_of c.args.user.now in
    let few = guarded_few user.method user.secrets c.requires.can.fits.few_secrets in
    let shown = length-map c.sentences-goals.result.now sentence_of in
    let same = ap length (c.sentences-goals.ensures.sentences ∙ c.requires.can.guarded_are) in
    omega (arith, few, shown, same)

pub cut_of-cut-requires-clause-some : goal.cut_of-cut-requires-clause-some
cut_of-cut-requires-clause-some g c =
    let items = c.args.lanes.now.items in
    let some : 0 < length (map (λ (lane : Lane). lane.view) items) = c.requires.together.some in
    let shown = length-map items (λ (lane : Lane). lane.view) in
    omega (arith, some, shown, c.len.ensures)

pub run_all-requires-clause-some : goal.run_all-requires-clause-some
run_all-requires-clause-some g c _ _ =
    let items = c.args.lanes.now.items in
    let lent : c.deref_mut.result.now ≡ items = search rules in
    let some : 0 < length (map (λ (lane : Lane). lane.view) items) = c.requires.together.some in
    let shown = length-map items (λ (lane : Lane). lane.view) in
    omega (arith, some, shown, ap length lent)

pub run_all-requires-clause-can : goal.run_all-requires-clause-can
run_all-requires-clause-can g c _ _ =
    let items = c.args.lanes.now.items in
    let lent : c.deref_mut.result.now ≡ items = search rules in
    let first = first_view (map (λ (lane : Lane). lane.view) items) in
    let user = c.args.user.now in
    let query = c.args.query.now in
    let goals = c.sentences-goals.result.now in
    let can = asked_guarded user query goals c.args.guards.now first c.requires.can c.sentences-goals.ensures.sentences
    c.sentences-goals.ensures.grounded in
    subst (All (λ (lane : Lane). CanBeAskedAt user query goals lane.view)) (sym lent)
    (all_in (λ (lane : Lane). lane.view) (CanBeAskedAt user query goals) items
    (All-weaker (IsViewOf (schema_of first) (log_of first)) (CanBeAskedAt user query goals)
    (λ view alike. asked_alike user query goals first view alike can) (map (λ (lane : Lane). lane.view) items) c.requires.together.alike))

pub run_all-requires-clause-cut : goal.run_all-requires-clause-cut
run_all-requires-clause-cut g c _ _ = c.cut_of-cut.ensures.cut

pub run_all-requires-clause-few : goal.run_all-requires-clause-few
run_all-requires-clause-few g c _ _ =
    let user = profile_of c.args.user.now in
    let few = guarded_few user.method user.secrets c.requires.can.fits.few_secrets in
    let shown = length-map c.sentences-goals.result.now sentence_of in
    let same = ap length (c.sentences-goals.ensures.sentences ∙ c.requires.can.guarded_are) in
    omega (arith, few, shown, same)

-- the lanes are those that came back, with the views that they had
pub returns-in-Some-clause-same : goal.returns-in-Some-clause-same
returns-in-Some-clause-same g c =
    let items = c.args.lanes.now.items in
    let lent : c.deref_mut.result.now ≡ items = search rules in
    let count = c.run_all.ensures.count ∙ ap length lent in
    let whole = lent_whole c.args.lanes.now.len c.run_all.new.lanes items count (search rules) in
    ap (map (λ (lane : Lane). lane.view)) whole
    ∙ same_views c.run_all.new.lanes c.deref_mut.result.now c.run_all.ensures.count (λ k d low. (c.run_all.ensures.run k d low).view)
    ∙ ap (map (λ (lane : Lane). lane.view)) lent

pub returns-in-None-clause-same : goal.returns-in-None-clause-same
returns-in-None-clause-same g c =
    let items = c.args.lanes.now.items in
    let lent : c.deref_mut.result.now ≡ items = search rules in
    let count = c.run_all.ensures.count ∙ ap length lent in
    let whole = lent_whole c.args.lanes.now.len c.run_all.new.lanes items count (search rules) in
    ap (map (λ (lane : Lane). lane.view)) whole
    ∙ same_views c.run_all.new.lanes c.deref_mut.result.now c.run_all.ensures.count (λ k d low. (c.run_all.ensures.run k d low).view)
    ∙ ap (map (λ (lane : Lane). lane.view)) lent

pub returns-in-Some-clause-findings : goal.returns-in-Some-clause-findings
returns-in-Some-clause-findings g c =
    let items = c.args.lanes.now.items in
    let after = c.run_all.new.lanes in
    let lent : c.deref_mut.result.now ≡ items = search rules in
    let count = c.run_all.ensures.count ∙ ap length lent in
    let whole = lent_whole c.args.lanes.now.len after items count (search rules) in
    let first = first_view (map (λ (lane : Lane). lane.view) items) in
    let user = profile_of c.args.user.now in
    let query = sentence_of c.args.query.now in
    let goals = c.sentences-goals.result.now in
    let question = question_of c.args.user.now c.args.query.now goals (schema_of first) (log_of first) in
    let cut = c.cut_of-cut.result in
    let is_cut = c.cut_of-cut.ensures.cut in
    let alike = subst (All (λ (lane : Lane). IsViewOf (schema_of first) (log_of first) lane.view)) (sym lent)
    (all_in (λ (lane : Lane). lane.view) (IsViewOf (schema_of first) (log_of first)) items c.requires.together.alike) in
    let each = each_found c.args.user.now c.args.query.now goals cut (schema_of first) (log_of first) c.deref_mut.result.now after c.run_all.ensures.count alike
    c.run_all.ensures.run in
    let told : gathered (map (λ (lane : Lane). lane.found) after) ≡ c.gathered.result =
    ap (λ (l : List Lane). gathered (map (λ (lane : Lane). lane.found) l)) (sym (c.as_slice.ensures.value ∙ whole)) ∙ sym c.gathered.ensures in
    let up = subst (λ (o : Option PartFound). IfSome o (IsFoundUpTo cut (length after) question)) (told ∙ c.in-Some.is)
    (gathered_found (length goals) cut is_cut question after each) in
    let room : length items ≡ c.args.lanes.now.len = search rules in
    let many : length items ≡ c.len.result = omega (arith, room, c.len.ensures) in
    let ends = ap (start_of cut) (count ∙ many) ∙ c.cut_of-cut.ensures.end in
    let both = all_found (length goals) cut is_cut question (length after) c.in-Some.all ends (sym (length-map goals sentence_of)) up in
    let same = c.sentences-goals.ensures.sentences ∙ c.requires.can.guarded_are in
    let harms = subst (λ (h : Harms). AreHarms (schema_of first) user.budget (log_of first) query (guarded user) h) (sym c.harms_of.ensures)
    (subst (λ (l : List Formula). AreHarms (schema_of first) user.budget (log_of first) query l (harms_of c.in-Some.all.yes c.in-Some.all.no)) same both.1) in
    subst (HasFindings (schema_of first) user (log_of first) query) (sym c.found.ensures)
    (found_by (schema_of first) user (log_of first) query c.in-Some.all.implied both.0 c.harms_of.result harms)
