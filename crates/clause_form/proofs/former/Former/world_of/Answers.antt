use Rattle.std.proofs.Common.{rules, ◌≡◌, ℕ, ◌<◌, ◌++◌, ◌∷◌, [], List, Some, true, map, length, length-append, sym, ap, ◌∙◌, subst, arith}
use Rattle.std.specs.Prelude.{slice_get}
use Rattle.std.specs.List.{list_all}
use Rattle.std.specs.Map.Iter.{deref_pair}
use Rattle.std.specs.FinSet as set
use Rattle.std.proofs.lemmas.List.{map-append}
use Rattle.std.proofs.lemmas.Map.Iter.{iter_turn, iter_end}
use Rattle.cqe_base.specs.declared.world.Fact.{Fact}
use Rattle.cqe_base.specs.Facts.{is_fact_of, fact_cmp}
use Rattle.cqe_base.specs.Literal.{sign_at}
use Rattle.cqe_base.specs.ClauseForm.{world_of}
use Rattle.clause_form.specs.Forms.{Form}
use Rattle.clause_form.specs.Inside.{numbered_facts}
use Rattle.clause_form.proofs.FactSigns.{true_facts, HasFacts, fact_joins, len_joins, world_has, passes_at}
use Rattle.clause_form.proofs.ModelWorlds.{models-of-form}
use Rattle.clause_form.proofs.former.Former.world_of.Goals as goal

pub loop-fact-init : goal.loop-fact-init
loop-fact-init c = record {
  members = λ q. ap (λ w. set.contains w q) c.new-world.ensures ∙ set.contains-empty fact_cmp q;
  few = let e = ap set.len c.new-world.ensures ∙ set.len-empty fact_cmp in omega arith;
}

pub add_fact-requires-clause-of_schema : goal.add_fact-requires-clause-of_schema
add_fact-requires-clause-of_schema c =
    let entries = c.self.inside.facts.entries in
    let turn : (length c.loop-fact.yielded < length entries)
    × (slice_get entries (length c.loop-fact.yielded) ≡ Some (c.in-Some.fact.now, c.in-Some.number.now)) = search (rules, iter_turn) in
    passes_at (is_fact_of c.args.schema.now) entries (length c.loop-fact.yielded) (c.in-Some.fact.now, c.in-Some.number.now)
    (subst (λ (f : Form). list_all (λ e. is_fact_of c.args.schema.now e.fact) f.numbering.facts ≡ true) (sym c.self.view_is) c.requires.of_schema) turn.1

pub loop-fact-preserved-in-Continue-1 : goal.loop-fact-preserved-in-Continue-1
loop-fact-preserved-in-Continue-1 c =
    let yielded = c.loop-fact.yielded in
    let signs = sign_at c.args.model.now.values.items in
    let sign : signs c.in-Some.number.now ≡ true = sym c.sign_of.ensures ∙ c.if-sign_of.true in
    let turned : map deref_pair (yielded ++ (c.in-Some.fact, c.in-Some.number) ∷ [])
    ≡ map deref_pair yielded ++ (c.in-Some.fact.now, c.in-Some.number.now) ∷ [] = map-append deref_pair yielded ((c.in-Some.fact, c.in-Some.number) ∷ []) in
    record {
      members =
          subst (λ (es : List (Fact × ℕ)). HasFacts c.add_fact.new.world (true_facts (numbered_facts es) signs)) (sym turned)
          (fact_joins c.loop-fact.world c.add_fact.new.world
          (map deref_pair yielded) c.in-Some.fact.now c.in-Some.number.now signs c.loop-fact.invariant.members sign c.in_ok-add_fact.ensures);
      few =
          let one = len_joins c.loop-fact.world c.add_fact.new.world c.in-Some.fact.now c.in_ok-add_fact.ensures in
          let before = c.loop-fact.invariant.few in
          let longer = length-append yielded ((c.in-Some.fact, c.in-Some.number) ∷ []) in
          omega arith;
    }

pub returns-clause-world : goal.returns-clause-world
returns-clause-world c =
    let entries = c.self.inside.facts.entries in
    let signs = sign_at c.args.model.now.values.items in
    let all : map deref_pair c.loop-fact.yielded ≡ entries = search (rules, iter_end) in
    world_has c.loop-fact.world (numbered_facts entries) signs
    (subst (λ (es : List (Fact × ℕ)). HasFacts c.loop-fact.world (true_facts (numbered_facts es) signs)) all c.loop-fact.invariant.members)
    ∙ ap (λ (f : Form). world_of f.numbering.facts signs) c.self.view_is

pub returns-clause-models : goal.returns-clause-models
returns-clause-models c =
    models-of-form c.law_models_are_worlds_of_schema.ensures c.args.schema.now c.args.self.now c.known.ensures
