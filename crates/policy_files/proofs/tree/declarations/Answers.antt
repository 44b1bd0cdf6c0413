use Rattle.std.proofs.Common.{◌≡◌, ◌∷◌, ◌++◌, ◌∙◌, [], sym, ap, subst, map, List, append_assoc, rules}
use Rattle.std.specs.Prelude.{string_bytes}
use Rattle.std.proofs.lemmas.List.{map-append}
use Rattle.toml.specs.View.{view, members_view}
use Rattle.cqe_base.specs.Schema.{Declaration}
use Rattle.cqe_base.specs.Memory.{declaration_of}
use Rattle.policy_files.specs.Tree.{declarations, texts_in}
use Rattle.policy_files.proofs.Ordered.{Ascend, declared_first, rest_ascends}
use Rattle.policy_files.proofs.tree.declarations.Goals as goal

pub loop-key-preserved : goal.loop-key-preserved
loop-key-preserved c =
    let first : c.loop-key.key-iterator ≡ (c.in-Some.key.now, c.in-Some.value.now) ∷ c.next.new.self = search rules in
    let made : declaration_of c.in_ok-declaration.field-0 ≡ record {
      name =
          string_bytes c.in-Some.key.now;
      parts = texts_in (view c.in-Some.value.now);
    } = search rules in
    let grown : c.push.new.self.items ≡ c.loop-key.declared.items ++ c.in_ok-declaration.field-0 ∷ [] = search rules in
    let behind = declarations (members_view c.next.new.self) in
    let ascend = subst Ascend first c.loop-key.invariant.ascend in
    record {
      left = ap (λ items. map declaration_of items ++ behind) grown
          ∙ ap (λ (l : List Declaration). l ++ behind) (map-append declaration_of c.loop-key.declared.items (c.in_ok-declaration.field-0 ∷ []))
          ∙ append_assoc (map declaration_of c.loop-key.declared.items) (declaration_of c.in_ok-declaration.field-0 ∷ []) behind
          ∙ ap (λ (d : Declaration). map declaration_of c.loop-key.declared.items ++ d ∷ behind) made
          ∙ ap (λ (l : List Declaration). map declaration_of c.loop-key.declared.items ++ l)
          (sym (declared_first (c.in-Some.key.now, c.in-Some.value.now) c.next.new.self ascend))
          ∙ ap (λ m. map declaration_of c.loop-key.declared.items ++ declarations (members_view m)) (sym first) ∙ c.loop-key.invariant.left;
      ascend = rest_ascends (c.in-Some.key.now, c.in-Some.value.now) c.next.new.self ascend;
    }
