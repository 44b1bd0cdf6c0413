use Rattle.std.proofs.Common.{◌≡◌, ◌∷◌, ◌∙◌, sym, ap, subst, rules, true, false, Some}
use Rattle.std.specs.Prelude.{string_bytes}
use Rattle.toml.specs.View.{members_view}
use Rattle.cqe_base.specs.Schema.{contains_text}
use Rattle.policy_files.specs.Tree.{unknown_key}
use Rattle.policy_files.specs.Keys.{keys_at}
use Rattle.policy_files.proofs.Ordered.{Ascend, unknown_first, unknown_behind, rest_ascends}
use Rattle.policy_files.proofs.keys.unknown_key_in.Goals as goal

pub returns-then-not-is_key_at : goal.returns-then-not-is_key_at
returns-then-not-is_key_at c =
    let first : c.loop-key.key-iterator ≡ (c.in-Some.key.now, c.in-Some._value.now) ∷ c.next.new.self = search rules in
    let new : contains_text (keys_at c.args.version c.args.user) (string_bytes c.in-Some.key.now) ≡ false = search rules in
    let text : c.as_str-then-not-is_key_at.result.now ≡ string_bytes c.in-Some.key.now = search rules in
    ap Some text
    ∙ sym (unknown_first (keys_at c.args.version c.args.user) (c.in-Some.key.now, c.in-Some._value.now) c.next.new.self
    (subst Ascend first c.loop-key.invariant.ascend) new)
    ∙ ap (λ m. unknown_key (keys_at c.args.version c.args.user) (members_view m)) (sym first) ∙ c.loop-key.invariant.left

pub loop-key-preserved : goal.loop-key-preserved
loop-key-preserved c =
    let first : c.loop-key.key-iterator ≡ (c.in-Some.key.now, c.in-Some._value.now) ∷ c.next.new.self = search rules in
    let old : contains_text (keys_at c.args.version c.args.user) (string_bytes c.in-Some.key.now) ≡ true = search rules in
    record {
      left = sym (unknown_behind (keys_at c.args.version c.args.user) (c.in-Some.key.now, c.in-Some._value.now) c.next.new.self old)
          ∙ ap (λ m. unknown_key (keys_at c.args.version c.args.user) (members_view m)) (sym first) ∙ c.loop-key.invariant.left;
      ascend = rest_ascends (c.in-Some.key.now, c.in-Some._value.now) c.next.new.self (subst Ascend first c.loop-key.invariant.ascend);
    }
