-- An instance is a sentence, and its text reads back as it.
use Rattle.std.proofs.Common.{◌≡◌, ℕ, ◌+◌, ◌-◌, ◌^◌, ◌<◌, ◌≤◌, min, Bool, true, false}
use Rattle.std.proofs.Common.{length, Result, Ok, Err, IfOk, String, string_bytes, string_len, refl, sym, ap}
use Rattle.std.proofs.Common.{subst, ltb, arith}
use Rattle.std.proofs.lemmas.Bool.{ltb-true, ltb-false}
use Rattle.std.specs.declared.alloc.Global.{Global}
use Rattle.std.specs.declared.alloc.AllocError.{AllocError}
use Rattle.cqe_base.specs.Schema.{DatabaseSchema}
use Rattle.cqe_base.specs.Formula.{Formula, is_sentence_of}
use Rattle.cqe_base.specs.Canonical.{enclosing_constructs}
use Rattle.cqe_base.specs.Reading.{reading}
use Rattle.open_queries.specs.Instances.{OpenQuery, IsOpenQueryOf, ReadsBackAs, instances, instance_of, instance_text, constants_of_instance}
use Rattle.open_queries.specs.Opening.{CanBeAsked}
use Rattle.open_queries.proofs.Filled.{filled_is_sentence, filled_constructs}
use Rattle.open_queries.proofs.Choices.{choice_is_of}

pub instance_is_sentence : (schema : DatabaseSchema) (query : OpenQuery) (number : ℕ) → IsOpenQueryOf schema query → number < instances schema query
    → is_sentence_of schema (instance_of schema query number) ≡ true
instance_is_sentence schema query number of low =
    filled_is_sentence schema query.domains (constants_of_instance schema query number) (choice_is_of schema query.domains number low) query.body of.body

-- where what was printed is an instance, what reads back as it does so as the instance
pub reads_back : (schema : DatabaseSchema) (a b : Formula) (r : Result (String Global) AllocError) → a ≡ b
    → (enclosing_constructs a ≤ 64 → IfOk r (λ text. reading schema (string_bytes text) ≡ Ok a)) → IfOk r (λ text. ReadsBackAs schema (string_bytes text) b)
reads_back schema a b (Ok text) same reads =
    λ shallow. subst (λ x. reading schema (string_bytes text) ≡ Ok x) same (reads (subst (λ x. enclosing_constructs x ≤ 64) (sym same) shallow))
reads_back schema a b (Err e) same reads = tt

-- ---- which instances can be asked

bytes_counted : (text : String Global) → string_len text ≡ length (string_bytes text)
bytes_counted text = text.bytes.ok.0

module _ (schema : DatabaseSchema) (query : OpenQuery) (number : ℕ) where
  -- one of a body that is too deep can't
  pub is_too_deep : (depth : ℕ) → depth ≡ min (enclosing_constructs query.body) (2 ^ 32 - 1) → 64 < depth
      → CanBeAsked schema (instance_of schema query number) → ⊥
  is_too_deep depth is deep asked =
      let same = filled_constructs (constants_of_instance schema query number) query.body in
      let shallow : enclosing_constructs (instance_of schema query number) ≤ 64 = asked.shallow in
      omega arith

  -- one of which the text is too long can't
  pub is_too_long : (text : String Global) → string_bytes text ≡ instance_text schema query number → (bytes : ℕ) → bytes ≡ string_len text
      → 4096 < bytes → CanBeAsked schema (instance_of schema query number) → ⊥
  is_too_long text is bytes count long asked =
      let short : length (instance_text schema query number) ≤ 4096 = asked.short in
      let same = ap length is in
      let all = bytes_counted text in
      omega arith

  -- any other one can
  pub is_short : (text : String Global) → string_bytes text ≡ instance_text schema query number → (bytes depth : ℕ) → bytes ≡ string_len text
      → bytes ≤ 4096 → depth ≡ min (enclosing_constructs query.body) (2 ^ 32 - 1) → depth ≤ 64 → CanBeAsked schema (instance_of schema query number)
  is_short text is bytes depth count few constructs shallow =
      let length_is = ap length is in
      let all = bytes_counted text in
      let same = filled_constructs (constants_of_instance schema query number) query.body in
      record { short = omega arith; shallow = omega arith }

  pub one_more_asked : ((k : ℕ) → k < number → CanBeAsked schema (instance_of schema query k)) → CanBeAsked schema (instance_of schema query number)
      → (k : ℕ) → k < number + 1 → CanBeAsked schema (instance_of schema query k)
  one_more_asked before here k low = at (ltb k number) refl
    where
      at : (b : Bool) → ltb k number ≡ b → CanBeAsked schema (instance_of schema query k)
      at true is = before k (ltb-true k number is)
      at false is =
          let same : number ≡ k = omega (arith, ltb-false k number is) in
          subst (λ n. CanBeAsked schema (instance_of schema query n)) same here
