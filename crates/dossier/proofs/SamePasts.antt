-- What is said of the items that are kept, where the same items are kept afterwards.
use Rattle.std.proofs.Common.{sym, subst, ◌∙◌}
use Rattle.cqe_base.specs.Schema.{DatabaseSchema}
use Rattle.cqe_base.specs.History.{UserProfile, History}
use Rattle.dossier.specs.Logs.{past_schema, past_user, past_history, IsPastOfSame, IsSamePast}
use Rattle.dossier.specs.declared.past.Past.{Past}

pub same-then : (first second third : Past) → IsSamePast first second → IsSamePast second third → IsSamePast first third
same-then first second third (one, one_history) (two, two_history) =
    (record { schema = two.schema ∙ one.schema; user = two.user ∙ one.user }, two_history ∙ one_history)

pub of-same : (first second third : Past) → IsSamePast first second → IsPastOfSame second third → IsPastOfSame first third
of-same first second third (one, one_history) two = record { schema = two.schema ∙ one.schema; user = two.user ∙ one.user }

module _ (P : DatabaseSchema → UserProfile → History → Type 0) (old new : Past) where
  -- it holds afterwards
  pub at-same : IsSamePast old new → P (past_schema old) (past_user old) (past_history old) → P (past_schema new) (past_user new) (past_history new)
  at-same (same, history) here =
      subst (λ s. P s (past_user new) (past_history new)) (sym same.schema)
      (subst (λ u. P (past_schema old) u (past_history new)) (sym same.user)
      (subst (P (past_schema old) (past_user old)) (sym history) here))

  -- or held before
  pub at-old : IsSamePast old new → P (past_schema new) (past_user new) (past_history new) → P (past_schema old) (past_user old) (past_history old)
  at-old (same, history) there =
      subst (λ s. P s (past_user old) (past_history old)) same.schema
      (subst (λ u. P (past_schema new) u (past_history old)) same.user
      (subst (P (past_schema new) (past_user new)) history there))
