-- What is kept of the items stays right as items are added.
use Rattle.std.proofs.Common.{◌≡◌, ◌+◌, true, false, [], ◌∷◌, ◌++◌, sum_by, refl, ap, ◌∙◌, arith, append-nil}
use Rattle.std.proofs.lemmas.List.Sums.{sum_by-append}
use Rattle.cqe_base.specs.declared.user.Mark.{Mark}
use Rattle.cqe_base.specs.declared.user.Mark.TheVariants.{Yes, No, Refused, Undecided, Protected}
use Rattle.cqe_base.specs.Schema.{DatabaseSchema}
use Rattle.cqe_base.specs.Formula.{Formula}
use Rattle.cqe_base.specs.History.{UserProfile, AnsweredQuery, History, log, told_by, secrets_by, user_at, with_secrets, is_added}
use Rattle.cqe_base.specs.History.{LogsGrow, SecretsGrow}
use Rattle.cqe_base.specs.Limits.{KeepsSizes}

-- no items are within the limits
pub no-sizes : (schema : DatabaseSchema) (user : UserProfile) (entries : History) → entries ≡ [] → KeepsSizes schema user entries
no-sizes schema user entries none [] entry after is = absurd cc
no-sizes schema user entries none (first ∷ before) entry after is = absurd cc

-- the bytes of the texts with one more
pub bytes-more : (entries : History) (item : AnsweredQuery)
    → sum_by (λ entry. entry.length) (entries ++ item ∷ []) ≡ sum_by (λ entry. entry.length) entries + item.length
bytes-more entries item =
    let sum : sum_by (λ entry. entry.length) (entries ++ item ∷ [])
    ≡ sum_by (λ entry. entry.length) entries + sum_by (λ entry. entry.length) (item ∷ []) = sum_by-append (λ entry. entry.length) entries (item ∷ []) in
    let one : sum_by (λ entry. entry.length) (item ∷ []) ≡ item.length = omega arith in
    sum ∙ ap (λ n. sum_by (λ entry. entry.length) entries + n) one

-- an item that was asked adds no secret
pub no-secret : (mark : Mark) (query : Formula) → is_added mark ≡ false → secrets_by mark query ≡ []
no-secret Yes query isnt = refl
no-secret No query isnt = refl
no-secret Refused query isnt = refl
no-secret Undecided query isnt = refl
no-secret Protected query isnt = absurd cc

-- and one that was added tells nothing
pub no-telling : (mark : Mark) (query : Formula) → is_added mark ≡ true → told_by mark query ≡ []
no-telling Yes query is = absurd cc
no-telling No query is = absurd cc
no-telling Refused query is = absurd cc
no-telling Undecided query is = absurd cc
no-telling Protected query is = refl

pub own-secret : (mark : Mark) (query : Formula) → is_added mark ≡ true → secrets_by mark query ≡ query ∷ []
own-secret Yes query is = absurd cc
own-secret No query is = absurd cc
own-secret Refused query is = absurd cc
own-secret Undecided query is = absurd cc
own-secret Protected query is = refl

module _ (logs : LogsGrow) (secrets : SecretsGrow) (user : UserProfile) (entries : History) (item : AnsweredQuery) where
  -- the user stays as he was behind an ask
  pub user-asked : is_added item.mark ≡ false → user_at user (entries ++ item ∷ []) ≡ user_at user entries
  user-asked isnt =
      ap (with_secrets user)
      (secrets user entries item
      ∙ ap (λ more. (user_at user entries).secrets ++ more) (no-secret item.mark item.query isnt)
      ∙ append-nil (user_at user entries).secrets)

  -- he has one more secret behind an addition
  pub user-added : is_added item.mark ≡ true
      → user_at user (entries ++ item ∷ []) ≡ with_secrets (user_at user entries) ((user_at user entries).secrets ++ item.query ∷ [])
  user-added is =
      ap (with_secrets user)
      (secrets user entries item ∙ ap (λ more. (user_at user entries).secrets ++ more) (own-secret item.mark item.query is))

  -- the log stays as it was behind an addition
  pub log-added : is_added item.mark ≡ true → log user (entries ++ item ∷ []) ≡ log user entries
  log-added is =
      logs user entries item ∙ ap (λ more. log user entries ++ more) (no-telling item.mark item.query is) ∙ append-nil (log user entries)
