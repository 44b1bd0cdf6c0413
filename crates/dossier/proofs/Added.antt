-- Items that are added behind those that were read.
use Rattle.std.proofs.Common.{◌≡◌, ◌++◌, ◌∷◌, [], ℕ, List, true, false, sym, subst, ◌∙◌, append-nil}
use Rattle.std.proofs.lemmas.Bool.{both_ways}
use Rattle.cqe_base.specs.declared.user.Mark.{Mark}
use Rattle.cqe_base.specs.declared.user.Mark.TheVariants.{Protected}
use Rattle.cqe_base.specs.Schema.{DatabaseSchema}
use Rattle.cqe_base.specs.Formula.{Formula, is_sentence_of}
use Rattle.cqe_base.specs.Entailment.{Signed}
use Rattle.cqe_base.specs.History.{UserProfile, AnsweredQuery, History, is_added, log, user_at}
use Rattle.cqe_base.specs.Censor.{guarded_with}
use Rattle.cqe_base.specs.Limits.{KeepsSizesAt}
use Rattle.cqe_base.specs.Run.{is_full, is_too_large, is_too_large_secret, has_all_secrets}
use Rattle.dossier.specs.Checked.{addition_probe}
use Rattle.dossier.specs.Items.{goal_probe}

-- an item that was asked came within the limits
pub asked-fits : (schema : DatabaseSchema) (user : UserProfile) (entries : History) (query : Formula) (mark : Mark) (size : ℕ)
    → is_sentence_of schema query ≡ true → is_added mark ≡ false → (is_full entries size ≡ false) × (is_too_large schema user entries query ≡ false)
    → KeepsSizesAt schema user entries (record { query = query; mark = mark; length = size })
asked-fits schema user entries query mark size sentence asked (room, small) = record {
  sentence = sentence;
  room = room;
  small = small;
  small_secret = λ added. absurd (both_ways (is_added mark) asked added);
  secret_room = λ added. absurd (both_ways (is_added mark) asked added);
}

-- and so did one that was added
pub added-fits : (schema : DatabaseSchema) (user : UserProfile) (entries : History) (secret : Formula) (size : ℕ)
    → is_sentence_of schema secret ≡ true → is_too_large schema user entries secret ≡ false
    → (is_full entries size ≡ false) × (is_too_large_secret schema user entries secret ≡ false) × (has_all_secrets user entries ≡ false)
    → KeepsSizesAt schema user entries (record { query = secret; mark = Protected; length = size })
added-fits schema user entries secret size sentence small (room, small_secret, secret_room) = record {
  sentence = sentence;
  room = room;
  small = small;
  small_secret = λ added. small_secret;
  secret_room = λ added. secret_room;
}

-- what came within the limits of the items that are kept came within those of the items that they are
pub fits-at : (schema schema' : DatabaseSchema) (user user' : UserProfile) (entries entries' : History) (item item' : AnsweredQuery)
    → schema' ≡ schema → user' ≡ user → entries' ≡ entries → item' ≡ item → KeepsSizesAt schema user entries item
    → KeepsSizesAt schema' user' entries' item'
fits-at schema schema' user user' entries entries' item item' s u e i fits =
    subst (λ x. KeepsSizesAt x user' entries' item') (sym s)
    (subst (λ x. KeepsSizesAt schema x entries' item') (sym u)
    (subst (λ x. KeepsSizesAt schema user x item') (sym e)
    (subst (KeepsSizesAt schema user entries) (sym i) fits)))

-- the items with one more, whose parts are these
pub one-behind : (before before' after : History) (query query' : Formula) (mark : Mark) (size size' : ℕ)
    → after ≡ before' ++ record { query = query'; mark = mark; length = size' } ∷ [] → before' ≡ before → query' ≡ query → size' ≡ size
    → before ++ record { query = query; mark = mark; length = size } ∷ [] ≡ after
one-behind before before' after query query' mark size size' is b q s =
    sym (is ∙ (λ i. b i ++ record { query = q i; mark = mark; length = s i } ∷ []))

-- what is guarded with one more secret, by the user who is kept
pub guard-at : (current user : UserProfile) (entries : History) (secret made : Formula) → current ≡ user_at user entries
    → made ≡ guarded_with current secret → made ≡ guarded_with (user_at user entries) secret
guard-at current user entries secret made is made_is = made_is ∙ (λ i. guarded_with (is i) secret)

-- the probe of an addition is that of the log against what is guarded
pub addition-shown : (user : UserProfile) (entries : History) (secret goal : Formula) (told : List Signed) → told ≡ log user entries
    → goal ≡ guarded_with (user_at user entries) secret
    → addition_probe user entries secret ≡ goal_probe (told ++ []) (goal, true)
addition-shown user entries secret goal told told_is goal_is =
    λ i. record { premises = sym (append-nil told ∙ told_is) i; goal = (sym goal_is i, true) }
