-- A history within the limits has few items.
use Rattle.std.proofs.Common.{◌≡◌, ◌≤◌, ◌<◌, ◌+◌, false, [], ◌∷◌, ◌++◌, length, refl, sym, ap, ◌∙◌, arith, append_assoc, append-nil, length-append}
use Rattle.std.specs.Prelude.{nat_le, nat_lt, sum_by}
use Rattle.std.proofs.lemmas.Bool.Decides.{nat_tests}
use Rattle.cqe_base.specs.Schema.{DatabaseSchema}
use Rattle.cqe_base.specs.History.{UserProfile, History}
use Rattle.cqe_base.specs.Limits.{KeepsSizes}
use Rattle.cqe_base.proofs.Truths.{or_first}

module _ (schema : DatabaseSchema) (user : UserProfile) (all : History) (sizes : KeepsSizes schema user all) where
  few-from : (before rest : History) → all ≡ before ++ rest → length before ≤ 4096 → length all ≤ 4096
  few-from before [] parts few = let same = ap length (parts ∙ append-nil before) in omega (arith, same, few)
  few-from before (e ∷ rest) parts few =
      let room : nat_le 4096 (length before) ≡ false =
      or_first (nat_le 4096 (length before)) (nat_lt 1048576 (sum_by (λ entry. entry.length) before + e.length)) (sizes before e rest parts).room in
      let less : length before < 4096 = grind (arith, nat_tests) in
      few-from (before ++ e ∷ []) rest (parts ∙ sym (append_assoc before (e ∷ []) rest)) (omega (arith, less, length-append before (e ∷ [])))

  -- at most 4,096
  pub few-items : length all ≤ 4096
  few-items = few-from [] all refl (omega arith)
