-- What was told of a journal's records, and that these lie there.
use Rattle.std.proofs.Common.{◌≡◌, ℕ, zero, suc, List, [], ◌∷◌, ◌++◌, take, Some, ap, subst, sym, ◌∙◌, ⊎_elim}
use Rattle.std.specs.List.{slice_get}
use Rattle.std.proofs.lemmas.Option.{none-some}
use Rattle.outside.specs.Disk.{HearsNoMore, HearsAtMost}
use Rattle.log_journal.specs.Bytes.{EndsAt}
use Rattle.log_journal.specs.Records.{Recorded, KeepsOrAdds}
use Rattle.log_journal.specs.Walk.{records, IsNumbered, AreThere}
use Rattle.log_journal.proofs.Appends.{reads_journal}
use Rattle.log_journal.proofs.Fronts.{walked}

module _ (old new : ℕ → Recorded → Type 0) (bytes bytes' : List ℕ) (same : bytes' ≡ bytes) (so_far : AreThere old bytes) where
  -- where nothing more was told of
  pub there_still : HearsNoMore old new → AreThere new bytes'
  there_still no_more number one heard = subst (λ b. IsNumbered b number one) (sym same) (so_far number one (no_more number one heard))

  -- where one was that lies there
  pub there_told : (told : ℕ) (record' : Recorded) → HearsAtMost told record' old new → IsNumbered bytes told record' → AreThere new bytes'
  there_told told record' most stands number one heard =
      subst (λ b. IsNumbered b number one) (sym same) (⊎_elim
      (λ before. so_far number one before)
      (λ is. subst (λ n. IsNumbered bytes n one) (sym is.0) (subst (λ r. IsNumbered bytes told r) (sym is.1) stands))
      (most number one heard))

in_front : {X : Type 0} (xs ys : List X) (place : ℕ) (x : X) → slice_get xs place ≡ Some x → slice_get (xs ++ ys) place ≡ Some x
in_front [] ys place x at = absurd (none-some x at)
in_front (one ∷ xs) ys zero x at = at
in_front (one ∷ xs) ys (suc place) x at = in_front xs ys place x at

module _ (bytes : List ℕ) (gate : ℕ) (ends : EndsAt bytes gate) (added : Recorded) (new : List ℕ) (either : KeepsOrAdds bytes added new) where
  -- an append leaves each record where it is
  still_numbered : (number : ℕ) (one : Recorded) → IsNumbered bytes number one → IsNumbered new number one
  still_numbered number one is = ⊎_elim
      (λ journal. ap (λ l. slice_get l number) (walked (take 72 bytes) (records bytes) new journal).are ∙ is)
      (λ journal. ap (λ l. slice_get l number) (walked (take 72 bytes) (records bytes ++ added ∷ []) new journal).are
      ∙ in_front (records bytes) (added ∷ []) number one is)
      (either (take 72 bytes) (records bytes) (reads_journal bytes gate ends))

  pub there_put : (heard heard' : ℕ → Recorded → Type 0) → HearsNoMore heard heard' → AreThere heard bytes → AreThere heard' new
  there_put heard heard' no_more so_far number one here = still_numbered number one (so_far number one (no_more number one here))
