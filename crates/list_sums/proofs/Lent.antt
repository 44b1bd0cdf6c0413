-- Vectors that are lent whole.
use Rattle.std.proofs.Common.{◌≡◌, ℕ, List, ◌++◌, length, take, drop, sym, ◌∙◌}
use Rattle.std.proofs.lemmas.List.{take_at}

module _ {X : Type 0} where
  -- a vector that was lent whole, and comes back as long
  pub lent_whole : (n : ℕ) (new old : List X) → length new ≡ length old → n ≡ length old → take n (new ++ drop (length new) old) ≡ new
  lent_whole n new old same len = take_at new (drop (length new) old) n (same ∙ sym len)
