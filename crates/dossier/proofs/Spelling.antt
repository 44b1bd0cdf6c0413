-- Lists that are read one after the other, each part of which may be missing.
use Rattle.std.proofs.Common.{◌≡◌, ℕ, ◌+◌, ◌<◌, ◌≤◌, List, [], ◌∷◌, ◌++◌, map, drop, length, get_or, Option, Some, None, refl}
use Rattle.std.proofs.Common.{true, sym, ap, ◌∙◌, append_assoc, append-nil, arith}
use Rattle.std.proofs.lemmas.List.{drop_more, drop_all}
use Rattle.cqe_base.specs.Literal.{Literal}
use Rattle.dossier.specs.Words.{with_first, all_some, line_by}

-- what was read before, with the rest behind it
abbrev pub behind : {X : Type 0} → List X → Option (List X) → Option (List X)
behind before None = None
behind before (Some rest) = Some (before ++ rest)

-- nothing was read before
pub behind-none : {X : Type 0} (rest : Option (List X)) → rest ≡ behind [] rest
behind-none None = refl
behind-none (Some rest) = refl

-- one more was read
pub behind-more : {X : Type 0} (before : List X) (x : X) (rest : Option (List X)) → behind before (with_first (Some x) rest) ≡ behind (before ++ x ∷ []) rest
behind-more before x None = refl
behind-more before x (Some rest) = ap Some (sym (append_assoc before (x ∷ []) rest))

-- one is missing
pub behind-missing : {X : Type 0} (before : List X) (rest : List (Option X)) → behind before (all_some (None ∷ rest)) ≡ None
behind-missing before rest = refl

-- all was read
pub behind-all : {X : Type 0} (before : List X) → behind before (Some []) ≡ Some before
behind-all before = ap Some (append-nil before)

-- words in memory, each of which is read
module _ {W X Y : Type 0} (now : W → X) (read : X → Option Y) (words : List W) where
  -- what the words from this one on say
  abbrev pub from : ℕ → Option (List Y)
  from i = all_some (map read (map now (drop i words)))

  module _ (i : ℕ) (d : W) (low : i < length words) where
    splits : from i ≡ all_some (read (now (get_or words i d)) ∷ map read (map now (drop (i + 1) words)))
    splits = ap (λ rest. all_some (map read (map now rest))) (drop_more words i d low)

    -- this word says something
    pub one-read : (before : List Y) (y : Y) → read (now (get_or words i d)) ≡ Some y
        → behind before (from i) ≡ behind (before ++ y ∷ []) (from (i + 1))
    one-read before y says =
        ap (behind before) (splits ∙ ap (λ o. with_first o (from (i + 1))) says) ∙ behind-more before y (from (i + 1))

    -- this word says nothing
    pub none-read : (before : List Y) → read (now (get_or words i d)) ≡ None → behind before (from i) ≡ None
    none-read before none = ap (behind before) (splits ∙ ap (λ o. with_first o (from (i + 1))) none)

  -- all words are read
  pub all-read : (before : List Y) (i : ℕ) → length words ≤ i → behind before (from i) ≡ Some before
  all-read before i past = ap (λ rest. behind before (all_some (map read (map now rest)))) (drop_all i words past) ∙ behind-all before

-- a line whose chain has a number
pub chain-some : (clause : List Literal) (chain : List ℕ) → 1 ≤ length chain
    → line_by true (Some clause) (Some chain) ≡ Some (record { clause = clause; chain = chain })
chain-some clause [] some = absurd (omega (arith, some))
chain-some clause (first ∷ chain) some = refl
