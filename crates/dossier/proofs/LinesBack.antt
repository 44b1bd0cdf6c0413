-- A text is its lines, each with a line feed, but for the last one; and a line is its first word and the rest.
use Rattle.std.proofs.Common.{◌≡◌, ◌<◌, ◌≤◌, ◌+◌, ◌==◌, Bool, true, false, not, ◌||◌, cond, List, [], ◌∷◌, ◌++◌, length, get_or, refl, sym, ap, ◌∙◌}
use Rattle.std.proofs.Common.{inl, inr, ◌⊎◌, arith, append_assoc, append-nil}
use Rattle.std.specs.Prelude.{codes}
use Rattle.std.specs.List.{list_any, flat_map, slice_split, before_first, after_first, position_or_len, join_with_byte}
use Rattle.std.proofs.lemmas.Bool.{eqb-true, cases_lt}
use Rattle.std.proofs.lemmas.List.Sums.{split_at_first, passes_at_first}
use Rattle.std.proofs.lemmas.List.Splits.{join_with_byte-slice_split}
use Rattle.std.proofs.Math.ListN.{drop_of_length-le}
use Rattle.cqe_base.specs.Schema.{Text}
use Rattle.cqe_base.proofs.Truths.{true_is_not_false}
use Rattle.dossier.specs.Fields.{without_empty_end, lines_in, by_rest, first_word}
use Rattle.dossier.proofs.Lines.{kept, split-some}

-- ---- lines

-- lines, each with a line feed
abbrev pub joined : List Text → Text
joined lines = flat_map (λ line. line ++ codes "\n") lines

pub joined-both : (first second : List Text) → joined (first ++ second) ≡ joined first ++ joined second
joined-both [] second = refl
joined-both (line ∷ first) second =
    ap (λ t. (line ++ codes "\n") ++ t) (joined-both first second) ∙ sym (append_assoc (line ++ codes "\n") (joined first) (joined second))

pub joined-one : (line : Text) → joined (line ∷ []) ≡ line ++ codes "\n"
joined-one line = append-nil (line ++ codes "\n")

abbrev AreJoined : Text → List Text → Type 0
AreJoined text lines = (joined lines ≡ text) ⊎ (joined lines ≡ text ++ codes "\n")

more-joined : (part text : Text) (lines : List Text) → AreJoined text lines → AreJoined (part ++ 10 ∷ text) (part ∷ lines)
more-joined part text lines (inl is) = inl (append_assoc part (codes "\n") (joined lines) ∙ ap (λ t. part ++ 10 ∷ t) is)
more-joined part text lines (inr is) =
    inr (append_assoc part (codes "\n") (joined lines) ∙ ap (λ t. part ++ 10 ∷ t) is ∙ sym (append_assoc part (10 ∷ text) (codes "\n")))

parts-joined : (parts : List Text) → (parts ≡ [] → ⊥) → AreJoined (join_with_byte 10 parts) (without_empty_end parts)
parts-joined [] some = absurd (some refl)
parts-joined ([] ∷ []) some = inl refl
parts-joined ((b ∷ part) ∷ []) some = inr (append-nil ((b ∷ part) ++ codes "\n"))
parts-joined (part ∷ next ∷ parts) some =
    as-parts (without_empty_end (part ∷ next ∷ parts)) (kept (λ b. b == 10) part (next ∷ parts) (λ none. absurd cc))
    (more-joined part (join_with_byte 10 (next ∷ parts)) (without_empty_end (next ∷ parts)) (parts-joined (next ∷ parts) (λ none. absurd cc)))
  where
    as-parts : (lines : List Text) → lines ≡ part ∷ without_empty_end (next ∷ parts)
        → AreJoined (join_with_byte 10 (part ∷ next ∷ parts)) (part ∷ without_empty_end (next ∷ parts))
        → AreJoined (join_with_byte 10 (part ∷ next ∷ parts)) lines
    as-parts lines is (inl e) = inl (ap joined is ∙ e)
    as-parts lines is (inr e) = inr (ap joined is ∙ e)

-- the lines of a text make it, or it with one more line feed
pub lines-joined : (text : Text) → (joined (lines_in text) ≡ text) ⊎ (joined (lines_in text) ≡ text ++ codes "\n")
lines-joined text = by (parts-joined (slice_split (λ b. b == 10) text) (split-some (λ b. b == 10) text))
  where
    by : AreJoined (join_with_byte 10 (slice_split (λ b. b == 10) text)) (lines_in text) → AreJoined text (lines_in text)
    by (inl e) = inl (e ∙ join_with_byte-slice_split 10 text)
    by (inr e) = inr (e ∙ ap (λ t. t ++ codes "\n") (join_with_byte-slice_split 10 text))

-- ---- the first word

-- where some element passes, the first one stands within the list
pub first-within : {X : Type 0} (p : X → Bool) (xs : List X) → list_any p xs ≡ true → position_or_len p xs < length xs
first-within p [] some = absurd (true_is_not_false (sym some))
first-within p (x ∷ xs) some = by (p x) some (λ further. first-within p xs further)
  where
    by : (b : Bool) → (b || list_any p xs) ≡ true → (list_any p xs ≡ true → position_or_len p xs < length xs)
        → cond (not b) (1 + position_or_len p xs) 0 < length (x ∷ xs)
    by true some go = omega arith
    by false some go = let rest = go some in omega (arith, rest)

-- a line is this word alone, or the word, a blank and something
abbrev pub LineIs : (line word rest : Text) → Type 0
LineIs line word rest = ((rest ≡ []) × (line ≡ word)) ⊎ ((1 ≤ length rest) × (line ≡ word ++ 32 ∷ rest))

pub word-back : (line : Text) → LineIs line (first_word line).0 (first_word line).1
word-back line = by (after_first (λ b. b == 32) line) refl
  where
    by : (behind : Text) → after_first (λ b. b == 32) line ≡ behind
        → LineIs line (by_rest line (before_first (λ b. b == 32) line, behind)).0 (by_rest line (before_first (λ b. b == 32) line, behind)).1
    by [] is = inl (refl, refl)
    by (b ∷ behind) is = inr (omega arith, within (cases_lt (position_or_len (λ b. b == 32) line) (length line)))
      where
        within : (position_or_len (λ b. b == 32) line < length line) ⊎ (length line ≤ position_or_len (λ b. b == 32) line)
            → line ≡ before_first (λ b. b == 32) line ++ 32 ∷ b ∷ behind
        within (inl less) =
            let blank : get_or line (position_or_len (λ b. b == 32) line) 0 ≡ 32 =
            eqb-true (get_or line (position_or_len (λ b. b == 32) line) 0) 32 (passes_at_first (λ b. b == 32) line 0 less) in
            split_at_first (λ b. b == 32) line 0 less ∙ (λ i. before_first (λ b. b == 32) line ++ blank i ∷ is i)
        within (inr past) =
            let none : after_first (λ b. b == 32) line ≡ [] = drop_of_length-le line (omega (arith, past)) in
            let empty : (b ∷ behind) ≡ [] = sym is ∙ none in
            absurd cc
