-- The length of a token is that of the longest one.
use Rattle.std.proofs.Common.{◌≡◌, ℕ, zero, suc, ◌+◌, ◌<◌, ◌≤◌, inl, inr, Bool, true, false, cond, List, [], ◌∷◌, ◌++◌, length, take, drop, refl, sym, subst}
use Rattle.std.proofs.Common.{arith, length-take, one-add}
use Rattle.std.specs.Prelude.{◌||◌, codes, nat_eq}
use Rattle.std.specs.List.{prefix_len, list_all, starts_with}
use Rattle.std.specs.Char.{is_ascii_alphabetic}
use Rattle.std.specs.Cmp.Lexicographic.{same_text}
use Rattle.std.proofs.lemmas.List.{take-append-drop}
use Rattle.std.proofs.lemmas.Bool.{and_parts}
use Rattle.cqe_base.specs.Tokens.{begins, mark_length, token_length, marks, IsOneOf, IsTokenText, IsLongestToken}
use Rattle.cqe_base.specs.Schema.{is_name_byte, is_identifier}
use Rattle.sentence_text.proofs.TokenLaws.{token_length-ascii, cond_holds, or_holds}

prefix-all : (xs : List ℕ) → list_all is_name_byte (take (prefix_len is_name_byte xs) xs) ≡ true
prefix-all [] = refl
prefix-all (x ∷ xs) = at (is_name_byte x) refl (prefix-all xs)
  where
    at : (b : Bool) → is_name_byte x ≡ b → list_all is_name_byte (take (prefix_len is_name_byte xs) xs) ≡ true
        → list_all is_name_byte (take (cond b (1 + prefix_len is_name_byte xs) 0) (x ∷ xs)) ≡ true
    at true e others = rw (one-add (prefix_len is_name_byte xs), e) others
    at false e others = refl

prefix-longest : (k : ℕ) (xs : List ℕ) → k ≤ length xs → list_all is_name_byte (take k xs) ≡ true → k ≤ prefix_len is_name_byte xs
prefix-longest zero xs le h = omega arith
prefix-longest (suc k) [] le h = absurd (omega arith)
prefix-longest (suc k) (x ∷ xs) le h =
    let s = and_parts (is_name_byte x) (list_all is_name_byte (take k xs)) h in
    let others = prefix-longest k xs (omega arith) s.1 in
    rw s.0 (omega arith)

-- whatever follows a mark, it is the longest token
mark-length : (word rest : List ℕ) → IsOneOf word marks → token_length (word ++ rest) ≡ length word
unfolding token_length mark_length
mark-length word rest (inl e) = subst (λ w. token_length (w ++ rest) ≡ length w) (sym e) refl
mark-length word rest (inr (inl e)) = subst (λ w. token_length (w ++ rest) ≡ length w) (sym e) refl
mark-length word rest (inr (inr (inl e))) = subst (λ w. token_length (w ++ rest) ≡ length w) (sym e) refl
mark-length word rest (inr (inr (inr (inl e)))) = subst (λ w. token_length (w ++ rest) ≡ length w) (sym e) refl
mark-length word rest (inr (inr (inr (inr (inl e))))) = subst (λ w. token_length (w ++ rest) ≡ length w) (sym e) refl
mark-length word rest (inr (inr (inr (inr (inr (inl e)))))) = subst (λ w. token_length (w ++ rest) ≡ length w) (sym e) refl
mark-length word rest (inr (inr (inr (inr (inr (inr (inl e))))))) = subst (λ w. token_length (w ++ rest) ≡ length w) (sym e) refl
mark-length word rest (inr (inr (inr (inr (inr (inr (inr (inl e)))))))) = subst (λ w. token_length (w ++ rest) ≡ length w) (sym e) refl
mark-length word rest (inr (inr (inr (inr (inr (inr (inr (inr (inl e))))))))) = subst (λ w. token_length (w ++ rest) ≡ length w) (sym e) refl
mark-length word rest (inr (inr (inr (inr (inr (inr (inr (inr (inr e))))))))) = absurd e

starts-is : (mark text : List ℕ) → starts_with nat_eq text mark ≡ true → take (length mark) text ≡ mark
starts-is mark text h = sym (same_text mark (take (length mark) text) (sym h))

mark-is : (text : List ℕ) → 0 < mark_length text → IsOneOf (take (mark_length text) text) marks
unfolding mark_length
mark-is text =
    let P : ℕ → Type 0 = λ n. 0 < n → IsOneOf (take n text) marks in
    cond_holds P (begins "<->" text) 3 _ (λ h _. inr (inr (inr (inr (inr (inr (inr (inr (inl (starts-is (codes "<->") text h))))))))))
    (cond_holds P (begins "->" text || begins "!=" text) 2 _
    (or_holds (begins "->" text) _ (λ h _. inr (inr (inr (inr (inr (inr (inr (inl (starts-is (codes "->") text h))))))))) (λ h _.
    inr (inr (inr (inr (inr (inr (inl (starts-is (codes "!=") text h)))))))))
    (cond_holds P (begins "(" text || begins ")" text || begins "," text || begins ":" text || begins "." text || begins "=" text) 1 0
    (or_holds _ (begins "=" text)
    (or_holds _ (begins "." text) (or_holds _ (begins ":" text) (or_holds _ (begins "," text) (or_holds (begins "(" text) (begins ")" text)
    (λ h _. inl (starts-is (codes "(") text h)) (λ h _. inr (inl (starts-is (codes ")") text h)))) (λ h _. inr (inr (inl (starts-is (codes ",") text h)))))
    (λ h _. inr (inr (inr (inl (starts-is (codes ":") text h)))))) (λ h _. inr (inr (inr (inr (inl (starts-is (codes ".") text h))))))) (λ h _.
    inr (inr (inr (inr (inr (inl (starts-is (codes "=") text h))))))))
    (λ none. absurd (omega arith))))

token-is : (text : List ℕ) → 0 < token_length text → IsTokenText (take (token_length text) text)
unfolding token_length
token-is [] some = absurd (omega arith)
token-is (b ∷ text) some = at (is_ascii_alphabetic b) refl some
  where
    at : (t : Bool) → is_ascii_alphabetic b ≡ t → 0 < cond t (1 + prefix_len is_name_byte text) (mark_length (b ∷ text))
        → IsTokenText (take (cond t (1 + prefix_len is_name_byte text) (mark_length (b ∷ text))) (b ∷ text))
    at true e some = rw one-add (inl (rw e (prefix-all text)))
    at false e some = inr (mark-is (b ∷ text) some)

name-longest : (k : ℕ) (text : List ℕ) → k ≤ length text → is_identifier (take k text) ≡ true → k ≤ token_length text
unfolding token_length
name-longest zero text le h = omega arith
name-longest (suc k) [] le h = absurd (omega arith)
name-longest (suc k) (b ∷ text) le h =
    let s = and_parts (is_ascii_alphabetic b) (list_all is_name_byte (take k text)) h in
    let others = prefix-longest k text (omega arith) s.1 in
    rw s.0 (omega arith)

mark-longest : (k : ℕ) (text : List ℕ) → k ≤ length text → IsOneOf (take k text) marks → k ≤ token_length text
mark-longest k text le h =
    let long = mark-length (take k text) (drop k text) h in
    let again : token_length text ≡ length (take k text) = subst (λ x. token_length x ≡ length (take k text)) (take-append-drop k text) long in
    omega (arith, again, length-take k text)

pub token_length-longest : (text : List ℕ) → IsLongestToken text (token_length text)
token_length-longest text = record { is_token = λ some. ((token_length-ascii text).0, token-is text some); longest = λ k le h. either_longest k le h }
  where
    either_longest : (k : ℕ) → k ≤ length text → IsTokenText (take k text) → k ≤ token_length text
    either_longest k le (inl h) = name-longest k text le h
    either_longest k le (inr h) = mark-longest k text le h
