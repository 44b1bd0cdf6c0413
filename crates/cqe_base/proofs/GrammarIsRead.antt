-- A text reads as a formula exactly where it is a sentence that means it.
use Rattle.std.proofs.Common.{◌≡◌, ℕ, Bool, true, false, cond, List, [], ◌∷◌, length, Result, Ok, Err, refl, subst, arith}
use Rattle.std.specs.Prelude.{◌==◌}
use Rattle.std.proofs.lemmas.Bool.Decides.{nat_tests}
use Rattle.cqe_base.specs.Reading.{Refusal}
use Rattle.cqe_base.specs.Schema.{DatabaseSchema}
use Rattle.cqe_base.specs.Tokens.{Token, tokens, end_of_tokens}
use Rattle.cqe_base.specs.Reading
use Rattle.cqe_base.specs.Reading.{◌>>=◌, reading, refusal_at_end, unexpected, bad_character}
use Rattle.cqe_base.specs.Grammar.{whole, Begins, Derives, ReadingsAreDerived}
use Rattle.cqe_base.proofs.GrammarSound.{bind_ok, sound, whole-sound}

at_end-sound : (schema : DatabaseSchema) (end : Refusal) (ts rest : List Token) → Reading.at_end schema end ts ≡ Ok rest → (ts ≡ []) × ((end.kind == 1) ≡ false)
unfolding Reading.at_end
at_end-sound schema end [] rest h = at (end.kind == 1) refl h
  where
    at : (b : Bool) → (end.kind == 1) ≡ b → cond {A = Result (List Token) Refusal} b (Err end) (Ok []) ≡ Ok rest → (◌≡◌ {A = List Token} [] [])
        × ((end.kind == 1) ≡ false)
    at true e k = absurd (cc)
    at false e k = (refl, e)
at_end-sound schema end (t ∷ ts) rest h = absurd (cc)

no_bad_character : (end total : ℕ) → ((refusal_at_end end total).kind == 1) ≡ false → end ≡ total
no_bad_character end total h = at (end == total) refl h
  where
    at : (b : Bool) → (end == total) ≡ b → ((cond b (unexpected end) (bad_character end)).kind == 1) ≡ false → end ≡ total
    at true e k = grind (arith, nat_tests)
    at false e k = absurd (cc)

-- what is read is a sentence
pub reading-sound : ReadingsAreDerived
unfolding reading Reading.sentence_of
reading-sound schema text a h =
    let end = refusal_at_end (end_of_tokens text) (length text) in
    let s = bind_ok (Reading.sentence schema end (Reading.level_with schema end (Reading.inside schema end 64)) [] (tokens text)) _ a h in
    let e = bind_ok (Reading.at_end schema end s.0.1) _ a s.2 in
    let n = at_end-sound schema end s.0.1 e.0 e.1 in
    let same : s.0.0 ≡ a = cc in
    record {
      no_bad_character = no_bad_character (end_of_tokens text) (length text) n.1;
      derives = subst (λ a. Derives schema (tokens text) a) same
          (subst (λ rest. Begins schema whole 64 [] (tokens text) s.0.0 rest) n.0
          (whole-sound schema end 64 (sound schema end 64) [] (tokens text) s.0.1 s.0.0 s.1));
    }
