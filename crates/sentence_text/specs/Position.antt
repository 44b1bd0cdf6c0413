-- Where a reader stands, and what a call of it gives.
use Rattle.std.specs.Prelude.{◌≡◌, ℕ, List, [], ◌∷◌, Result, Ok, Err, Bool, true, false}
use Rattle.cqe_base.specs.Reading.{Refusal}
use Rattle.cqe_base.specs.declared.sentence.Term.{Term}
use Rattle.cqe_base.specs.Formula.{Formula, equality, inequality, universal, existential}
use Rattle.cqe_base.specs.Schema.{DatabaseSchema}
use Rattle.cqe_base.specs.Tokens.{Token}
use Rattle.sentence_text.specs.declared.error.ReadError.{ReadError}
use Rattle.sentence_text.specs.declared.error.ReadError.TheVariants as errors

-- the declarations, the tokens that are still to come, and the refusal where they end
pub record Position : Type 0 where
  pub schema : DatabaseSchema
  pub tokens : List Token
  pub refusal : Refusal

-- what stays as it is while tokens are passed
pub record IsSameText (old new : Position) : Type 0 where
  pub schema : new.schema ≡ old.schema
  pub refusal : new.refusal ≡ old.refusal

-- an error is the refusal that the definition gives, unless memory is wanting
abbrev pub Refuses : {A : Type 0} → ReadError → Result A Refusal → Type 0
Refuses errors.Memory reading = Unit {0}
Refuses (errors.Text e) reading = reading ≡ Err e

-- what a call of a reader returned, seen by view, is what its definition gives, and the tokens that
-- are left are those that it leaves; its error is a refusal so
abbrev pub Reads : {X A : Type 0} → (X → A) → Result X ReadError → List Token
    → Result (A × List Token) Refusal → Type 0
Reads view (Ok x) rest reading = reading ≡ Ok (view x, rest)
Reads view (Err e) rest reading = Refuses e reading

-- the same of a call that passes tokens and returns nothing
abbrev pub Passes : Result (Unit {0}) ReadError → List Token → Result (List Token) Refusal → Type 0
Passes (Ok _) rest reading = reading ≡ Ok rest
Passes (Err e) rest reading = Refuses e reading

-- the same of a call whose definition says nothing of the tokens that are left
abbrev pub Gives : {X A : Type 0} → (X → A) → Result X ReadError → Result A Refusal → Type 0
Gives view (Ok x) reading = reading ≡ Ok (view x)
Gives view (Err e) reading = Refuses e reading

-- the next token, or the refusal where the tokens end
abbrev pub first : Refusal → List Token → Result (Token × List Token) Refusal
first end [] = Err end
first end (t ∷ ts) = Ok (t, ts)

-- `=` or `!=`
abbrev pub sign_of : Bool → Term → Term → Formula
sign_of true = equality
sign_of false = inequality

-- `forall` or `exists`
abbrev pub quantifier_of : Bool → ℕ → Formula → Formula
quantifier_of true = universal
quantifier_of false = existential

-- the fact holds of the refusal, if the text is refused
abbrev pub IfRefused : {X : Type 0} → Result X ReadError → (Refusal → Type 0) → Type 0
IfRefused (Ok x) P = Unit {0}
IfRefused (Err errors.Memory) P = Unit {0}
IfRefused (Err (errors.Text e)) P = P e
