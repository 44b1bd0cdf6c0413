-- What one clause of the reader says, clause by clause.
use Rattle.std.proofs.Common.{◌≡◌, true, Result, Ok, Err, IfOk, String, string_bytes, ap, ◌∙◌}
use Rattle.std.specs.declared.alloc.Global.{Global}
use Rattle.std.specs.declared.alloc.AllocError.{AllocError}
use Rattle.cqe_base.specs.Canonical.{canonical}
use Rattle.cqe_base.specs.declared.sentence.Sentence.{Sentence}
use Rattle.cqe_base.specs.Formula.{Formula, formula_of, is_sentence_of}
use Rattle.cqe_base.specs.Schema.{DatabaseSchema, Text}
use Rattle.cqe_base.specs.Reading.{ReadingsAreSentences, reading}
use Rattle.cqe_base.specs.Refusals.{Refused, RefusalsAreOfTheTable}
use Rattle.cqe_base.specs.Grammar.{IsSentence, ReadingsAreDerived}
use Rattle.sentence_text.specs.declared.error.ReadError.{ReadError}
use Rattle.sentence_text.specs.declared.error.ReadError.TheVariants as errors
use Rattle.sentence_text.specs.Position.{Gives, IfRefused}
use Rattle.sentence_text.proofs.GrammarIsRead.{sentences_read}

module _ (schema : DatabaseSchema) (text : Text) (r : Result Sentence ReadError) (h : Gives formula_of r (reading schema text)) where
  pub is_read : IfOk r (λ s. reading schema text ≡ Ok (formula_of s))
  is_read =
      elim r as (λ r. Gives formula_of r (reading schema text) → IfOk r (λ s. reading schema text ≡ Ok (formula_of s))) [ Ok s ↦ λ h. h | Err e ↦ λ h. tt ] h

  pub is_derived : ReadingsAreDerived → IfOk r (λ s. IsSentence schema text (formula_of s))
  is_derived law =
      elim r as (λ r. Gives formula_of r (reading schema text)
      → IfOk r (λ s. IsSentence schema text (formula_of s))) [ Ok s ↦ λ h. law schema text (formula_of s) h | Err e ↦ λ h. tt ] h

  pub is_of_schema : ReadingsAreSentences → IfOk r (λ s. is_sentence_of schema (formula_of s) ≡ true)
  is_of_schema law =
      elim r as (λ r. Gives formula_of r (reading schema text)
      → IfOk r (λ s. is_sentence_of schema (formula_of s) ≡ true)) [ Ok s ↦ λ h. law schema text (formula_of s) h | Err e ↦ λ h. tt ] h

pub is_refused : (schema : DatabaseSchema) (text : Text) (r : Result Sentence ReadError) → Gives formula_of r (reading schema text)
    → IfRefused r (λ e. reading schema text ≡ Err e)
is_refused schema text (Ok s) h = tt
is_refused schema text (Err errors.Memory) h = tt
is_refused schema text (Err (errors.Text e)) h = h

pub is_of_table : (schema : DatabaseSchema) (text : Text) (r : Result Sentence ReadError) → Gives formula_of r (reading schema text) → RefusalsAreOfTheTable
    → IfRefused r (λ e. Refused schema text e)
is_of_table schema text (Ok s) h law = tt
is_of_table schema text (Err errors.Memory) h law = tt
is_of_table schema text (Err (errors.Text e)) h law = law schema text e h

pub isnt_refused : (schema : DatabaseSchema) (text : Text) (r : Result Sentence ReadError) → Gives formula_of r (reading schema text) → (a : Formula)
    → IsSentence schema text a → IfRefused r (λ e. ⊥)
isnt_refused schema text (Ok s) h a is = tt
isnt_refused schema text (Err errors.Memory) h a is = tt
isnt_refused schema text (Err (errors.Text e)) h a is = let read = sentences_read schema text a is in cc

pub is_read_back : (schema : DatabaseSchema) (a : Formula) (r : Result (String Global) AllocError) → IfOk r (λ text. string_bytes text ≡ canonical schema a)
    → reading schema (canonical schema a) ≡ Ok a → IfOk r (λ text. reading schema (string_bytes text) ≡ Ok a)
is_read_back schema a (Ok text) h read = ap (reading schema) h ∙ read
is_read_back schema a (Err e) h read = tt
