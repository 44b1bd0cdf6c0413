-- A further operand that is refused.
use Rattle.std.proofs.Common.{◌≡◌, true, List, drop, Result}
use Rattle.cqe_base.specs.declared.text.Symbol.{Symbol}
use Rattle.cqe_base.specs.Reading.{Refusal}
use Rattle.cqe_base.specs.Formula.{Formula}
use Rattle.cqe_base.specs.Tokens.{Token}
use Rattle.cqe_base.specs.Reading.{Reader, is_next}
use Rattle.sentence_text.proofs.Operands.{ChainGoesOn, chain-stops}
use Rattle.sentence_text.specs.declared.error.ReadError.{ReadError}
use Rattle.sentence_text.specs.declared.error.ReadError.TheVariants as errors
use Rattle.sentence_text.specs.Position.{Refuses}

pub chain-refused : (s : Symbol) (join : Formula → Formula → Formula) (operand : Reader Formula) (a : Formula) (ts : List Token)
    (total : Result (Formula × List Token) Refusal)
    → is_next s ts ≡ true → (e : ReadError) → Refuses e (operand (drop 1 ts)) → ChainGoesOn s join operand a ts total → Refuses e total
chain-refused s join operand a ts total next errors.Memory refused c = tt
chain-refused s join operand a ts total next (errors.Text e) refused c = chain-stops s join operand a ts total next e refused c
