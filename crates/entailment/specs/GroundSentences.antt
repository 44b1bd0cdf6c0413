-- A sentence in memory with its ground formula.
use Rattle.std.specs.Prelude.{◌≡◌}
use Rattle.cqe_base.specs.Schema.{DatabaseSchema}
use Rattle.cqe_base.specs.Formula.{Formula, formula_of}
use Rattle.cqe_base.specs.Ground.{ground_of, grounded}
use Rattle.entailment.specs.declared.sentences.GroundSentence.{GroundSentence}

-- the sentence
abbrev pub sentence_of : GroundSentence → Formula
sentence_of s = formula_of s.sentence

-- the Prop is the sentence's ground formula over this schema
abbrev pub IsGroundOver : DatabaseSchema → GroundSentence → Type 0
IsGroundOver schema s = ground_of s.prop ≡ grounded schema (sentence_of s)
