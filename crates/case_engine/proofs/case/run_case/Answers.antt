use Rattle.std.proofs.Common.{◌≡◌, length, sym, ap, ◌∙◌, refl, arith}
use Rattle.std.specs.Prelude.{nat_le, string_bytes, vec_len}
use Rattle.std.proofs.lemmas.List.{length-map}
use Rattle.case_engine.specs.ScriptsRead.{script_is}
use Rattle.case_engine.proofs.Beginning.{script_begins}
use Rattle.case_engine.proofs.Ending.{case_ends}
use Rattle.case_engine.proofs.case.run_case.Goals as goal

pub returns-in-Refused-clause-ends : goal.returns-in-Refused-clause-ends
returns-in-Refused-clause-ends g c = λ source_told. λ sink_told.
    let reads = c.in-Refused.ensures.reads source_told in
    (sym (script_begins _ _ c.in-Ok.ensures) ∙ reads.0, refl, reads.1)

pub returns-clause-ends : goal.returns-clause-ends
returns-clause-ends g c = λ source_told. λ sink_told.
    let reads = c.in-Whole.ensures.reads source_told in
    case_ends _ _ c.in-Ok-into_parts.ensures _ (sym (script_begins _ _ c.in-Ok.ensures) ∙ reads.0) _ reads.1 _ _ _ (c.answer_all.ensures.answered sink_told)

pub returns-clause-read_cause : goal.returns-clause-read_cause
returns-clause-read_cause g c = λ is. absurd (c.answer_all.ensures.no_read is)

pub answer_all-requires-clause-limits : goal.answer_all-requires-clause-limits
answer_all-requires-clause-limits g c κs within = λ some.
    let parts = c.in-Ok-into_parts.parts in
    let is = c.in-Ok-into_parts.ensures in
    let same = ap length is.asks in
    let sized = length-map parts.asks.items string_bytes in
    let count : length (script_is c.in-Whole.script).asks ≡ vec_len parts.asks = omega (arith, same, sized, parts.asks.ok.0) in
    is.limits (ap (nat_le 1) count ∙ some)
