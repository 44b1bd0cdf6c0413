use Rattle.std.proofs.Common.{◌++◌, ◌∷◌, [], ap, ◌∙◌, codes}
use Rattle.std.proofs.lemmas.Result.{IfOk-weaker}
use Rattle.serde_json.specs.Data.{Data}
use Rattle.serde_json.specs.Written.{compact_text, has_float}
use Rattle.audit_text.specs.Rows.{said_in}
use Rattle.audit_text.proofs.NoFloats.{audit_has_none}
use Rattle.audit_text.proofs.json.json_lines.Goals as goal

pub value_line-requires : goal.value_line-requires
value_line-requires c = ap has_float c.in_ok-value.ensures ∙ audit_has_none (said_in c.args.report.now)

pub returns : goal.returns
returns c =
    IfOk-weaker c.alone.result _ _
    (λ lines is. is ∙ ap (λ line. line ∷ []) (c.in_ok-line.ensures ∙ ap (λ (d : Data). compact_text d ++ codes "\n") c.in_ok-value.ensures))
    c.alone.ensures
