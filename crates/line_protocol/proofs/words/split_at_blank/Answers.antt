use Rattle.std.proofs.Common.{◌+◌, sym, ap, ◌∙◌}
use Rattle.std.specs.Prelude.{is_some}
use Rattle.std.specs.List.{list_all}
use Rattle.std.proofs.lemmas.List.{take_rest}
use Rattle.cqe_base.specs.Tokens.{is_blank}
use Rattle.line_protocol.specs.Words.{is_printable}
use Rattle.line_protocol.proofs.Blanks.{any_found, any_missing, all_front, all_rest}
use Rattle.line_protocol.proofs.words.split_at_blank.Goals as goal

pub returns-in_err-blank-clause-blank : goal.returns-in_err-blank-clause-blank
returns-in_err-blank-clause-blank c =
    ap (λ o. is_some o) c.from_residual.ensures ∙ sym (any_missing is_blank c.args.bytes.now (sym c.first_blank.ensures ∙ c.in_err-blank.was))

pub returns-clause-blank : goal.returns-clause-blank
returns-clause-blank c = sym (any_found is_blank c.args.bytes.now c.in_ok-blank.blank (sym c.first_blank.ensures ∙ c.in_ok-blank.was))

pub returns-clause-printable : goal.returns-clause-printable
returns-clause-printable c = (
  all_front is_printable c.args.bytes.now c.in_ok-blank.blank c.requires,
  ap (λ l. list_all is_printable l) (take_rest c.args.bytes.now (c.in_ok-blank.blank + 1))
      ∙ all_rest is_printable c.args.bytes.now (c.in_ok-blank.blank + 1) c.requires,
)
