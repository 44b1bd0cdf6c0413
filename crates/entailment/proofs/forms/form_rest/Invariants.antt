use Rattle.std.proofs.Common.{◌≡◌, ◌≤◌, take}
use Rattle.entailment.specs.Logs.{told_log}
use Rattle.entailment.specs.Forms.{form_of_log}
use Rattle.entailment.proofs.forms.form_rest.Given as goal

-- the first sentences are formed, up to the number
abbrev pub invariant-loop-number : goal.invariant-loop-number
invariant-loop-number l = record {
  from : l.fn.formed ≤ l.number;
  formed : l.formed ≡ l.number;
  form : l.former ≡ form_of_log l.schema (take l.number (told_log l.log));
}
