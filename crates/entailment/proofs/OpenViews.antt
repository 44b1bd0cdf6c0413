-- Views whose fields are at hand.
use Rattle.std.proofs.Common.{◌≡◌, ◌≤◌, ℕ, List, ◌++◌, length, take, ap, sym, subst, ◌∙◌}
use Rattle.cqe_base.specs.Entailment.{Signed}
use Rattle.cqe_base.specs.Literal.{Literal}
use Rattle.cqe_base.specs.MachineLaws.{ClauseFormIsPrefix}
use Rattle.clause_form.specs.Forms.{Form}
use Rattle.clause_solver.specs.Beginnings.{IsBeginning}
use Rattle.entailment.specs.Logs.{IsSmallLog, told_log}
use Rattle.entailment.specs.Forms.{form_of_log, with_negated}
use Rattle.entailment.specs.Views.{LogView, schema_of, log_of}
use Rattle.entailment.specs.Inside.{view_inside, IsSound}
use Rattle.entailment.specs.Verdicts.{IsCheckedOf, searched_end}
use Rattle.entailment.specs.Certificates.{IsRightFor, IsRightOf, IsMachines, IsMachinesOf}
use Rattle.entailment.specs.declared.probes.Wanted.{Wanted}
use Rattle.entailment.specs.declared.probes.Verdict.{Verdict}
use Rattle.entailment.specs.declared.probes.Certified.{Certified}
use Rattle.entailment.specs.declared.view.Told.{Told}
use Rattle.entailment.specs.declared.view.View.TheInside.{Inside}
use Rattle.entailment.proofs.KeptClauses.{taken-begins}
use Rattle.entailment.proofs.Verdicts.{IsTold}

-- what the search keeps begins the clauses of a form that goes on to more of the log
pub kept-on : ClauseFormIsPrefix → {v : Inside} → IsSound v → {items : List Told} → items ≡ v.log.items → {formed : ℕ} → v.formed ≤ formed
    → {form : Form} → form ≡ form_of_log v.schema.now (take formed (told_log items)) → IsBeginning v.kept form.clauses
kept-on prefix {v} sound {items} same {formed} grows {form} is =
    taken-begins prefix v.schema.now (told_log items) v.formed formed v.kept v.former form grows
    (sound.form ∙ ap (λ l. form_of_log v.schema.now (take v.formed (told_log l))) (sym same)) is sound.kept

-- and with that form the view is sound
pub sound-on : {v : Inside} → IsSound v → {items : List Told} → items ≡ v.log.items → {formed : ℕ} → formed ≤ length (told_log items)
    → {form : Form} → form ≡ form_of_log v.schema.now (take formed (told_log items)) → (kept : List (List Literal)) → IsBeginning kept form.clauses
    → IsSound (record v { former = form; formed = formed; kept = kept })
sound-on {v} sound same {formed} within is kept begins = record {
  small = sound.small;
  within = subst (λ l. formed ≤ length (told_log l)) same within;
  form = is ∙ ap (λ l. form_of_log v.schema.now (take formed (told_log l))) same;
  kept = begins;
}

-- the view that the fields are, where this is the form of its whole log
pub record IsOwn (v : Inside) (view : LogView) (form : Form) : Type 0 where
  pub schema_is : v.schema.now ≡ schema_of view
  pub small : IsSmallLog (schema_of view) (log_of view)
  pub form_is : form ≡ form_of_log (schema_of view) (log_of view)

pub own : {v : Inside} {view : LogView} → view_inside v ≡ view → IsSound v → {items : List Told} → items ≡ v.log.items
    → {form : Form} → form ≡ form_of_log v.schema.now (told_log items) → IsOwn v view form
own {v} is sound same whole = record {
  schema_is = ap schema_of is;
  small = subst (λ (w : LogView). IsSmallLog w.schema w.log) is sound.small;
  form_is = whole ∙ ap (λ l. form_of_log v.schema.now (told_log l)) same ∙ ap (λ (w : LogView). form_of_log w.schema w.log) is;
}

module _ {v : Inside} {view : LogView} {form : Form} (ours : IsOwn v view form) (premise : List Signed) (goal : Signed) where
  -- what was checked is told of the probe
  pub own-told : (budget : ℕ) (wanted : Wanted) (verdict : Verdict) → IsCheckedOf v.schema.now premise goal budget wanted form verdict
      → IsTold (schema_of view) (log_of view ++ premise) goal budget wanted verdict
  own-told budget wanted verdict checked = record {
    is = subst (λ s. IsCheckedOf s premise goal budget wanted form verdict) ours.schema_is checked (log_of view) ours.form_is;
  }

  -- and what was found right is so for the probe's clauses
  pub own-right : (found : Certified) → IsRightOf v.schema.now premise goal form found
      → IsRightFor (form_of_log (schema_of view) (with_negated (log_of view ++ premise) goal)).clauses found
  own-right found right = subst (λ s. IsRightOf s premise goal form found) ours.schema_is right (log_of view) ours.form_is

  -- and a refutation is the machine's on them
  pub own-lines : (budget : ℕ) (found : Certified) → IsMachinesOf v.schema.now premise goal budget form found
      → IsMachines (searched_end (form_of_log (schema_of view) (with_negated (log_of view ++ premise) goal)) budget) found
  own-lines budget found machines =
      subst (λ s. IsMachinesOf s premise goal budget form found) ours.schema_is machines (log_of view) ours.form_is
