use Rattle.std.proofs.Common.{◌≤◌, length, sym, ◌∙◌, subst}
use Rattle.clause_form.specs.Forms.{Form, FormSize, form_of, first_of}
use Rattle.clause_form.proofs.Cuts.{cut_within, cut_back}
use Rattle.clause_form.proofs.former.Former.cut.Goals as goal

pub cut_to-requires : goal.cut_to-requires
cut_to-requires c =
    let formulas = c.requires.0 in
    let more = c.requires.1 in
    subst (λ (s : FormSize). s.clauses ≤ length c.args.self.now.clauses) (sym c.requires.3)
    (subst (λ (f : Form). length (form_of formulas).clauses ≤ length f.clauses) (sym c.requires.2)
    (cut_within c.law_clause_form_is_prefix.ensures formulas more))

pub returns : goal.returns
returns c =
    λ formulas more is mark.
    c.cut_to.ensures
    ∙ (λ i. first_of (mark i) (is i))
    ∙ cut_back c.law_clause_form_is_prefix.ensures c.law_numbered_facts_stay.ensures formulas more
