use Rattle.std.proofs.Common.{◌≡◌, ◌++◌, List, ℕ, ap, ◌∙◌, append_assoc, rules, tests}
use Rattle.std.specs.Prelude.{codes, string_bytes}
use Rattle.cqe_base.specs.History.{profile_of}
use Rattle.audit_print.specs.Said.{method_word}
use Rattle.dossier.proofs.writing.head_text.Goals as goal

regroup : (x a n s m t st e : List ℕ) → (x ++ (((((a ++ n) ++ s) ++ m) ++ t) ++ st)) ++ e ≡ ((((((x ++ a) ++ n) ++ s) ++ m) ++ t) ++ st) ++ e
regroup x a n s m t st e = simp append_assoc

pub returns : goal.returns
returns c =
    let user = profile_of c.args.user.now in
    let made : string_bytes c.push_str-2.new.self ≡ (codes "dossier " ++ string_bytes c.in_ok-rest.rest) ++ codes "\n" = search (rules, tests) in
    made ∙ ap (λ rest. (codes "dossier " ++ rest) ++ codes "\n") c.in_ok-rest.ensures
    ∙ regroup (codes "dossier ") (codes "1 ") (string_bytes c.args.user.now.name) (codes " ") (method_word user.method) (codes " ")
    c.args.standing.now (codes "\n")
