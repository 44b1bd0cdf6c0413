use Rattle.std.proofs.Common.{◌≡◌, ◌+◌, ◌++◌, [], true, cond, length, map, ap, sym, ◌∙◌, append_assoc}
use Rattle.std.specs.Prelude.{codes, string_bytes}
use Rattle.clause_store.specs.PlainLines.{line_of, lines_of}
use Rattle.dimacs_text.specs.Printed.{lrat_text}
use Rattle.dimacs_text.proofs.printed.push_refutation.Goals as goal

pub returns-in_ok-push_lines : goal.returns-in_ok-push_lines
returns-in_ok-push_lines c =
    let old = string_bytes c.args.text.now in
    let lines = lrat_text (length c.args.cnf.now.clauses + 1) (lines_of c.args.refutation.now) in
    let wanted : c.args.cnf.now.lrat ≡ true = sym c.lrat.ensures ∙ c.if-lrat.true in
    let first : string_bytes c.push_str.new.self ≡ old ++ codes "s UNSATISFIABLE\n" = c.in_ok-push_str.ensures.bytes in
    let second : string_bytes c.push_lines.new.text ≡ string_bytes c.push_str.new.self ++ lines =
    c.in_ok-push_lines.ensures
    ∙ (λ i. string_bytes c.push_str.new.self
    ++ lrat_text ((c.len.ensures ∙ ap length c.clauses.ensures.clauses) i + 1) (map line_of (c.deref.ensures.value i))) in
    second ∙ ap (λ b. b ++ lines) first ∙ append_assoc old (codes "s UNSATISFIABLE\n") lines
    ∙ ap (λ b. old ++ (codes "s UNSATISFIABLE\n" ++ cond b lines [])) (sym wanted)
