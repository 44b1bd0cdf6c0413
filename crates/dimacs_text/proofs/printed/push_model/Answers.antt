use Rattle.std.proofs.Common.{◌≡◌, ◌++◌, ap, ◌∙◌, append_assoc}
use Rattle.std.specs.Prelude.{codes, string_bytes}
use Rattle.dimacs_text.specs.Printed.{values_text}
use Rattle.dimacs_text.proofs.printed.push_model.Goals as goal

pub returns : goal.returns
returns c =
    let old = string_bytes c.args.text.now in
    let values = values_text 0 c.args.signs.now.values.items in
    let first : string_bytes c.push_str.new.self ≡ old ++ codes "s SATISFIABLE\nv " = c.in_ok-push_str.ensures.bytes in
    c.in_ok-push_values.ensures ∙ ap (λ xs. string_bytes c.push_str.new.self ++ values_text 0 xs) c.deref.ensures.value
    ∙ ap (λ b. b ++ values) first ∙ append_assoc old (codes "s SATISFIABLE\nv ") values
