use Rattle.std.proofs.Common.{◌++◌, Some, map, refl, ap, ◌∙◌}
use Rattle.std.specs.Prelude.{codes, string_bytes}
use Rattle.audit_text.specs.Text.{world_text}
use Rattle.dossier.specs.Written.{open_text}
use Rattle.dossier.proofs.printed.push_world.Goals as goal

pub returns : goal.returns
returns c =
    let made = c.in_ok-facts.ensures in (
      open_text c.args.schema.now made.0,
      (made.0, made.1, refl),
      c.in_ok-push_listed.ensures
          ∙ ap (λ texts. string_bytes c.args.text.now ++ (codes "open " ++ world_text (Some texts) ++ codes "\n"))
          (ap (map string_bytes) c.deref.ensures.value ∙ made.2),
    )
