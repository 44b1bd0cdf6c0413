use Rattle.std.proofs.Common.{◌∷◌, [], map, sym, ap, ◌∙◌, append-nil}
use Rattle.std.specs.Prelude.{string_bytes}
use Rattle.std.proofs.lemmas.List.{map-append}
use Rattle.standby_engine.proofs.run.take_part.Goals as goal

pub returns-in-Opened-clause-names : goal.returns-in-Opened-clause-names
returns-in-Opened-clause-names g c =
    rw c.in-Opened.is (ap (map string_bytes) c.push_reserved.ensures.items ∙ map-append string_bytes c.args.names.now.items (c.in-Opened.name ∷ []))

pub returns-in-Opened-clause-others : goal.returns-in-Opened-clause-others
returns-in-Opened-clause-others g c = rw c.in-Opened.is (sym (append-nil c.args.given.now.items))

pub returns-in-Refused-clause-journals : goal.returns-in-Refused-clause-journals
returns-in-Refused-clause-journals g c = rw c.in-Refused.is (sym (append-nil c.args.journals.now.items))

pub returns-in-Refused-clause-names : goal.returns-in-Refused-clause-names
returns-in-Refused-clause-names g c = rw c.in-Refused.is (sym (append-nil (map string_bytes c.args.names.now.items)))
