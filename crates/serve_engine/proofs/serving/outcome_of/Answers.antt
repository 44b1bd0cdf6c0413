use Rattle.std.proofs.Common.{Bool, sym, ap, ◌∙◌, rules, tests}
use Rattle.std.specs.Prelude.{if◌then◌else◌}
use Rattle.std.proofs.lemmas.Iterator.{YieldsList-from_slice}
use Rattle.std.proofs.lemmas.Iterator.Search.{any_from_yields_List}
use Rattle.worker_pool.specs.declared.worker.Worker.{Worker}
use Rattle.serve_engine.specs.declared.serving.Outcome.TheVariants.{Served, LinksFailed}
use Rattle.serve_engine.specs.Doors.{has_links_failed}
use Rattle.serve_engine.proofs.serving.outcome_of.Goals as goal

pub returns-else-any : goal.returns-else-any
returns-else-any g c =
    let any = any_from_yields_List (λ (worker : Worker g.row.J.Denot g.row.O.Denot). has_links_failed worker.ended) _ _ c.any.result c.any.ensures.ran
    (YieldsList-from_slice c.args.crew.now cc) (λ x b q k. search (rules, tests)) in
    ap (λ (b : Bool). if b then LinksFailed else Served) (sym c.if-any.false ∙ any)
