use Rattle.std.proofs.Common.{◌++◌, ◌∙◌, ap, List}
use Rattle.outside.specs.MemoryLinks.{links_back, visits_among}
use Rattle.outside.specs.Visits.{Visit}
use Rattle.outside.proofs.Visits.{visits_among-push}
use Rattle.outside.proofs.memory_links.MemoryLinksLinks.take_back.Goals as goal

pub returns-clause-back : goal.returns-clause-back
returns-clause-back c told =
    ap visits_among c.push_reserved-2.ensures.items ∙ visits_among-push c.args.self.now.doors_back.items c.closed-waiting.result.1
    ∙ ap (λ (l : List Visit). links_back c.args.self.now ++ l) c.closed-waiting.ensures.back
