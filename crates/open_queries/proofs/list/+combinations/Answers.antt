use Rattle.std.proofs.Common.{arith, length}
use Rattle.open_queries.proofs.Choices.{product_fits}
use Rattle.open_queries.proofs.list.+combinations.Goals as goal

pub overflow_mul-result : goal.overflow_mul-result
overflow_mul-result t c =
    product_fits c.domain_size.result c.combinations.result (length c.in-Some.others.now) c.domain_size.ensures.few
    c.combinations.ensures.fit (omega (arith, c.in-Some.ensures.cases.1))
