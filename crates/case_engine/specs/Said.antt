-- What a statement in memory says.
use Rattle.std.specs.Prelude.{◌≤◌, length}
use Rattle.cqe_base.specs.Memory.{declaration_of}
use Rattle.case_engine.specs.Statements
use Rattle.case_engine.specs.Statements.{silence, domain_is, relation_is, fact_is, method_is}
use Rattle.case_engine.specs.Statements.{user_knows, secrecy_is, secret_is, budget_is, user_asks}
use Rattle.case_engine.specs.declared.statement.Statement.{Statement}
use Rattle.case_engine.specs.declared.statement.Statement.TheVariants.{Silence, Domain, Relation}
use Rattle.case_engine.specs.declared.statement.Statement.TheVariants.{Fact, Method, Know}
use Rattle.case_engine.specs.declared.statement.Statement.TheVariants.{Secrecy, Secret, Budget}
use Rattle.case_engine.specs.declared.statement.Statement.TheVariants.{Ask}

-- what a statement in memory says
abbrev pub said : Statement → Statements.Statement
said Silence = silence
said (Domain declared) = domain_is (declaration_of declared)
said (Relation declared) = relation_is (declaration_of declared)
said (Fact text) = fact_is text.now
said (Method method) = method_is method
said (Know text) = user_knows text.now
said (Secrecy text) = secrecy_is text.now
said (Secret text) = secret_is text.now
said (Budget budget) = budget_is budget
said (Ask text) = user_asks text.now

-- the text of a statement has at most 4,096 bytes
abbrev pub IsShortStatement : Statement → Type 0
IsShortStatement (Fact text) = length text.now ≤ 4096
IsShortStatement (Know text) = length text.now ≤ 4096
IsShortStatement (Secrecy text) = length text.now ≤ 4096
IsShortStatement (Secret text) = length text.now ≤ 4096
IsShortStatement (Ask text) = length text.now ≤ 4096
IsShortStatement _ = Unit {0}
