-- Statements and declarations in memory.
use Rattle.std.specs.Prelude.{List, map, Vec, String, string_bytes}
use Rattle.std.specs.declared.alloc.Global.{Global}
use Rattle.cqe_base.specs.Schema.{Text}
use Rattle.cqe_base.specs.Tokens
use Rattle.sentence_text.specs.declared.token.Token.{Token}
use Rattle.sentence_text.specs.Upcoming.{token_of}

-- the tokens of a list in memory
abbrev pub tokens_in : Vec Token Global → List Tokens.Token
tokens_in tokens = map token_of tokens.items

-- the names of a list in memory
abbrev pub names_in : Vec (String Global) Global → List Text
names_in names = map string_bytes names.items
