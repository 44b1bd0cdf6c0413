-- Names before a `)` at the end of tokens in memory.
use Rattle.std.proofs.Common.{◌≡◌, ◌-◌, true, List, length, take, map}
use Rattle.std.specs.Prelude.{Option, slice_get}
use Rattle.std.proofs.lemmas.List.{take-map, length-map}
use Rattle.cqe_base.specs.Schema.{Text}
use Rattle.sentence_text.specs.declared.token.Token.{Token}
use Rattle.sentence_text.specs.Upcoming.{token_of}
use Rattle.case_engine.specs.Statements.{is_closed, closed_names, names_or_none}

pub closed_names-in : (tokens : List Token) (found : Option (List Text)) → is_closed (slice_get (map token_of tokens) (length tokens - 1)) ≡ true
    → found ≡ names_or_none (map token_of (take (length tokens - 1) tokens)) → found ≡ closed_names (map token_of tokens)
closed_names-in tokens found closed is = rw (length-map tokens token_of, closed, take-map token_of (length tokens - 1) tokens) is
