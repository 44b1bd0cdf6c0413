-- What is still to come of a text.
use Rattle.std.specs.Iterator.{YieldsFirstBy}
use Rattle.std.specs.Prelude.{◌≡◌, ℕ, ◌+◌, List, [], ◌∷◌, length, Option, Some, None}
use Rattle.cqe_base.specs.Reading.{Refusal}
use Rattle.cqe_base.specs.Reading.{refusal_at_end}
use Rattle.cqe_base.specs.Tokens
use Rattle.cqe_base.specs.Tokens.{tokens_from, end_from}
use Rattle.sentence_text.specs.declared.token.Token.{Token}

-- a token, without where its bytes lie in memory
abbrev pub token_of : Token → Tokens.Token
token_of t = record { text = t.text.now; start = t.start }

-- what is left of a text, from a place on
pub record Remainder : Type 0 where
  pub text : List ℕ
  pub place : ℕ

-- the tokens that are still to come
abbrev pub upcoming_tokens : Remainder → List Tokens.Token
upcoming_tokens r = tokens_from r.place 0 r.text

-- where they end
abbrev pub upcoming_end : Remainder → ℕ
upcoming_end r = end_from r.place 0 r.text

-- the start of the first token, or else the end
abbrev pub start_or : List Tokens.Token → ℕ → ℕ
start_or [] end = end
start_or (t ∷ ts) end = t.start

-- where the next token starts, or where the tokens end
abbrev pub upcoming_place : Remainder → ℕ
upcoming_place r = start_or (upcoming_tokens r) (upcoming_end r)

-- where the text ends
abbrev pub text_end : Remainder → ℕ
text_end r = r.place + length r.text

-- the refusal where the tokens end
abbrev pub upcoming_refusal : Remainder → Refusal
upcoming_refusal r = refusal_at_end (upcoming_end r) (text_end r)

-- what stays as it is while tokens are passed: where they end, and where the text ends
pub record IsSameSource (old new : Remainder) : Type 0 where
  pub tokens_end : upcoming_end new ≡ upcoming_end old
  pub text_end : text_end new ≡ text_end old

-- an iterator over tokens gives the first one that is still to come, and stays over the same text
abbrev pub PassesToken : Remainder → Option Token → Remainder → Type 0
PassesToken old token new =
    YieldsFirstBy token_of upcoming_tokens old token new × IsSameSource old new

-- the tokens with the next one in front
abbrev pub with_next : Option Token → List Tokens.Token → List Tokens.Token
with_next (Some t) later = token_of t ∷ later
with_next None later = later

-- the next token, where there is one
abbrev pub first_token : List Tokens.Token → Option Tokens.Token
first_token [] = None
first_token (t ∷ ts) = Some t
