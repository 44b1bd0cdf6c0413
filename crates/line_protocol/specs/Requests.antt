-- The request that a line makes.
use Rattle.std.specs.Prelude.{ℕ, Bool, ◌&&◌, nat_le, [], length, if◌then◌else◌, codes, bytes_eq}
use Rattle.std.specs.List.{list_all, list_any, before_first, after_first}
use Rattle.cqe_base.specs.Schema.{Text, is_schema_name}
use Rattle.cqe_base.specs.Tokens.{is_blank}
use Rattle.line_protocol.specs.Words.{is_printable}
use Rattle.line_protocol.specs.declared.request.Request.{Request}
use Rattle.line_protocol.specs.declared.request.Request.TheVariants.{Login, Ask, Quit, Other}
use Rattle.line_protocol.specs.declared.request.Request.TheVariants.{List as Listing}

-- what a line asks for
pub data LineRequest : Type 0 where
  login_as : (user phrase : Text) → LineRequest
  ask_for : (text : Text) → LineRequest
  list_for : (count : ℕ) (text : Text) → LineRequest
  quit_session : LineRequest
  other_line : LineRequest

-- what a Request in memory asks for
abbrev pub meaning_of : Request → LineRequest
meaning_of (Login user phrase) = login_as user.now phrase.now
meaning_of (Ask text) = ask_for text.now
meaning_of (Listing count text) = list_for count text.now
meaning_of Quit = quit_session
meaning_of Other = other_line

-- whether a user and a phrase make a login: a name of the form of a constant's, and 1 to 256 bytes
abbrev pub is_login : Text → Text → Bool
is_login user phrase =
    is_schema_name user && (nat_le 1 (length phrase) && nat_le (length phrase) 256)

-- the request of the text behind `login `: a name, one blank, and a phrase, which is all of the
-- rest
unfoldable pub login_of : Text → LineRequest
login_of text =
    let user = before_first is_blank text in
    let phrase = after_first is_blank text in
    if is_login user phrase then login_as user phrase else other_line

-- the request of a word and a text: the word is one digit from 1 to 4, and so many quantifiers of
-- the text are to be opened
abbrev pub counted : Text → Text → LineRequest
counted word text =
    if bytes_eq word (codes "1") then list_for 1 text
    else if bytes_eq word (codes "2") then list_for 2 text
    else if bytes_eq word (codes "3") then list_for 3 text
    else if bytes_eq word (codes "4") then list_for 4 text
    else other_line

-- the request of the text behind `list `: a digit, one blank, and a text, which is all of the rest
unfoldable pub list_of : Text → LineRequest
list_of text = if list_any is_blank text
    then counted (before_first is_blank text) (after_first is_blank text) else other_line

-- the request of a first word, and the text behind the blank that ends it
abbrev pub worded : Text → Text → LineRequest
worded word text =
    if bytes_eq word (codes "ask") then ask_for text
    else if bytes_eq word (codes "login") then login_of text
    else if bytes_eq word (codes "list") then list_of text
    else other_line

-- the request of a word alone: `ask` asks the empty text
abbrev pub lone : Text → LineRequest
lone word =
    if bytes_eq word (codes "ask") then ask_for []
    else if bytes_eq word (codes "quit") then quit_session
    else other_line

-- the request of printable bytes
abbrev pub spoken : Text → LineRequest
spoken line = if list_any is_blank line
    then worded (before_first is_blank line) (after_first is_blank line) else lone line

-- the request of a line
unfoldable pub request_of : Text → LineRequest
request_of line = if list_all is_printable line then spoken line else other_line
