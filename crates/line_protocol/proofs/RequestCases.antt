-- The request of a line, case by case.
use Rattle.std.proofs.Common.{◌≡◌, Bool, true, false, [], refl, sym, ap, ◌∙◌}
use Rattle.std.specs.Prelude.{◌&&◌, if◌then◌else◌}
use Rattle.std.specs.List.{list_all, list_any, before_first, after_first}
use Rattle.cqe_base.specs.Schema.{Text, is_schema_name}
use Rattle.cqe_base.specs.Tokens.{is_blank}
use Rattle.line_protocol.specs.Words.{is_printable}
use Rattle.line_protocol.specs.Requests.{LineRequest, login_as, other_line, is_login, login_of, counted, list_of, lone, worded, spoken, request_of}
use Rattle.line_protocol.proofs.Blanks.{after_none}

and_false : (a : Bool) → (a && false) ≡ false
and_false true = refl
and_false false = refl

-- the choice that a test makes
choice : Text → Text → Bool → LineRequest
choice user phrase test = if test then login_as user phrase else other_line

pub login_holds : (text user phrase : Text) → user ≡ before_first is_blank text → phrase ≡ after_first is_blank text → is_login user phrase ≡ true
    → login_as user phrase ≡ login_of text
unfolding login_of choice
login_holds text user phrase front rest holds =
    ap (choice user phrase) (sym holds)
    ∙ ap (λ (u : Text). choice u phrase (is_login u phrase)) front
    ∙ ap (λ (p : Text). choice (before_first is_blank text) p (is_login (before_first is_blank text) p)) rest

pub login_fails : (text user phrase : Text) → user ≡ before_first is_blank text → phrase ≡ after_first is_blank text → is_login user phrase ≡ false
    → other_line ≡ login_of text
unfolding login_of choice
login_fails text user phrase front rest fails =
    ap (choice user phrase) (sym fails)
    ∙ ap (λ (u : Text). choice u phrase (is_login u phrase)) front
    ∙ ap (λ (p : Text). choice (before_first is_blank text) p (is_login (before_first is_blank text) p)) rest

-- without a blank nobody logs in
pub no_login : (text : Text) → list_any is_blank text ≡ false → other_line ≡ login_of text
no_login text none =
    let refused : is_login (before_first is_blank text) [] ≡ false = and_false (is_schema_name (before_first is_blank text)) in
    login_fails text (before_first is_blank text) [] refl (sym (after_none is_blank text none)) refused

-- what a text with a blank and one without ask to be listed
listing : Text → Bool → LineRequest
listing text test = if test then counted (before_first is_blank text) (after_first is_blank text) else other_line

pub list_counted : (text word rest : Text) → list_any is_blank text ≡ true → word ≡ before_first is_blank text → rest ≡ after_first is_blank text
    → counted word rest ≡ list_of text
unfolding list_of listing
list_counted text word rest blank front behind =
    ap (λ (w : Text). counted w rest) front
    ∙ ap (λ (t : Text). counted (before_first is_blank text) t) behind
    ∙ ap (listing text) (sym blank)

pub no_list : (text : Text) → list_any is_blank text ≡ false → other_line ≡ list_of text
unfolding list_of listing
no_list text none = ap (listing text) (sym none)

-- what printable bytes and others ask for
chosen : Text → Bool → LineRequest
chosen line test = if test then spoken line else other_line

pub unprintable : (line : Text) → list_all is_printable line ≡ false → other_line ≡ request_of line
unfolding request_of chosen
unprintable line fails = ap (chosen line) (sym fails)

said : Text → Bool → LineRequest
said line test = if test then worded (before_first is_blank line) (after_first is_blank line) else lone line

pub word_and_text : (line word text : Text) → list_all is_printable line ≡ true → list_any is_blank line ≡ true → word ≡ before_first is_blank line
    → text ≡ after_first is_blank line → worded word text ≡ request_of line
unfolding request_of chosen said
word_and_text line word text printable blank front rest =
    ap (λ (w : Text). worded w text) front
    ∙ ap (λ (t : Text). worded (before_first is_blank line) t) rest
    ∙ ap (said line) (sym blank)
    ∙ ap (chosen line) (sym printable)

pub word_alone : (line : Text) → list_all is_printable line ≡ true → list_any is_blank line ≡ false → lone line ≡ request_of line
unfolding request_of chosen said
word_alone line printable blank = ap (said line) (sym blank) ∙ ap (chosen line) (sym printable)
