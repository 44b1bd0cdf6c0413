-- The lines of a session, one more.
use Rattle.std.proofs.Common.{◌≡◌, ℕ, suc, ◌≤◌, ◌+◌, ◌-◌, ◌*◌, Bool, true, false, List, [], ◌∷◌, ◌++◌, length, take, drop, get_or, sym, ap, ◌∙◌, subst}
use Rattle.std.proofs.Common.{append_assoc, arith}
use Rattle.std.specs.Prelude.{Option, codes, bytes_eq, if◌then◌else◌}
use Rattle.std.specs.List.{list_all, list_any, before_first, after_first, position_or_len}
use Rattle.std.proofs.lemmas.List.{append-nil, length-append, length-drop, take_all}
use Rattle.std.proofs.lemmas.List.Concat.{flat_map-append}
use Rattle.line_protocol.specs.Logins.{MayLogIn}
use Rattle.cqe_base.specs.Schema.{DatabaseSchema, Text}
use Rattle.cqe_base.specs.Run.{Reply}
use Rattle.cqe_base.specs.declared.user.User.{User}
use Rattle.cqe_base.specs.Tokens.{is_blank}
use Rattle.line_protocol.specs.Words.{is_printable}
use Rattle.line_protocol.specs.Requests.{LineRequest, login_as, ask_for, list_for, quit_session, other_line, is_login, login_of, counted, list_of}
use Rattle.line_protocol.specs.Requests.{worded, lone, request_of}
use Rattle.open_queries.specs.Instances.{OpenQuery, instances}
use Rattle.session_core.specs.Lists as lists
use Rattle.session_core.specs.Lists.{SaysInstance, SaysInstances, Lists}
use Rattle.session_core.specs.Asked.{IsWithin}
use Rattle.session_core.specs.Heard.{HeardLine, request_in}
use Rattle.session_core.specs.Talks.{is_named, LogsIn, here, further, Says, welcome, no_login, logged_in, not_yet, replied, not_listed, bye, unknown}
use Rattle.session_core.specs.Talks.{Answers, one_line, listed, Talks, silent, line, broken_off, written_lines}

-- what is said to a request behind other lines
pub talks_more : (users : List User) (schemas : List DatabaseSchema) (next_line : HeardLine) {who mid last : Option ℕ} {lines : List HeardLine}
    {asks asked : List (Text × Reply)} {texts said : List Text} {to_end : Bool} → Talks users schemas who lines mid asks texts true
    → Answers users schemas mid (request_in next_line) last asked said to_end
    → Talks users schemas who (lines ++ next_line ∷ []) last (asks ++ asked) (texts ++ said) to_end
talks_more users schemas next_line {who} {last = last} {asked = asked} {said = said} {to_end = true} silent answers =
    subst (λ a. Talks users schemas who (next_line ∷ []) last a said true) (append-nil asked)
    (subst (λ t. Talks users schemas who (next_line ∷ []) last (asked ++ []) t true) (append-nil said) (line answers silent))
talks_more users schemas next_line {to_end = false} silent answers = broken_off answers
talks_more users schemas next_line {who} {last = last} {asked = asked} {said = new} {to_end = to_end}
    (line {heard = first_line} {lines = lines} {asked = first} {asks = rest} {said = text} {texts = texts} said talks) answers =
    subst (λ a. Talks users schemas who (first_line ∷ lines ++ next_line ∷ []) last a ((text ++ texts) ++ new) to_end) (sym (append_assoc first rest asked))
    (subst (λ t. Talks users schemas who (first_line ∷ lines ++ next_line ∷ []) last (first ++ (rest ++ asked)) t to_end) (sym (append_assoc text texts new))
    (line said (talks_more users schemas next_line talks answers)))

-- a request has at most one ask
says_few : (users : List User) {who next : Option ℕ} {request : LineRequest} {asked : List (Text × Reply)} {text : Text}
    → Says users who request next asked text → length asked ≤ 1
says_few users (welcome logs) = omega arith
says_few users (no_login none) = omega arith
says_few users logged_in = omega arith
says_few users not_yet = omega arith
says_few users replied = omega arith
says_few users not_listed = omega arith
says_few users bye = omega arith
says_few users unknown = omega arith

-- the line of an instance has at most one
pub instance_few : (schema : DatabaseSchema) (query : OpenQuery) {number : ℕ} {asked : List (Text × Reply)} {text : Text}
    → SaysInstance schema query number asked text → length asked ≤ 1
instance_few schema query lists.answered = omega arith
instance_few schema query lists.no_text = omega arith

-- those of a list have at most one for each instance
instances_few : (schema : DatabaseSchema) (query : OpenQuery) {number : ℕ} {asks : List (Text × Reply)} {texts : List Text} {to_end : Bool}
    → SaysInstances schema query number asks texts to_end → length asks + number ≤ instances schema query
instances_few schema query lists.done = omega arith
instances_few schema query (lists.broken_off low said) = omega (arith, low, instance_few schema query said)
instances_few schema query (lists.next {asked = first} {asks = rest} said more) =
    let both = length-append first rest in
    omega (arith, both, instance_few schema query said, instances_few schema query more)

lists_few : (schema : DatabaseSchema) (count : ℕ) (text : Text) {asks : List (Text × Reply)} {texts : List Text} {to_end : Bool}
    → Lists schema count text asks texts to_end → length asks ≤ 256
lists_few schema count text (lists.refused is) = omega arith
lists_few schema count text (lists.opened {query = query} is says) = omega (arith, is.few_instances, instances_few schema query says)

answers_few : (users : List User) (schemas : List DatabaseSchema) {who next : Option ℕ} {request : LineRequest} {asked : List (Text × Reply)}
    {texts : List Text} {to_end : Bool} → Answers users schemas who request next asked texts to_end → length asked ≤ 256
answers_few users schemas (one_line says) = omega (arith, says_few users says)
answers_few users schemas (listed {count = count} {schema = schema} {text = text} at says) = lists_few schema count text says

-- so there are at most 256 asks for each line
pub talks_few : (users : List User) (schemas : List DatabaseSchema) {who last : Option ℕ} {lines : List HeardLine} {asks : List (Text × Reply)}
    {texts : List Text} {to_end : Bool} → Talks users schemas who lines last asks texts to_end → length asks ≤ 256 * length lines
talks_few users schemas silent = omega arith
talks_few users schemas (line {asked = first} {asks = rest} said talks) =
    let both = length-append first rest in
    omega (arith, both, answers_few users schemas said, talks_few users schemas talks)
talks_few users schemas (broken_off said) = omega (arith, answers_few users schemas said)

-- the lines that were written, and others
pub written_more : (texts said : List Text) → written_lines (texts ++ said) ≡ written_lines texts ++ written_lines said
written_more texts said = flat_map-append (λ text. text ++ codes "\n") texts said

-- one line
pub written_one : (text : Text) → written_lines (text ∷ []) ≡ text ++ codes "\n"
written_one text = append-nil (text ++ codes "\n")

-- ---- logins

-- the first of the users may log in
pub logs_here : (name phrase : Text) (users : List User) (user : User) → 1 ≤ length users → user ≡ get_or users 0 user → is_named name user ≡ true
    → MayLogIn user phrase → LogsIn name phrase users 0
logs_here name phrase [] user some first named may = absurd (omega (arith, some))
logs_here name phrase (u ∷ users) user some first named may = here (subst (λ v. is_named name v ≡ true) first named) (subst (λ v. MayLogIn v phrase) first may)

-- one of the others may
pub logs_further : (name phrase : Text) (users : List User) (user : User) (place : ℕ) → 1 ≤ length users → user ≡ get_or users 0 user
    → is_named name user ≡ false → LogsIn name phrase (take (length users - 1) (drop 1 users)) place → LogsIn name phrase users (place + 1)
logs_further name phrase [] user place some first named logs = absurd (omega (arith, some))
logs_further name phrase (u ∷ users) user place some first named logs =
    let rest : take (length (u ∷ users) - 1) users ≡ users = take_all (length (u ∷ users) - 1) users (omega arith) in
    subst (λ n. LogsIn name phrase (u ∷ users) n) (let e : suc place ≡ place + 1 =
    omega arith in e) (further (subst (λ v. is_named name v ≡ false) first named) (subst (λ us. LogsIn name phrase us place) rest logs))

-- ---- the texts of asks

after_short : (p : ℕ → Bool) (xs : List ℕ) → length (after_first p xs) ≤ length xs
after_short p xs = omega (arith, length-drop (position_or_len p xs + 1) xs)

login_within : (text : Text) → IsWithin (login_of text)
unfolding login_of
login_within text = by (is_login (before_first is_blank text) (after_first is_blank text))
  where
    by : (t : Bool) → IsWithin (if t then login_as (before_first is_blank text) (after_first is_blank text) else other_line)
    by true = tt
    by false = tt

counted_within : (word text : Text) → length text ≤ 4096 → IsWithin (counted word text)
counted_within word text low = by (bytes_eq word (codes "1")) (bytes_eq word (codes "2")) (bytes_eq word (codes "3")) (bytes_eq word (codes "4"))
  where
    by : (a b c d : Bool)
        → IsWithin (if a then list_for 1 text else if b then list_for 2 text else if c then list_for 3 text else if d then list_for 4 text else other_line)
    by true b c d = (omega arith, omega arith, low)
    by false true c d = (omega arith, omega arith, low)
    by false false true d = (omega arith, omega arith, low)
    by false false false true = (omega arith, omega arith, low)
    by false false false false = tt

list_within : (text : Text) → length text ≤ 4096 → IsWithin (list_of text)
unfolding list_of
list_within text low = by (list_any is_blank text)
  where
    by : (t : Bool) → IsWithin (if t then counted (before_first is_blank text) (after_first is_blank text) else other_line)
    by true = counted_within (before_first is_blank text) (after_first is_blank text) (omega (arith, low, after_short is_blank text))
    by false = tt

worded_within : (word text : Text) → length text ≤ 4096 → IsWithin (worded word text)
worded_within word text low = by (bytes_eq word (codes "ask")) (bytes_eq word (codes "login")) (bytes_eq word (codes "list"))
  where
    by : (a b c : Bool) → IsWithin (if a then ask_for text else if b then login_of text else if c then list_of text else other_line)
    by true b c = low
    by false true c = login_within text
    by false false true = list_within text low
    by false false false = tt

lone_within : (word : Text) → IsWithin (lone word)
lone_within word = by (bytes_eq word (codes "ask")) (bytes_eq word (codes "quit"))
  where
    by : (a b : Bool) → IsWithin (if a then ask_for [] else if b then quit_session else other_line)
    by true b = omega arith
    by false true = tt
    by false false = tt

-- what a request asks is within its line
pub request_within : (said : Text) → length said ≤ 4096 → IsWithin (request_of said)
unfolding request_of
request_within said low = by (list_all is_printable said) (list_any is_blank said)
  where
    by : (a b : Bool) → IsWithin (if a then (if b then worded (before_first is_blank said) (after_first is_blank said) else lone said) else other_line)
    by true true = worded_within (before_first is_blank said) (after_first is_blank said) (omega (arith, low, after_short is_blank said))
    by true false = lone_within said
    by false b = tt
