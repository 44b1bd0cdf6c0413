-- What a user of a policy is, or why he is refused.
use Rattle.std.specs.Prelude.{ℕ, ◌+◌, nat_le, nat_lt, List, [], ◌∷◌, ◌++◌, length, map, Option}
use Rattle.std.specs.Prelude.{Some, None, Result, Ok, Err, codes, if◌then◌else◌}
use Rattle.hex.specs.declared.error.FromHexError.{FromHexError}
use Rattle.hex.specs.Hex.{decode_sized}
use Rattle.toml.specs.Data.{Data, get, as_str, as_integer}
use Rattle.cqe_base.specs.declared.user.Method.{Method}
use Rattle.cqe_base.specs.Schema.{Text, DatabaseSchema, contains_text, is_schema_name}
use Rattle.cqe_base.specs.Formula.{Formula, nodes}
use Rattle.cqe_base.specs.Reading
use Rattle.cqe_base.specs.Reading.{reading}
use Rattle.cqe_base.specs.History.{view_size}
use Rattle.cqe_base.specs.Censor.{method_named}
use Rattle.cqe_base.specs.Secrecies.{with_secrecies}
use Rattle.policy_files.specs.declared.keys.PolicyVersion.{PolicyVersion}
use Rattle.policy_files.specs.declared.keys.PolicyVersion.TheVariants.{One, Two}
use Rattle.policy_files.specs.declared.text.Bounds.{Bounds}
use Rattle.policy_files.specs.declared.error.KeyPlace.{KeyPlace}
use Rattle.policy_files.specs.declared.error.PolicyError.TheVariants.{MissingKey, WrongKind}
use Rattle.policy_files.specs.declared.error.PolicyError.TheVariants.{Sentence, Limit}
use Rattle.policy_files.specs.declared.error.PolicyError.TheVariants.{DuplicateUser}
use Rattle.policy_files.specs.Tree.{elements, is_string_array, text_in, natural}
use Rattle.policy_files.specs.Policies.{PolicyUser}
use Rattle.policy_files.specs.Keys.{Step, ◌>>=◌, key_place, text_place, only_keys, of_kind}
use Rattle.policy_files.specs.Keys.{required, within}

-- the place of a key of the user of this number
abbrev pub user_place : ℕ → Text → KeyPlace
user_place user key = key_place (Some user) key

-- ---- the name

-- a name of the form of a constant's that no earlier user has
abbrev pub new_name : KeyPlace → List Text → Text → Step Text
new_name place earlier name =
    if is_schema_name name
    then (if contains_text earlier name then Err (DuplicateUser place) else Ok name)
    else Err (WrongKind place)

-- the name at the key
abbrev pub name_of : List Text → ℕ → Option Data → Step Text
name_of earlier user value =
    required as_str (user_place user (codes "name")) value >>= new_name
    (user_place user (codes "name")) earlier

-- ---- the method

-- the method at the key
abbrev pub method_of : ℕ → Option Data → Step Method
method_of user value =
    required as_str (user_place user (codes "method")) value
    >>= λ word. of_kind (user_place user (codes "method")) (method_named word)

-- ---- sentences

-- a sentence of at most so many nodes
abbrev pub small_sentence : DatabaseSchema → ℕ → Text → ℕ → ℕ → Result Formula Reading.Refusal
    → Step Formula
small_sentence schema user key most index (Err why) =
    Err (Sentence (text_place user key index (Some why)))
small_sentence schema user key most index (Ok sentence) =
    if nat_le (nodes schema sentence) most then Ok sentence
    else Err (Limit (text_place user key index None))

-- the sentence that a text of at most 4,096 bytes is
unfoldable pub sentence_of : DatabaseSchema → ℕ → Text → ℕ → ℕ → Text → Step Formula
sentence_of schema user key most index text =
    if nat_lt 4096 (length text) then Err (Limit (text_place user key index None))
    else small_sentence schema user key most index (reading schema text)

-- the sentences of the texts that are left, behind those that were read
abbrev pub sentences_behind : DatabaseSchema → ℕ → Text → ℕ → List Formula → List Data
    → Step (List Formula)
sentences_behind schema user key most read [] = Ok read
sentences_behind schema user key most read (text ∷ rest) =
    sentence_of schema user key most (length read) (text_in text)
    >>= λ sentence. sentences_behind schema user key most (read ++ sentence ∷ []) rest

-- the sentences of an array of strings, within these bounds
unfoldable pub sentences_of : DatabaseSchema → ℕ → Text → Bounds → Data → Step (List Formula)
sentences_of schema user key bounds value =
    if is_string_array value then
    (within bounds.least bounds.greatest (user_place user key) (length (elements value))
    >>= λ count. sentences_behind schema user key bounds.nodes [] (elements value))
    else Err (WrongKind (user_place user key))

-- at most 256 sentences that he knows, of at most 20,000 nodes each; the key may be absent
abbrev pub known_of : DatabaseSchema → ℕ → Option Data → Step (List Formula)
known_of schema user None = Ok []
known_of schema user (Some value) =
    sentences_of schema user (codes "know")
    (record { least = 0; greatest = 256; nodes = 20000 }) value

-- from version 2 on there may be no secrets but those that secrecies make
abbrev pub least_secrets : PolicyVersion → ℕ
least_secrets One = 1
least_secrets Two = 0

-- the secrets where the key is absent, as it may be from version 2 on
abbrev pub no_secrets : PolicyVersion → ℕ → Step (List Formula)
no_secrets One user = Err (MissingKey (user_place user (codes "secrets")))
no_secrets Two user = Ok []

-- at most 16 secrets, of at most 20,000 nodes each
abbrev pub secrets_of : PolicyVersion → DatabaseSchema → ℕ → Option Data → Step (List Formula)
secrets_of version schema user None = no_secrets version user
secrets_of version schema user (Some value) =
    sentences_of schema user (codes "secrets")
    (record { least = least_secrets version; greatest = 16; nodes = 20000 }) value

-- at most 8 secrecies, of at most 19,999 nodes each, since their negations are secrets too; the key
-- may be absent
abbrev pub secrecies_of : DatabaseSchema → ℕ → Option Data → Step (List Formula)
secrecies_of schema user None = Ok []
secrecies_of schema user (Some value) =
    sentences_of schema user (codes "secrecies")
    (record { least = 0; greatest = 8; nodes = 19999 }) value

-- the secrets that these secrecies and others make: 1 to 16
abbrev pub all_secrets : ℕ → List Formula → List Formula → Step (List Formula)
all_secrets user secrecies others =
    within 1 16 (user_place user (codes "secrecies")) (length (with_secrecies secrecies others))
    >>= λ count. Ok (with_secrecies secrecies others)

-- ---- the budget

-- a budget from 1 to 4,000,000
abbrev pub fit_budget : ℕ → Option ℕ → Step ℕ
fit_budget user None = Err (Limit (user_place user (codes "budget")))
fit_budget user (Some budget) = within 1 4000000 (user_place user (codes "budget")) budget

-- the budget at the key; without it 1,000,000
abbrev pub budget_of : ℕ → Option Data → Step ℕ
budget_of user None = Ok 1000000
budget_of user (Some value) =
    of_kind (user_place user (codes "budget")) (as_integer value) >>= λ number.
    fit_budget user (natural number)

-- ---- the token

-- the 32 bytes that 64 hexadecimal digits of either case write; any other text is refused
abbrev pub token_bytes : ℕ → Result (List ℕ) FromHexError → Step (Option (List ℕ))
token_bytes user (Ok bytes) = Ok (Some bytes)
token_bytes user (Err why) = Err (WrongKind (user_place user (codes "token")))

-- the token at the key; without it nobody logs in as the user
abbrev pub token_of : ℕ → Option Data → Step (Option (List ℕ))
token_of user None = Ok None
token_of user (Some value) =
    of_kind (user_place user (codes "token")) (as_str value) >>= λ text.
    token_bytes user (decode_sized text 32)

-- ---- whole users

-- the view of a user who has asked nothing has at most 40,000 nodes
abbrev pub with_small_view : DatabaseSchema → ℕ → PolicyUser → Step PolicyUser
with_small_view schema user named =
    if nat_le (view_size schema named.profile []) 40000 then Ok named
    else Err (Limit (user_place user (codes "secrets")))

-- the user of this number, behind users of these names: unknown keys, then key by key, then the
-- size of his view
unfoldable pub user_of : PolicyVersion → DatabaseSchema → List Text → ℕ → Data → Step PolicyUser
user_of version schema earlier user keys = do
  none ← only_keys version (Some user) keys
  name ← name_of earlier user (get (codes "name") keys)
  method ← method_of user (get (codes "method") keys)
  know ← known_of schema user (get (codes "know") keys)
  others ← secrets_of version schema user (get (codes "secrets") keys)
  secrecies ← secrecies_of schema user (get (codes "secrecies") keys)
  secrets ← all_secrets user secrecies others
  budget ← budget_of user (get (codes "budget") keys)
  token ← token_of user (get (codes "token") keys)
  with_small_view schema user (record {
    name = name;
    profile = record {
      method = method;
      know = know;
      secrets = secrets;
      pairs = length secrecies;
      budget = budget;
    };
    token = token;
  })

-- the names of the users of a policy, in their order
abbrev pub names_of : List PolicyUser → List Text
names_of users = map (λ u. u.name) users

-- the users of the tables that are left, behind those that were read
abbrev pub users_behind : PolicyVersion → DatabaseSchema → List PolicyUser → List Data
    → Step (List PolicyUser)
users_behind version schema read [] = Ok read
users_behind version schema read (keys ∷ rest) =
    user_of version schema (names_of read) (length read) keys
    >>= λ user. users_behind version schema (read ++ user ∷ []) rest
