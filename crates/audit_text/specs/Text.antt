-- The lines of an audit.
use Rattle.std.specs.Prelude.{ℕ, ◌+◌, List, [], ◌∷◌, ◌++◌, map, Option, Some, None, codes, decimal}
use Rattle.std.specs.Prelude.{unwrap_or}
use Rattle.std.specs.List.{flat_map}
use Rattle.cqe_base.specs.declared.user.Mark.{Mark}
use Rattle.cqe_base.specs.declared.user.Mark.TheVariants.{Yes, No, Refused, Undecided, Protected}
use Rattle.cqe_base.specs.Schema.{Text}
use Rattle.cqe_base.specs.Transcript.{mark_text}
use Rattle.audit_text.specs.Said.{SecrecySaid, AuditSaid}

-- the line of the user: name, method and standing
abbrev pub user_line : AuditSaid → Text
user_line said =
    codes "user " ++ said.name ++ codes " " ++ said.method ++ codes " " ++ said.standing
    ++ codes "\n"

-- the word of an item: its mark, or that its sentence was added to the secrets
abbrev pub item_word : Mark → Text
item_word Yes = mark_text Yes
item_word No = mark_text No
item_word Refused = mark_text Refused
item_word Undecided = mark_text Undecided
item_word Protected = codes "protect"

-- the line of an item with its number
abbrev pub entry_line : ℕ → Mark × Text → Text
entry_line n entry =
    decimal n ++ codes " " ++ item_word entry.0 ++ codes " " ++ entry.1 ++ codes "\n"

-- the lines of entries, numbered on from this number
abbrev pub entry_lines : ℕ → List (Mark × Text) → List Text
entry_lines n [] = []
entry_lines n (entry ∷ entries) = entry_line n entry ∷ entry_lines (n + 1) entries

-- facts behind the first one, each with a blank before it
abbrev pub more_facts : List Text → Text
more_facts [] = []
more_facts (fact ∷ facts) = codes " " ++ fact ++ more_facts facts

-- the facts of a world, `-` where there is none, and `spent` where there is no world
abbrev pub world_text : Option (List Text) → Text
world_text None = codes "spent"
world_text (Some []) = codes "-"
world_text (Some (fact ∷ facts)) = fact ++ more_facts facts

-- the line of a secret
abbrev pub secret_line : Text × Option (List Text) → Text
secret_line secret =
    codes "secret " ++ secret.0 ++ codes " world " ++ world_text secret.1 ++ codes "\n"

-- the line of a secrecy where it has the truth value of this word
abbrev pub secrecy_line : Text → Text → Option (List Text) → Text
secrecy_line secrecy word world =
    codes "secrecy " ++ secrecy ++ codes " " ++ word ++ codes " " ++ world_text world ++ codes "\n"

-- the two lines of a secrecy
abbrev pub secrecy_lines : SecrecySaid → List Text
secrecy_lines said =
    secrecy_line said.secrecy (codes "true") said.where_true
    ∷ secrecy_line said.secrecy (codes "false") said.where_false ∷ []

-- all lines
abbrev pub text_lines : AuditSaid → List Text
text_lines said =
    user_line said ∷ entry_lines 1 said.entries
    ++ flat_map secrecy_lines (unwrap_or said.secrecies []) ++ map secret_line said.secrets
