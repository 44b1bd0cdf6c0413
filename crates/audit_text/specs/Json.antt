-- An audit as a JSON value, and what is written.
use Rattle.std.specs.Prelude.{Bool, List, [], ◌∷◌, ◌++◌, map, Option, Some, None, codes}
use Rattle.std.specs.Prelude.{if◌then◌else◌}
use Rattle.std.specs.List.{flat_map}
use Rattle.serde_json.specs.Data.{Data, Members, null, string, array, object, member, no_members}
use Rattle.serde_json.specs.View.{items_of}
use Rattle.serde_json.specs.Written.{compact_text}
use Rattle.cqe_base.specs.declared.user.Mark.{Mark}
use Rattle.cqe_base.specs.declared.user.Mark.TheVariants.{Yes, No, Refused, Undecided, Protected}
use Rattle.cqe_base.specs.Schema.{Text}
use Rattle.audit_text.specs.Said.{SecrecySaid, AuditSaid}
use Rattle.audit_text.specs.Text.{item_word, text_lines}

-- an array of these values
abbrev pub list_of : List Data → Data
list_of values = array (items_of values)

-- an item that was asked: its mark and its query
abbrev pub asked_data : Mark → Text → Data
asked_data mark query =
    object (member (codes "mark") (string (item_word mark))
    (member (codes "query") (string query) no_members))

-- an item with this mark and this sentence; of one that was added the sentence alone
abbrev pub item_data : Mark → Text → Data
item_data Yes query = asked_data Yes query
item_data No query = asked_data No query
item_data Refused query = asked_data Refused query
item_data Undecided query = asked_data Undecided query
item_data Protected sentence = object (member (codes "protect") (string sentence) no_members)

-- an item
abbrev pub entry_data : Mark × Text → Data
entry_data entry = item_data entry.0 entry.1

-- the facts of a world, and null where there is no world
abbrev pub world_data : Option (List Text) → Data
world_data None = null
world_data (Some facts) = list_of (map string facts)

-- a secret and its world
abbrev pub secret_data : Text × Option (List Text) → Data
secret_data secret =
    object (member (codes "secret") (string secret.0)
    (member (codes "world") (world_data secret.1) no_members))

-- a secrecy and its worlds
abbrev pub secrecy_data : SecrecySaid → Data
secrecy_data said =
    object (member (codes "false") (world_data said.where_false)
    (member (codes "secrecy") (string said.secrecy)
    (member (codes "true") (world_data said.where_true) no_members)))

-- the key of the secrecies, where there are any, before others
abbrev pub secrecies_before : Option (List SecrecySaid) → Members → Members
secrecies_before None rest = rest
secrecies_before (Some secrecies) rest =
    member (codes "secrecies") (list_of (map secrecy_data secrecies)) rest

-- the whole, its keys in the order of their bytes
abbrev pub audit_data : AuditSaid → Data
audit_data said = object
    (member (codes "entries") (list_of (map entry_data said.entries))
    (member (codes "method") (string said.method)
    (member (codes "name") (string said.name)
    (secrecies_before said.secrecies
    (member (codes "secrets") (list_of (map secret_data said.secrets))
    (member (codes "standing") (string said.standing) no_members))))))

-- the lines of an audit: in JSON one, and else those of the text
abbrev pub lines_of : Bool → AuditSaid → List Text
lines_of json said =
    if json then (compact_text (audit_data said) ++ codes "\n") ∷ [] else text_lines said

-- the bytes of an audit
abbrev pub audit_text : Bool → AuditSaid → Text
audit_text json said = flat_map (λ line. line) (lines_of json said)
