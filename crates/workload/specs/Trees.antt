-- The tree of a workload's policy, as a TOML document.
use Rattle.std.specs.Prelude.{◌≡◌, ◌≤◌, ℕ, Some, ◌+◌, ◌%◌, ◌==◌, pos, List, [], ◌∷◌, ◌++◌, map}
use Rattle.std.specs.Prelude.{codes, decimal, if◌then◌else◌}
use Rattle.std.specs.Ordering.{nat_cmp, match_ordering}
use Rattle.std.specs.Cmp.Lexicographic.{slice_cmp}
use Rattle.std.specs.List.{range_with_len}
use Rattle.toml.specs.Data.{Data, string, integer, array, table, Members, no_members, member}
use Rattle.toml.specs.Data.{members_depth}
use Rattle.toml.specs.Parse.{parse_document}
use Rattle.toml.specs.View.{items_of}
use Rattle.cqe_base.specs.Schema.{Text}
use Rattle.workload.specs.Stated.{numbered}
use Rattle.workload.specs.Policies.{user_name, secret_person}

-- the members with this value at a key, at its place in their order
abbrev pub insert_member : Text → Data → Members → Members
insert_member key value no_members = member key value no_members
insert_member key value (member other old rest) =
    match_ordering (slice_cmp nat_cmp key other) (member key value (member other old rest))
    (member other value rest) (member other old (insert_member key value rest))

-- an array of texts
abbrev pub texts_data : List Text → Data
texts_data texts = array (items_of (map string texts))

-- the word of the method of the user of a number
abbrev pub method_text : ℕ → Text
method_text number =
    if number % 3 == 0 then codes "lying" else if number % 3 == 1 then codes "refusal"
    else codes "combined"

-- what each user knows
abbrev pub known_text : Text
known_text = codes "forall x: person . drug(x) -> has(x, d0)"

-- the text of a secret
abbrev pub secret_text : ℕ → Text
secret_text person = codes "has(p" ++ (decimal person ++ codes ", d0)")

-- the table of a user with these three persons
abbrev pub user_members : ℕ → List ℕ → Members
user_members number persons =
    member (codes "know") (texts_data (known_text ∷ []))
    (member (codes "method") (string (method_text number))
    (member (codes "name") (string (user_name number))
    (member (codes "secrets") (texts_data (map secret_text persons)) no_members)))

-- the table of a user of a seed
abbrev pub user_tree : ℕ → ℕ → Data
user_tree seed number =
    table (user_members number
    (secret_person seed number 0 ∷ secret_person seed number 1 ∷ secret_person seed number 2
    ∷ []))

-- forty persons and twelve diseases
abbrev pub domain_members : Members
domain_members =
    member (codes "disease") (texts_data (numbered (codes "d") 12))
    (member (codes "person") (texts_data (numbered (codes "p") 40)) no_members)

-- who takes the drug, and who has which disease
abbrev pub relation_members : Members
relation_members =
    member (codes "drug") (texts_data (codes "person" ∷ []))
    (member (codes "has") (texts_data (codes "person" ∷ codes "disease" ∷ [])) no_members)

-- the document with these users
abbrev pub root_members : List Data → Members
root_members users =
    member (codes "domains") (table domain_members)
    (member (codes "relations") (table relation_members)
    (member (codes "users") (array (items_of users))
    (member (codes "version") (integer (pos 1)) no_members)))

-- the tables of so many users of a seed
unfoldable pub user_trees : ℕ → ℕ → List Data
user_trees seed users = map (user_tree seed) (range_with_len 0 users)

-- bytes of a text read as a document with these members, where these aren't nested too deep to be
-- read
abbrev pub ReadsAs : Members → List ℕ → Type 0
ReadsAs root bytes = members_depth root ≤ 80 → parse_document bytes ≡ Some root
