-- What an audit says of a user.
use Rattle.std.specs.Prelude.{◌≡◌, ℕ, zero, suc, ◌*◌, ◌==◌, List, [], ◌∷◌, map, drop, length}
use Rattle.std.specs.Prelude.{Option, Some, None, option_map, unwrap_or, codes, ⊤, if◌then◌else◌}
use Rattle.std.specs.List.Sorted.{IsStrictlySortedBy}
use Rattle.std.specs.List.{range_with_len}
use Rattle.std.specs.FinSet as set
use Rattle.cqe_base.specs.declared.user.Method.{Method}
use Rattle.cqe_base.specs.declared.user.Method.TheVariants.{Lying, Refusal, Combined}
use Rattle.cqe_base.specs.declared.user.Mark.{Mark}
use Rattle.cqe_base.specs.declared.sentence.Term.{Term}
use Rattle.cqe_base.specs.declared.sentence.Term.TheVariants.{Constant}
use Rattle.cqe_base.specs.declared.world.Fact.{Fact}
use Rattle.cqe_base.specs.Schema.{DatabaseSchema, Text, columns_of}
use Rattle.cqe_base.specs.Facts.{FactSet, fact_cmp}
use Rattle.cqe_base.specs.Formula.{Formula, atom}
use Rattle.cqe_base.specs.Canonical.{canonical}
use Rattle.cqe_base.specs.History.{UserProfile, AnsweredQuery, History, secret_at}
use Rattle.cqe_base.specs.History.{user_at}
use Rattle.audit_text.specs.Said.{SecrecySaid, AuditSaid}
use Rattle.user_desk.specs.declared.standing.Standing.{Standing}
use Rattle.user_desk.specs.declared.standing.Standing.TheVariants.{Open, Closed, Sealed}

-- the word of a method, as in the policy
abbrev pub method_word : Method → Text
method_word Lying = codes "lying"
method_word Refusal = codes "refusal"
method_word Combined = codes "combined"

-- the constants of the columns that have these domains
abbrev pub constants_in : List ℕ → List ℕ → List Term
constants_in (d ∷ domains) (c ∷ columns) =
    Constant (record { domain = d; index = c }) ∷ constants_in domains columns
constants_in _ _ = []

-- the atom that a fact is
abbrev pub atom_of : DatabaseSchema → Fact → Formula
atom_of schema fact =
    atom fact.relation (constants_in (unwrap_or (columns_of schema fact.relation) []) fact.columns)

-- the text of a fact
abbrev pub fact_text : DatabaseSchema → Fact → Text
fact_text schema fact = canonical schema (atom_of schema fact)

-- the facts of a world, listed in the order of relation number and columns; nothing where there is
-- no world
abbrev pub IsListing : Option (List Fact) → Option FactSet → Type 0
IsListing None None = ⊤
IsListing (Some facts) (Some world) =
    (set.from_list facts ≡ world) × IsStrictlySortedBy fact_cmp facts
IsListing _ _ = ⊥

-- the texts of listed facts
abbrev pub world_said : DatabaseSchema → List Fact → List Text
world_said schema facts = map (fact_text schema) facts

-- an item: its mark, and the text of its sentence
abbrev pub entry_said : DatabaseSchema → AnsweredQuery → Mark × Text
entry_said schema entry = (entry.mark, canonical schema entry.query)

-- a secret by its number: its text, and what is said of the facts of its other world, if there is
-- one
abbrev pub secret_said : DatabaseSchema → UserProfile → (ℕ → Option (List Fact)) → ℕ → Text
    × Option (List Text)
secret_said schema user listings k =
    (canonical schema (secret_at user k), option_map (world_said schema) (listings k))

-- all his secrets
abbrev pub secrets_said : DatabaseSchema → UserProfile → (ℕ → Option (List Fact))
    → List (Text × Option (List Text))
secrets_said schema user listings =
    map (secret_said schema user listings) (range_with_len 0 (length user.secrets))

-- a secrecy, by what is said of it and of its negation as secrets: it is true in the other world of
-- its negation, and false in its own
abbrev pub secrecy_of : Text × Option (List Text) → Text × Option (List Text) → SecrecySaid
secrecy_of stated negated =
    record { secrecy = stated.0; where_true = negated.1; where_false = stated.1 }

-- the secrecies with which secrets begin, so many
abbrev pub secrecies_in : ℕ → List (Text × Option (List Text)) → List SecrecySaid
secrecies_in zero secrets = []
secrecies_in (suc pairs) (stated ∷ negated ∷ secrets) =
    secrecy_of stated negated ∷ secrecies_in pairs secrets
secrecies_in (suc pairs) _ = []

-- what is said of secrecies, where the user has any
abbrev pub if_any : UserProfile → List SecrecySaid → Option (List SecrecySaid)
if_any user said = if user.pairs == 0 then None else Some said

-- what is said of a user who is served: his secrets are those at the end of his history
abbrev pub served_said : DatabaseSchema → Text → UserProfile → History → (ℕ → Option (List Fact))
    → AuditSaid
served_said schema name user entries listings = record {
  name = name;
  method = method_word user.method;
  standing = codes "open";
  entries = map (entry_said schema) entries;
  secrecies = if_any user
      (secrecies_in user.pairs (secrets_said schema (user_at user entries) listings));
  secrets = drop (2 * user.pairs) (secrets_said schema (user_at user entries) listings);
}

-- of one who isn't, with the word of his standing
abbrev pub refused_said : Text → UserProfile → Text → AuditSaid
refused_said name user standing = record {
  name = name;
  method = method_word user.method;
  standing = standing;
  entries = [];
  secrecies = if_any user [];
  secrets = [];
}

-- of a user with this standing
abbrev pub audit_said : DatabaseSchema → Text → UserProfile → Standing → History
    → (ℕ → Option (List Fact)) → AuditSaid
audit_said schema name user Open entries listings = served_said schema name user entries listings
audit_said schema name user (Closed why) entries listings = refused_said name user (codes "closed")
audit_said schema name user (Sealed why) entries listings = refused_said name user (codes "sealed")
