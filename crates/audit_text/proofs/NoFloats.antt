-- An audit has no float, so that its text is known byte for byte.
use Rattle.std.proofs.Common.{◌≡◌, false, List, [], ◌∷◌, map, Option, Some, None, refl}
use Rattle.serde_json.specs.Data.{Data, string}
use Rattle.serde_json.specs.View.{items_of}
use Rattle.serde_json.specs.Written.{has_float, items_have_float}
use Rattle.cqe_base.specs.declared.user.Mark.{Mark}
use Rattle.cqe_base.specs.declared.user.Mark.TheVariants.{Yes, No, Refused, Undecided, Protected}
use Rattle.cqe_base.specs.Schema.{Text}
use Rattle.audit_text.specs.Said.{SecrecySaid, AuditSaid}
use Rattle.audit_text.specs.Json.{audit_data, item_data, entry_data, world_data, secrecy_data, secret_data}

list_has_none : {X : Type 0} (f : X → Data) → ((x : X) → has_float (f x) ≡ false) → (xs : List X) → items_have_float (items_of (map f xs)) ≡ false
list_has_none f each [] = refl
list_has_none f each (x ∷ xs) = rw (each x) (list_has_none f each xs)

item_has_none : (mark : Mark) (sentence : Text) → has_float (item_data mark sentence) ≡ false
item_has_none Yes sentence = refl
item_has_none No sentence = refl
item_has_none Refused sentence = refl
item_has_none Undecided sentence = refl
item_has_none Protected sentence = refl

world_has_none : (world : Option (List Text)) → has_float (world_data world) ≡ false
world_has_none None = refl
world_has_none (Some facts) = list_has_none string (λ fact. refl) facts

secret_has_none : (secret : Text × Option (List Text)) → has_float (secret_data secret) ≡ false
secret_has_none (text, world) = rw (world_has_none world) refl

secrecy_has_none : (said : SecrecySaid) → has_float (secrecy_data said) ≡ false
secrecy_has_none said = rw (world_has_none said.where_false, world_has_none said.where_true) refl

pub audit_has_none : (said : AuditSaid) → has_float (audit_data said) ≡ false
audit_has_none said = by said.secrecies refl
  where
    entries : items_have_float (items_of (map entry_data said.entries)) ≡ false
    entries = list_has_none entry_data (λ entry. item_has_none entry.0 entry.1) said.entries

    secrets : items_have_float (items_of (map secret_data said.secrets)) ≡ false
    secrets = list_has_none secret_data secret_has_none said.secrets

    by : (secrecies : Option (List SecrecySaid)) → said.secrecies ≡ secrecies → has_float (audit_data said) ≡ false
    by None is = rw is (rw (entries, secrets) refl)
    by (Some rows) is =
        let all : items_have_float (items_of (map secrecy_data rows)) ≡ false = list_has_none secrecy_data secrecy_has_none rows in
        rw is (rw (entries, all, secrets) refl)
