-- What a desk holds, as what an audit says.
use Rattle.std.proofs.Common.{◌≡◌, ℕ, ◌*◌, true, List, map, drop, sym, ap, subst, ◌∙◌, arith}
use Rattle.std.specs.Prelude.{◌<◌, Option, None, Some, IfSome, length, codes}
use Rattle.std.specs.List.{range_with_len}
use Rattle.cqe_base.specs.declared.user.Method.{Method}
use Rattle.cqe_base.specs.declared.user.Method.TheVariants.{Lying, Refusal, Combined}
use Rattle.cqe_base.specs.Schema.{DatabaseSchema, Text}
use Rattle.cqe_base.specs.Facts.{FactSet, IsWorldOf}
use Rattle.cqe_base.specs.History.{UserProfile, History, user_at}
use Rattle.cqe_base.specs.Censor.{IsLegal, admitted}
use Rattle.cqe_base.specs.OtherWorlds.{IsLegalSomewhere}
use Rattle.censors.specs.declared.Admission.{Admission}
use Rattle.user_desk.specs.declared.standing.DeskError.{DeskError}
use Rattle.user_desk.specs.declared.standing.Standing.{Standing}
use Rattle.user_desk.specs.declared.standing.Standing.TheVariants.{Open, Closed, Sealed}
use Rattle.audit_text.specs.Said.{AuditSaid}
use Rattle.two_worlds.specs.Others.{HidesSecret}
use Rattle.audit_print.specs.Others.{AreOthers}
use Rattle.audit_print.specs.Found.{place_at, worlds_for}
use Rattle.audit_print.specs.Listed.{ListsAll}
use Rattle.audit_print.specs.Said.{entry_said, method_word, refused_said, secret_said, secrets_said, secrecies_in, if_any}
use Rattle.audit_print.specs.Audits.{Audits, AuditsServed}

pub somewhere : (schema schema' : DatabaseSchema) (world : FactSet) (user user' : UserProfile) (entries entries' : History) → schema ≡ schema' → user ≡ user'
    → entries ≡ entries'
    → admitted schema' world user' ≡ true → IsLegal schema' world user' entries' → IsLegalSomewhere schema user entries
somewhere schema schema' world user user' entries entries' a b e admits legal =
    subst (λ s. IsLegalSomewhere s user entries) (sym a)
    (subst (λ u. IsLegalSomewhere schema' u entries) (sym b)
    (subst (λ h. IsLegalSomewhere schema' user' h) (sym e) (record { world = world; admits = admits; legal = legal })))

pub of_closed : (schema : DatabaseSchema) (name : Text) (user : UserProfile) (standing : Standing) (entries : History) (said : AuditSaid) (why : Admission)
    → standing ≡ Closed why → said ≡ refused_said name user (codes "closed")
    → Audits schema name user standing entries said
of_closed schema name user standing entries said why is whole =
    subst (λ s. Audits schema name user s entries said) (sym is)
    (record { worlds = λ _. None; listings = λ _. None; listed = λ served. absurd (cc); others = λ served. absurd (cc); whole = whole })

pub of_sealed : (schema : DatabaseSchema) (name : Text) (user : UserProfile) (standing : Standing) (entries : History) (said : AuditSaid) (why : DeskError)
    → standing ≡ Sealed why → said ≡ refused_said name user (codes "sealed")
    → Audits schema name user standing entries said
of_sealed schema name user standing entries said why is whole =
    subst (λ s. Audits schema name user s entries said) (sym is)
    (record { worlds = λ _. None; listings = λ _. None; listed = λ served. absurd (cc); others = λ served. absurd (cc); whole = whole })

pub of_served : (schema : DatabaseSchema) (name : Text) (user : UserProfile) (standing : Standing) (entries : History) (said : AuditSaid) → standing ≡ Open
    → AuditsServed schema name user entries said → Audits schema name user standing entries said
of_served schema name user standing entries said is serves =
    subst (λ s. Audits schema name user s entries said) (sym is)
    (record { worlds = serves.worlds; listings = serves.listings; listed = λ _. serves.listed; others = λ _. serves.others; whole = serves.whole })

-- a user who is served, with the secrets that he has now
pub serves : (schema : DatabaseSchema) (name : Text) (user current : UserProfile) (entries entries' : History) (worlds : ℕ → Option FactSet) (n : ℕ)
    (said : AuditSaid) (secrets : List (Text × Option (List Text))) → entries' ≡ entries → current ≡ user_at user entries' → n ≡ length current.secrets
    → AreOthers schema user entries' worlds → ListsAll schema current worlds n secrets → said.secrecies ≡ if_any user (secrecies_in user.pairs secrets)
    → said.secrets ≡ drop (2 * user.pairs) secrets
    → said.name ≡ name → said.method ≡ method_word user.method → said.standing ≡ codes "open" → said.entries ≡ map (entry_said schema) entries'
    → AuditsServed schema name user entries said
serves schema name user current entries entries' worlds n said secrets same is size others all pairs rest named by stands told = record {
  worlds = worlds;
  listings = all.listings;
  listed = λ k low. all.listed k (subst (λ m. k < m) (sym (size ∙ ap (λ (u : UserProfile). length u.secrets) now)) low);
  others = subst (λ e. AreOthers schema user e worlds) same others;
  whole = λ i. record {
    name = named i;
    method = by i;
    standing = stands i;
    entries = (told ∙ ap (map (entry_said schema)) same) i;
    secrecies = (pairs ∙ ap (λ s. if_any user (secrecies_in user.pairs s)) whole) i;
    secrets = (rest ∙ ap (drop (2 * user.pairs)) whole) i;
  };
}
  where
    now : current ≡ user_at user entries
    now = is ∙ ap (user_at user) same

    whole : secrets ≡ secrets_said schema (user_at user entries) all.listings
    whole =
        all.whole ∙ ap (λ m. map (secret_said schema current all.listings) (range_with_len 0 m)) size ∙ ap (λ u. secrets_said schema u all.listings) now

pub enough : (method : Method) (n k : ℕ) → k < n → place_at method k < worlds_for method n
enough Lying n k low = omega (arith, low)
enough Refusal n k low = low
enough Combined n k low = low

pub of_schema : (schema : DatabaseSchema) (user : UserProfile) (entries : History) (k : ℕ) (other : Option FactSet)
    → IfSome other (HidesSecret schema user entries k) → IfSome other (IsWorldOf schema)
of_schema schema user entries k None hides = tt
of_schema schema user entries k (Some world) hides = hides.of_schema
