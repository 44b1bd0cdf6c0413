-- What it is to audit a user.
use Rattle.std.specs.Prelude.{◌≡◌, ◌<◌, ℕ, true, List, length, Option}
use Rattle.cqe_base.specs.declared.world.Fact.{Fact}
use Rattle.cqe_base.specs.Schema.{DatabaseSchema, Text}
use Rattle.cqe_base.specs.Facts.{FactSet}
use Rattle.cqe_base.specs.History.{UserProfile, History, user_at}
use Rattle.user_desk.specs.Standings.{is_open}
use Rattle.user_desk.specs.declared.standing.Standing.{Standing}
use Rattle.audit_print.specs.Others.{AreOthers}
use Rattle.audit_text.specs.Said.{AuditSaid}
use Rattle.audit_print.specs.Said.{IsListing, audit_said, served_said}

-- this is said of a user who is served, with some other world for each secret, and its facts in
-- their order
pub record AuditsServed (schema : DatabaseSchema) (name : Text) (user : UserProfile)
    (entries : History) (said : AuditSaid) : Type 0 where
  pub worlds : ℕ → Option FactSet
  pub listings : ℕ → Option (List Fact)
  pub listed : (k : ℕ) → k < length (user_at user entries).secrets
      → IsListing (listings k) (worlds k)
  pub others : AreOthers schema user entries worlds
  pub whole : said ≡ served_said schema name user entries listings

-- this is said of a user with his standing and entries, with some other world for each secret of
-- one who is served, and its facts in their order
pub record Audits (schema : DatabaseSchema) (name : Text) (user : UserProfile) (standing : Standing)
    (entries : History) (said : AuditSaid) : Type 0 where
  pub worlds : ℕ → Option FactSet
  pub listings : ℕ → Option (List Fact)
  pub listed : is_open standing ≡ true → (k : ℕ)
      → k < length (user_at user entries).secrets → IsListing (listings k) (worlds k)
  pub others : is_open standing ≡ true → AreOthers schema user entries worlds
  pub whole : said ≡ audit_said schema name user standing entries listings
