-- Bytes that stand for a beginning of a legal history open a desk with it.
use Rattle.std.proofs.Common.{◌≡◌, ℕ, Bool, false, List, ◌∷◌, ◌++◌, length, take, drop, sym, ap, ◌∙◌, subst, append_assoc}
use Rattle.std.specs.Prelude.{Option, option_to_list}
use Rattle.std.proofs.Math.Seq.{take-nil}
use Rattle.std.proofs.lemmas.List.{take-append-drop}
use Rattle.cqe_base.specs.Schema.{DatabaseSchema}
use Rattle.cqe_base.specs.Facts.{FactSet}
use Rattle.cqe_base.specs.History.{UserProfile, AnsweredQuery, History}
use Rattle.cqe_base.specs.Censor.{IsLegal}
use Rattle.cqe_base.specs.Limits.{KeepsSizes}
use Rattle.cqe_base.proofs.Confidential.{prefixes_are_legal}
use Rattle.log_journal.specs.Walk.{records}
use Rattle.user_desk.specs.Causes.{OpensWithin, OpensWhereStands}
use Rattle.user_desk.specs.Kept.{IsConsistentDesk, StandsSince}
use Rattle.user_desk.specs.Standings.{is_sealed}
use Rattle.user_desk.specs.declared.standing.Standing.{Standing}
use Rattle.user_desk.proofs.Restarting.{only_open}

-- the beginning of a history within the limits is so too
beginning_fits : (schema : DatabaseSchema) (user : UserProfile) (first rest : History) → KeepsSizes schema user (first ++ rest) → KeepsSizes schema user first
beginning_fits schema user first rest sizes before entry after split =
    sizes before entry (after ++ rest) (ap (λ es. es ++ rest) split ∙ append_assoc before (entry ∷ after) rest)

pub opens_where_stands : OpensWhereStands
opens_where_stands schema world user header least entries bytes within legal sizes none =
    let count = length (records bytes) in
    let whole : take count entries ++ drop count entries ≡ entries = take-append-drop count entries in
    record {
      count = count;
      enough = within.enough;
      opens = record {
        stands = record { journal = within.journal; are = within.are };
        legal = prefixes_are_legal schema world user (take count entries) (drop count entries) (subst (IsLegal schema world user) (sym whole) legal);
        sizes = beginning_fits schema user (take count entries) (drop count entries) (subst (KeepsSizes schema user) (sym whole) sizes);
        none = λ closed. ap (take count) (none closed) ∙ take-nil count;
      };
    }

-- since the opening each image opens a desk with a beginning of the entries, with the one in flight
pub opens_since : (told : Type 0) (image since : List ℕ → Type 0) (schema : DatabaseSchema) (world : FactSet) (user : UserProfile) (header : List ℕ)
    (standing : Standing) (opened : ℕ) (entries : History) (in_flight : Option AnsweredQuery) (has_journal is_broken : Bool)
    → IsConsistentDesk told image schema world user header standing entries in_flight has_journal is_broken
    → StandsSince told since schema header standing opened entries in_flight has_journal
    → told → is_sealed standing ≡ false → (c : List ℕ) → since c
    → OpensWithin schema world user header opened (entries ++ option_to_list in_flight) c
opens_since told image since schema world user header standing opened entries in_flight has_journal is_broken kept stood is served c here =
    opens_where_stands schema world user header opened (entries ++ option_to_list in_flight) c (stood.images is served c here) kept.legal kept.sizes
    (λ isnt. only_open schema world user standing entries in_flight kept.admits kept.idle isnt)
