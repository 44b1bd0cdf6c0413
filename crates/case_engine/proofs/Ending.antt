-- How a case ends, from its script and what was appended.
use Rattle.std.proofs.Common.{◌≡◌, ℕ, List, [], ◌∷◌, ◌++◌, map, refl, sym, subst, ◌∙◌}
use Rattle.std.specs.Prelude.{Ok, string_bytes}
use Rattle.cqe_base.specs.Schema.{Text, DatabaseSchema}
use Rattle.cqe_base.specs.Facts.{FactSet}
use Rattle.cqe_base.specs.History.{UserProfile, profile_of}
use Rattle.case_engine.specs.Script.{Script, script_of}
use Rattle.case_engine.specs.Case.{AnswersCase, Completes, BreaksCase, EndsCase, reply_lines, lines_cut}
use Rattle.case_engine.specs.declared.case.CaseEnd.{CaseEnd}
use Rattle.case_engine.specs.declared.case.CaseEnd.TheVariants.{Done, Script as Refused, ReadFault, WriteFault, Memory}
use Rattle.case_engine.specs.Written.{AppendsReplies, AppendsFirstReplies, IsAnswered}
use Rattle.case_engine.specs.Answering.{ArePartsOf}
use Rattle.case_engine.specs.declared.parts.Parts.{Parts}

answers_moved : (schema schema' : DatabaseSchema) (world world' : FactSet) (user user' : UserProfile) (asks asks' : List Text) (written : List ℕ)
    → schema ≡ schema' → world ≡ world' → user ≡ user' → asks ≡ asks' → AnswersCase schema world user asks written
    → AnswersCase schema' world' user' asks' written
answers_moved schema schema' world world' user user' asks asks' written a b c d answers =
    subst (λ s. AnswersCase s world' user' asks' written) a (subst (λ w. AnswersCase schema w user' asks' written) b
    (subst (λ u. AnswersCase schema world u asks' written) c (subst (λ q. AnswersCase schema world user q written) d answers)))

module _ (script : Script) (parts : Parts) (are : ArePartsOf script parts) (bytes : List ℕ) (is : script_of bytes ≡ Ok script) where
  pub completes : (old new : List ℕ) → AppendsReplies parts.schema parts.facts (profile_of parts.user) (map string_bytes parts.asks.items) old new
      → Completes bytes old new
  completes old new all = record {
    script = script;
    read = is;
    written = all.written;
    appended = all.appended;
    answers = answers_moved _ _ _ _ _ _ _ _ all.written are.schema are.facts are.user are.asks all.answers;
  }

  pub breaks : (old new : List ℕ) → AppendsFirstReplies parts.schema parts.facts (profile_of parts.user) (map string_bytes parts.asks.items) old new
      → BreaksCase bytes old new
  breaks old new some = record {
    script = script;
    read = is;
    written = lines_cut some.whole some.told some.part;
    appended = some.appended;
    begins = record {
      first = some.first;
      next = some.next;
      back = some.back;
      asks = sym are.asks ∙ some.split;
      whole = some.whole;
      one_each = some.one_each;
      told = some.told;
      part = some.part;
      cut = refl;
      answered = answers_moved _ _ _ _ _ _ _ (some.first ++ some.next ∷ [])
          (reply_lines (some.whole ++ some.told ∷ [])) are.schema are.facts are.user refl some.answers;
    };
  }

  pub case_ends : (after : List ℕ) → after ≡ [] → (old new : List ℕ) (end : CaseEnd)
      → IsAnswered parts.schema parts.facts (profile_of parts.user) (map string_bytes parts.asks.items) old new end → EndsCase end bytes after old new
  case_ends after over old new Done all = (over, completes old new all)
  case_ends after over old new WriteFault some = (over, breaks old new some)
  case_ends after over old new Memory same = same
  case_ends after over old new (Refused refusal) never = absurd never
  case_ends after over old new ReadFault never = absurd never
