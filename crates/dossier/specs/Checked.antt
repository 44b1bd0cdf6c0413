-- What the text of a dossier says of a user: the history that it shows, or the first line that is
-- refused. Nothing is searched.
use Rattle.std.specs.Prelude.{ℕ, ◌+◌, ◌==◌, Bool, true, false, ◌&&◌, not, nat_le, List, [], ◌∷◌}
use Rattle.std.specs.Prelude.{◌++◌, length, Option, Some, None, Result, Ok, Err, if◌then◌else◌}
use Rattle.std.specs.Prelude.{codes, bytes_eq, decimal}
use Rattle.cqe_base.specs.declared.user.Mark.{Mark}
use Rattle.cqe_base.specs.declared.user.Mark.TheVariants.{Undecided, Protected}
use Rattle.cqe_base.specs.declared.user.Purpose.{Purpose}
use Rattle.cqe_base.specs.declared.user.Purpose.TheVariants.{Asking, Protecting}
use Rattle.cqe_base.specs.declared.world.Fact.{Fact}
use Rattle.cqe_base.specs.Schema.{DatabaseSchema, Text}
use Rattle.cqe_base.specs.Facts.{FactSet}
use Rattle.cqe_base.specs.Formula.{Formula}
use Rattle.cqe_base.specs.Truth.{true_in}
use Rattle.cqe_base.specs.Reading.{Refusal, reading}
use Rattle.cqe_base.specs.Entailment.{holds_in, all_hold_in}
use Rattle.cqe_base.specs.History.{UserProfile, History, known, log, user_at}
use Rattle.cqe_base.specs.Refutation.{RefutationLine, is_refutation}
use Rattle.cqe_base.specs.Censor.{Probe, guarded, guarded_with, probes}
use Rattle.cqe_base.specs.Censor.{probes_against, knows_truth_by}
use Rattle.entailment.specs.Certificates.{clauses_of_probe}
use Rattle.audit_print.specs.Said.{method_word}
use Rattle.user_desk.specs.Entries.{kind_of}
use Rattle.user_desk.specs.Causes.{is_beyond}
use Rattle.soundness.specs.Verdicts.{mark_found}
use Rattle.dossier.specs.Fields.{FieldSaid, first_word, is_alone, fields_of}
use Rattle.dossier.specs.Words.{line_in, mark_named, listed_world, facts_listed}
use Rattle.dossier.specs.declared.error.DossierError.{DossierError}
use Rattle.dossier.specs.declared.error.DossierError.TheVariants as refused

-- ---- what is awaited

-- what blocks show: that the user is admissible; the mark of an ask, which stands in a line, with
-- its query and the length of its text; or that a sentence can be added, with the length of its
-- text
pub data Task : Type 0 where
  admitting : Task
  asking : (line : ℕ) (mark : Mark) (query : Formula) (size : ℕ) → Task
  adding : (secret : Formula) (size : ℕ) → Task

-- what is being shown behind these items: a probe, those behind it, and the verdicts on those
-- before it, whether the premises entail the goal
pub record Showing : Type 0 where
  pub entries : History
  pub task : Task
  pub probe : Probe
  pub more : List Probe
  pub shown : List Bool

-- what may stand in the next line: the line of the user; the line of his admission; the first line
-- of a block; a line of a refutation or its end, behind these lines of it; an item or the end,
-- behind these items; or nothing
pub data Awaited : Type 0 where
  head : Awaited
  admission : Awaited
  block : (showing : Showing) → Awaited
  step : (showing : Showing) (lines : List RefutationLine) → Awaited
  item : (entries : History) → Awaited
  nothing : (entries : History) → Awaited

-- the probe of a log against what is guarded with one more secret
abbrev pub addition_probe : UserProfile → History → Formula → Probe
addition_probe user entries secret = record {
  premises = log user entries;
  goal = (guarded_with (user_at user entries) secret, true);
}

-- whether in a world the premises of a probe are true and its goal is false; that the facts that a
-- text lists are of the schema, `facts_listed` says
abbrev pub is_countermodel : DatabaseSchema → Probe → FactSet → Bool
is_countermodel schema probe other =
    all_hold_in schema other probe.premises && not (holds_in schema other probe.goal)

-- what follows `dossier` in the line of a user, with the word of his standing
abbrev pub head_rest : Text → UserProfile → Text → Text
head_rest name user standing =
    codes "1 " ++ name ++ codes " " ++ method_word user.method ++ codes " " ++ standing

module _ (schema : DatabaseSchema) (user : UserProfile) where
  -- the sentence that a text reads as, where it isn't beyond the limits behind these items
  abbrev pub within_limits : History → Purpose → Text → Result Formula Refusal → Option Formula
  within_limits entries purpose text (Err why) = None
  within_limits entries purpose text (Ok sentence) =
      if is_beyond schema user entries purpose (length text) sentence then None
      else Some sentence

  -- the sentence that a text of at most 4,096 bytes reads as, within the limits behind these items
  abbrev pub sentence_in : History → Purpose → Text → Option Formula
  sentence_in entries purpose text =
      if nat_le (length text) 4096 then within_limits entries purpose text (reading schema text)
      else None

-- what is awaited behind one more item
abbrev pub behind_item : History → Formula → Mark → ℕ → Awaited
behind_item entries query mark size =
    item (entries ++ record { query = query; mark = mark; length = size } ∷ [])

module _ (schema : DatabaseSchema) (world : FactSet) (name : Text) (user : UserProfile) where
  -- ---- tasks

  -- the mark that verdicts on all probes of a query give
  abbrev pub mark_shown : History → Formula → List Bool → Mark
  mark_shown entries query shown =
      mark_found user.method (length (guarded (user_at user entries))) shown
      (true_in schema world query)

  -- what is awaited once all probes of a task were shown
  abbrev pub behind_task : History → Task → List Bool → Result Awaited DossierError
  behind_task entries admitting shown = Ok (item entries)
  behind_task entries (asking line mark query size) shown =
      if kind_of mark == kind_of (mark_shown entries query shown)
      then Ok (behind_item entries query mark size)
      else Err (refused.Mark line)
  behind_task entries (adding secret size) shown =
      Ok (behind_item entries secret Protected size)

  -- what is awaited where these probes are still to be shown
  abbrev pub awaited_for : History → Task → List Probe → List Bool → Result Awaited DossierError
  awaited_for entries task [] shown = behind_task entries task shown
  awaited_for entries task (probe ∷ more) shown =
      Ok (block (record {
        entries = entries;
        task = task;
        probe = probe;
        more = more;
        shown = shown;
      }))

  -- what is awaited behind the block of a probe with this verdict
  abbrev pub behind_block : Showing → Bool → Result Awaited DossierError
  behind_block showing verdict =
      awaited_for showing.entries showing.task showing.more (showing.shown ++ verdict ∷ [])

  -- ---- blocks

  -- a block that lists the facts of a world
  abbrev pub open_block : ℕ → Showing → Option (List Fact) → Result Awaited DossierError
  open_block line showing None = Err (refused.Form line)
  open_block line showing (Some facts) =
      if is_countermodel schema showing.probe (listed_world facts) then behind_block showing false
      else Err (refused.Verdict line)

  -- a block says that the goal follows, which only those of an ask may say
  abbrev pub follows_block : ℕ → Showing → Task → Result Awaited DossierError
  follows_block line showing admitting = Err (refused.Admission line)
  follows_block line showing (asking at mark query size) = Ok (step showing [])
  follows_block line showing (adding secret size) = Err (refused.Unsafe line)

  -- the end of a refutation with these lines
  abbrev pub refutation_end : ℕ → Showing → List RefutationLine → Result Awaited DossierError
  refutation_end line showing lines =
      if is_refutation (clauses_of_probe schema showing.probe.premises showing.probe.goal) lines
      then behind_block showing true
      else Err (refused.Verdict line)

  -- one more line of a refutation
  abbrev pub refutation_line : ℕ → Showing → List RefutationLine → Option RefutationLine
      → Result Awaited DossierError
  refutation_line line showing lines None = Err (refused.Form line)
  refutation_line line showing lines (Some next) = Ok (step showing (lines ++ next ∷ []))

  -- ---- items

  -- an ask of this line with its mark; one that is undecided shows nothing
  abbrev pub asked : ℕ → History → Mark → ℕ → Option Formula → Result Awaited DossierError
  asked line entries mark size None = Err (refused.Text line)
  asked line entries Undecided size (Some query) = Ok (behind_item entries query Undecided size)
  asked line entries mark size (Some query) =
      awaited_for entries (asking line mark query size)
      (probes (user_at user entries) (log user entries) query) []

  -- a word that names a mark and a text behind it
  abbrev pub ask_line : ℕ → History → Option Mark → Text → Result Awaited DossierError
  ask_line line entries None text = Err (refused.Form line)
  ask_line line entries (Some mark) [] = Err (refused.Form line)
  ask_line line entries (Some mark) (b ∷ text) =
      asked line entries mark (length (b ∷ text))
      (sentence_in schema user entries Asking (b ∷ text))

  -- a sentence that is to be added
  abbrev pub added : ℕ → History → ℕ → Option Formula → Result Awaited DossierError
  added line entries size None = Err (refused.Text line)
  added line entries size (Some secret) =
      awaited_for entries (adding secret size) (addition_probe user entries secret ∷ []) []

  -- the text of a sentence that is to be added
  abbrev pub protect_line : ℕ → History → Text → Result Awaited DossierError
  protect_line line entries [] = Err (refused.Form line)
  protect_line line entries (b ∷ text) =
      added line entries (length (b ∷ text))
      (sentence_in schema user entries Protecting (b ∷ text))

  -- ---- lines

  -- the first line: `dossier` and the name, the method and the word `open` of this user; one that
  -- says closed or sealed shows no admission
  abbrev pub head_line : FieldSaid → Result Awaited DossierError
  head_line field =
      if not (bytes_eq field.word (codes "dossier")) then Err (refused.Form field.line)
      else if bytes_eq field.rest (head_rest name user (codes "open")) then Ok admission
      else if bytes_eq field.rest (head_rest name user (codes "closed"))
      then Err (refused.Admission field.line)
      else if bytes_eq field.rest (head_rest name user (codes "sealed"))
      then Err (refused.Admission field.line)
      else Err (refused.Form field.line)

  -- the line of the admission, which for refusal is right only where what the user knows is true
  abbrev pub admission_line : FieldSaid → Result Awaited DossierError
  admission_line field =
      if not (is_alone field (codes "admission")) then Err (refused.Form field.line)
      else if knows_truth_by user.method schema world (known user)
      then awaited_for [] admitting (probes_against (known user) (guarded user)) []
      else Err (refused.Admission field.line)

  -- the first line of a block: `open` and the facts of a world, or `follows`
  abbrev pub block_line : Showing → FieldSaid → Result Awaited DossierError
  block_line showing field =
      if bytes_eq field.word (codes "open")
      then open_block field.line showing (facts_listed schema field.rest)
      else if is_alone field (codes "follows")
      then follows_block field.line showing showing.task
      else Err (refused.Form field.line)

  -- a line within a refutation: one more line of it, or its end
  abbrev pub step_line : Showing → List RefutationLine → FieldSaid → Result Awaited DossierError
  step_line showing lines field =
      if bytes_eq field.word (codes "line")
      then refutation_line field.line showing lines (line_in field.rest)
      else if is_alone field (codes "end") then refutation_end field.line showing lines
      else Err (refused.Form field.line)

  -- a line behind the items: one more item, `ask` or `protect`, or the end with their number
  abbrev pub item_line : History → FieldSaid → Result Awaited DossierError
  item_line entries field =
      if bytes_eq field.word (codes "ask")
      then ask_line field.line entries (mark_named (first_word field.rest).0)
      (first_word field.rest).1
      else if bytes_eq field.word (codes "protect")
      then protect_line field.line entries field.rest
      else if bytes_eq field.word (codes "done")
      && bytes_eq field.rest (decimal (length entries)) then Ok (nothing entries)
      else Err (refused.Form field.line)

  -- what is awaited behind a line, or why it is refused
  abbrev pub after_line : Awaited → FieldSaid → Result Awaited DossierError
  after_line head field = head_line field
  after_line admission field = admission_line field
  after_line (block showing) field = block_line showing field
  after_line (step showing lines) field = step_line showing lines field
  after_line (item entries) field = item_line entries field
  after_line (nothing entries) field = Err (refused.Form field.line)

  -- ---- texts

  -- the history that was shown where the lines end; where something is awaited, the line of this
  -- number is missing
  abbrev pub history_at_end : Awaited → ℕ → Result History DossierError
  history_at_end (nothing entries) number = Ok entries
  history_at_end awaited number = Err (refused.Form number)

  -- the history that these lines show, numbered on from this number, or the first one that is
  -- refused
  abbrev pub checked_from : Result Awaited DossierError → ℕ → List FieldSaid
      → Result History DossierError
  checked_from (Err why) number fields = Err why
  checked_from (Ok awaited) number [] = history_at_end awaited number
  checked_from (Ok awaited) number (field ∷ fields) =
      checked_from (after_line awaited field) (number + 1) fields

  -- the history that a text shows, or the first line that is refused
  abbrev pub checked : Text → Result History DossierError
  checked text = checked_from (Ok head) 1 (fields_of text)
