-- What is said where a command didn't do all that it does.
use Rattle.std.specs.Prelude.{ℕ, List, [], ◌∷◌, ◌++◌, Option, Some, None}
use Rattle.std.specs.Prelude.{codes, decimal, slice_get, string_bytes}
use Rattle.cqe_base.specs.Schema.{Text}
use Rattle.cqe_base.specs.declared.text.ScriptKind.{ScriptKind}
use Rattle.cqe_base.specs.declared.text.ScriptKind.TheVariants as kinds
use Rattle.cqe_base.specs.declared.text.ScriptError.{ScriptError}
use Rattle.cqe_base.specs.declared.text.TextError.{TextError}
use Rattle.cqe_base.specs.declared.schema.SchemaError.{SchemaError}
use Rattle.cqe_base.specs.declared.schema.SchemaError.TheVariants as schema_errors
use Rattle.cqe_base.specs.Transcript.{mark_text}
use Rattle.dossier.specs.declared.error.DossierError.TheVariants as dossier_errors
use Rattle.dossier_engine.specs.declared.end.CheckRefusal.{CheckRefusal}
use Rattle.dossier_engine.specs.declared.end.CheckRefusal.TheVariants as check_refusals
use Rattle.cqe_base.specs.declared.user.User.{User}
use Rattle.log_journal.specs.declared.header.OpenError.{OpenError}
use Rattle.log_journal.specs.declared.header.OpenError.TheVariants as open_errors
use Rattle.user_desk.specs.declared.standing.DeskError.{DeskError}
use Rattle.user_desk.specs.declared.standing.DeskError.TheVariants as desk_errors
use Rattle.policy_files.specs.declared.error.KeyPlace.{KeyPlace}
use Rattle.policy_files.specs.declared.error.PolicyError.{PolicyError}
use Rattle.policy_files.specs.declared.error.PolicyError.TheVariants as policy_errors
use Rattle.policy_files.specs.declared.error.FactsError.{FactsError}
use Rattle.policy_files.specs.declared.error.FactsError.TheVariants as facts_errors
use Rattle.cqe_top.specs.declared.report.Report.{Report}
use Rattle.cqe_top.specs.declared.report.Report.TheVariants.{Done, Usage, Policy, Facts, Script}
use Rattle.cqe_top.specs.declared.report.Report.TheVariants.{ReadFault, WriteFault}
use Rattle.cqe_top.specs.declared.report.Report.TheVariants.{Missing, ShelfFault}
use Rattle.cqe_top.specs.declared.report.Report.TheVariants.{Journal, JournalAt, Journals, TargetAt}
use Rattle.cqe_top.specs.declared.report.Report.TheVariants.{DiskFault, LinksFault, Memory}
use Rattle.cqe_top.specs.declared.report.Report.TheVariants.{Dossier}

-- the number of a script's refusal
abbrev pub kind_number : ScriptKind → ℕ
kind_number kinds.NotALine = 1
kind_number kinds.TooLong = 2
kind_number kinds.TooMany = 3
kind_number kinds.Schema = 4
kind_number kinds.Fact = 5
kind_number kinds.Sentence = 6
kind_number kinds.Limit = 7
kind_number kinds.Order = 8

-- the kind and the line of a script's refusal
abbrev pub script_complaint : ScriptError → Text
script_complaint refusal =
    codes "cqe: script " ++ decimal (kind_number refusal.kind) ++ codes " " ++ decimal refusal.line
    ++ codes "\n"

-- the number of a schema's refusal
abbrev pub schema_number : SchemaError → ℕ
schema_number schema_errors.DuplicateName = 1
schema_number schema_errors.UnknownDomain = 2
schema_number schema_errors.TooMany = 3
schema_number schema_errors.EmptyDomain = 4
schema_number schema_errors.BadName = 5
schema_number schema_errors.Memory = 6

-- a number in brackets behind a key, where there is one
abbrev pub index_text : Option ℕ → Text
index_text None = []
index_text (Some n) = codes "[" ++ decimal n ++ codes "]"

-- the user before a key: none for a key of the document
abbrev pub user_text : Option ℕ → Text
user_text None = codes " "
user_text (Some n) = codes " users[" ++ decimal n ++ codes "]."

-- why a text is no sentence, where that is the cause
abbrev pub cause_text : Option TextError → Text
cause_text None = []
cause_text (Some why) = codes " " ++ decimal why.kind ++ codes " " ++ decimal why.place

-- a place: the key, as `users[0].know[1]`, and why its text is no sentence
abbrev pub place_text : KeyPlace → Text
place_text place =
    user_text place.user ++ place.key ++ index_text place.index ++ cause_text place.text

-- the number of a policy's refusal with its place
abbrev pub place_complaint : ℕ → KeyPlace → Text
place_complaint number place =
    codes "cqe: policy " ++ decimal number ++ place_text place ++ codes "\n"

-- the number of a policy's refusal, and its place or the number of the schema's refusal where there
-- is one
abbrev pub policy_complaint : PolicyError → Text
policy_complaint policy_errors.NotToml = codes "cqe: policy 1\n"
policy_complaint (policy_errors.MissingKey place) = place_complaint 2 place
policy_complaint (policy_errors.WrongKind place) = place_complaint 3 place
policy_complaint (policy_errors.UnknownKey place) = place_complaint 4 place
policy_complaint (policy_errors.Schema why) =
    codes "cqe: policy " ++ decimal 5 ++ codes " " ++ decimal (schema_number why) ++ codes "\n"
policy_complaint (policy_errors.Sentence place) = place_complaint 6 place
policy_complaint (policy_errors.Limit place) = place_complaint 7 place
policy_complaint (policy_errors.DuplicateUser place) = place_complaint 8 place
policy_complaint policy_errors.Version = codes "cqe: policy 9\n"
policy_complaint policy_errors.Memory = codes "cqe: policy 10\n"

-- the number of a facts file's refusal
abbrev pub facts_number : FactsError → ℕ
facts_number (facts_errors.NotAFact line) = 1
facts_number (facts_errors.Limit line) = 2
facts_number facts_errors.NotUtf8 = 3
facts_number facts_errors.Memory = 4

-- its line; 0 where the whole file is refused
abbrev pub facts_line : FactsError → ℕ
facts_line (facts_errors.NotAFact line) = line
facts_line (facts_errors.Limit line) = line
facts_line facts_errors.NotUtf8 = 0
facts_line facts_errors.Memory = 0

-- the number and the line of a facts file's refusal
abbrev pub facts_complaint : FactsError → Text
facts_complaint why =
    codes "cqe: facts " ++ decimal (facts_number why) ++ codes " " ++ decimal (facts_line why)
    ++ codes "\n"

-- the number of a dossier's refusal
abbrev pub dossier_number : CheckRefusal → ℕ
dossier_number check_refusals.TooLong = 5
dossier_number check_refusals.NotUtf8 = 1
dossier_number (check_refusals.Line (dossier_errors.Form line)) = 1
dossier_number (check_refusals.Line (dossier_errors.Text line)) = 2
dossier_number (check_refusals.Line (dossier_errors.Verdict line)) = 3
dossier_number (check_refusals.Line (dossier_errors.Mark line)) = 4
dossier_number (check_refusals.Line (dossier_errors.Admission line)) = 6
dossier_number (check_refusals.Line (dossier_errors.Unsafe line)) = 7
dossier_number (check_refusals.Line dossier_errors.Memory) = 8

-- its line; 0 where the whole text is refused
abbrev pub dossier_line : CheckRefusal → ℕ
dossier_line check_refusals.TooLong = 0
dossier_line check_refusals.NotUtf8 = 0
dossier_line (check_refusals.Line (dossier_errors.Form line)) = line
dossier_line (check_refusals.Line (dossier_errors.Text line)) = line
dossier_line (check_refusals.Line (dossier_errors.Verdict line)) = line
dossier_line (check_refusals.Line (dossier_errors.Mark line)) = line
dossier_line (check_refusals.Line (dossier_errors.Admission line)) = line
dossier_line (check_refusals.Line (dossier_errors.Unsafe line)) = line
dossier_line (check_refusals.Line dossier_errors.Memory) = 0

-- the number and the line of a dossier's refusal
abbrev pub dossier_complaint : CheckRefusal → Text
dossier_complaint why =
    codes "cqe: dossier " ++ decimal (dossier_number why) ++ codes " " ++ decimal (dossier_line why)
    ++ codes "\n"

-- why a journal isn't opened
abbrev pub opening_cause : OpenError → Text
opening_cause open_errors.NotAJournal = codes "not a journal"
opening_cause open_errors.OldVersion = codes "old version"
opening_cause open_errors.OtherPolicy = codes "other policy"
opening_cause (open_errors.Damaged number) = codes "damaged " ++ decimal number
opening_cause open_errors.DiskFault = codes "disk fault"
opening_cause open_errors.Memory = codes "out of memory"

-- why a user's journal is refused; a record has a number, counted from 0
abbrev pub journal_cause : DeskError → Text
journal_cause (desk_errors.Journal why) = opening_cause why
journal_cause (desk_errors.Stale number) = codes "stale " ++ decimal number
journal_cause (desk_errors.Size number) = codes "size " ++ decimal number
journal_cause (desk_errors.Unlawful number stored computed) =
    codes "unlawful " ++ decimal number ++ codes " stored " ++ mark_text stored
    ++ codes " computed " ++ mark_text computed
journal_cause (desk_errors.NotAdmitted admission) = codes "not admitted"
journal_cause (desk_errors.Unsafe number) = codes "unsafe " ++ decimal number

-- the line of a user with what is wrong with his journal
abbrev pub cause_line : Text → Text → Text
cause_line name cause = codes "cqe: journal " ++ name ++ codes " " ++ cause ++ codes "\n"

-- the line of a user whose journal is refused
abbrev pub journal_line : Text → DeskError → Text
journal_line name why = cause_line name (journal_cause why)

-- the line of a user, if his journal is refused
abbrev pub refusal_line : Text → Option DeskError → Text
refusal_line name None = []
refusal_line name (Some why) = journal_line name why

-- a line for each user whose journal is refused, in the order of the users
abbrev pub journal_lines : List User → List (Option DeskError) → Text
journal_lines [] refusals = []
journal_lines (user ∷ users) [] = []
journal_lines (user ∷ users) (refusal ∷ refusals) =
    refusal_line (string_bytes user.name) refusal ++ journal_lines users refusals

-- the line of a user with this cause, if there is such a user
abbrev pub user_line : Option User → Text → Text
user_line None cause = []
user_line (Some user) cause = cause_line (string_bytes user.name) cause

-- what is said of an end, by its report
abbrev pub complaint_of : Report → Text
complaint_of Done = []
complaint_of Usage = codes "cqe: usage\n"
complaint_of (Policy why) = policy_complaint why
complaint_of (Facts why) = facts_complaint why
complaint_of (Script refusal) = script_complaint refusal
complaint_of ReadFault = codes "cqe: read fault\n"
complaint_of WriteFault = codes "cqe: write fault\n"
complaint_of (Missing name) = codes "cqe: missing " ++ name.now ++ codes "\n"
complaint_of ShelfFault = codes "cqe: shelf fault\n"
complaint_of (Journal name why) = journal_line name.now why
complaint_of (JournalAt users number why) =
    user_line (slice_get users.items number) (opening_cause why)
complaint_of (TargetAt users number) =
    user_line (slice_get users.items number) (codes "not empty")
complaint_of (Journals users refusals) = journal_lines users.items refusals.items
complaint_of DiskFault = codes "cqe: disk fault\n"
complaint_of LinksFault = codes "cqe: links fault\n"
complaint_of Memory = codes "cqe: out of memory\n"
complaint_of (Dossier why) = dossier_complaint why
