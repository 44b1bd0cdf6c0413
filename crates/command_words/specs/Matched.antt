-- What `clap` is asked, and what is made of its answer.
use Rattle.std.specs.Prelude.{ℕ, ◌==◌, Bool, true, false, not, ◌&&◌, List, [], ◌∷◌, Option, Some}
use Rattle.std.specs.Prelude.{None, option_map, codes, bytes_eq, if◌then◌else◌}
use Rattle.clap.specs.Words.{App, Row, Rule, Shape, first_of, new_app, new_rule, with_rule}
use Rattle.clap.specs.Words.{with_subcommand}
use Rattle.clap.specs.Simple.{on_top}
use Rattle.clap.specs.declared.builder.action.ArgAction.TheVariants.{Set, SetTrue}
use Rattle.clap.specs.declared.builder.value_parser.ValueParser.TheVariants.{NonEmptyString}
use Rattle.command_words.specs.Numbers.{number_from, number_or}
use Rattle.command_words.specs.Readings.{FileNames, Reading, runs_case, runs_init}
use Rattle.command_words.specs.Readings.{files_said, batch_said, audit_said, selfrun_said}
use Rattle.command_words.specs.Readings.{serve_said, migrate_said, dossier_said, check_said}
use Rattle.command_words.specs.Readings.{standby_said}

-- `--`, or a hyphen and a further byte that isn't one: no reading has such a word
abbrev pub is_short : List ℕ → Bool
is_short [] = false
is_short (a ∷ []) = false
is_short (a ∷ b ∷ []) = a == 45
is_short (a ∷ b ∷ c ∷ rest) = a == 45 && not (b == 45)

-- the argument for an option that may be there and has a text that isn't empty
abbrev pub optional_rule : List ℕ → Rule
optional_rule name =
    record (new_rule name) { long = Some name; action = Some Set; parser = Some NonEmptyString }

-- the same of an option that must be there
abbrev pub needed_rule : List ℕ → Rule
needed_rule name = record (optional_rule name) { required = true }

-- the argument for an option without a value, which may be there
abbrev pub flag_rule : List ℕ → Rule
flag_rule name = record (new_rule name) { long = Some name; action = Some SetTrue }

-- the subcommand for a command with three options that must be there
abbrev pub three_command : List ℕ → List ℕ → List ℕ → List ℕ → App
three_command name one two three =
    with_rule (with_rule (with_rule (new_app name) (needed_rule one)) (needed_rule two))
    (needed_rule three)

-- the subcommand for a command with files
abbrev pub file_command : List ℕ → App
file_command name = three_command name (codes "policy") (codes "facts") (codes "journals")

-- the settings: the words begin with the command, which has to be there, and there is no help
abbrev pub with_settings : Shape → Shape
with_settings s = record s {
  no_binary_name = true;
  disable_help_flag = true;
  disable_help_subcommand = true;
  subcommand_required = true;
}

-- the subcommand `batch`
abbrev pub batch_command : App
batch_command = with_rule
    (with_rule (file_command (codes "batch")) (optional_rule (codes "workers")))
    (optional_rule (codes "standby"))

-- the subcommand `audit`
abbrev pub audit_command : App
audit_command = with_rule (with_rule (file_command (codes "audit")) (needed_rule (codes "user")))
    (flag_rule (codes "json"))

-- the subcommand `selfrun`
abbrev pub selfrun_command : App
selfrun_command = three_command (codes "selfrun") (codes "seed") (codes "users") (codes "asks")

-- the subcommand `serve`
abbrev pub serve_command : App
serve_command = with_rule
    (with_rule
    (with_rule (with_rule (file_command (codes "serve")) (needed_rule (codes "listen")))
    (optional_rule (codes "workers"))) (optional_rule (codes "sessions")))
    (optional_rule (codes "standby"))

-- the subcommand `migrate`
abbrev pub migrate_command : App
migrate_command = with_rule (file_command (codes "migrate")) (needed_rule (codes "to"))

-- the subcommand `dossier`
abbrev pub dossier_command : App
dossier_command = with_rule (file_command (codes "dossier")) (needed_rule (codes "user"))

-- the subcommand `check`
abbrev pub check_command : App
check_command = three_command (codes "check") (codes "policy") (codes "facts") (codes "user")

-- the subcommand `standby`
abbrev pub standby_command : App
standby_command = with_rule
    (with_rule (file_command (codes "standby")) (needed_rule (codes "listen")))
    (optional_rule (codes "sessions"))

-- a command line with no subcommand yet
abbrev pub bare : App
bare = on_top with_settings (new_app (codes "cqe"))

-- a command line with the last three commands too
abbrev pub with_last : App → App
with_last app = with_subcommand (with_subcommand (with_subcommand app
    dossier_command.top) check_command.top) standby_command.top

-- the command line of the program
abbrev pub program : App
program = with_last (with_subcommand
    (with_subcommand (with_subcommand (with_subcommand (with_subcommand (with_subcommand
    (with_subcommand bare
    (new_app (codes "case")).top) (file_command (codes "init")).top)
    batch_command.top) audit_command.top) selfrun_command.top)
    serve_command.top) migrate_command.top)

-- the files that the rows that were matched name
abbrev pub files_in : List Row → Option FileNames
files_in rows = files_said (first_of (codes "policy") rows) (first_of (codes "facts") rows)
    (first_of (codes "journals") rows)

-- a text that says that a flag is set
abbrev pub says_true : Option (List ℕ) → Bool
says_true None = false
says_true (Some text) = bytes_eq text (codes "true")

-- the batch that rows say
abbrev pub batch_in : List Row → Option Reading
batch_in rows =
    batch_said (files_in rows) (number_or 4 1 64 (first_of (codes "workers") rows))
    (first_of (codes "standby") rows)

-- the audit that rows say
abbrev pub audit_in : List Row → Option Reading
audit_in rows = audit_said (files_in rows) (first_of (codes "user") rows)
    (says_true (first_of (codes "json") rows))

-- the run that rows say
abbrev pub selfrun_in : List Row → Option Reading
selfrun_in rows =
    selfrun_said (number_from 0 4294967295 (first_of (codes "seed") rows))
    (number_from 1 256 (first_of (codes "users") rows))
    (number_from 1 10000 (first_of (codes "asks") rows))

-- the server that rows say
abbrev pub serve_in : List Row → Option Reading
serve_in rows =
    serve_said (files_in rows) (first_of (codes "listen") rows)
    (number_or 4 1 64 (first_of (codes "workers") rows))
    (number_or 1073741824 1 1000000 (first_of (codes "sessions") rows))
    (first_of (codes "standby") rows)

-- the standby that rows say
abbrev pub standby_in : List Row → Option Reading
standby_in rows =
    standby_said (files_in rows) (first_of (codes "listen") rows)
    (number_or 1073741824 1 1000000 (first_of (codes "sessions") rows))

-- the moving of journals that rows say
abbrev pub migrate_in : List Row → Option Reading
migrate_in rows = migrate_said (files_in rows) (first_of (codes "to") rows)

-- the dossier that rows say
abbrev pub dossier_in : List Row → Option Reading
dossier_in rows = dossier_said (files_in rows) (first_of (codes "user") rows)

-- the check of a dossier that rows say
abbrev pub check_in : List Row → Option Reading
check_in rows = check_said (first_of (codes "policy") rows) (first_of (codes "facts") rows)
    (first_of (codes "user") rows)

-- the reading of a command with the rows that were matched
abbrev pub command_with : List ℕ → List Row → Option Reading
command_with command rows =
    if bytes_eq command (codes "case") then Some runs_case
    else if bytes_eq command (codes "init") then option_map runs_init (files_in rows)
    else if bytes_eq command (codes "batch") then batch_in rows
    else if bytes_eq command (codes "audit") then audit_in rows
    else if bytes_eq command (codes "selfrun") then selfrun_in rows
    else if bytes_eq command (codes "serve") then serve_in rows
    else if bytes_eq command (codes "migrate") then migrate_in rows
    else if bytes_eq command (codes "dossier") then dossier_in rows
    else if bytes_eq command (codes "check") then check_in rows
    else if bytes_eq command (codes "standby") then standby_in rows
    else None
