-- The reading of the words: a table of the commands and their options, and what fits it.
use Rattle.std.specs.Prelude.{ℕ, Bool, true, false, not, ◌&&◌, ◌||◌, List, [], ◌∷◌, find, Option}
use Rattle.std.specs.Prelude.{Some, None, option_map, codes, bytes_eq, if◌then◌else◌}
use Rattle.std.specs.List.{list_all, list_any}
use Rattle.command_words.specs.Uses.{OptionRow, Use, uses_of}
use Rattle.command_words.specs.Numbers.{number_from, number_or}
use Rattle.command_words.specs.declared.command.Command.{Command}
use Rattle.command_words.specs.declared.command.Command.TheVariants.{Case, Init, Batch, Audit}
use Rattle.command_words.specs.declared.command.Command.TheVariants.{Selfrun, Serve, Migrate}
use Rattle.command_words.specs.declared.command.Command.TheVariants.{Dossier, Check, Standby}
use Rattle.command_words.specs.declared.command.Files.{Files}

-- ---- what words say

-- the names of the files that a command stands on, and of the directory of the journals
pub record FileNames : Type 0 where
  pub policy : List ℕ
  pub facts : List ℕ
  pub directory : List ℕ

-- what words say: a command, and the values that it runs with
pub data Reading : Type 0 where
  -- a script with one user
  runs_case : Reading
  -- the empty journals over these files
  runs_init : FileNames → Reading
  -- a script with many users over these files, answered by so many workers
  runs_batch : FileNames → ℕ → Reading
  -- the audit of the user of this name, as JSON or as lines
  runs_audit : FileNames → List ℕ → Bool → Reading
  -- the workload of this seed, with so many users and so many asks
  runs_selfrun : ℕ → ℕ → ℕ → Reading
  -- a server over these files, at this address, with so many workers, for so many sessions
  runs_serve : FileNames → List ℕ → ℕ → ℕ → Reading
  -- the moving of the journals of these files to a directory
  runs_migrate : FileNames → List ℕ → Reading
  -- the dossier of the user of this name
  runs_dossier : FileNames → List ℕ → Reading
  -- the check of a dossier of the user of this name, over a policy file and a facts file
  runs_check : List ℕ → List ℕ → List ℕ → Reading
  -- the same batch, with a standby at this address that copies the journals
  runs_mirrored_batch : FileNames → ℕ → List ℕ → Reading
  -- the same server, with a standby at the last address
  runs_mirrored_serve : FileNames → List ℕ → ℕ → ℕ → List ℕ → Reading
  -- a standby over these files, at this address, for so many connections
  runs_standby : FileNames → List ℕ → ℕ → Reading

-- ---- the uses of options

-- an option of this name is used
abbrev pub is_used : List Use → List ℕ → Bool
is_used uses name = list_any (λ u. bytes_eq u.name name) uses

-- no option is used twice
abbrev pub has_no_repeat : List Use → Bool
has_no_repeat [] = true
has_no_repeat (u ∷ rest) = not (is_used rest u.name) && has_no_repeat rest

-- each use is of one of these options, none is used twice, and each that must be there is used
abbrev pub do_fit : List OptionRow → List Use → Bool
do_fit rows uses =
    list_all (λ u. list_any (λ row. bytes_eq row.name u.name) rows) uses
    && (has_no_repeat uses && list_all (λ row. not row.is_needed || is_used uses row.name) rows)

-- the value that uses give to an option
abbrev pub value_of : List Use → List ℕ → Option (List ℕ)
value_of uses name = option_map (λ u. u.value) (find (λ u. bytes_eq u.name name) uses)

-- ---- what the values of options say

-- the names of the files, where all are there
abbrev pub files_said : Option (List ℕ) → Option (List ℕ) → Option (List ℕ) → Option FileNames
files_said (Some policy) (Some facts) (Some journals) =
    Some (record { policy = policy; facts = facts; directory = journals })
files_said _ _ _ = None

-- a batch over these files, with so many workers, and a standby if there is an address
abbrev pub batch_reading : FileNames → ℕ → Option (List ℕ) → Reading
batch_reading files workers None = runs_batch files workers
batch_reading files workers (Some standby) = runs_mirrored_batch files workers standby

-- a batch over these files, where all is said but perhaps a standby
abbrev pub batch_said : Option FileNames → Option ℕ → Option (List ℕ) → Option Reading
batch_said (Some files) (Some workers) standby = Some (batch_reading files workers standby)
batch_said _ _ _ = None

-- an audit over these files, of this user
abbrev pub audit_said : Option FileNames → Option (List ℕ) → Bool → Option Reading
audit_said (Some files) (Some user) is_json = Some (runs_audit files user is_json)
audit_said _ _ _ = None

-- a run by these three numbers
abbrev pub selfrun_said : Option ℕ → Option ℕ → Option ℕ → Option Reading
selfrun_said (Some seed) (Some users) (Some asks) = Some (runs_selfrun seed users asks)
selfrun_said _ _ _ = None

-- a server over these files, at this address, with these numbers, and a standby if there is a
-- further address
abbrev pub serve_reading : FileNames → List ℕ → ℕ → ℕ → Option (List ℕ) → Reading
serve_reading files address workers sessions None = runs_serve files address workers sessions
serve_reading files address workers sessions (Some standby) =
    runs_mirrored_serve files address workers sessions standby

-- a server over these files, where all is said but perhaps a standby
abbrev pub serve_said : Option FileNames → Option (List ℕ) → Option ℕ → Option ℕ
    → Option (List ℕ) → Option Reading
serve_said (Some files) (Some address) (Some workers) (Some sessions) standby =
    Some (serve_reading files address workers sessions standby)
serve_said _ _ _ _ _ = None

-- a standby over these files, at this address, for so many connections
abbrev pub standby_said : Option FileNames → Option (List ℕ) → Option ℕ → Option Reading
standby_said (Some files) (Some address) (Some sessions) =
    Some (runs_standby files address sessions)
standby_said _ _ _ = None

-- the moving of the journals of these files to a directory, which is another word
abbrev pub migrate_said : Option FileNames → Option (List ℕ) → Option Reading
migrate_said (Some files) (Some to) =
    if bytes_eq files.directory to then None else Some (runs_migrate files to)
migrate_said _ _ = None

-- the dossier over these files, of this user
abbrev pub dossier_said : Option FileNames → Option (List ℕ) → Option Reading
dossier_said (Some files) (Some user) = Some (runs_dossier files user)
dossier_said _ _ = None

-- the check over these two files, of a dossier of this user
abbrev pub check_said : Option (List ℕ) → Option (List ℕ) → Option (List ℕ) → Option Reading
check_said (Some policy) (Some facts) (Some user) = Some (runs_check policy facts user)
check_said _ _ _ = None

-- the files that uses name
abbrev pub files_of : List Use → Option FileNames
files_of uses = files_said (value_of uses (codes "policy")) (value_of uses (codes "facts"))
    (value_of uses (codes "journals"))

-- the batch that uses say: 1 to 64 workers, else 4
abbrev pub batch_of : List Use → Option Reading
batch_of uses =
    batch_said (files_of uses) (number_or 4 1 64 (value_of uses (codes "workers")))
    (value_of uses (codes "standby"))

-- the audit that uses say: as JSON where `--json` is used
abbrev pub audit_of : List Use → Option Reading
audit_of uses =
    audit_said (files_of uses) (value_of uses (codes "user")) (is_used uses (codes "json"))

-- the run that uses say: the seed is a number of 32 bits, the users are 1 to 256, the asks 1 to
-- 10,000
abbrev pub selfrun_of : List Use → Option Reading
selfrun_of uses =
    selfrun_said (number_from 0 4294967295 (value_of uses (codes "seed")))
    (number_from 1 256 (value_of uses (codes "users")))
    (number_from 1 10000 (value_of uses (codes "asks")))

-- the server that uses say: 1 to 64 workers, else 4, and 1 to 1,000,000 sessions, else 2^30
abbrev pub serve_of : List Use → Option Reading
serve_of uses =
    serve_said (files_of uses) (value_of uses (codes "listen"))
    (number_or 4 1 64 (value_of uses (codes "workers")))
    (number_or 1073741824 1 1000000 (value_of uses (codes "sessions")))
    (value_of uses (codes "standby"))

-- the standby that uses say: 1 to 1,000,000 connections, else 2^30
abbrev pub standby_of : List Use → Option Reading
standby_of uses =
    standby_said (files_of uses) (value_of uses (codes "listen"))
    (number_or 1073741824 1 1000000 (value_of uses (codes "sessions")))

-- the moving of journals that uses say
abbrev pub migrate_of : List Use → Option Reading
migrate_of uses = migrate_said (files_of uses) (value_of uses (codes "to"))

-- the dossier that uses say
abbrev pub dossier_of : List Use → Option Reading
dossier_of uses = dossier_said (files_of uses) (value_of uses (codes "user"))

-- the check of a dossier that uses say
abbrev pub check_of : List Use → Option Reading
check_of uses =
    check_said (value_of uses (codes "policy")) (value_of uses (codes "facts"))
    (value_of uses (codes "user"))

-- ---- the table

-- a command: its name, its options, and what it says with uses of these
pub record CommandRow : Type 0 where
  pub name : List ℕ
  pub options : List OptionRow
  pub says : List Use → Option Reading

-- an option that must be there, with a value
abbrev pub needed : List ℕ → OptionRow
needed name = record { name = name; is_needed = true; has_value = true }

-- an option with a value, which may be there
abbrev pub optional : List ℕ → OptionRow
optional name = record { name = name; is_needed = false; has_value = true }

-- an option without a value, which may be there
abbrev pub flag : List ℕ → OptionRow
flag name = record { name = name; is_needed = false; has_value = false }

-- the options that name the files of a command, and further ones
abbrev pub file_options : List OptionRow → List OptionRow
file_options others =
    needed (codes "policy") ∷ needed (codes "facts") ∷ needed (codes "journals") ∷ others

-- `case`
abbrev pub case_row : CommandRow
case_row = record { name = codes "case"; options = []; says = λ uses. Some runs_case }

-- `init --policy P --facts F --journals DIR`
abbrev pub init_row : CommandRow
init_row = record {
  name = codes "init";
  options = file_options [];
  says =
      λ uses. option_map runs_init (files_of uses);
}

-- `batch --policy P --facts F --journals DIR [--workers N] [--standby ADDRESS]`
abbrev pub batch_row : CommandRow
batch_row = record {
  name = codes "batch";
  options =
      file_options (optional (codes "workers") ∷ optional (codes "standby") ∷ []);
  says = batch_of;
}

-- `audit --policy P --facts F --journals DIR --user NAME [--json]`
abbrev pub audit_row : CommandRow
audit_row = record {
  name = codes "audit";
  options =
      file_options (needed (codes "user") ∷ flag (codes "json") ∷ []);
  says = audit_of;
}

-- `selfrun --seed N --users N --asks N`
abbrev pub selfrun_row : CommandRow
selfrun_row = record {
  name = codes "selfrun";
  options =
      needed (codes "seed") ∷ needed (codes "users") ∷ needed (codes "asks") ∷ [];
  says = selfrun_of;
}

-- `serve --policy P --facts F --journals DIR --listen ADDRESS [--workers N] [--sessions N]
-- [--standby ADDRESS]`
abbrev pub serve_row : CommandRow
serve_row = record {
  name = codes "serve";
  options =
      file_options (needed (codes "listen") ∷ optional (codes "workers")
      ∷ optional (codes "sessions") ∷ optional (codes "standby")
      ∷ []);
  says = serve_of;
}

-- `migrate --policy P --facts F --journals DIR --to DIR2`, with two different directories
abbrev pub migrate_row : CommandRow
migrate_row = record {
  name = codes "migrate";
  options =
      file_options (needed (codes "to") ∷ []);
  says = migrate_of;
}

-- `dossier --policy P --facts F --journals DIR --user NAME`
abbrev pub dossier_row : CommandRow
dossier_row = record {
  name = codes "dossier";
  options =
      file_options (needed (codes "user") ∷ []);
  says = dossier_of;
}

-- `check --policy P --facts F --user NAME`
abbrev pub check_row : CommandRow
check_row = record {
  name = codes "check";
  options =
      needed (codes "policy") ∷ needed (codes "facts") ∷ needed (codes "user") ∷ [];
  says = check_of;
}

-- `standby --policy P --facts F --journals DIR --listen ADDRESS [--sessions N]`
abbrev pub standby_row : CommandRow
standby_row = record {
  name = codes "standby";
  options =
      file_options (needed (codes "listen") ∷ optional (codes "sessions") ∷ []);
  says = standby_of;
}

-- all commands
abbrev pub commands : List CommandRow
commands = case_row ∷ init_row ∷ batch_row ∷ audit_row ∷ selfrun_row ∷ serve_row ∷ migrate_row
    ∷ dossier_row ∷ check_row ∷ standby_row ∷ []

-- the command of this name
abbrev pub command_of : List ℕ → Option CommandRow
command_of name = find (λ row. bytes_eq row.name name) commands

-- ---- the reading

-- what a command of the table says with uses, if they fit
abbrev pub reading_by : CommandRow → Option (List Use) → Option Reading
reading_by row (Some uses) = if do_fit row.options uses then row.says uses else None
reading_by row None = None

-- the reading of the words behind a command
abbrev pub reading_with : Option CommandRow → List (List ℕ) → Option Reading
reading_with (Some row) words = reading_by row (uses_of row.options words)
reading_with None words = None

-- the one reading of the words, if they have one: the first is the command, and its options come in
-- any order
unfoldable pub reading_of : List (List ℕ) → Option Reading
reading_of [] = None
reading_of (command ∷ words) = reading_with (command_of command) words

-- ---- commands in memory

-- the names that files in memory stand for
abbrev pub names_of_files : Files → FileNames
names_of_files files =
    record { policy = files.policy.now; facts = files.facts.now; directory = files.journals.now }

-- the reading that a command in memory stands for
abbrev pub reading_in : Command → Reading
reading_in Case = runs_case
reading_in (Init files) = runs_init (names_of_files files)
reading_in (Batch words) =
    batch_reading (names_of_files words.files) words.workers (option_map (λ s. s.now) words.standby)
reading_in (Audit words) = runs_audit (names_of_files words.files) words.user.now words.json
reading_in (Selfrun words) = runs_selfrun words.seed words.users words.asks
reading_in (Serve words) =
    serve_reading (names_of_files words.files) words.listen.now words.workers words.sessions
    (option_map (λ s. s.now) words.standby)
reading_in (Migrate words) = runs_migrate (names_of_files words.files) words.to.now
reading_in (Dossier words) = runs_dossier (names_of_files words.files) words.user.now
reading_in (Check words) = runs_check words.policy.now words.facts.now words.user.now
reading_in (Standby words) =
    runs_standby (names_of_files words.files) words.listen.now words.sessions
