-- The numbers of the words are within their limits.
use Rattle.std.proofs.Common.{◌≡◌, ℕ, ◌≤◌, Bool, true, false, ◌&&◌, List, [], ◌∷◌, Option, Some, None, refl, subst, arith}
use Rattle.std.specs.Prelude.{IfSome, nat_le, option_map, option_and_then, codes, bytes_eq, cond, if◌then◌else◌}
use Rattle.std.proofs.lemmas.Bool.{and_parts}
use Rattle.std.proofs.lemmas.Bool.Decides.{nat_tests}
use Rattle.command_words.specs.Uses.{Use, uses_of}
use Rattle.command_words.specs.Numbers.{within, number_from, number_or}
use Rattle.line_protocol.specs.Words.{number_in}
use Rattle.cqe_top.specs.Steps.{WorkersBounds, ServesBounds}
use Rattle.command_words.specs.Readings.{Reading, FileNames, runs_init, runs_batch, runs_selfrun, runs_serve, reading_of, reading_with, reading_by, do_fit}
use Rattle.command_words.specs.Readings.{CommandRow, case_row, init_row, batch_row, audit_row, selfrun_row, serve_row, files_of, audit_said, selfrun_said}
use Rattle.command_words.specs.Readings.{batch_said, serve_said, value_of, is_used, runs_migrate, migrate_row, migrate_said, dossier_row, dossier_said}
use Rattle.command_words.specs.Readings.{batch_reading, serve_reading, runs_mirrored_batch, runs_mirrored_serve, runs_standby, standby_row, standby_said}
use Rattle.command_words.specs.Readings.{check_row, check_said}

-- a number between two, or one of them
abbrev IsWithin : ℕ → ℕ → ℕ → Type 0
IsWithin least most n = (least ≤ n) × (n ≤ most)

-- a number that was read lies within its limits
bounds : (least most : ℕ) (value : Option (List ℕ)) → IfSome (number_from least most value) (IsWithin least most)
bounds least most None = tt
bounds least most (Some text) = by (number_in text)
  where
    tested : (m : ℕ) (t : Bool) → (nat_le least m && nat_le m most) ≡ t → IfSome (if t then Some m else None) (IsWithin least most)
    tested m true fits = between (and_parts (nat_le least m) (nat_le m most) fits)
      where
        between : (nat_le least m ≡ true) × (nat_le m most ≡ true) → IsWithin least most m
        between (low, high) = (grind (arith, nat_tests, low), grind (arith, nat_tests, high))
    tested m false fits = tt

    by : (o : Option ℕ) → IfSome (option_and_then (within least most) o) (IsWithin least most)
    by None = tt
    by (Some m) = tested m (nat_le least m && nat_le m most) refl

-- so does one that may be left out, where the usual one does
usual_bounds : (usual least most limit : ℕ) (value : Option (List ℕ)) → IsWithin least limit usual → most ≤ limit
    → IfSome (number_or usual least most value) (IsWithin least limit)
usual_bounds usual least most limit None lies more = lies
usual_bounds usual least most limit (Some text) lies more = wider (number_from least most (Some text)) (bounds least most (Some text))
  where
    wider : (o : Option ℕ) → IfSome o (IsWithin least most) → IfSome o (IsWithin least limit)
    wider None is = tt
    wider (Some n) is = (is.0, omega (arith, is.1, more))

-- the limits of the users and of the asks
pub record RunsBounds (users asks : ℕ) : Type 0 where
  pub some_user : 1 ≤ users
  pub few_users : users ≤ 256
  pub some_ask : 1 ≤ asks
  pub few_asks : asks ≤ 10000

-- the numbers of a reading are within their limits, and two directories are two
abbrev pub Keeps : Reading → Type 0
Keeps (runs_batch files workers) = WorkersBounds workers
Keeps (runs_selfrun seed users asks) = RunsBounds users asks
Keeps (runs_serve files address workers sessions) = ServesBounds workers sessions
Keeps (runs_migrate files to) = bytes_eq files.directory to ≡ false
Keeps (runs_mirrored_batch files workers standby) = WorkersBounds workers
Keeps (runs_mirrored_serve files address workers sessions standby) = ServesBounds workers sessions
Keeps (runs_standby files address sessions) = sessions ≤ 1073741824
Keeps reading = Unit {0}

of_run : (one two three : Option (List ℕ)) → IfSome (selfrun_said (number_from 0 4294967295 one) (number_from 1 256 two) (number_from 1 10000 three)) Keeps
of_run one two three = by (number_from 0 4294967295 one) (number_from 1 256 two) (number_from 1 10000 three) (bounds 1 256 two) (bounds 1 10000 three)
  where
    by : (a b c : Option ℕ) → IfSome b (IsWithin 1 256) → IfSome c (IsWithin 1 10000) → IfSome (selfrun_said a b c) Keeps
    by (Some a) (Some b) (Some c) second third = record { some_user = second.0; few_users = second.1; some_ask = third.0; few_asks = third.1 }
    by None b c second third = tt
    by (Some a) None c second third = tt
    by (Some a) (Some b) None second third = tt

of_server : (files : Option FileNames) (address one two standby : Option (List ℕ))
    → IfSome (serve_said files address (number_or 4 1 64 one) (number_or 1073741824 1 1000000 two) standby) Keeps
of_server files address one two standby =
    by files address (number_or 4 1 64 one) (number_or 1073741824 1 1000000 two)
    (usual_bounds 4 1 64 64 one (omega arith, omega arith) (omega arith))
    (usual_bounds 1073741824 1 1000000 1073741824 two (omega arith, omega arith) (omega arith))
  where
    beside : (f : FileNames) (a : List ℕ) (w s : ℕ) (other : Option (List ℕ)) → ServesBounds w s → Keeps (serve_reading f a w s other)
    beside f a w s None has = has
    beside f a w s (Some text) has = has

    by : (f : Option FileNames) (a : Option (List ℕ)) (w s : Option ℕ) → IfSome w (IsWithin 1 64) → IfSome s (IsWithin 1 1073741824)
        → IfSome (serve_said f a w s standby) Keeps
    by (Some f) (Some a) (Some w) (Some s) first second =
        beside f a w s standby (record { some_worker = first.0; few_workers = first.1; some_session = second.0; few_sessions = second.1 })
    by None a w s first second = tt
    by (Some f) None w s first second = tt
    by (Some f) (Some a) None s first second = tt
    by (Some f) (Some a) (Some w) None first second = tt

of_standby : (files : Option FileNames) (address one : Option (List ℕ))
    → IfSome (standby_said files address (number_or 1073741824 1 1000000 one)) Keeps
of_standby files address one =
    by files address (number_or 1073741824 1 1000000 one) (usual_bounds 1073741824 1 1000000 1073741824 one (omega arith, omega arith) (omega arith))
  where
    by : (f : Option FileNames) (a : Option (List ℕ)) (s : Option ℕ) → IfSome s (IsWithin 1 1073741824) → IfSome (standby_said f a s) Keeps
    by (Some f) (Some a) (Some s) first = first.1
    by None a s first = tt
    by (Some f) None s first = tt
    by (Some f) (Some a) None first = tt

no_init : (files : Option FileNames) → IfSome (option_map runs_init files) Keeps
no_init None = tt
no_init (Some files) = tt

of_batch : (files : Option FileNames) (one standby : Option (List ℕ)) → IfSome (batch_said files (number_or 4 1 64 one) standby) Keeps
of_batch files one standby = by files (number_or 4 1 64 one) (usual_bounds 4 1 64 64 one (omega arith, omega arith) (omega arith))
  where
    beside : (f : FileNames) (w : ℕ) (other : Option (List ℕ)) → WorkersBounds w → Keeps (batch_reading f w other)
    beside f w None has = has
    beside f w (Some text) has = has

    by : (f : Option FileNames) (w : Option ℕ) → IfSome w (IsWithin 1 64) → IfSome (batch_said f w standby) Keeps
    by (Some f) (Some w) first = beside f w standby (record { some_worker = first.0; few_workers = first.1 })
    by None w first = tt
    by (Some f) None first = tt

no_audit : (files : Option FileNames) (user : Option (List ℕ)) (json : Bool) → IfSome (audit_said files user json) Keeps
no_audit None user json = tt
no_audit (Some files) None json = tt
no_audit (Some files) (Some user) json = tt

no_dossier : (files : Option FileNames) (user : Option (List ℕ)) → IfSome (dossier_said files user) Keeps
no_dossier None user = tt
no_dossier (Some files) None = tt
no_dossier (Some files) (Some user) = tt

no_check : (policy facts user : Option (List ℕ)) → IfSome (check_said policy facts user) Keeps
no_check None facts user = tt
no_check (Some policy) None user = tt
no_check (Some policy) (Some facts) None = tt
no_check (Some policy) (Some facts) (Some user) = tt

of_migrate : (files : Option FileNames) (to : Option (List ℕ)) → IfSome (migrate_said files to) Keeps
of_migrate None to = tt
of_migrate (Some files) None = tt
of_migrate (Some files) (Some to) = by (bytes_eq files.directory to) refl
  where
    by : (t : Bool) → bytes_eq files.directory to ≡ t → IfSome (if t then None else Some (runs_migrate files to)) Keeps
    by true same = tt
    by false other = other

-- words behind a command
by_uses : (row : CommandRow) (uses : Option (List Use)) → ((some : List Use) → IfSome (row.says some) Keeps) → IfSome (reading_by row uses) Keeps
by_uses row None further = tt
by_uses row (Some uses) further = by (do_fit row.options uses)
  where
    by : (t : Bool) → IfSome (if t then row.says uses else None) Keeps
    by true = further uses
    by false = tt

in_bounds : (words : List (List ℕ)) → IfSome (reading_of words) Keeps
unfolding reading_of
in_bounds [] = tt
in_bounds (command ∷ words) =
    by (bytes_eq (codes "case") command) (bytes_eq (codes "init") command) (bytes_eq (codes "batch") command) (bytes_eq (codes "audit") command)
    (bytes_eq (codes "selfrun") command) (bytes_eq (codes "serve") command) (bytes_eq (codes "migrate") command) (bytes_eq (codes "dossier") command)
    (bytes_eq (codes "check") command) (bytes_eq (codes "standby") command)
  where
    by : (a b c d e f g h k m : Bool)
        → IfSome (reading_with
        (cond a (Some case_row)
        (cond b (Some init_row)
        (cond c (Some batch_row)
        (cond d (Some audit_row) (cond e (Some selfrun_row) (cond f (Some serve_row) (cond g (Some migrate_row)
        (cond h (Some dossier_row) (cond k (Some check_row) (cond m (Some standby_row) None)))))))))) words)
        Keeps
    by true b c d e f g h k m = by_uses case_row (uses_of case_row.options words) (λ uses. tt)
    by false true c d e f g h k m = by_uses init_row (uses_of init_row.options words) (λ uses. no_init (files_of uses))
    by false false true d e f g h k m =
        by_uses batch_row (uses_of batch_row.options words) (λ uses.
        of_batch (files_of uses) (value_of uses (codes "workers")) (value_of uses (codes "standby")))
    by false false false true e f g h k m =
        by_uses audit_row (uses_of audit_row.options words) (λ uses. no_audit (files_of uses) (value_of uses (codes "user")) (is_used uses (codes "json")))
    by false false false false true f g h k m =
        by_uses selfrun_row (uses_of selfrun_row.options words) (λ uses.
        of_run (value_of uses (codes "seed")) (value_of uses (codes "users")) (value_of uses (codes "asks")))
    by false false false false false true g h k m =
        by_uses serve_row (uses_of serve_row.options words) (λ uses.
        of_server (files_of uses) (value_of uses (codes "listen")) (value_of uses (codes "workers")) (value_of uses (codes "sessions"))
        (value_of uses (codes "standby")))
    by false false false false false false true h k m =
        by_uses migrate_row (uses_of migrate_row.options words) (λ uses. of_migrate (files_of uses) (value_of uses (codes "to")))
    by false false false false false false false true k m =
        by_uses dossier_row (uses_of dossier_row.options words) (λ uses. no_dossier (files_of uses) (value_of uses (codes "user")))
    by false false false false false false false false true m =
        by_uses check_row (uses_of check_row.options words) (λ uses.
        no_check (value_of uses (codes "policy")) (value_of uses (codes "facts")) (value_of uses (codes "user")))
    by false false false false false false false false false true =
        by_uses standby_row (uses_of standby_row.options words) (λ uses.
        of_standby (files_of uses) (value_of uses (codes "listen")) (value_of uses (codes "sessions")))
    by false false false false false false false false false false = tt

-- what words say has its limits
pub kept : (words : List (List ℕ)) (reading : Reading) → reading_of words ≡ Some reading → Keeps reading
kept words reading is = subst (λ r. IfSome r Keeps) is (in_bounds words)
