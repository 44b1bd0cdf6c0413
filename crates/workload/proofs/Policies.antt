-- The tree of a workload's policy means the policy.
use Rattle.std.proofs.Common.{◌≡◌, ◌∙◌, sym, ap, subst, refl, ℕ, zero, suc, ◌+◌, ◌*◌, ◌<◌, ◌≤◌, ◌%◌, ◌/◌, ◌==◌, Bool, true, false, ◌&&◌, ◌||◌, List, [], ◌∷◌}
use Rattle.std.proofs.Common.{◌++◌, map, length, drop, codes, decimal, nat_le, nat_lt, bytes_eq, Some, None, Result, Ok, Err, if◌then◌else◌, IsUtf8, arith}
use Rattle.std.proofs.Common.{length-append}
use Rattle.std.specs.Fmt.{digits}
use Rattle.std.specs.List.{range_with_len, list_all}
use Rattle.std.proofs.Math.Nat.{mod-lt}
use Rattle.std.proofs.lemmas.Bool.{false_from_ne_true}
use Rattle.std.proofs.lemmas.Bool.Decides.{nat_tests}
use Rattle.std.proofs.lemmas.Fmt.{decimal_injective, length-decimal-le}
use Rattle.std.proofs.lemmas.List.{map-append}
use Rattle.std.proofs.lemmas.List.FromFn.{length-map-range_with_len}
use Rattle.std.proofs.lemmas.Slice.Eq.{bytes_eq-Decides}
use Rattle.std.proofs.lemmas.Str.{is_utf8-from_IsUtf8}
use Rattle.toml.specs.Data.{Data, string, array, table, members_depth}
use Rattle.toml.specs.Parse.{parse_document}
use Rattle.toml.specs.View.{items_of}
use Rattle.cqe_base.specs.declared.user.Method.{Method}
use Rattle.cqe_base.specs.declared.user.Method.TheVariants as methods
use Rattle.cqe_base.specs.Schema.{Text, contains_text, is_schema_name}
use Rattle.cqe_base.specs.Formula.{Formula}
use Rattle.cqe_base.specs.Tokens
use Rattle.cqe_base.specs.Reading
use Rattle.cqe_base.specs.Reading.{Refusal, reading}
use Rattle.cqe_base.specs.History.{view_size, added_secrets, log, known, told}
use Rattle.sentence_text.specs.Laws.{CanonicalFormsRead}
use Rattle.policy_files.specs.declared.keys.PolicyVersion.TheVariants.{One}
use Rattle.policy_files.specs.declared.error.PolicyError.TheVariants.{NotToml, WrongKind, Limit, DuplicateUser}
use Rattle.policy_files.specs.Tree.{is_table, tables_in, declarations}
use Rattle.policy_files.specs.Keys.{◌>>=◌, key_place, text_place, of_kind, required, within}
use Rattle.policy_files.specs.Policies.{PolicyUser}
use Rattle.policy_files.specs.Policy.{policy_of, policy_in, tree_of, schema_in}
use Rattle.policy_files.specs.Users.{user_of, users_behind, sentence_of, sentences_of, names_of, small_sentence, name_of, method_of, with_small_view}
use Rattle.policy_files.specs.Users.{all_secrets, user_place}
use Rattle.policy_files.proofs.Trees.{listed-items_of}
use Rattle.workload.specs.Draws.{state_after, drawn}
use Rattle.workload.specs.Stated.{workload_schema}
use Rattle.workload.specs.Policies.{user_name, method_at, drug_means_illness, has_first_illness, secret_person, workload_user, workload_policy}
use Rattle.workload.specs.Trees.{known_text, secret_text, method_text, user_tree, domain_members, relation_members, root_members, user_trees, ReadsAs}
use Rattle.workload.proofs.Drawing.{range_to}
use Rattle.workload.proofs.Lining.{all_at}
use Rattle.workload.proofs.Stating.{has_read}
use Rattle.workload.proofs.Trees.{root_depth}

-- ---- names

-- all 256 names have the form of a user's name
forms : list_all (λ n. is_schema_name (user_name n)) (range_with_len 0 256) ≡ true
unfolding digits
forms = refl

pub has_form : (n : ℕ) → n < 256 → is_schema_name (user_name n) ≡ true
has_form n low = all_at (λ m. is_schema_name (user_name m)) 0 256 n n (omega arith) low forms

differs : (m n : ℕ) → m < 256 → n < m → bytes_eq (user_name m) (user_name n) ≡ false
differs m n small less =
    false_from_ne_true (bytes_eq (user_name m) (user_name n)) (λ same.
    let one : m ≡ n =
    decimal_injective m n (omega (arith, small)) (omega (arith, small, less)) (ap (drop 1) ((bytes_eq-Decides (user_name m) (user_name n)).0 same)) in
    absurd (omega (arith, one, less)))

-- the name of a user isn't among those before him
new_name : (m a n : ℕ) → m < 256 → a + n ≤ m → contains_text (map user_name (range_with_len a n)) (user_name m) ≡ false
new_name m a zero small low = refl
new_name m a (suc n) small low = (λ i. differs m a small (omega (arith, low)) i || new_name m (a + 1) n small (omega (arith, low)) i)

names_are : (seed a n : ℕ) → names_of (map (workload_user seed) (range_with_len a n)) ≡ map user_name (range_with_len a n)
names_are seed a zero = refl
names_are seed a (suc n) = ap (λ names. user_name a ∷ names) (names_are seed (a + 1) n)

-- ---- sentences

-- what each user knows is read
known_read : reading workload_schema known_text ≡ Ok drug_means_illness
unfolding digits reading Tokens.tokens_from Tokens.end_from Tokens.token_length Tokens.mark_length Tokens.symbol_of Reading.sentence_of Reading.sentence
    Reading.conditional Reading.unary Reading.unary_by Reading.quantified Reading.both Reading.either Reading.chain Reading.implying Reading.equivalent_to
    Reading.named Reading.relation_atom Reading.arguments Reading.some_columns Reading.columns Reading.term_of Reading.after_column Reading.name
    Reading.domain Reading.pass Reading.variable_named Reading.inside Reading.at_end Reading.ends_quantified
known_read = refl

known_step : (number : ℕ)
    → sentences_of workload_schema number (codes "know") (record { least = 0; greatest = 256; nodes = 20000 }) (array (items_of (string known_text ∷ []))) ≡ Ok (drug_means_illness ∷ [])
unfolding sentences_of sentence_of digits
known_step number = ap (λ (r : Result Formula Refusal). small_sentence workload_schema number (codes "know") 20000 0 r >>= λ sentence. Ok (sentence ∷ [])) known_read

secret_length : (person : ℕ) → person < 40 → nat_lt 4096 (length (secret_text person)) ≡ false
secret_length person low =
    let whole = length-append (decimal person) (codes ", d0)") in
    let few = length-decimal-le 2 person (omega (arith, low)) (omega arith) (omega (arith, low)) in
    short (length (secret_text person)) (omega (arith, whole, few))
  where
    short : (n : ℕ) → n ≤ 100 → nat_lt 4096 n ≡ false
    short n few = grind (arith, nat_tests)

module _ (law : CanonicalFormsRead) where
  secret_read : (person : ℕ) → person < 40 → reading workload_schema (secret_text person) ≡ Ok (has_first_illness person)
  unfolding digits
  secret_read person low = has_read law person 0 low (omega arith)

  -- a secret is a sentence that is small enough
  secret_step : (number index person : ℕ) → person < 40
      → sentence_of workload_schema number (codes "secrets") 20000 index (secret_text person) ≡ Ok (has_first_illness person)
  unfolding sentence_of
  secret_step number index person low =
      ap (λ (t : Bool). if t then Err (Limit (text_place number (codes "secrets") index None))
      else small_sentence workload_schema number (codes "secrets") 20000 index (reading workload_schema (secret_text person))) (secret_length person low)
      ∙ ap (λ r. small_sentence workload_schema number (codes "secrets") 20000 index r) (secret_read person low)

  secrets_step : (number a b c : ℕ) → a < 40 → b < 40 → c < 40
      → sentences_of workload_schema number (codes "secrets") (record { least = 1; greatest = 16; nodes = 20000 })
      (array (items_of (string (secret_text a) ∷ string (secret_text b) ∷ string (secret_text c) ∷ [])))
      ≡ Ok (has_first_illness a ∷ has_first_illness b ∷ has_first_illness c ∷ [])
  unfolding sentences_of
  secrets_step number a b c low low' low'' =
      λ i. secret_step number 0 a low i >>= λ first. secret_step number 1 b low' i >>= λ second. secret_step number 2 c low'' i >>= λ third.
      Ok (first ∷ second ∷ third ∷ [])

  -- ---- users

  name_step : (earlier : List Text) (number k : ℕ) → k < 256 → contains_text earlier (user_name k) ≡ false
      → name_of earlier number (Some (string (user_name k))) ≡ Ok (user_name k)
  name_step earlier number k low new =
      λ i. if has_form k low i then (if new i then Err (DuplicateUser (user_place number (codes "name"))) else Ok (user_name k))
      else Err (WrongKind (user_place number (codes "name")))

  method_step : (number k : ℕ) → method_of number (Some (string (method_text k))) ≡ Ok (method_at k)
  method_step number k = by (k % 3 == 0) (k % 3 == 1)
    where
      by : (first second : Bool)
          → method_of number (Some (string (if first then codes "lying" else if second then codes "refusal" else codes "combined")))
          ≡ Ok (if first then methods.Lying else if second then methods.Refusal else methods.Combined)
      by true second = refl
      by false true = refl
      by false false = refl

  small : (number : ℕ) (name : Text) (method : Method) (a b c : ℕ) (user : PolicyUser)
      → user ≡ record {
        name = name;
        profile =
            record {
              method = method;
              know = drug_means_illness ∷ [];
              secrets = has_first_illness a ∷ has_first_illness b ∷ has_first_illness c ∷ [];
              pairs = 0;
              budget =
                  1000000;
            };
        token = None;
      }
      → with_small_view workload_schema number user ≡ Ok user
  unfolding view_size log known told added_secrets digits
  small number name method a b c user is = subst (λ u. with_small_view workload_schema number u ≡ Ok u) (sym is) refl

  below : (seed n : ℕ) → drawn seed n 40 < 40
  below seed n = mod-lt (state_after seed (n + 1) / 65536) {m = 40} (omega arith)

  user_reads : (seed k : ℕ) (earlier : List Text) (number : ℕ) → k < 256 → contains_text earlier (user_name k) ≡ false
      → user_of One workload_schema earlier number (user_tree seed k) ≡ Ok (workload_user seed k)
  unfolding user_of
  user_reads seed k earlier number low new =
      let a = secret_person seed k 0 in
      let b = secret_person seed k 1 in
      let c = secret_person seed k 2 in
      (λ i. name_step earlier number k low new i >>= λ name. method_step number k i >>= λ method. known_step number i >>= λ know.
      secrets_step number a b c (below seed (620 + 3 * k + 0)) (below seed (620 + 3 * k + 1)) (below seed (620 + 3 * k + 2)) i >>= λ others.
      all_secrets number [] others >>= λ secrets.
      with_small_view workload_schema number (record {
        name =
            name;
        profile = record { method = method; know = know; secrets = secrets; pairs = 0; budget = 1000000 };
        token = None;
      }))
      ∙ small number (user_name k) (method_at k) a b c (workload_user seed k) refl

  users_read : (seed a n : ℕ) → a + n ≤ 256
      → users_behind One workload_schema (map (workload_user seed) (range_with_len 0 a)) (map (user_tree seed) (range_with_len a n))
      ≡ Ok (map (workload_user seed) (range_with_len 0 (a + n)))
  users_read seed a zero low = ap (λ m. Ok (map (workload_user seed) (range_with_len 0 m))) (none a)
    where
      none : (a : ℕ) → a ≡ a + 0
      none a = omega arith
  users_read seed a (suc n) low =
      let before = map (workload_user seed) (range_with_len 0 a) in
      ap (λ r. r >>= λ user. users_behind One workload_schema (before ++ user ∷ []) (map (user_tree seed) (range_with_len (a + 1) n)))
      (user_reads seed a (names_of before) (length before) (omega (arith, low))
      (ap (λ names. contains_text names (user_name a)) (names_are seed 0 a) ∙ new_name a 0 a (omega (arith, low)) (omega arith)))
      ∙ ap (λ read. users_behind One workload_schema read (map (user_tree seed) (range_with_len (a + 1) n)))
      (sym (ap (map (workload_user seed)) (range_to a) ∙ map-append (workload_user seed) (range_with_len 0 a) (a ∷ [])))
      ∙ users_read seed (a + 1) n (omega (arith, low))
      ∙ ap (λ m. Ok (map (workload_user seed) (range_with_len 0 m))) (next a n)
    where
      next : (a n : ℕ) → a + 1 + n ≡ a + suc n
      next a n = omega arith

  -- ---- the document

  all_tables : (seed : ℕ) (numbers : List ℕ) → list_all is_table (map (user_tree seed) numbers) ≡ true
  all_tables seed [] = refl
  all_tables seed (number ∷ numbers) = all_tables seed numbers

  tables_step : (seed : ℕ) (numbers : List ℕ)
      → required tables_in (key_place None (codes "users")) (Some (array (items_of (map (user_tree seed) numbers)))) ≡ Ok (map (user_tree seed) numbers)
  tables_step seed numbers =
      ap (λ trees. of_kind (key_place None (codes "users")) (if list_all is_table trees then Some trees else None))
      (listed-items_of (map (user_tree seed) numbers))
      ∙ ap (λ (t : Bool). of_kind (key_place None (codes "users")) (if t then Some (map (user_tree seed) numbers) else None)) (all_tables seed numbers)

  schema_step : schema_in (declarations domain_members) (declarations relation_members) ≡ Ok workload_schema
  unfolding digits
  schema_step = refl

  count_step : (users : ℕ) (trees : List Data) → 1 ≤ users → users ≤ 256 → length trees ≡ users
      → within 1 256 (key_place None (codes "users")) (length trees) ≡ Ok (length trees)
  count_step users trees some few is =
      ap (λ (t : Bool). if t then Ok (length trees) else Err (Limit (key_place None (codes "users")))) (fits users (length trees) some few is)
    where
      fits : (users n : ℕ) → 1 ≤ users → users ≤ 256 → n ≡ users → (nat_le 1 n && nat_le n 256) ≡ true
      fits users n some few is = grind (arith, nat_tests)

  tree_means : (seed users : ℕ) → 1 ≤ users → users ≤ 256 → policy_of (table (root_members (user_trees seed users))) ≡ Ok (workload_policy seed users)
  unfolding policy_of user_trees
  tree_means seed users some few =
      let trees = map (user_tree seed) (range_with_len 0 users) in
      ap (λ r. r >>= λ tables. schema_in (declarations domain_members) (declarations relation_members) >>= λ schema.
      within 1 256 (key_place None (codes "users")) (length tables) >>= λ count.
      users_behind One schema [] tables >>= λ users. Ok (record { schema = schema; users = users })) (tables_step seed (range_with_len 0 users))
      ∙ (λ i. schema_step i >>= λ schema. count_step users trees some few (length-map-range_with_len (user_tree seed) 0 users) i >>= λ count.
      users_behind One schema [] trees >>= λ users. Ok (record { schema = schema; users = users }))
      ∙ ap (λ r. r >>= λ users. Ok (record { schema = workload_schema; users = users })) (users_read seed 0 users (omega (arith, few))
      ∙ ap (λ n. Ok (map (workload_user seed) (range_with_len 0 n))) (all users))
    where
      all : (n : ℕ) → 0 + n ≡ n
      all n = omega arith

  -- the bytes of a document with the tree of the policy are the policy
  pub policy_reads : (seed users : ℕ) (trees : List Data) (bytes : List ℕ) → 1 ≤ users → users ≤ 256 → trees ≡ user_trees seed users → IsUtf8 bytes
      → ReadsAs (root_members trees) bytes
      → policy_in bytes ≡ Ok (workload_policy seed users)
  unfolding policy_in user_trees
  policy_reads seed users trees bytes some few are good reads =
      let read : parse_document bytes ≡ Some (root_members (user_trees seed users)) =
      reads (subst (λ t. members_depth (root_members t) ≤ 80) (sym are) (root_depth seed (range_with_len 0 users))) ∙ ap (λ t. Some (root_members t)) are in
      ap (λ (t : Bool). (if t then tree_of (parse_document bytes) else Err NotToml) >>= policy_of) (is_utf8-from_IsUtf8 bytes good)
      ∙ ap (λ o. tree_of o >>= policy_of) read ∙ tree_means seed users some few
