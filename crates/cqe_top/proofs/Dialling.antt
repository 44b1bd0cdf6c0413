-- Of a call with a standby: which exchanges are counted as faults of disks, and whom its dials called.
use Rattle.std.proofs.Common.{◌≡◌, ℕ, zero, suc, ◌+◌, Bool, true, false, List, [], ◌∷◌, ◌++◌, length, map, get_or, refl, sym, ap, subst, ◌∙◌, inl, inr, arith}
use Rattle.std.specs.Prelude.{Option, Some, None}
use Rattle.std.specs.List.{AllByRecursion, slice_get}
use Rattle.std.proofs.lemmas.Option.{none-some, same_Some}
use Rattle.outside.specs.Dials.{Exchange}
use Rattle.outside.specs.Shelf.{SameNames}
use Rattle.cqe_base.specs.Facts.{FactSet}
use Rattle.cqe_base.specs.Schema.{Text}
use Rattle.cqe_base.specs.declared.user.User.{User}
use Rattle.command_words.specs.Readings.{Reading, FileNames}
use Rattle.log_journal.specs.Names.{journal_name}
use Rattle.log_journal.specs.Opening.{header_bytes}
use Rattle.log_journal.specs.declared.header.Header.{Header}
use Rattle.policy_files.specs.Memory.{policy_user_of}
use Rattle.policy_files.specs.Policies.{PolicyUser, PolicyValue}
use Rattle.log_journal.specs.Walk.{IsNumbered}
use Rattle.standby_core.specs.Calls.{IsCallBy, IsCallOn, IsAnsweredIn, IsFromAmong}
use Rattle.standby_core.specs.Users.{texts_for}
use Rattle.standby_core.proofs.Hanging.{all_weaker}
use Rattle.cqe_top.specs.declared.end.CommandEnd.{CommandEnd}
use Rattle.cqe_top.specs.Mirrored.{IsExchangeWith, IsExchangeFor, CallsAlone, has_standby, failed_exchanges, with_failed, with_told, counted_by}
use Rattle.cqe_top.specs.Mirrored.{with_exchange_faults}
use Rattle.cqe_top.specs.Promise.{OfReading, Does, Always}
use Rattle.cqe_top.specs.Reports.{FaultsHaveCauses}
use Rattle.cqe_top.specs.Scene.{Scene, LinksScene}
use Rattle.cqe_top.specs.Steps.{reading_over, reading_for_user}
use Rattle.cqe_top.specs.declared.over_files.Task.{Task}
use Rattle.cqe_top.specs.declared.over_files.Task.TheVariants as task
use Rattle.cqe_top.specs.declared.for_user.UserTask.{UserTask}
use Rattle.cqe_top.specs.declared.for_user.UserTask.TheVariants as user_task

-- ---- exchanges that are counted

-- where no count of them changed the scene is what it was
pub counted_same : (s : Scene) (reading : Option Reading) → SameNames s.links.exchange_faults s.links.exchange_faults' → with_exchange_faults s reading ≡ s
counted_same s reading same = by (has_standby reading)
  where
    none : (name : Text) → s.shelf.disk_faults' name + failed_exchanges s.links name ≡ s.shelf.disk_faults' name
    none name = let is = same name in omega (arith, is)

    by : (b : Bool) → counted_by s b ≡ s
    by false = refl
    by true = λ i. record s { shelf = record s.shelf { disk_faults' = λ name. none name i } }

-- over files alone none are counted
pub counted_over : (s : Scene) (files : FileNames) (what : Task) → with_exchange_faults s (Some (reading_over files what)) ≡ s
counted_over s files task.Init = refl
counted_over s files (task.Batch workers) = refl
counted_over s files (task.Migrate to) = refl
counted_over s files (task.Serve listening) = refl
counted_over s files (task.Standby copying) = refl

-- nor are they for one user
pub counted_for_user : (s : Scene) (files : FileNames) (user : Text) (what : UserTask)
    → with_exchange_faults s (Some (reading_for_user files user what)) ≡ s
counted_for_user s files user (user_task.Audit json) = refl
counted_for_user s files user user_task.Dossier = refl
counted_for_user s files user user_task.Check = refl

-- those that are counted are the faults of the dials that were hung up
counted_is : (s : Scene) (reading : Option Reading) (failed : Text → ℕ) → has_standby reading ≡ true
    → ((name : Text) → s.links.exchange_faults' name ≡ s.links.exchange_faults name + failed name) → with_failed s failed ≡ with_exchange_faults s reading
counted_is s reading failed is rose = (λ i. with_failed s (λ name. same name i)) ∙ (λ i. counted_by s (sym is i))
  where
    same : (name : Text) → failed name ≡ failed_exchanges s.links name
    same name = let more = rose name in omega (arith, more)

-- so what was done with these counted was done
pub counted : (s : Scene) (reading : Option Reading) (end : CommandEnd) (failed : Text → ℕ) → has_standby reading ≡ true
    → ((name : Text) → s.links.exchange_faults' name ≡ s.links.exchange_faults name + failed name) → OfReading (with_failed s failed) reading end
    → FaultsHaveCauses (with_failed s failed) end → Always (with_failed s failed) → Does s reading end
counted s reading end failed is rose of cause always =
    let all : with_failed s failed ≡ with_exchange_faults s reading = counted_is s reading failed is rose in
    record {
      command = subst (λ t. OfReading t reading end) all of;
      cause = subst (λ t. FaultsHaveCauses t end) all cause;
      always = subst Always all always;
    }

-- no cause of a fault looks at the marks that may be told
pub causes_told : (s : Scene) (marks : Text → ℕ) (end : CommandEnd) → FaultsHaveCauses s end → FaultsHaveCauses (with_told s marks) end
causes_told s marks end cause = record {
  read = cause.read;
  write = cause.write;
  shelf = cause.shelf;
  disk = cause.disk;
  journal = cause.journal;
  links = cause.links;
}

-- ---- whom the dials called

-- what is found among what several say was said by one of them, which stands there
found_from : {X Y : Type 0} (f : X → Y) (xs : List X) (place : ℕ) (y : Y) → slice_get (map f xs) place ≡ Some y
    → (x : X) × (slice_get xs place ≡ Some x) × (f x ≡ y)
found_from f [] place y is = absurd (none-some y is)
found_from f (x ∷ xs) zero y is = (x, refl, same_Some (f x) y is)
found_from f (x ∷ xs) (suc place) y is = found_from f xs place y is

found_of : {X Y : Type 0} (f : X → Y) (xs : List X) (place : ℕ) (x : X) → slice_get xs place ≡ Some x → slice_get (map f xs) place ≡ Some (f x)
found_of f [] place x is = absurd (none-some x is)
found_of f (one ∷ xs) zero x is = ap (λ y. Some (f y)) (same_Some one x is)
found_of f (one ∷ xs) (suc place) x is = found_of f xs place x is

-- what holds of each holds of the one in a place
each_at : {X : Type 0} (P : X → Type 0) (xs : List X) (place : ℕ) (x : X) → AllByRecursion P xs → slice_get xs place ≡ Some x → P x
each_at P [] place x all at = absurd (none-some x at)
each_at P (one ∷ xs) zero x all at = subst P (same_Some one x at) all.0
each_at P (one ∷ xs) (suc place) x all at = each_at P xs place x all.1 at

-- an answer of one kind is one of another
answered_weaker : (P Q : Exchange → Type 0) → ((one : Exchange) → P one → Q one) → (all : List Exchange) (count : ℕ) → IsAnsweredIn P all count
    → IsAnsweredIn Q all count
answered_weaker P Q weaker all count (inl none) = inl none
answered_weaker P Q weaker all count (inr (place, one, at, is, said)) = inr (place, one, at, weaker one is, said)

module _ (header : Header) (standby directory : Text) (policy : PolicyValue) (users : List User) (are : map policy_user_of users ≡ policy.users) where
  -- a call by the dial of one of these users tells of a record of his that lies there
  call_for : (bytes : Text → List ℕ) (one : Exchange) → IsCallOn (map (texts_for header standby directory) users) bytes one
      → IsExchangeFor standby policy (header_bytes header) (λ name. bytes (journal_name directory name)) one
  call_for bytes one (place, texts, at, is, lies) =
      let found = found_from (texts_for header standby directory) users place texts at in
      let here : (his : IsCallBy (texts_for header standby directory found.0) one)
      × IsNumbered (bytes (get_or (texts_for header standby directory found.0) 0 [])) one.above (his.kind, his.text) =
      subst (λ t. (his : IsCallBy t one) × IsNumbered (bytes (get_or t 0 [])) one.above (his.kind, his.text)) (sym found.2) (is, lies) in (
        place,
        policy_user_of found.0,
        subst (λ them. slice_get them place ≡ Some (policy_user_of found.0)) are (found_of policy_user_of users place found.0 found.1),
        (header, refl, here.0),
        here.1,
      )

  -- so many marks of a user may be told as were answered to his dial
  answer_for : (told : Text → ℕ) (all : List Exchange)
      → AllByRecursion (λ texts. IsAnsweredIn (IsCallBy texts) all (told (get_or texts 0 []))) (map (texts_for header standby directory) users)
      → (place : ℕ) (user : PolicyUser) → slice_get policy.users place ≡ Some user
      → IsAnsweredIn (IsExchangeWith standby (header_bytes header) user.name) all (told (journal_name directory user.name))
  answer_for told all answers place user at =
      let found = found_from policy_user_of users place user (subst (λ them. slice_get them place ≡ Some user) (sym are) at) in
      let texts = texts_for header standby directory found.0 in
      let his : IsAnsweredIn (IsCallBy texts) all (told (get_or texts 0 [])) =
      each_at (λ t. IsAnsweredIn (IsCallBy t) all (told (get_or t 0 []))) (map (texts_for header standby directory) users) place texts answers
      (found_of (texts_for header standby directory) users place found.0 found.1) in
      subst (λ (u : PolicyUser). IsAnsweredIn (IsExchangeWith standby (header_bytes header) u.name) all (told (journal_name directory u.name))) found.2
      (answered_weaker (IsCallBy texts) (IsExchangeWith standby (header_bytes header) (policy_user_of found.0).name) (λ one is. (header, refl, is)) all
      (told (get_or texts 0 [])) his)

  pub calls_from : (links : LinksScene) (world : FactSet) (told : Text → ℕ) (bytes : Text → List ℕ) (Lie : (Text → List ℕ) → Type 0)
      (made : List (List Text)) (answers : List ℕ) (mid : List Exchange) → Lie bytes
      → made ≡ map (texts_for header standby directory) users → mid ≡ links.exchanged → (from : IsFromAmong made answers Lie mid links.exchanged')
      → AllByRecursion (λ texts. IsAnsweredIn (IsCallBy texts) from.exchanges (told (get_or texts 0 []))) made
      → CallsAlone links standby directory told (λ name. bytes (journal_name directory name)) policy world (header_bytes header)
  calls_from links world told bytes Lie made answers mid lie is_made same from marks = record {
    exchanges = from.exchanges;
    further = from.further ∙ ap (λ l. l ++ from.exchanges) same;
    each = all_weaker (IsCallOn made bytes) (IsExchangeFor standby policy (header_bytes header) (λ name. bytes (journal_name directory name)))
        (λ one is. call_for bytes one (subst (λ m. IsCallOn m bytes one) is_made is)) from.exchanges (from.lie bytes lie);
    answered = answer_for told from.exchanges
        (subst (AllByRecursion (λ texts. IsAnsweredIn (IsCallBy texts) from.exchanges (told (get_or texts 0 [])))) is_made marks);
  }
