-- What a crash could leave of a journal at each moment of a call.
use Rattle.std.proofs.Common.{◌≡◌, ◌⊎◌, inl, inr, ⊎_elim, ℕ, ◌≤◌, Bool, true, false, List, ◌++◌, length, refl, sym, ap, subst, arith}
use Rattle.std.proofs.Common.{length-append}
use Rattle.std.specs.Prelude.{Option, Some, None, option_map, option_to_list, IfSome, IfNone, not}
use Rattle.outside.proofs.Taken.{same_rests, began_rests}
use Rattle.std.proofs.lemmas.List.{take_all, take_at}
use Rattle.outside.specs.Disk.{Elapses}
use Rattle.outside.specs.Shelf.{IsTaken, SameNames, SameBytes, NoNewImages, NoNewMoments, bytes_on, image_on}
use Rattle.outside.specs.declared.disk.Disk.{Ghosts as DiskGhosts}
use Rattle.cqe_base.specs.Schema.{Text, DatabaseSchema}
use Rattle.cqe_base.specs.Facts.{FactSet}
use Rattle.cqe_base.specs.History.{UserProfile, AnsweredQuery, History}
use Rattle.cqe_base.specs.Run
use Rattle.user_desk.specs.Causes.{Opens, OpensWithin}
use Rattle.user_desk.specs.Lives.{Holds, shown}
use Rattle.log_journal.specs.Names.{journal_name}
use Rattle.desk_crew.specs.Shelved.{Journals, StandsAllAlong, KeepsJournals, journals_by}

-- a disk that was taken from the shelf has the moment at which the call began
pub taken_moment : {D : Type 0} (reads : D → List ℕ) (image : D → List ℕ → Type 0) (moment : D → ℕ) (held : Option D) (taken : D)
    → IsTaken reads image held taken
    → IfSome (option_map moment held) (λ begun. begun ≡ moment taken)
taken_moment reads image moment None taken is = tt
taken_moment reads image moment (Some one) taken is = ap moment (sym is)

-- what is known of a value that may be there
pub if_some_on : {X : Type 0} (value : Option X) (P Q : X → Type 0) → ((x : X) → P x → Q x) → IfSome value P → IfSome value Q
if_some_on None P Q on is = tt
if_some_on (Some x) P Q on is = on x is

-- and where there is none
pub if_none_on : {X : Type 0} (value : Option X) (P Q : Type 0) → (P → Q) → IfNone value P → IfNone value Q
if_none_on None P Q on is = on is
if_none_on (Some x) P Q on is = tt

-- bytes that hold a state open a desk with a beginning of its entries, with the one in flight
pub holds_within : (schema : DatabaseSchema) (world : FactSet) (user : UserProfile) (header : List ℕ) (entries : History) (standing : Run.Standing)
    (in_flight : Option AnsweredQuery) (least : ℕ) (c : List ℕ) → least ≤ length entries
    → Holds schema world user header (shown entries standing in_flight) c
    → OpensWithin schema world user header least (entries ++ option_to_list in_flight) c
holds_within schema world user header entries standing in_flight least c few holds = by holds.found holds.opens
  where
    by : (found : Bool) → Opens schema world user header (Run.entries_found schema world user (shown entries standing in_flight) found) c
        → OpensWithin schema world user header least (entries ++ option_to_list in_flight) c
    by false opens = record {
      count = length entries;
      enough = few;
      opens = subst (λ (es : History). Opens schema world user header es c) (sym (take_at entries (option_to_list in_flight) (length entries) refl)) opens;
    }
    by true opens =
        let all = entries ++ option_to_list in_flight in
        let many = length-append entries (option_to_list in_flight) in
        record {
          count = length all;
          enough = omega (arith, few, many);
          opens = subst (λ (es : History). Opens schema world user header es c) (sym (take_all (length all) all (omega arith))) opens;
        }

-- A journal was taken, opened and closed, maybe opened once more for want of memory, and is back: the moments of an opening leave nothing new, and unless it
-- was refused those between both leave bytes of this kind.
pub stands_along : (journals : Journals) (name : Text) (is_refused : Bool) (stands : List ℕ → Type 0) (taken opened closed now : ℕ)
    (past since_opened since_closed : ℕ → List ℕ → Type 0) (image_taken image_closed : List ℕ → Type 0)
    → IfSome (journals.began name) (λ begun. begun ≡ taken) → ((c : List ℕ) → image_taken c → journals.image_before name c)
    → Elapses taken opened past since_opened → ((c : List ℕ) → since_opened taken c → image_taken c)
    → Elapses opened closed since_opened since_closed
    → Elapses closed now since_closed (journals.since name) → ((c : List ℕ) → journals.since name closed c → image_closed c)
    → (is_refused ≡ false → (c : List ℕ) → since_closed opened c → stands c) → (is_refused ≡ false → (c : List ℕ) → image_closed c → stands c)
    → (is_refused ≡ true → (c : List ℕ) → since_closed taken c → image_taken c) → (is_refused ≡ true → (c : List ℕ) → image_closed c → image_taken c)
    → StandsAllAlong journals name (not is_refused) stands
stands_along journals name false stands taken opened closed now past since_opened since_closed image_taken image_closed began first at_opening rests serving
    back left along ends still_along still_ends =
    let early : taken ≤ opened = at_opening.later in
    let late : opened ≤ closed = serving.later in
    record {
      opening = opened;
      before = if_some_on (journals.began name) (λ begun. begun ≡ taken)
          (λ begun. (begun ≤ opened) × ((c : List ℕ) → journals.since name begun c → journals.image_before name c ⊎ journals.since name opened c))
          (λ begun same. subst
          (λ b. (b ≤ opened) × ((c : List ℕ) → journals.since name b c → journals.image_before name c ⊎ journals.since name opened c)) (sym same) (
            early,
            λ c here. ⊎_elim
                (λ was. ⊎_elim (λ old. inl (first c (rests c old))) (λ served. inr (back.keeps opened c late served)) (serving.nothing_else taken c early was))
                (λ after. inr (back.adds opened c late after)) (back.nothing_else taken c (omega (arith, early, late)) here),
          )) began;
      behind = λ held c here. ⊎_elim (along refl c) (λ after. ends refl c (left c after)) (back.nothing_else opened c late here);
      never = λ none. absurd cc;
    }
stands_along journals name true stands taken opened closed now past since_opened since_closed image_taken image_closed began first at_opening rests serving
    back left along ends still_along still_ends =
    let early : taken ≤ opened = at_opening.later in
    let late : opened ≤ closed = serving.later in
    record {
      opening = taken;
      before = if_some_on (journals.began name) (λ begun. begun ≡ taken)
          (λ begun. (begun ≤ taken) × ((c : List ℕ) → journals.since name begun c → journals.image_before name c ⊎ journals.since name taken c))
          (λ begun same. (omega (arith, same), λ c here. inr (subst (λ b. journals.since name b c) same here))) began;
      behind = λ held. absurd cc;
      never = λ none c here. ⊎_elim (λ was. first c (still_along refl c was)) (λ after. first c (still_ends refl c (left c after)))
          (back.nothing_else taken c (omega (arith, early, late)) here);
    }

-- ---- journals that are kept

module _ {D : Type 0} (Disk : DiskGhosts D) (directory : Text) (disk disk' : Text → Option D) (count count' : Text → ℕ) where
  -- where no disk was touched, all are
  pub keeps_same : ((d : D) (c : List ℕ) → Disk.image_since d (Disk.moment d) c → Disk.image d c) → SameNames disk disk'
      → KeepsJournals (journals_by Disk.reads Disk.image Disk.moment Disk.image_since Disk.tellable directory disk disk' count count')
  keeps_same only_now same name = (
    ap (bytes_on Disk.reads) (same (journal_name directory name)),
    λ c at. subst (λ d. image_on Disk.image d c) (same (journal_name directory name)) at,
    began_rests Disk (disk (journal_name directory name)) (disk' (journal_name directory name))
        (same_rests Disk only_now (disk (journal_name directory name)) (disk' (journal_name directory name)) (same (journal_name directory name))),
  )

  -- and where all read as before, and no crash left anything new, at no moment either
  pub keeps_all : SameBytes Disk.reads disk disk' → NoNewImages Disk.image disk disk' → NoNewMoments Disk.moment Disk.image_since Disk.image disk disk'
      → KeepsJournals (journals_by Disk.reads Disk.image Disk.moment Disk.image_since Disk.tellable directory disk disk' count count')
  keeps_all bytes images moments name = (
    bytes (journal_name directory name),
    λ c at. images (journal_name directory name) c at,
    began_rests Disk (disk (journal_name directory name)) (disk' (journal_name directory name)) (moments (journal_name directory name)),
  )
