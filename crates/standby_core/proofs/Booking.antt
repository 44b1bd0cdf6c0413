-- What a book has of its users, where a record comes for one of them.
use Rattle.std.proofs.Common.{◌≡◌, ℕ, ◌+◌, ◌==◌, ◌||◌, Bool, true, false, Some, List, [], ◌∷◌, ◌++◌, length, map, refl, sym, ap, ◌∙◌}
use Rattle.std.proofs.Common.{option_map}
use Rattle.std.specs.Prelude.{bytes_eq, slice_set, if◌then◌else◌}
use Rattle.std.proofs.lemmas.Bool.{eq-eqb, eqb-true}
use Rattle.std.proofs.lemmas.Option.{same_Some}
use Rattle.outside.specs.declared.disk.Disk.{Ghosts as DiskGhosts}
use Rattle.log_journal.specs.Journal.{disk_of, is_broken}
use Rattle.log_journal.specs.Records.{Recorded}
use Rattle.standby_core.specs.Copies.{Copy, copy_in, copy_at, copy_after, copies_after, held_name, held_origin, HasFailed}
use Rattle.standby_core.specs.Frames.{Carried}
use Rattle.standby_core.specs.Lasting.{Lasts, AllLast, CountsItsRecords, CountTheirRecords, has_broken}
use Rattle.standby_core.specs.Named.{first_named}
use Rattle.standby_core.specs.declared.book.Held.{Held}
use Rattle.standby_core.proofs.Naming.{Stands, here, further}

-- two numbers that differ
differ_eqb : (m n : ℕ) → (m ≡ n → ⊥) → (m == n) ≡ false
differ_eqb m n differs = by (m == n) refl
  where
    by : (b : Bool) → (m == n) ≡ b → b ≡ false
    by false is = refl
    by true is = absurd (differs (eqb-true m n is))

-- ---- one copy

-- a record that isn't the next leaves the copy
pub copy_kept : (name : List ℕ) (count number : ℕ) (rs : List Recorded) (failed : Bool) (kind : ℕ) (text : List ℕ) → (number ≡ count → ⊥) → count ≡ length rs
    → record { name = name; count = count; records = rs; failed = failed }
    ≡ copy_after (record { name = name; count = count; records = rs; failed = failed })
    (record { name = name; number = number; kind = kind; text = text })
copy_kept name count number rs failed kind text differs counted = λ i. record {
  name = name;
  count = sym (ap (λ b. if b then count + 1 else count) (differ_eqb number count differs)) i;
  records = sym (ap (λ b. if b then rs ++ (kind, text) ∷ [] else rs) (differ_eqb number (length rs) (λ same. differs (same ∙ sym counted)))) i;
  failed = failed;
}

-- the next one joins it
pub copy_grown : (name : List ℕ) (count number : ℕ) (rs : List Recorded) (failed : Bool) (kind : ℕ) (text : List ℕ) (count' : ℕ) (rs' : List Recorded)
    (failed' : Bool) → number ≡ count → count ≡ length rs → count' ≡ count + 1 → rs' ≡ rs ++ (kind, text) ∷ [] → failed' ≡ failed
    → record { name = name; count = count'; records = rs'; failed = failed' }
    ≡ copy_after (record { name = name; count = count; records = rs; failed = failed })
    (record { name = name; number = number; kind = kind; text = text })
copy_grown name count number rs failed kind text count' rs' failed' next counted counts grown still = λ i. record {
  name = name;
  count = (counts ∙ sym (ap (λ b. if b then count + 1 else count) (eq-eqb number count next))) i;
  records = (grown ∙ sym (ap (λ b. if b then rs ++ (kind, text) ∷ [] else rs) (eq-eqb number (length rs) (next ∙ counted)))) i;
  failed = still i;
}

abbrev copy_name : Copy → List ℕ
copy_name copy = copy.name

module _ {D : Type 0} {g : _} where
  -- ---- all copies

  module _ (reads : D → List ℕ) where
    -- the copy of a name is that of its journal
    pub copy_of : (name : List ℕ) (journals : List (Held D g))
        → copy_at (map (copy_in reads) journals) name ≡ option_map (copy_in reads) (first_named held_name journals name)
    copy_of name [] = refl
    copy_of name (held ∷ journals) = by (bytes_eq (held_name held) name) (copy_of name journals)
      where
        by : (b : Bool) → copy_at (map (copy_in reads) journals) name ≡ option_map (copy_in reads) (first_named held_name journals name)
            → (if b then Some (copy_in reads held) else first_named copy_name (map (copy_in reads) journals) name)
            ≡ option_map (copy_in reads) (if b then Some held else first_named held_name journals name)
        by true others = refl
        by false others = others

    -- that of the first journal of the name
    pub copy_there : (name : List ℕ) (journals : List (Held D g)) {held : Held D g} → first_named held_name journals name ≡ Some held
        → copy_at (map (copy_in reads) journals) name ≡ Some (copy_in reads held)
    copy_there name journals is = copy_of name journals ∙ ap (option_map (copy_in reads)) is

    -- where the first journal of a name takes a record, the copies do
    pub copies_set : (one : Carried) {journals : List (Held D g)} {place : ℕ} {old : Held D g}
        → Stands (λ held. bytes_eq (held_name held) one.name) journals place old → (new : Held D g) → copy_in reads new ≡ copy_after (copy_in reads old) one
        → map (copy_in reads) (slice_set journals place new) ≡ copies_after (map (copy_in reads) journals) one
    copies_set one (here held others is) new took =
        (λ i. took i ∷ map (copy_in reads) others)
        ∙ sym (ap (λ b. if b then copy_after (copy_in reads held) one ∷ map (copy_in reads) others
        else copy_in reads held ∷ copies_after (map (copy_in reads) others) one) is)
    copies_set one (further held first others after miss stands) new took =
        (λ i. copy_in reads held ∷ copies_set one stands new took i)
        ∙ sym (ap (λ b. if b then copy_after (copy_in reads held) one ∷ map (copy_in reads) others
        else copy_in reads held ∷ copies_after (map (copy_in reads) others) one) miss)

    -- one whose copy stays leaves all copies
    pub copies_same : {test : Held D g → Bool} {journals : List (Held D g)} {place : ℕ} {old : Held D g} → Stands test journals place old
        → (new : Held D g) → copy_in reads new ≡ copy_in reads old → map (copy_in reads) (slice_set journals place new) ≡ map (copy_in reads) journals
    copies_same (here held others is) new same = λ i. same i ∷ map (copy_in reads) others
    copies_same (further held first others after miss stands) new same = λ i. copy_in reads held ∷ copies_same stands new same i

  -- the names stay
  pub names_set : {test : Held D g → Bool} {journals : List (Held D g)} {place : ℕ} {old : Held D g} → Stands test journals place old
      → (new : Held D g) → held_name new ≡ held_name old → map held_name (slice_set journals place new) ≡ map held_name journals
  names_set (here held others is) new same = λ i. same i ∷ map held_name others
  names_set (further held first others after miss stands) new same = λ i. held_name held ∷ names_set stands new same i

  -- what lasts of one lasts of all
  pub lasts_set : (Disk : DiskGhosts D) (header : List ℕ) {test : Held D g → Bool} {journals : List (Held D g)} {place : ℕ} {old : Held D g}
      → Stands test journals place old → (new : Held D g)
      → ((opened : D) → Lasts Disk header opened (disk_of old.journal) (copy_in Disk.reads old)
      → Lasts Disk header opened (disk_of new.journal) (copy_in Disk.reads new))
      → (disks : List D) → AllLast Disk header disks journals → AllLast Disk header disks (slice_set journals place new)
  lasts_set Disk header (here held others is) new lasts [] all = absurd all
  lasts_set Disk header (further held one others after miss stands) new lasts [] all = absurd all
  lasts_set Disk header (here held others is) new lasts (opened ∷ disks) all = (lasts opened all.0, all.1)
  lasts_set Disk header (further held one others after miss stands) new lasts (opened ∷ disks) all =
      (all.0, lasts_set Disk header stands new lasts disks all.1)

  -- and where their disks come from
  pub origins_set : (origin : D → List (List ℕ)) {test : Held D g → Bool} {journals : List (Held D g)} {place : ℕ} {old : Held D g}
      → Stands test journals place old → (new : Held D g) → held_origin origin new ≡ held_origin origin old
      → map (held_origin origin) (slice_set journals place new) ≡ map (held_origin origin) journals
  origins_set origin (here held others is) new same = λ i. same i ∷ map (held_origin origin) others
  origins_set origin (further held first others after miss stands) new same = λ i. held_origin origin held ∷ origins_set origin stands new same i

  -- the counts are kept
  pub counted_set : (faults : D → ℕ) {test : Held D g → Bool} {journals : List (Held D g)} {place : ℕ} {old : Held D g} → Stands test journals place old
      → (new : Held D g) → ((count : ℕ) → CountsItsRecords faults count old → CountsItsRecords faults count new)
      → (counts : List ℕ) → CountTheirRecords faults counts journals → CountTheirRecords faults counts (slice_set journals place new)
  counted_set faults (here held others is) new keeps [] all = absurd all
  counted_set faults (further held one others after miss stands) new keeps [] all = absurd all
  counted_set faults (here held others is) new keeps (count ∷ counts) all = (keeps count all.0, all.1)
  counted_set faults (further held one others after miss stands) new keeps (count ∷ counts) all = (all.0, counted_set faults stands new keeps counts all.1)

  -- an append to one of them failed
  pub broken_set : {test : Held D g → Bool} {journals : List (Held D g)} {place : ℕ} {old : Held D g} → Stands test journals place old
      → (new : Held D g) → is_broken new.journal ≡ true → has_broken (slice_set journals place new) ≡ true
  broken_set (here held others is) new broke = ap (λ b. b || has_broken others) broke
  broken_set (further held first others after miss stands) new broke = by (is_broken held.journal) (broken_set stands new broke)
    where
      by : (b : Bool) → has_broken (slice_set others after new) ≡ true → (b || has_broken (slice_set others after new)) ≡ true
      by true more = refl
      by false more = more

-- whose append failed, where the copy of a name is this one
pub failed_there : (copies : List Copy) (name : List ℕ) (copy : Copy) → copy_at copies name ≡ Some copy → HasFailed copies name → copy.failed ≡ true
failed_there copies name copy is failed =
    let same : Some copy ≡ Some failed.0 = sym is ∙ failed.1 in
    ap (λ (k : Copy). k.failed) (same_Some copy failed.0 same) ∙ failed.2
