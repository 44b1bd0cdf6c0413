-- Journals as they were opened.
use Rattle.std.proofs.Common.{◌≡◌, inl, inr, ℕ, ◌+◌, ◌-◌, ◌≤◌, Bool, List, [], ◌∷◌, ◌++◌, length, take, sym, ap, subst, ◌∙◌, append_assoc, append-nil, arith}
use Rattle.outside.specs.Disk.{Only}
use Rattle.outside.specs.declared.disk.Disk.{Ghosts as DiskGhosts}
use Rattle.outside.proofs.Moments.{elapses_none}
use Rattle.log_journal.specs.Records.{Recorded, IsJournal}
use Rattle.log_journal.specs.Walk.{records}
use Rattle.log_journal.proofs.Walks.{journals_are_walked}
use Rattle.standby_core.specs.Copies.{Copy}
use Rattle.standby_core.specs.Lasting.{HasCopied, Lasts}
use Rattle.standby_core.proofs.Lasting.{taken_all, copied_all}
use Rattle.standby_core.proofs.Serving.{take_into}
use Rattle.standby_engine.specs.Standing.{HasBeginning}

-- a journal's records are those that a walk finds
pub walked_records : (header : List ℕ) (all : List Recorded) (bytes : List ℕ) → IsJournal header all bytes → records bytes ≡ all
walked_records header all bytes journal = ((journals_are_walked header all bytes).0 journal).are

-- some first records of a copy, as many as it began with or more, have those in front
pub begins_with : (header : List ℕ) (first more : List Recorded) (copy : Copy) (c : List ℕ) → copy.records ≡ first ++ more
    → HasCopied header (length first) copy c → HasBeginning header first c
begins_with header first more copy c grew (inl (n, enough, journal)) =
    let behind = n - length first in
    let whole : n ≡ length first + behind = omega (arith, enough) in (
      take behind more,
      subst (λ rs. IsJournal header rs c) (ap (take n) grew ∙ ap (λ k. take k (first ++ more)) whole ∙ take_into first more behind) journal,
    )
begins_with header first more copy c grew (inr (failed, (one, journal))) = (
  more ++ one ∷ [],
  subst (λ rs. IsJournal header rs c) (ap (λ rs. rs ++ one ∷ []) grew ∙ append_assoc first more (one ∷ [])) journal,
)

module _ {D : Type 0} (Disk : DiskGhosts D) where
  -- the laws of a disk's clock
  abbrev pub CountsNow : Type 0
  CountsNow = (d : D) (t : ℕ) (c : List ℕ) → t ≤ Disk.moment d → Disk.image d c → Disk.image_since d t c

  abbrev pub OnlyNow : Type 0
  OnlyNow = (d : D) (c : List ℕ) → Disk.image_since d (Disk.moment d) c → Disk.image d c

module _ {D : Type 0} (Disk : DiskGhosts D) (counts_now : CountsNow Disk) (only_now : OnlyNow Disk) where
  module _ (header : List ℕ) (first : List Recorded) (bytes : List ℕ) (disk : D) (name : List ℕ) (count : ℕ) (failed : Bool)
      (journal : IsJournal header first bytes) (same : Disk.reads disk ≡ bytes) (only : Only bytes (Disk.image disk)) (counted : count ≡ length first) where
    abbrev rs : List Recorded
    rs = records (Disk.reads disk)

    abbrev copy : Copy
    copy = record { name = name; count = count; records = take count rs; failed = failed }

    has : rs ≡ first
    has = ap records same ∙ walked_records header first bytes journal

    all : take count rs ≡ rs
    all = taken_all count rs (counted ∙ ap length (sym has))

    copied : IsJournal header (take count rs) bytes
    copied = subst (λ l. IsJournal header l bytes) (sym (all ∙ has)) journal

    as_left : (least : ℕ) (c : List ℕ) → least ≤ length (take count rs) → c ≡ bytes → HasCopied header least copy c
    as_left least c few is = copied_all header copy least c few (subst (IsJournal header (take count rs)) (sym is) copied)

    -- as it was opened a journal reads its records, each crash leaves them, and no moment is behind it
    pub lasts_first : Lasts Disk header disk disk copy
    lasts_first = record {
      more = [];
      grew = all ∙ sym (append-nil rs);
      reads_it = λ whole. subst (IsJournal header (take count rs)) (sym same) copied;
      size = λ whole. omega arith;
      leaves_it = λ c left. as_left (length (take count rs)) c (omega arith) (only c left);
      time = elapses_none (Disk.moment disk) (Disk.image_since disk) (Disk.image disk) (counts_now disk) (only_now disk);
      stood = λ c here. as_left (length rs) c (omega (arith, ap length all)) (only c (only_now disk c here));
    }
