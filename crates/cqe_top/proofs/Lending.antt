-- What a server did over a shelf whose disks a standby copies: it did it over the shelf and the mirrors that were lent, as they are when they are back.
use Rattle.std.proofs.Common.{◌≡◌, ℕ, ◌+◌, ◌≤◌, List, [], Option, refl, subst, ap, ◌∙◌}
use Rattle.outside.specs.Faults.{Rose}
use Rattle.outside.specs.Shelf.{SameNames, SameBeside, NoneFell, NoneOut, SomeRose}
use Rattle.outside.specs.declared.disk.Disk.{Ghosts as DiskGhosts}
use Rattle.outside.specs.declared.shelf.Shelf.{Ghosts as ShelfGhosts}
use Rattle.cqe_base.specs.Schema.{Text}
use Rattle.desk_crew.specs.Shelved.{Journals, journals_by}
use Rattle.standby_core.specs.MirroredDisks.{inner_of, mirror_of, told_by}
use Rattle.standby_core.specs.MirrorSets.{slots_of, dial_faults, dial_marks}
use Rattle.standby_core.specs.Places.{faults_in}
use Rattle.standby_core.specs.Slots.{place_at, mirrored_at}
use Rattle.standby_core.specs.declared.mirrored_disk.MirroredDisk.{MirroredDisk}
use Rattle.standby_core.specs.declared.mirrors.Mirrors.{Mirrors}
use Rattle.cqe_top.specs.Steps.{mirrored_counts, mirrored_journals}
use Rattle.cqe_top.proofs.Copying.{same_mirrored, disks_under, counts_under, all_counts_under, some_rose_under, none_fell_under, lent_one, lent_two}

module _ {F D C : Type 0} {g : _} (Shelf : ShelfGhosts F D) (Disk : DiskGhosts D) (faults : C → ℕ) (lent old new last : F)
    (lent_mirrors given now left : Mirrors C g) where
  -- the disks and their counts, before and after
  abbrev disk_lent : Text → Option (MirroredDisk D C g)
  disk_lent name = mirrored_at (Shelf.disk lent name) (place_at (slots_of lent_mirrors) name)

  abbrev disk_now : Text → Option (MirroredDisk D C g)
  disk_now name = mirrored_at (Shelf.disk new name) (place_at (slots_of now) name)

  abbrev count_lent : Text → ℕ
  count_lent name = Shelf.disk_faults lent name + faults_in faults (place_at (slots_of lent_mirrors) name)

  abbrev count_now : Text → ℕ
  count_now name = Shelf.disk_faults new name + faults_in faults (place_at (slots_of now) name)

  abbrev count_last : Text → ℕ
  count_last = mirrored_counts (Shelf.disk_faults last) (dial_faults faults left)

  -- what the shelf with mirrors has, as what the lent shelf and mirrors have
  pub record GivenBack : Type 1 where
    pub shelf : last ≡ new
    pub mirrors : left ≡ now
    pub journals : (answered : C → ℕ) (directory : Text) (P : Journals → Type 0)
        → P (journals_by (λ d. Disk.reads (inner_of d)) (λ d. Disk.image (inner_of d)) (λ d. Disk.moment (inner_of d))
        (λ d. Disk.image_since (inner_of d)) (λ d. told_by answered (mirror_of d)) directory disk_lent disk_now count_lent count_now)
        → P (mirrored_journals Shelf Disk directory old last (dial_faults faults left) (dial_marks answered (Shelf.disk last) left))
    pub disks : (names : List Text) → SameBeside names disk_lent disk_now → SameBeside names (Shelf.disk old) (Shelf.disk last)
    pub inside : NoneOut (Shelf.is_out new) → NoneOut (Shelf.is_out last)
    pub files : SameNames (Shelf.file lent) (Shelf.file new) → SameNames (Shelf.file old) (Shelf.file last)
    pub looked : Shelf.looked new ≡ Shelf.looked lent → Shelf.looked last ≡ Shelf.looked old
    pub counts : NoneFell count_lent count_now → NoneFell (Shelf.disk_faults old) count_last
    pub other_counts : (names : List Text) → SameBeside names count_lent count_now → SameBeside names (Shelf.disk_faults old) count_last
    pub rose : SomeRose count_lent count_now → SomeRose (Shelf.disk_faults old) count_last
    pub later : Shelf.faults lent ≤ Shelf.faults new → Shelf.faults old ≤ Shelf.faults last
    pub cause : Rose (Shelf.faults lent) (Shelf.faults new) → Rose (Shelf.faults old) (Shelf.faults last)
    pub same_disks : SameNames disk_lent disk_now → SameNames (Shelf.disk old) (Shelf.disk last)
    pub same_counts : SameNames count_lent count_now → SameNames (Shelf.disk_faults old) count_last

  pub given_back : lent ≡ old → lent_mirrors ≡ given → ((name : Text) → dial_faults faults given name ≡ 0) → last ≡ new → left ≡ now → GivenBack
  given_back was were fresh back are = record {
    shelf = back;
    mirrors = are;
    journals = λ answered directory P is.
        lent_two (λ shelf ms. P (mirrored_journals Shelf Disk directory old shelf (dial_faults faults ms) (dial_marks answered (Shelf.disk shelf) ms)))
        last new left now back are
        (subst P (same_mirrored Shelf Disk faults lent old new was (slots_of lent_mirrors) (slots_of given) (slots_of now) (ap slots_of were) fresh answered
        directory) is);
    disks = λ names is.
        lent_one (λ shelf. SameBeside names (Shelf.disk old) (Shelf.disk shelf)) last new back
        (disks_under Shelf Disk faults lent old new was (slots_of lent_mirrors) (slots_of given) (slots_of now) (ap slots_of were) fresh names is);
    inside = λ is. lent_one (λ shelf. NoneOut (Shelf.is_out shelf)) last new back is;
    files = λ is.
        lent_one (λ shelf. SameNames (Shelf.file old) (Shelf.file shelf)) last new back
        (subst (λ shelf. SameNames (Shelf.file shelf) (Shelf.file new)) was is);
    looked = λ is. ap Shelf.looked back ∙ is ∙ ap Shelf.looked was;
    counts = λ is.
        lent_two (λ shelf ms. NoneFell (Shelf.disk_faults old) (mirrored_counts (Shelf.disk_faults shelf) (dial_faults faults ms))) last new left now back are
        (none_fell_under Shelf Disk faults lent old new was (slots_of lent_mirrors) (slots_of given) (slots_of now) (ap slots_of were) fresh is);
    other_counts = λ names is.
        lent_two (λ shelf ms. SameBeside names (Shelf.disk_faults old) (mirrored_counts (Shelf.disk_faults shelf) (dial_faults faults ms)))
        last new left now back are
        (counts_under Shelf Disk faults lent old new was (slots_of lent_mirrors) (slots_of given) (slots_of now) (ap slots_of were) fresh names is);
    rose = λ is.
        lent_two (λ shelf ms. SomeRose (Shelf.disk_faults old) (mirrored_counts (Shelf.disk_faults shelf) (dial_faults faults ms))) last new left now back are
        (some_rose_under Shelf Disk faults lent old new was (slots_of lent_mirrors) (slots_of given) (slots_of now) (ap slots_of were) fresh is);
    later = λ is.
        lent_one (λ shelf. Shelf.faults old ≤ Shelf.faults shelf) last new back (subst (λ shelf. Shelf.faults shelf ≤ Shelf.faults new) was is);
    cause = λ is.
        lent_one (λ shelf. Rose (Shelf.faults old) (Shelf.faults shelf)) last new back (subst (λ shelf. Rose (Shelf.faults shelf) (Shelf.faults new)) was is);
    same_disks = λ is.
        lent_one (λ shelf. SameNames (Shelf.disk old) (Shelf.disk shelf)) last new back
        (λ name. disks_under Shelf Disk faults lent old new was (slots_of lent_mirrors) (slots_of given) (slots_of now) (ap slots_of were) fresh []
        (λ one other. is one) name refl);
    same_counts = λ is.
        lent_two (λ shelf ms. SameNames (Shelf.disk_faults old) (mirrored_counts (Shelf.disk_faults shelf) (dial_faults faults ms)))
        last new left now back are
        (all_counts_under Shelf Disk faults lent old new was (slots_of lent_mirrors) (slots_of given) (slots_of now) (ap slots_of were) fresh is);
  }
