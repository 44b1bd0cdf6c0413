use Rattle.std.proofs.Common.{◌≡◌, ℕ, List, codes, Decides, ap}
use Rattle.std.specs.Str.{bytes_eq}
use Rattle.std.proofs.lemmas.List.{append_cancel_left, append_cancel_right}
use Rattle.std.proofs.lemmas.Slice.Eq.{bytes_eq-Decides}
use Rattle.std.proofs.lemmas.Bool.Decides.{same_from_decides}
use Rattle.log_journal.specs.Names.{journal_name}
use Rattle.log_journal.proofs.name.law_journals_differ.Goals as goal

decided : (directory first second : List ℕ) → Decides (bytes_eq first second) (journal_name directory first ≡ journal_name directory second)
decided directory first second =
    let d = bytes_eq-Decides first second in (
      λ is. ap (journal_name directory) (d.0 is),
      λ same. d.1 (append_cancel_right first second (codes ".log") (append_cancel_left (codes "/") _ _ (append_cancel_left directory _ _ same))),
    )

pub returns : goal.returns
returns c = λ directory first second.
    same_from_decides (bytes_eq (journal_name directory first) (journal_name directory second)) (bytes_eq first second)
    (bytes_eq-Decides (journal_name directory first) (journal_name directory second)) (decided directory first second)
