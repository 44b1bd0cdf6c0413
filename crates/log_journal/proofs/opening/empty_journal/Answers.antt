use Rattle.std.proofs.Common.{rules, ◌≡◌, ◌++◌, ◌∷◌, [], length}
use Rattle.log_journal.specs.Opening.{header_bytes}
use Rattle.log_journal.proofs.Fronts.{empty_journal_of}
use Rattle.log_journal.proofs.opening.empty_journal.Goals as goal

pub returns-clause-journal : goal.returns-clause-journal
returns-clause-journal c =
    let header = header_bytes c.args.header.now in
    let is : c.copy_from_slice.new.self ++ c.copy_from_slice-2.new.self ≡ header ++ 0 ∷ [] = search rules in
    let size : length header ≡ 72 = search rules in
    empty_journal_of header _ size is
