-- The blocks that are written are right.
use Rattle.std.proofs.Common.{List, [], ◌∷◌, ◌++◌}
use Rattle.cqe_base.specs.Schema.{DatabaseSchema, Text}
use Rattle.cqe_base.specs.History.{UserProfile, AnsweredQuery, History, known}
use Rattle.cqe_base.specs.Censor.{Probe, guarded, probes_against}
use Rattle.log_journal.specs.Records.{Recorded}
use Rattle.dossier.specs.Written.{AreBlocks, item_probes, IsItem, AreItems, IsAdmission, IsDossier}
use Rattle.dossier.specs.Right.{AreRightBlocks, IsRightItem, AreRightItems, IsRightAdmission, IsRightDossier}

module _ (schema : DatabaseSchema) where
  right-blocks : (probes : List Probe) (text : Text) → AreBlocks schema probes text → AreRightBlocks schema probes text
  right-blocks [] text none = none
  right-blocks (probe ∷ more) text (first, rest, is, are, parts) = (first, rest, is.0, right-blocks more rest are, parts)

  module _ (user : UserProfile) where
    right-item : (before : History) (entry : AnsweredQuery) (said text : Text) → IsItem schema user before entry said text
        → IsRightItem schema user before entry said text
    right-item before entry said text (blocks, are, is) = (blocks, right-blocks (item_probes schema user before entry.mark entry.query) blocks are, is)

    right-items : (before : History) (records : List Recorded) (text : Text) → AreItems schema user before records text
        → AreRightItems schema user before records text
    right-items before [] text none = none
    right-items before (next ∷ more) text (entry, stands, first, rest, is, are, parts) =
        (entry, stands, first, rest, right-item before entry next.1 first is, right-items (before ++ entry ∷ []) more rest are, parts)

    right-admission : (text : Text) → IsAdmission schema user text → IsRightAdmission schema user text
    right-admission text (blocks, are, is) = (blocks, right-blocks (probes_against (known user) (guarded user)) blocks are, is)

pub right-dossier : (schema : DatabaseSchema) (name : Text) (user : UserProfile) (records : List Recorded) (text : Text)
    → IsDossier schema name user records text → IsRightDossier schema name user records text
right-dossier schema name user records text (admission, items, admits, are, is, utf8) =
    (admission, items, right-admission schema user admission admits, right-items schema user [] records items are, is)
