-- What the text of an item that is written says, and the item that is added.
use Rattle.std.proofs.Common.{◌≡◌, [], ◌∷◌, ◌++◌, length, Ok, ◌∙◌}
use Rattle.cqe_base.specs.declared.user.Mark.{Mark}
use Rattle.cqe_base.specs.Schema.{Text}
use Rattle.cqe_base.specs.Formula.{Formula}
use Rattle.cqe_base.specs.History.{AnsweredQuery}
use Rattle.cqe_base.specs.Reading.{reading}
use Rattle.dossier.specs.Written.{item_head, item_probes, AreBlocks, IsItem}
use Rattle.dossier.specs.Adding.{Grows}
use Rattle.dossier.specs.Adding.{AddsSaid}
use Rattle.dossier.specs.Logs.{past_schema, past_user, past_history, IsSamePast, HasAdded}
use Rattle.dossier.specs.declared.past.Past.{Past}
use Rattle.dossier.proofs.Pushed.{grows-then}
use Rattle.dossier.proofs.SamePasts.{of-same}
use Rattle.dossier.proofs.Sayings.{item-of}

module _ (before between after : Past) (same : IsSamePast before between) (said : Text) (mark : Mark) (query : Formula) where
  -- the item that is added behind those that were there
  pub has-added : (item : AnsweredQuery) → item ≡ record { query = query; mark = mark; length = length said } → HasAdded item between after
      → HasAdded (record { query = query; mark = mark; length = length said }) before after
  has-added item is (of, more) =
      (of-same before between after same of, more ∙ (λ i. same.1 i ++ is i ∷ []))

  -- the line of an item and its blocks
  pub adds-said : (item : AnsweredQuery) → item ≡ record { query = query; mark = mark; length = length said } → HasAdded item between after
      → reading (past_schema before) said ≡ Ok query → (line : Text) → line ≡ item_head mark said → (old middle new : Text) → middle ≡ old ++ line
      → Grows (AreBlocks (past_schema before) (item_probes (past_schema before) (past_user before) (past_history before) mark query)) middle new
      → AddsSaid mark said before after old new
  adds-said item is added reads line head old middle new lined grown = (
    query,
    reads,
    (
      grows-then (λ text. text ≡ item_head mark said)
          (AreBlocks (past_schema before) (item_probes (past_schema before) (past_user before) (past_history before) mark query))
          (IsItem (past_schema before) (past_user before) (past_history before) (record { query = query; mark = mark; length = length said }) said)
          old middle new (line, head, lined) grown
          (item-of (past_schema before) (past_user before) (past_history before) (record { query = query; mark = mark; length = length said }) said),
      has-added item is added,
    ),
  )
