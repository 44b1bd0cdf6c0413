-- A user with these records has one dossier.
use Rattle.std.proofs.Common.{◌≡◌, List, [], ◌∷◌, ◌++◌, length, sym, ap, subst, ◌∙◌}
use Rattle.std.specs.Prelude.{codes}
use Rattle.std.specs.FinSet as set
use Rattle.std.specs.List.Sorted.{IsStrictlySortedBy}
use Rattle.std.proofs.lemmas.Map.Lookups.{btree_set_from_contains}
use Rattle.std.proofs.lemmas.Option.{same_Some}
use Rattle.cqe_base.specs.declared.world.Fact.{Fact}
use Rattle.cqe_base.specs.Schema.{DatabaseSchema, Text}
use Rattle.cqe_base.specs.Facts.{fact_cmp}
use Rattle.cqe_base.specs.History.{UserProfile, AnsweredQuery, History, known}
use Rattle.cqe_base.specs.Censor.{Probe, guarded, probes_against}
use Rattle.cqe_base.specs.Machine.{End, Ended, Model, Refuted}
use Rattle.cqe_base.specs.MachineLaws.{MachineHasOneEnd}
use Rattle.cqe_base.proofs.Worlds.{fact_cmp_total, fact_cmp-IsAntisymmetric}
use Rattle.log_journal.specs.Records.{Recorded}
use Rattle.entailment.specs.Certificates.{clauses_of_probe}
use Rattle.entailment.specs.Budgets.{variables_of}
use Rattle.dossier.specs.Written.{open_text, ShowsEnd, ShowsMachine, AreBlocks, item_head, item_probes, IsItem, AreItems, IsAdmission, head_text, done_text}
use Rattle.dossier.specs.Accepted.{DossiersAreOne}

-- a world is listed in one way
listed-once : (first second : List Fact) → IsStrictlySortedBy fact_cmp first → IsStrictlySortedBy fact_cmp second
    → set.from_list {R = fact_cmp} first ≡ set.from_list second → first ≡ second
listed-once first second sorted also same =
    btree_set_from_contains fact_cmp_total (record { keys = first }) (record { keys = second }) sorted also
    (λ q. sym (set.contains-from_list fact_cmp_total first q) ∙ ap (λ w. set.contains w q) same ∙ set.contains-from_list fact_cmp_total second q)
    fact_cmp-IsAntisymmetric

module _ (one : MachineHasOneEnd) (schema : DatabaseSchema) where
  -- ---- blocks

  end-one : (probe : Probe) (end : End) (first second : Text) → ShowsEnd schema probe end first → ShowsEnd schema probe end second → first ≡ second
  end-one probe (Refuted lines) first second is also = is ∙ sym also
  end-one probe (Model signs) first second (facts, (is, sorted), text) (facts', (is', sorted'), text') =
      text ∙ ap (open_text schema) (listed-once facts facts' sorted sorted' (is ∙ sym is')) ∙ sym text'

  block-one : (probe : Probe) (first second : Text) → ShowsMachine schema probe first → ShowsMachine schema probe second → first ≡ second
  block-one probe first second (ended, ends, shows) (ended', ends', shows') =
      let same : ended' ≡ ended =
      one (clauses_of_probe schema probe.premises probe.goal) (variables_of schema probe.premises probe.goal) ended' ended ends' ends in
      end-one probe ended.end first second shows (subst (λ (e : Ended). ShowsEnd schema probe e.end second) same shows')

  blocks-one : (probes : List Probe) (first second : Text) → AreBlocks schema probes first → AreBlocks schema probes second → first ≡ second
  blocks-one [] first second none none' = none ∙ sym none'
  blocks-one (probe ∷ more) first second (here, rest, block, blocks, parts) (here', rest', block', blocks', parts') =
      let starts = block-one probe here here' block.1 block'.1 in
      let goes_on = blocks-one more rest rest' blocks blocks' in
      parts ∙ (λ i. starts i ++ goes_on i) ∙ sym parts'

  -- ---- items

  module _ (user : UserProfile) where
    item-one : (before : History) (entry : AnsweredQuery) (said first second : Text) → IsItem schema user before entry said first
        → IsItem schema user before entry said second → first ≡ second
    item-one before entry said first second (blocks, are, is) (blocks', are', is') =
        is
        ∙ ap (λ b. item_head entry.mark said ++ b) (blocks-one (item_probes schema user before entry.mark entry.query) blocks blocks' are are')
        ∙ sym is'

    items-one : (before : History) (records : List Recorded) (first second : Text) → AreItems schema user before records first
        → AreItems schema user before records second → first ≡ second
    items-one before [] first second none none' = none ∙ sym none'
    items-one before (next ∷ more) first second (entry, stands, here, rest, item, items, parts) (entry', stands', here', rest', item', items', parts') =
        let same = same_Some entry' entry (sym stands' ∙ stands) in
        let starts = item-one before entry next.1 here here' item (subst (λ e. IsItem schema user before e next.1 here') same item') in
        let goes_on = items-one (before ++ entry ∷ []) more rest rest' items (subst (λ e. AreItems schema user (before ++ e ∷ []) more rest') same items') in
        parts ∙ (λ i. starts i ++ goes_on i) ∙ sym parts'

    admission-one : (first second : Text) → IsAdmission schema user first → IsAdmission schema user second → first ≡ second
    admission-one first second (blocks, are, is) (blocks', are', is') =
        is ∙ ap (λ b. codes "admission\n" ++ b) (blocks-one (probes_against (known user) (guarded user)) blocks blocks' are are') ∙ sym is'

-- the whole text
pub dossiers_are_one : MachineHasOneEnd → DossiersAreOne
dossiers_are_one one schema name user records first second (admission, items, admits, are, is, utf8) (admission', items', admits', are', is', utf8') =
    let starts = admission-one one schema user admission admission' admits admits' in
    let goes_on = items-one one schema user [] records items items' are are' in
    is ∙ (λ i. head_text name user (codes "open") ++ starts i ++ goes_on i ++ done_text (length records)) ∙ sym is'
