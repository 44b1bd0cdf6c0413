use Rattle.std.proofs.Common.{[], map, refl, sym, ap, subst, arith}
use Rattle.std.specs.Prelude.{Some, string_bytes}
use Rattle.std.proofs.lemmas.List.Elements.{All-get_or}
use Rattle.log_journal.specs.Opening.{IsRecord}
use Rattle.dossier.specs.Logs.{past_schema, past_user, past_history}
use Rattle.dossier.specs.Written.{AreItems}
use Rattle.dossier.proofs.Pushed.{grows-none}
use Rattle.dossier.proofs.Recorded.{next-legal, records-same, records-more, records-stand, records-all}
use Rattle.dossier.proofs.writing.push_items.Goals as goal

pub loop-next-init : goal.loop-next-init
loop-next-init c = record {
  kept = c.requires.kept;
  same = record { schema = refl; user = refl };
  stands = sym (ap (map Some) c.requires.none);
  grown = grows-none (AreItems (past_schema c.args.past.now) (past_user c.args.past.now) [] []) (string_bytes c.args.text.now) refl;
}

-- ---- the next record

pub push_item-requires-clause-record : goal.push_item-requires-clause-record
push_item-requires-clause-record c =
    subst (IsRecord 5) (sym c.next-item.is)
    (All-get_or (IsRecord 5) c.args.records.now c.loop-next.next-index c.next-item.result c.loop-next-test.true c.requires.each)

pub push_item-requires-clause-legal : goal.push_item-requires-clause-legal
push_item-requires-clause-legal c =
    next-legal c.args.records.now c.loop-next.next-index c.next-item.result c.next-item.is c.loop-next-test.true
    (past_schema c.args.past.now) (past_schema c.loop-next.past) c.args.world.now (past_user c.args.past.now) (past_user c.loop-next.past)
    (past_history c.loop-next.past) c.loop-next.invariant.same.schema c.loop-next.invariant.same.user c.requires.legal c.loop-next.invariant.stands

pub loop-next-preserved : goal.loop-next-preserved
loop-next-preserved c =
    let middle = string_bytes c.loop-next.text in
    let new = string_bytes c.push_item.new.text in
    record {
      kept = c.in_ok-push_item.ensures.kept;
      same = records-same c.args.records.now c.loop-next.next-index c.next-item.result c.next-item.is c.loop-next-test.true c.args.past.now
          c.loop-next.past c.push_item.new.past middle new c.loop-next.invariant.same c.loop-next.invariant.stands c.in_ok-push_item.ensures.item;
      stands = records-stand c.args.records.now c.loop-next.next-index c.next-item.result c.next-item.is c.loop-next-test.true c.args.past.now
          c.loop-next.past c.push_item.new.past middle new c.loop-next.invariant.same c.loop-next.invariant.stands c.in_ok-push_item.ensures.item;
      grown = records-more c.args.records.now c.loop-next.next-index c.next-item.result c.next-item.is c.loop-next-test.true c.args.past.now
          c.loop-next.past c.push_item.new.past middle new c.loop-next.invariant.same c.loop-next.invariant.stands c.in_ok-push_item.ensures.item
          (string_bytes c.args.text.now) c.loop-next.invariant.grown;
    }

-- all records
pub returns : goal.returns
returns c =
    records-all (past_schema c.args.past.now) (past_user c.args.past.now) c.args.records.now c.loop-next.next-index (omega (arith, c.loop-next-test.false))
    (string_bytes c.args.text.now) (string_bytes c.loop-next.text) c.loop-next.invariant.grown
