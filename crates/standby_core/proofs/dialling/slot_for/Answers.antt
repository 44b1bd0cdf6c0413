use Rattle.std.proofs.Common.{◌∷◌, [], length, refl, sym, ap, ◌∙◌}
use Rattle.log_journal.specs.Names.{journal_name}
use Rattle.standby_core.specs.Mirrors.{dial_of, texts_of}
use Rattle.standby_core.specs.Users.{frame_user}
use Rattle.standby_core.specs.declared.mirror.Mirror.{Mirror}
use Rattle.standby_core.proofs.Keeping.{keeps_all, calls_all}
use Rattle.standby_core.proofs.dialling.slot_for.Goals as goal

pub returns-in_err-journal-clause-doors : goal.returns-in_err-journal-clause-doors
returns-in_err-journal-clause-doors g c = keeps_all g.L.Links c.args.links.now

pub returns-in_err-journal-clause-calls : goal.returns-in_err-journal-clause-calls
returns-in_err-journal-clause-calls g c = calls_all g.L.Links c.args.links.now

pub returns-in_err-name-clause-doors : goal.returns-in_err-name-clause-doors
returns-in_err-name-clause-doors g c = keeps_all g.L.Links c.args.links.now

pub returns-in_err-name-clause-calls : goal.returns-in_err-name-clause-calls
returns-in_err-name-clause-calls g c = calls_all g.L.Links c.args.links.now

pub returns-in_err-dial-clause-doors : goal.returns-in_err-dial-clause-doors
returns-in_err-dial-clause-doors g c =
    record {
      faults = c.dial.ensures.faults;
      out = c.dial.ensures.out;
      ended = c.dial.ensures.ended;
      given = c.dial.ensures.given;
      left = c.dial.ensures.left;
      at_hand = c.dial.ensures.at_hand;
      back = c.dial.ensures.back;
      listened = c.dial.ensures.listened;
    }

pub returns-in_err-dial-clause-calls : goal.returns-in_err-dial-clause-calls
returns-in_err-dial-clause-calls g c = record { exchanged = c.dial.ensures.exchanged; exchange_faults = c.dial.ensures.exchange_faults }

-- ---- a mirror that was made

pub returns-clause-name : goal.returns-clause-name
returns-clause-name g c = c.in_ok-journal.ensures ∙ ap (journal_name c.args.directory.now) c.as_str.ensures.value

pub returns-clause-made : goal.returns-clause-made
returns-clause-made g c =
    let mirror = c.new-mirror.ensures in
    let dial = mirror.dial in
    let named = ap g.L.Dial.Dial.name dial ∙ c.in_ok-dial.ensures.name ∙ c.as_str-3.ensures.value ∙ c.in_ok-journal.ensures
    ∙ ap (journal_name c.args.directory.now) c.as_str.ensures.value in
    let called = ap g.L.Dial.Dial.address dial ∙ c.in_ok-dial.ensures.address in
    let user = mirror.user ∙ c.in_ok-name.ensures.same ∙ ap frame_user c.as_str-2.ensures.value in
    ap (texts_of g.L.Dial.Dial.name g.L.Dial.Dial.address) c.of-made.ensures
    ∙ (λ i. named i ∷ called i ∷ user i ∷ (mirror.header i).policy ∷ (mirror.header i).facts ∷ [])

pub invariant_of-result : goal.invariant_of-result
invariant_of-result g c = record {
  fresh = ap g.L.Dial.Dial.faults c.new-mirror.ensures.dial ∙ c.in_ok-dial.ensures.whole;
  silent = λ told. ap length (ap g.L.Dial.Dial.exchanged c.new-mirror.ensures.dial ∙ c.in_ok-dial.ensures.fresh told);
  named = ap (λ (m : Mirror _ _). g.L.Dial.Dial.name (dial_of m)) c.of-made.ensures ∙ ap g.L.Dial.Dial.name c.new-mirror.ensures.dial
      ∙ c.in_ok-dial.ensures.name
      ∙ c.as_str-3.ensures.value;
  same = sym (ap (texts_of g.L.Dial.Dial.name g.L.Dial.Dial.address) c.of-made.ensures);
}

pub returns-clause-unused : goal.returns-clause-unused
returns-clause-unused g c = record {
  there = refl;
  faultless = ap g.L.Dial.Dial.faults c.new-mirror.ensures.dial ∙ c.in_ok-dial.ensures.whole;
  silent = λ told. ap g.L.Dial.Dial.exchanged c.new-mirror.ensures.dial ∙ c.in_ok-dial.ensures.fresh told;
}

pub returns-clause-doors : goal.returns-clause-doors
returns-clause-doors g c =
    record {
      faults = c.dial.ensures.faults;
      out = c.dial.ensures.out;
      ended = c.dial.ensures.ended;
      given = c.dial.ensures.given;
      left = c.dial.ensures.left;
      at_hand = c.dial.ensures.at_hand;
      back = c.dial.ensures.back;
      listened = c.dial.ensures.listened;
    }

pub returns-clause-calls : goal.returns-clause-calls
returns-clause-calls g c = record { exchanged = c.dial.ensures.exchanged; exchange_faults = c.dial.ensures.exchange_faults }
