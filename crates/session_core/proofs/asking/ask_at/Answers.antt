use Rattle.std.proofs.Common.{◌≡◌, ◌≤◌, ◌<◌, true, [], ◌∷◌, length, sym, subst, arith}
use Rattle.std.specs.Prelude.{slice_index_or}
use Rattle.std.proofs.lemmas.List.{length-map}
use Rattle.cqe_base.specs.History.{is_history_of}
use Rattle.cqe_base.specs.Censor.{IsLegal}
use Rattle.turnstile.specs.Passes.{seen, turns}
use Rattle.user_log.specs.Replies.{reply_of}
use Rattle.desk_counter.specs.Counters.{kept_by, IsPassOf}
use Rattle.desk_counter.specs.Items.{history_of}
use Rattle.session_core.specs.Desks.{Asks}
use Rattle.desk_counter.proofs.Pairs.{broke_last}
use Rattle.session_core.proofs.Replying.{asks_once}
use Rattle.session_core.proofs.Legality.{legal_set}
use Rattle.session_core.proofs.Passing.{passes_many, pass_at, passes_set, asked_at, turns_at}
use Rattle.session_core.proofs.asking.ask_at.Goals as goal

pub index_mut-pass-requires : goal.index_mut-pass-requires
index_mut-pass-requires g c =
    let passes = c.args.passes.now.passes in
    let counters = c.args.counters.now.counters.items in
    omega (arith, c.requires.place, passes_many passes.items counters c.requires.passes.are, length-map counters kept_by, passes.ok.0)

pub ask-requires-clause-pass : goal.ask-requires-clause-pass
ask-requires-clause-pass g c κs within =
    let passes = c.args.passes.now.passes.items in
    let counters = c.args.counters.now.counters.items in
    let place = c.args.place in
    let low : place < length counters = omega (arith, c.requires.place, length-map counters kept_by) in
    subst (λ p. IsPassOf p c.index-counter.result.now) (sym c.index_mut-pass.ensures.value)
    (subst (λ d. IsPassOf (slice_index_or passes place c.index_mut-pass.result.now) d) (sym c.index-counter.ensures)
    (pass_at passes counters place c.index_mut-pass.result.now c.index-counter.result.now low c.requires.passes.are))

pub ask-requires-clause-turns : goal.ask-requires-clause-turns
ask-requires-clause-turns g c κs within =
    let passes = c.args.passes.now.passes.items in
    let counters = c.args.counters.now.counters.items in
    let low : c.args.place < length passes = omega (arith, c.requires.place, passes_many passes counters c.requires.passes.are, length-map counters kept_by) in
    subst (λ p. 2 ≤ turns p) (sym c.index_mut-pass.ensures.value) (turns_at 2 passes c.args.place c.index_mut-pass.result.now low c.requires.turns)

pub returns-clause-passes : goal.returns-clause-passes
returns-clause-passes g c =
    let passes = c.args.passes.now.passes.items in
    let counters = c.args.counters.now.counters.items in
    let desk = c.index-counter.result.now in
    let low : c.args.place < length counters = omega (arith, c.requires.place, length-map counters kept_by) in
    record {
      are = passes_set passes counters c.args.place c.ask.new.pass desk c.requires.passes.are
          (subst (λ d. IsPassOf c.ask.new.pass d) c.index-counter.ensures c.ask.ensures.pass);
      legal = legal_set counters passes c.args.place c.ask.new.pass desk low c.requires.passes.legal
          (subst (λ d. IsLegal (kept_by d).schema (kept_by d).world (kept_by d).user (history_of (seen c.ask.new.pass))) c.index-counter.ensures
          c.ask.ensures.legal)
          (subst (λ d. is_history_of (kept_by d).schema (history_of (seen c.ask.new.pass)) ≡ true) c.index-counter.ensures
          (c.law_sizes.ensures.of_schema (kept_by desk).schema (kept_by desk).user (history_of (seen c.ask.new.pass)) c.ask.ensures.sizes))
          (broke_last (seen c.ask.new.pass) c.ask.ensures.last);
    }

pub returns-clause-asked : goal.returns-clause-asked
returns-clause-asked g c =
    let passes = c.args.passes.now.passes.items in
    let counters = c.args.counters.now.counters.items in
    let place = c.args.place in
    let low : place < length counters = omega (arith, c.requires.place, length-map counters kept_by) in
    let asked = c.ask.ensures in
    asked_at passes counters place c.index_mut-pass.result.now c.ask.new.pass c.index-counter.result.now
    ((c.args.text.now, reply_of c.ask.result) ∷ []) low c.requires.passes.are
    (subst (λ d. Asks (kept_by d) (slice_index_or passes place c.index_mut-pass.result.now) c.ask.new.pass ((c.args.text.now, reply_of c.ask.result) ∷ []))
    c.index-counter.ensures
    (subst (λ p. Asks (kept_by c.index-counter.result.now) p c.ask.new.pass ((c.args.text.now, reply_of c.ask.result) ∷ [])) c.index_mut-pass.ensures.value
    (asks_once (kept_by c.index-counter.result.now) c.index_mut-pass.result.now c.ask.new.pass c.args.text.now c.ask.result asked.asked asked.used.0
    asked.used.1 asked.last)))
