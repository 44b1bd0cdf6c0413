use Rattle.std.proofs.Common.{Bool, true, false, sym, ap, subst, ◌∙◌}
use Rattle.std.specs.Prelude.{Option}
use Rattle.command_words.specs.Readings.{Reading}
use Rattle.outside.specs.Faults.{Rose}
use Rattle.outside.specs.Shelf.{NoneOut}
use Rattle.outside.specs.Streams.{AppendsUnless}
use Rattle.cqe_top.specs.Complaints.{complaint_of}
use Rattle.cqe_top.specs.Mirrored.{has_standby, counted_by}
use Rattle.cqe_top.specs.Promise.{Does}
use Rattle.cqe_top.specs.Reports.{status_of}
use Rattle.cqe_top.specs.declared.end.CommandEnd.{CommandEnd}
use Rattle.cqe_top.specs.Scene.{Scene, scene_of, shelf_of, input_of, output_of, links_of}
use Rattle.cqe_top.proofs.command.top.Goals as goal

-- exchanges that are counted as faults of disks take none of them out
left_inside : (s : Scene) (read : Option Reading) (end : CommandEnd) → Does s read end → NoneOut s.shelf.is_out'
left_inside s read end does = by (has_standby read) does.always.shelf.inside
  where
    by : (b : Bool) → NoneOut (counted_by s b).shelf.is_out' → NoneOut s.shelf.is_out'
    by false none = none
    by true none = none

pub returns : goal.returns
returns g c = record {
  inside = left_inside _ _ _ c.run-end.ensures.command.2;
  promise = record {
    end = c.run-end.result;
    of_status = c.status_of.ensures ∙ ap status_of c.report_of-report.ensures;
    complaint =
        λ told. subst (λ report. AppendsUnless (complaint_of report) (g.E.Sink.written c.args.complaints.now) (g.E.Sink.written c.complain.new.complaints)
        (Rose (g.E.Sink.faults c.args.complaints.now) (g.E.Sink.faults c.complain.new.complaints))) c.report_of-report.ensures (c.complain.ensures.given told);
    does = subst (λ read.
        Does (scene_of (shelf_of g.F.Shelf g.F.D.Disk c.args.shelf.now c.run-end.new.shelf) (input_of g.S.Source c.args.source.now c.run-end.new.source)
        (output_of g.K.Sink c.args.sink.now c.run-end.new.sink) (links_of g.L.Links c.args.links.now c.run-end.new.links)) read c.run-end.result)
        (sym c.run-end.ensures.command.1) c.run-end.ensures.command.2;
    complaints_faults = c.complain.ensures.later;
  };
  laws = record {
    two_batches = c.law_calls_join.ensures;
    parts = c.law_calls_are_parts.ensures;
    calls = c.law_any_calls_join.ensures;
    batches = c.law_any_batches_join.ensures;
    standbys = c.law_standbys_keep.ensures;
    takeovers = c.law_takeovers_join.ensures;
    dossiers = c.law_dossiers_are_found_sound.ensures;
  };
}
