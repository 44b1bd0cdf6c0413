-- Views and ground sentences may go to another thread, and ground sentences may be shared.
use denote.Ref.{NamedLft}
use denote.Param.Send.{IsSend, IsSync, sendable}
use Rattle.std.proofs.Crossing.{crosses}
use Rattle.cqe_base.specs.contracts.sentence.Sentence as Sentence
use Rattle.cqe_base.specs.contracts.prop.Prop as Prop
use Rattle.cqe_base.proofs.sentence.Sentence.TheLaws.TheKnot as knot
use Rattle.cqe_base.proofs.prop.Prop.TheLaws.TheKnot as prop_knot
use Rattle.cqe_base.proofs.schema.Schema.TheSendSync as schema
use Rattle.clause_form.proofs.former.Former.TheSendSync as former
use Rattle.clause_solver.proofs.kept_search.KeptSearch.TheSendSync as kept_search
use Rattle.entailment.specs.contracts.sentences.GroundSentence as GroundSentence
use Rattle.entailment.specs.contracts.view.View as View
use Rattle.entailment.specs.contracts.views.Views as Views

-- apart, since a `search` that goes down through a sentence and on runs out of steps
pub sentence_send : IsSend (Sentence.the_field).row
sentence_send = search (sendable, crosses, knot.crosses) depth 20

prop_send : IsSend (Prop.the_field).row
prop_send = search (sendable, crosses, prop_knot.crosses) depth 20

pub ground_sentence_send : IsSend GroundSentence.the_row
ground_sentence_send = search (sendable, crosses, sentence_send, prop_send) depth 60

-- the same for threads that share one
pub sentence_sync : IsSync (Sentence.the_field).row
sentence_sync = search (sendable, crosses, knot.crosses) depth 20

prop_sync : IsSync (Prop.the_field).row
prop_sync = search (sendable, crosses, prop_knot.crosses) depth 20

pub ground_sentence_sync : IsSync GroundSentence.the_row
ground_sentence_sync = search (sendable, crosses, sentence_sync, prop_sync) depth 60

pub view_send : (w : NamedLft) → IsSend (View.the_row w)
view_send w = search (sendable, crosses, sentence_send, schema.the_sync, former.the_send, kept_search.the_send) depth 60

pub views_send : (w : NamedLft) → IsSend (Views.the_row w)
views_send w = search (sendable, crosses, view_send, sentence_send, schema.the_sync) depth 60
