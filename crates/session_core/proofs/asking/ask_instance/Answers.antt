use Rattle.std.proofs.Common.{◌≡◌, ◌≤◌, ◌++◌, ◌∷◌, [], length, sym, subst, ◌∙◌}
use Rattle.std.specs.Prelude.{OnOk, OnErr, codes}
use Rattle.outside.specs.Streams.{AppendsPart}
use Rattle.cqe_base.specs.Transcript.{reply_text}
use Rattle.user_log.specs.Replies.{reply_of}
use Rattle.open_queries.specs.Instances.{instance_text}
use Rattle.open_queries.specs.Memory.{open_query}
use Rattle.line_protocol.specs.Replies.{text_of}
use Rattle.line_protocol.specs.declared.reply.Reply.TheVariants.{Code}
use Rattle.session_core.specs.Lists.{answered, no_text, instance_names}
use Rattle.session_core.specs.Desks.{AsksAt}
use Rattle.session_core.specs.Members.{fixeds_of, passes_in}
use Rattle.session_core.proofs.Passing.{at_nothing, passes_kept}
use Rattle.session_core.proofs.asking.ask_instance.Goals as goal

pub ask_at-reply-requires-clause-short : goal.ask_at-reply-requires-clause-short
ask_at-reply-requires-clause-short g c κs within =
    subst (λ t. length t ≤ 4096) (sym (c.as_str.ensures.value ∙ c.in-Ok.ensures.text)) c.requires.asked.short

pub returns-in-Ok-clause-said : goal.returns-in-Ok-clause-said
returns-in-Ok-clause-said g c =
    let query = open_query c.args.list.now in
    let names = instance_names c.args.schema.now query c.args.number in
    let reply = reply_of c.ask_at-reply.result in
    record {
      asked = (instance_text c.args.schema.now query c.args.number, reply) ∷ [];
      text = names ++ reply_text reply;
      said = answered;
      used = subst
          (λ t. AsksAt c.args.place (fixeds_of c.args.counters.now) (passes_in c.args.passes.now) (passes_in c.ask_at-reply.new.passes) ((t, reply) ∷ []))
          (c.as_str.ensures.value ∙ c.in-Ok.ensures.text) c.ask_at-reply.ensures.asked;
      all = subst
          (λ t. g.K.Sink.tells → OnOk c.write_named.result
          (g.K.Sink.written c.write_named.new.sink ≡ g.K.Sink.written c.args.sink.now ++ ((names ++ t) ++ codes "\n")))
          c.line_reply.ensures c.write_named.ensures.all;
      part = subst
          (λ t. g.K.Sink.tells → OnErr c.write_named.result
          (AppendsPart (g.K.Sink.written c.args.sink.now) (g.K.Sink.written c.write_named.new.sink) ((names ++ t) ++ codes "\n")))
          c.line_reply.ensures c.write_named.ensures.part;
    }

pub returns-in-Err-clause-said : goal.returns-in-Err-clause-said
returns-in-Err-clause-said g c =
    let counters = c.args.counters.now in
    let passes = passes_in c.args.passes.now in
    record {
      asked = [];
      text = text_of (Code 50);
      said = no_text;
      used = at_nothing c.args.place (fixeds_of counters) passes c.requires.place (passes_kept passes counters.counters.items c.requires.passes.are);
      all = c.write_reply.ensures.all;
      part = c.write_reply.ensures.part;
    }
