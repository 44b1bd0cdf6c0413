use Rattle.std.proofs.Common.{rules, ◌≡◌, Some, ap, ◌∙◌}
use Rattle.turnstile.specs.declared.view.View.{View}
use Rattle.turnstile.proofs.Idle.{idle_view}
use Rattle.turnstile.proofs.Keeps.{ends}
use Rattle.turnstile.proofs.Closing.{closing, ruled_in}
use Rattle.turnstile.proofs.turnstile.Turnstile.close.Goals as goal

pub unwrap-requires : goal.unwrap-requires
unwrap-requires g c =
    let idle = idle_view c.args.pass c.into_seat.result.me.0 c.into_seat.ensures.2 in
    let all : c.into_seat.result.me.0.shares ≡ 65 = ap (λ (v : View g.row.V-Item.Denot g.row.V-Fixed.Denot). v.shares) idle.0 ∙ c.requires.all in
    let t = ends g.V.Recorded.entries g.V.Recorded.fixed _ _ _ _ _ _ c.take-value.result c.close_with-closed.ensures.values.2 idle.1 all
    c.take-value.ensures.value in
    let is : c.take-value.result ≡ Some t.0 = t.1 in
    rw is (search rules)

pub returns-clause-entries : goal.returns-clause-entries
returns-clause-entries g c =
    (closing g.V.Recorded.entries g.V.Recorded.fixed c.args.pass _ c.into_seat.ensures.2 c.requires.all _ _ _ _ _ _ c.close_with-closed.ensures.values.2
    c.take-value.ensures.value c.unwrap.ensures).entries

pub returns-clause-mine : goal.returns-clause-mine
returns-clause-mine g c =
    (closing g.V.Recorded.entries g.V.Recorded.fixed c.args.pass _ c.into_seat.ensures.2 c.requires.all _ _ _ _ _ _ c.close_with-closed.ensures.values.2
    c.take-value.ensures.value c.unwrap.ensures).mine

pub returns-clause-added : goal.returns-clause-added
returns-clause-added g c =
    (closing g.V.Recorded.entries g.V.Recorded.fixed c.args.pass _ c.into_seat.ensures.2 c.requires.all _ _ _ _ _ _ c.close_with-closed.ensures.values.2
    c.take-value.ensures.value c.unwrap.ensures).added

pub returns-clause-drew : goal.returns-clause-drew
returns-clause-drew g c =
    (closing g.V.Recorded.entries g.V.Recorded.fixed c.args.pass _ c.into_seat.ensures.2 c.requires.all _ _ _ _ _ _ c.close_with-closed.ensures.values.2
    c.take-value.ensures.value c.unwrap.ensures).drew

pub returns-clause-fixed : goal.returns-clause-fixed
returns-clause-fixed g c =
    (closing g.V.Recorded.entries g.V.Recorded.fixed c.args.pass _ c.into_seat.ensures.2 c.requires.all _ _ _ _ _ _ c.close_with-closed.ensures.values.2
    c.take-value.ensures.value c.unwrap.ensures).fixed

pub returns-clause-rule : goal.returns-clause-rule
returns-clause-rule g c = ruled_in g.V.Recorded.entries g.V.Recorded.fixed c.args.pass _ c.into_seat.ensures.2 _ _ _ _ _ c.close_with-closed.ensures.values.2
