use Rattle.std.proofs.Common.{◌≡◌, ℕ, [], ◌∷◌, ◌++◌, Bool, Result, Ok, Err, is_ok, IfOk, IfErr, MatchBool, sym, ap, ◌∙◌, subst}
use Rattle.turnstile.specs.History.{Entries}
use Rattle.turnstile.specs.Passes.{mine}
use Rattle.device_tests.proofs.turns.take_turn.Goals as goal

by_result : {A E : Type 0} (P Q : Type 0) (P' Q' : Type 0) (r : Result A E) (b : Bool) → b ≡ is_ok r → IfOk r (λ _. P') → IfErr r (λ _. Q') → (P' → P)
    → (Q' → Q) → MatchBool b P Q
by_result P Q P' Q' (Ok x) b e p q f g = subst (λ (z : Bool). MatchBool z P Q) (sym e) (f p)
by_result P Q P' Q' (Err x) b e p q f g = subst (λ (z : Bool). MatchBool z P Q) (sym e) (g q)

pub returns-clause-mine : goal.returns-clause-mine
returns-clause-mine g c =
    let before : Entries ℕ = c.enter-turn.result.value.turns.items in
    let after : Entries ℕ = c.add.new.self.turns.items in
    let seen = ap (λ v. v.seen) c.enter-turn.ensures.view in
    let own = c.enter-turn.ensures.mine in
    let adds = c.leave.ensures.mine in
    by_result ((ticket : ℕ)
    × (mine c.leave.new.pass ≡ mine c.args.pass.now ++ (ticket, c.args.who) ∷ [])) (mine c.leave.new.pass ≡ mine c.args.pass.now)
    (after ≡ before ++ (c.ticket-ticket.result, c.args.who) ∷ []) (after ≡ before)
    c.add.result c.is_ok-added.result c.is_ok-added.ensures.value c.add.ensures.ok c.add.ensures.err
    (λ grew. (
      c.ticket-ticket.result,
      adds.one (c.ticket-ticket.result, c.args.who) (grew ∙ ap (λ l. l ++ (c.ticket-ticket.result, c.args.who) ∷ []) (sym seen))
          ∙ ap (λ l. l ++ (c.ticket-ticket.result, c.args.who) ∷ []) own,
    ))
    (λ same. adds.none (same ∙ sym seen) ∙ own)
