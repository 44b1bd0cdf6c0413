-- How lists begin.
use Rattle.std.proofs.Common.{◌≡◌, List, [], ◌++◌, sym, ap, ◌∙◌, append-nil, append_assoc}
use Rattle.clause_form.specs.Prefixes.{BeginsWith}

pub begins_same : {X : Type 0} (first xs : List X) → xs ≡ first → BeginsWith first xs
begins_same first xs e = record { more = []; is = e ∙ sym (append-nil first) }

pub begins_more : {X : Type 0} (first more xs : List X) → xs ≡ first ++ more → BeginsWith first xs
begins_more first more xs e = record { more = more; is = e }

pub begins_then : {X : Type 0} (first second xs : List X) → BeginsWith first second → BeginsWith second xs → BeginsWith first xs
begins_then first second xs h i = record { more = h.more ++ i.more; is = i.is ∙ ap (λ ys. ys ++ i.more) h.is ∙ append_assoc first h.more i.more }

pub ruleset beginnings = (begins_same, begins_more, begins_then)
