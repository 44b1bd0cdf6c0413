use Rattle.std.proofs.Common.{List, ℕ, [], ◌∷◌, ◌++◌, ◌∙◌, ap, map}
use Rattle.std.proofs.lemmas.List.{map-append}
use Rattle.outside.specs.MemoryDials.{answered_at, answered_by, dial_address, dial_exchanged}
use Rattle.outside.proofs.memory_dial.MemoryDial.keep.Goals as goal

pub returns-clause-kept : goal.returns-clause-kept
returns-clause-kept c =
    let address = dial_address c.args.self.now in
    ap (map (answered_by address)) c.in_ok-push.ensures.items ∙ map-append (answered_by address) c.args.self.now.exchanges.items _
    ∙ ap (λ (frame : List ℕ). dial_exchanged c.args.self.now ++ answered_at address frame c.args.above ∷ [])
    (c.in_ok-frame.ensures.items_if_clones_equal (λ x y same. same))
