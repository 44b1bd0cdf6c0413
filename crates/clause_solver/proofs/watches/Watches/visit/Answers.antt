use Rattle.std.proofs.Common.{◌≡◌, sym, ◌∙◌, subst, arith}
use Rattle.std.proofs.lemmas.List.{get_or_read}
use Rattle.clause_solver.specs.declared.watches.Pair.{Pair}
use Rattle.clause_store.specs.Codes.{code_of}
use Rattle.clause_solver.specs.Watching.{no_pair}
use Rattle.clause_solver.specs.WatchesInside.{lists_of, units_of}
use Rattle.clause_solver.proofs.Visits.{visited_blocker, visited_stale}
use Rattle.clause_solver.proofs.watches.Watches.visit.Goals as goal
use Rattle.clause_solver.proofs.Looks.{low_listed}

pub returns-then-holds-clause-watching : goal.returns-then-holds-clause-watching
returns-then-holds-clause-watching c =
    let s = c.args.self.now in
    λ kept rest h.
    visited_blocker c.args.assignment.now.variables c.args.assignment.now.trail s.sorted (lists_of s) s.pairs.items
    (units_of s) s.falsified c.args.literal c.requires.current c.args.clause c.args.blocker
    (low_listed s (code_of c.args.literal) c.requires.listed) kept rest h (sym c.holds.ensures ∙ c.if-holds.true)

pub returns-in-None-clause-watching : goal.returns-in-None-clause-watching
returns-in-None-clause-watching c =
    let s = c.args.self.now in
    λ kept rest h.
    visited_stale c.args.assignment.now.variables c.args.assignment.now.trail s.sorted (lists_of s) s.pairs.items
    (units_of s) s.falsified c.args.literal c.requires.current c.args.clause c.args.blocker
    (low_listed s (code_of c.args.literal) c.requires.listed) kept rest h
    (subst (λ (p : Pair). (p.first ≡ c.args.literal → ⊥)
    × (p.second ≡ c.args.literal → ⊥)) (get_or_read s.pairs.items c.args.clause c.index.result.now (let e = c.requires.pairs_room in
    let w = c.requires.within in omega arith) c.index.ensures no_pair) c.in-None.ensures.none)
