use Rattle.std.proofs.Common.{◌≡◌, ◌<◌, false, [], length, get_or, map, refl, sym, ap, ◌∙◌, subst}
use Rattle.std.proofs.lemmas.List.{get_or_read}
use Rattle.cqe_base.specs.Literal.{Positive, variable_of, ClauseBelow}
use Rattle.cqe_base.specs.Machine.{first_unit}
use Rattle.cqe_base.specs.MachineStates.{is_assigned}
use Rattle.cqe_base.proofs.Analysis.{each_at}
use Rattle.cqe_base.proofs.MachineRules.{each_has, is_unit}
use Rattle.clause_solver.specs.Assigning.{Assigning}
use Rattle.clause_solver.specs.Watching.{no_pair, IsOpenOf, AreClosed, HaveSameLiterals}
use Rattle.clause_solver.specs.WatchesInside.{lists_of, units_of}
use Rattle.clause_solver.proofs.Looks.{same_watching}
use Rattle.clause_solver.proofs.States.{unit_within, unit_listed, is_first_unit, is_unit_literal, open_in, no_open, no_unit_clause, unit_dropped}
use Rattle.clause_solver.proofs.Bases.{same_under}
use Rattle.clause_solver.proofs.indexed.Indexed.first_unit.Goals as goal
use Rattle.clause_solver.proofs.indexed.Indexed.first_unit.Goals.{In-Some, In-Some-open_watched}

within : (c : In-Some) → c.in-Some.least < length c.loop-least.self.clauses
within c =
    let s = c.loop-least.self in
    let k = c.loop-least.invariant.indexed.looked in
    let e = c.in-Some.ensures.least in
    unit_within s.assignment.variables s.assignment.trail k.distinct s.clauses s.watches.sorted k.same (lists_of s.watches) s.watches.pairs.items
    (units_of s.watches) s.watches.falsified
    (Positive 0) k.watches c.loop-least.invariant.falsified c.loop-least.invariant.indexed.reached.no_repeat c.in-Some.least e.there e.low

listed : (c : In-Some) → c.in-Some.least < length c.loop-least.self.watches.pairs.items
listed c =
    let s = c.loop-least.self in
    let k = c.loop-least.invariant.indexed.looked in
    let e = c.in-Some.ensures.least in
    unit_listed s.assignment.variables s.assignment.trail k.distinct s.clauses s.watches.sorted k.same (lists_of s.watches) s.watches.pairs.items
    (units_of s.watches) s.watches.falsified
    (Positive 0) k.watches c.loop-least.invariant.falsified c.loop-least.invariant.indexed.reached.no_repeat c.in-Some.least e.there e.low

pub index-requires : goal.index-requires
index-requires c = subst (λ m. c.in-Some.least < m) (sym c.loop-least.self.watches.pairs.ok.0) (listed (goal.at.index-requires c).In-Some)

abbrev at : In-Some-open_watched → In-Some
at c = (goal.at.returns-in-Some-open_watched-clause-first c).In-Some

found : (c : In-Some-open_watched)
    → IsOpenOf c.loop-least.self.assignment.trail (get_or c.loop-least.self.watches.pairs.items c.in-Some.least no_pair) c.in-Some-open_watched.literal
found c = subst (λ p. IsOpenOf c.loop-least.self.assignment.trail p c.in-Some-open_watched.literal)
    (get_or_read c.loop-least.self.watches.pairs.items c.in-Some.least c.index.result.now (listed (at c)) c.index.ensures no_pair)
    c.in-Some-open_watched.ensures.some

pub returns-in-Some-open_watched-clause-first : goal.returns-in-Some-open_watched-clause-first
returns-in-Some-open_watched-clause-first c =
    let s = c.loop-least.self in
    let v = c.loop-least.invariant in
    let k = v.indexed.looked in
    let e = c.in-Some.ensures.least in
    sym (is_first_unit s.assignment.variables s.assignment.trail k.distinct s.clauses s.watches.sorted k.same (lists_of s.watches) s.watches.pairs.items
    (units_of s.watches) s.watches.falsified
    (Positive 0) k.watches v.falsified v.indexed.reached.no_repeat c.in-Some.least e.there e.low c.in-Some-open_watched.literal (found c))
    ∙ (λ i. first_unit (v.assignment i).trail 0 (v.clauses i))

pub returns-in-Some-open_watched-clause-number : goal.returns-in-Some-open_watched-clause-number
returns-in-Some-open_watched-clause-number c = subst (λ cs. c.in-Some.least < length cs) c.loop-least.invariant.clauses (within (at c))

pub returns-in-Some-open_watched-clause-below : goal.returns-in-Some-open_watched-clause-below
returns-in-Some-open_watched-clause-below c =
    let s = c.loop-least.self in
    let v = c.loop-least.invariant in
    let k = v.indexed.looked in
    let e = c.in-Some.ensures.least in
    let l = c.in-Some-open_watched.literal in
    let has = open_in s.assignment.variables s.assignment.trail k.distinct s.clauses s.watches.sorted k.same (lists_of s.watches) s.watches.pairs.items
    (units_of s.watches) s.watches.falsified (Positive 0) k.watches v.falsified v.indexed.reached.no_repeat c.in-Some.least e.there e.low l (found c) in
    subst (λ (a : Assigning). variable_of l < a.variables) v.assignment
    (each_has (λ m. variable_of m < s.assignment.variables) (get_or s.clauses c.in-Some.least []) l
    (each_at (ClauseBelow s.assignment.variables) s.clauses c.in-Some.least v.indexed.reached.below tt) has)

pub returns-in-Some-open_watched-clause-free : goal.returns-in-Some-open_watched-clause-free
returns-in-Some-open_watched-clause-free c =
    let s = c.loop-least.self in
    let v = c.loop-least.invariant in
    let k = v.indexed.looked in
    let e = c.in-Some.ensures.least in
    let l = c.in-Some-open_watched.literal in
    let unit = is_unit_literal s.assignment.variables s.assignment.trail k.distinct s.clauses s.watches.sorted k.same (lists_of s.watches) s.watches.pairs.items
    (units_of s.watches) s.watches.falsified (Positive 0) k.watches v.falsified v.indexed.reached.no_repeat c.in-Some.least e.there e.low l (found c) in
    subst (λ (a : Assigning). is_assigned a.trail (variable_of l) ≡ false) v.assignment
    (is_unit s.assignment.trail (get_or s.clauses c.in-Some.least []) l unit).unassigned

pub loop-least-preserved : goal.loop-least-preserved
loop-least-preserved c =
    let s = c.loop-least.self in
    let v = c.loop-least.invariant in
    let k = v.indexed.looked in
    let d = (goal.at.loop-least-preserved c).In-Some in
    let i = c.in-Some.least in
    let e = c.in-Some.ensures.least in
    let n = s.assignment.variables in
    let t = s.assignment.trail in
    let left = c.drop_unit.ensures.units i e in
    let closed = subst (AreClosed t)
    (get_or_read s.watches.pairs.items i c.index.result.now (listed d) c.index.ensures no_pair) c.in_default-open_watched.ensures.none in
    let true_one = no_open n t k.distinct s.clauses s.watches.sorted k.same (lists_of s.watches) s.watches.pairs.items (units_of s.watches) s.watches.falsified
    (Positive 0) k.watches v.falsified v.indexed.reached.no_repeat i e.there e.low closed in
    record {
      assignment = v.assignment;
      clauses = v.clauses;
      lines = v.lines;
      falsified = c.drop_unit.ensures.falsified ∙ v.falsified;
      indexed = record {
        looked = record {
          watches =
              same_watching n t (Positive 0) [] _ _ _ _ _ _ _ _ _ _ c.drop_unit.ensures.sorted
              (ap (λ ls. map (λ v. v.items) ls.items) c.drop_unit.ensures.lists)
              (ap (λ ps. ps.items) c.drop_unit.ensures.pairs) refl c.drop_unit.ensures.falsified
              (unit_dropped n t k.distinct s.clauses s.watches.sorted k.same (lists_of s.watches) s.watches.pairs.items (units_of s.watches) s.watches.falsified
              (Positive 0) k.watches i (units_of c.drop_unit.new.self) true_one left.fewer left.others);
          same = subst (HaveSameLiterals s.clauses) (sym c.drop_unit.ensures.sorted) k.same;
          distinct = k.distinct;
          idle = k.idle;
        };
        reached = v.indexed.reached;
      };
      bases = λ b h. (let r = v.bases b h in (
        r.0,
        r.1,
        r.2,
        same_under b.trail (length b.clauses) _ _ _ _ c.drop_unit.ensures.sorted (ap (λ ps. ps.items) c.drop_unit.ensures.pairs) r.3,
      ));
    }

pub returns-clause-first : goal.returns-clause-first
returns-clause-first c =
    let s = c.loop-least.self in
    let v = c.loop-least.invariant in
    let k = v.indexed.looked in
    let none = no_unit_clause s.assignment.variables s.assignment.trail k.distinct s.clauses s.watches.sorted k.same (lists_of s.watches) s.watches.pairs.items
    (units_of s.watches) s.watches.falsified (Positive 0) k.watches v.falsified c.in_default.ensures.none in
    sym none ∙ (λ i. first_unit (v.assignment i).trail 0 (v.clauses i))
