-- The facts that occur in ground formulas, and the nodes of a list of them.
use Rattle.std.specs.Prelude.{ℕ, List, [], ◌∷◌, ◌++◌, sum_by}
use Rattle.std.specs.List.{flat_map}
use Rattle.cqe_base.specs.declared.world.Fact.{Fact}
use Rattle.cqe_base.specs.Ground.{Ground, Grounds, ground_true, ground_false, ground_atom}
use Rattle.cqe_base.specs.Ground.{ground_not, ground_all, ground_some, ground_implies, ground_iff}
use Rattle.cqe_base.specs.Ground.{no_grounds, more_grounds, ground_nodes}
use Rattle.cqe_base.specs.SignedGround.{SignedGround}

-- the nodes of signed ground formulas
abbrev pub nodes_of_list : List SignedGround → ℕ
nodes_of_list formulas = sum_by (λ signed. ground_nodes signed.0) formulas

abbrev mutual
  -- the facts that occur in a ground formula, from left to right
  pub facts_in : Ground → List Fact
  facts_in ground_true = []
  facts_in ground_false = []
  facts_in (ground_atom fact) = fact ∷ []
  facts_in (ground_not a) = facts_in a
  facts_in (ground_all parts) = facts_in_parts parts
  facts_in (ground_some parts) = facts_in_parts parts
  facts_in (ground_implies a b) = facts_in a ++ facts_in b
  facts_in (ground_iff a b) = facts_in a ++ facts_in b

  -- the facts that occur in the parts, from left to right
  pub facts_in_parts : Grounds → List Fact
  facts_in_parts no_grounds = []
  facts_in_parts (more_grounds a rest) = facts_in a ++ facts_in_parts rest

-- the facts that occur in a list of signed ground formulas
abbrev pub facts_in_list : List SignedGround → List Fact
facts_in_list formulas = flat_map (λ signed. facts_in signed.0) formulas
