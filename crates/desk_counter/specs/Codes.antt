-- Codes of items and of users, by which equal ones are known.
use Rattle.std.specs.Prelude.{◌≡◌, ℕ, zero, suc, List, refl}
use Rattle.std.specs.Coded.{Coded, code_by, coded_ℕ, coded_list, coded×}
use Rattle.std.proofs.Common.{ap}
use Rattle.cqe_base.specs.declared.user.Mark.{Mark}
use Rattle.cqe_base.specs.declared.user.Mark.TheVariants.{Yes, No, Refused, Undecided, Protected}
use Rattle.cqe_base.specs.declared.user.Method.{Method}
use Rattle.cqe_base.specs.declared.user.Method.TheVariants.{Lying, Refusal, Combined}
use Rattle.cqe_base.specs.Formula.{Formula}
use Rattle.cqe_base.specs.FormulaCode.{formula_code}
use Rattle.cqe_base.specs.History.{UserProfile, AnsweredQuery}

-- a mark as a number
abbrev mark_stored : Mark → ℕ
mark_stored Yes = 0
mark_stored No = 1
mark_stored Refused = 2
mark_stored Undecided = 3
mark_stored Protected = 4

-- the mark of a number
abbrev mark_found : ℕ → Mark
mark_found zero = Yes
mark_found (suc zero) = No
mark_found (suc (suc zero)) = Refused
mark_found (suc (suc (suc zero))) = Undecided
mark_found _ = Protected

-- a mark comes back from its number
pub mark_found-stored : (mark : Mark) → mark_found (mark_stored mark) ≡ mark
mark_found-stored Yes = refl
mark_found-stored No = refl
mark_found-stored Refused = refl
mark_found-stored Undecided = refl
mark_found-stored Protected = refl

-- a method as a number
abbrev method_stored : Method → ℕ
method_stored Lying = 0
method_stored Refusal = 1
method_stored Combined = 2

-- the method of a number
abbrev method_found : ℕ → Method
method_found zero = Lying
method_found (suc zero) = Refusal
method_found _ = Combined

-- a method comes back from its number
pub method_found-stored : (method : Method) → method_found (method_stored method) ≡ method
method_found-stored Lying = refl
method_found-stored Refusal = refl
method_found-stored Combined = refl

-- an answered query of its parts
abbrev answered : Formula → ℕ → Mark → AnsweredQuery
answered query length mark = record { query = query; mark = mark; length = length }

-- an answered query is stored as its query, its mark and its length
abbrev pub answered_code : Coded AnsweredQuery
answered_code =
    code_by (Formula × (ℕ × ℕ)) (coded× formula_code (coded× coded_ℕ coded_ℕ))
    (λ a. (a.query, (mark_stored a.mark, a.length)))
    (λ p. answered p.0 p.1.1 (mark_found p.1.0))
    (λ a. ap (answered a.query a.length) (mark_found-stored a.mark))

-- a user of his parts
abbrev profile : List Formula → List Formula → ℕ → ℕ → Method → UserProfile
profile know secrets pairs budget method =
    record { method = method; know = know; secrets = secrets; pairs = pairs; budget = budget }

-- a user is stored as his method, what he knows, his secrets with their pairs, and his budget
abbrev pub profile_code : Coded UserProfile
profile_code =
    code_by (ℕ × (List Formula × (List Formula × (ℕ × ℕ))))
    (coded× coded_ℕ (coded× (coded_list formula_code)
    (coded× (coded_list formula_code) (coded× coded_ℕ coded_ℕ))))
    (λ u. (method_stored u.method, (u.know, (u.secrets, (u.pairs, u.budget)))))
    (λ p. profile p.1.0 p.1.1.0 p.1.1.1.0 p.1.1.1.1 (method_found p.0))
    (λ u. ap (profile u.know u.secrets u.pairs u.budget) (method_found-stored u.method))
