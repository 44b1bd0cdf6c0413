-- A code of views, for the checker alone: with it views have a known equality.
use Rattle.std.specs.Prelude.{ℕ, List, refl}
use Rattle.std.specs.Coded.{Coded, code_by, coded_ℕ, coded_bool, coded_list, coded×}
use Rattle.cqe_base.specs.Schema.{DatabaseSchema, NamedDomain, RelationSchema, Text}
use Rattle.cqe_base.specs.Entailment.{Signed}
use Rattle.cqe_base.specs.FormulaCode.{formula_code}
use Rattle.entailment.specs.Views.{LogView}

abbrev domain_code : Coded NamedDomain
domain_code =
    code_by (Text × List Text) (coded× (coded_list coded_ℕ) (coded_list (coded_list coded_ℕ)))
    (λ d. (d.name, d.constants)) (λ p. record { name = p.0; constants = p.1 }) (λ _. refl)

abbrev relation_code : Coded RelationSchema
relation_code =
    code_by (Text × List ℕ) (coded× (coded_list coded_ℕ) (coded_list coded_ℕ))
    (λ r. (r.name, r.columns)) (λ p. record { name = p.0; columns = p.1 }) (λ _. refl)

-- a schema is stored as its domains and its relations
abbrev pub schema_code : Coded DatabaseSchema
schema_code =
    code_by (List NamedDomain × List RelationSchema)
    (coded× (coded_list domain_code) (coded_list relation_code))
    (λ s. (s.domains, s.relations)) (λ p. record { domains = p.0; relations = p.1 }) (λ _. refl)

-- a view is stored as its schema, its log and its room
abbrev pub view_code : Coded LogView
view_code =
    code_by (DatabaseSchema × (List Signed × ℕ))
    (coded× schema_code (coded× (coded_list (coded× formula_code coded_bool)) coded_ℕ))
    (λ v. (v.schema, (v.log, v.room)))
    (λ p. record { schema = p.0; log = p.1.0; room = p.1.1 }) (λ _. refl)
