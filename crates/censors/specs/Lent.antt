-- Views of one log that are lent together.
use Rattle.std.specs.Prelude.{◌<◌, List, [], ◌∷◌, All, map, length}
use Rattle.entailment.specs.Views.{LogView, schema_of, log_of, IsViewOf}
use Rattle.censors.specs.declared.lent.Held.{Held}
use Rattle.censors.specs.declared.lent.Held.TheVariants.{One, Several}

-- the views
abbrev pub held_views : Held → List LogView
held_views (One view) = view ∷ []
held_views (Several lanes) = map (λ lane. lane.view) lanes.items

-- the first of some views; where there is none, one of nothing
abbrev pub first_view : List LogView → LogView
first_view [] = record { schema = record { domains = []; relations = [] }; log = []; room = 0 }
first_view (view ∷ views) = view

-- the view that stands for all
abbrev pub held_view : Held → LogView
held_view held = first_view (held_views held)

-- there are views, and all have the log of the first
pub record AreTogether (views : List LogView) : Type 0 where
  pub some : 0 < length views
  pub alike : All (IsViewOf (schema_of (first_view views)) (log_of (first_view views))) views
