-- Disks that go back under the names under which they were taken.
use Rattle.std.proofs.Common.{◌≡◌, ℕ, List, [], ◌∷◌, ◌++◌, map, refl, sym, ap, ◌∙◌}
use Rattle.std.specs.Prelude.{string_bytes}
use Rattle.std.specs.List.{AllByRecursion}
use Rattle.std.proofs.lemmas.List.{map-append}
use Rattle.log_journal.specs.Journal.{disk_of}
use Rattle.standby_core.specs.Copies.{held_origin}
use Rattle.standby_core.specs.declared.book.Held.{Held}
use Rattle.standby_engine.specs.Opened.{place_journal, place_disk, given_journal, opened_in, names_in, others_in, AreOwn, PlacesOwn}
use Rattle.standby_engine.specs.declared.opening.Given.{Given as Back}
use Rattle.standby_engine.specs.declared.opening.Place.{Place}
use Rattle.standby_engine.specs.declared.opening.Place.TheVariants.{Opened, Refused}

abbrev first_of : List (List (List ℕ)) → List (List ℕ)
first_of [] = []
first_of (x ∷ xs) = x

abbrev others_of : List (List (List ℕ)) → List (List (List ℕ))
others_of [] = []
others_of (x ∷ xs) = xs

module _ {D : Type 0} (origin : D → List (List ℕ)) (known : List ℕ → List (List ℕ)) where
  -- what holds of all holds of each
  pub own_each : (all : List (Back D)) → AreOwn origin known all → AllByRecursion (λ (one : Back D). origin one.disk ≡ known (given_journal one)) all
  own_each [] own = tt
  own_each (one ∷ all) own = (ap first_of own, own_each all (ap others_of own))

  -- disks with these names, and others behind them
  pub own_both : (all others : List (Back D)) (disks : List D) (names : List (List ℕ))
      → map (λ (one : Back D). one.disk) all ≡ map (λ (one : Back D). one.disk) others ++ disks
      → map given_journal all ≡ map given_journal others ++ names → AreOwn origin known others → map origin disks ≡ map known names
      → AreOwn origin known all
  own_both all others disks names disks_are names_are first second =
      ap (map origin) disks_are ∙ map-append origin (map (λ (one : Back D). one.disk) others) disks ∙ (λ i. first i ++ second i)
      ∙ sym (map-append known (map given_journal others) names) ∙ sym (ap (map known) names_are)

  module _ {g : _} where
    -- one place more
    pub place_more : (places : List (Place D g)) (place : Place D g) → PlacesOwn origin known places
        → origin (place_disk place) ≡ known (place_journal place) → PlacesOwn origin known (places ++ place ∷ [])
    place_more places place own one =
        ap (map origin) (map-append place_disk places (place ∷ [])) ∙ map-append origin (map place_disk places) (place_disk place ∷ [])
        ∙ (λ i. own i ++ one i ∷ []) ∙ sym (map-append known (map place_journal places) (place_journal place ∷ []))
        ∙ sym (ap (map known) (map-append place_journal places (place ∷ [])))

    -- the disks of places, with their names
    pub own_disks : (places : List (Place D g)) (all : List (Back D)) → map given_journal all ≡ map place_journal places
        → map (λ (one : Back D). one.disk) all ≡ map place_disk places → PlacesOwn origin known places → AreOwn origin known all
    own_disks places all names disks own = ap (map origin) disks ∙ own ∙ sym (ap (map known) names)

    -- places that are taken apart
    pub own_apart : (places : List (Place D g)) → PlacesOwn origin known places
        → (map (held_origin origin) (opened_in places) ≡ map known (names_in places)) × AreOwn origin known (others_in places)
    own_apart [] own = (refl, refl)
    own_apart (Opened journal held ∷ places) own =
        let rest = own_apart places (ap others_of own) in
        let here : held_origin origin held ≡ known (string_bytes journal) = ap first_of own in
        (λ i. here i ∷ rest.0 i, rest.1)
    own_apart (Refused journal disk why ∷ places) own =
        let rest = own_apart places (ap others_of own) in
        let here : origin disk ≡ known (string_bytes journal) = ap first_of own in
        (rest.0, λ i. here i ∷ rest.1 i)

  -- where several disks come from
  pub origins_of : {g : _} (all : List (Held D g)) → map origin (map (λ (held : Held D g). disk_of held.journal) all) ≡ map (held_origin origin) all
  origins_of [] = refl
  origins_of (held ∷ all) = ap (λ l. held_origin origin held ∷ l) (origins_of all)
