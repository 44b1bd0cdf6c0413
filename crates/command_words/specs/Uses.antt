-- The uses of options that words make.
use Rattle.std.specs.Prelude.{ℕ, ◌==◌, Bool, true, false, not, List, [], ◌∷◌, Option, Some, None}
use Rattle.std.specs.Prelude.{find, bytes_eq, option_and_then, if◌then◌else◌}
use Rattle.std.specs.List.{list_any, before_first, after_first}
use Rattle.std.specs.Option.{option_map_or}

-- an option of a command: its name, without its hyphens, whether it must be there, and whether it
-- has a value
pub record OptionRow : Type 0 where
  pub name : List ℕ
  pub is_needed : Bool
  pub has_value : Bool

-- one of these options has this name, and has no value
abbrev pub is_flag : List OptionRow → List ℕ → Bool
is_flag options name =
    option_map_or (λ row. not row.has_value) (find (λ row. bytes_eq row.name name) options) false

-- one use of an option: its name, without its hyphens, and its value, which is empty where the
-- option has none
pub record Use : Type 0 where
  pub name : List ℕ
  pub value : List ℕ

-- what stands behind a hyphen
abbrev pub behind_hyphen : List ℕ → Option (List ℕ)
behind_hyphen [] = None
behind_hyphen (b ∷ rest) = if b == 45 then Some rest else None

-- an equals sign
abbrev pub is_equals : ℕ → Bool
is_equals b = b == 61

-- a name, and the value behind the first equals sign, if there is one
abbrev pub name_and_value : List ℕ → Option (List ℕ × Option (List ℕ))
name_and_value [] = None
name_and_value (b ∷ rest) =
    Some (
      before_first is_equals (b ∷ rest),
      if list_any is_equals (b ∷ rest)
          then Some (after_first is_equals (b ∷ rest)) else None,
    )

-- the option that a word names, `--name` or `--name=value`, with its value, if that stands in the
-- word
abbrev pub option_of : List ℕ → Option (List ℕ × Option (List ℕ))
option_of word = option_and_then name_and_value (option_and_then behind_hyphen (behind_hyphen word))

-- a word that may be the value of the option before it: it is one byte, also `-`, or more, of which
-- the first is no hyphen
abbrev pub is_value_word : List ℕ → Bool
is_value_word [] = false
is_value_word (b ∷ []) = true
is_value_word (b ∷ c ∷ rest) = not (b == 45)

-- a use whose value stands in the word of its option, and isn't empty
abbrev pub with_value : List ℕ → List ℕ → Option Use
with_value name [] = None
with_value name (b ∷ rest) = Some (record { name = name; value = b ∷ rest })

-- a use whose value is the next word
abbrev pub followed : List ℕ → List ℕ → Option Use
followed name next =
    if is_value_word next then Some (record { name = name; value = next }) else None

-- a use that is one word, of an option that is a flag or isn't: a flag has no value there, another
-- option has one
abbrev pub alone : Bool → List ℕ → Option (List ℕ) → Option Use
alone true name None = Some (record { name = name; value = [] })
alone true name (Some value) = None
alone false name None = None
alone false name (Some value) = with_value name value

-- a use in front of others, where all have a reading
abbrev pub in_front : Option Use → Option (List Use) → Option (List Use)
in_front (Some u) (Some rest) = Some (u ∷ rest)
in_front _ _ = None

-- the uses of an option's word, the next one, and those behind: `attached` are the uses from the
-- next word on, `apart` those behind it
abbrev pub uses_from : Bool → List ℕ → Option (List ℕ) → List ℕ → Option (List Use)
    → Option (List Use) → Option (List Use)
uses_from false name None next attached apart = in_front (followed name next) apart
uses_from false name (Some value) next attached apart =
    in_front (alone false name (Some value)) attached
uses_from true name value next attached apart = in_front (alone true name value) attached

-- the uses of a last word
abbrev pub uses_at_end : List OptionRow → Option (List ℕ × Option (List ℕ)) → Option (List Use)
uses_at_end options (Some (name, value)) =
    in_front (alone (is_flag options name) name value) (Some [])
uses_at_end options None = None

-- the uses of a word, the next one, and those behind
abbrev pub uses_before : List OptionRow → Option (List ℕ × Option (List ℕ)) → List ℕ
    → Option (List Use) → Option (List Use) → Option (List Use)
uses_before options (Some (name, value)) next attached apart =
    uses_from (is_flag options name) name value next attached apart
uses_before options None next attached apart = None

-- all uses that the words make, in their order: each is `--name` for an option without a value, and
-- else `--name=value`, or `--name` and its value as the next word
unfoldable pub uses_of : List OptionRow → List (List ℕ) → Option (List Use)
uses_of options [] = Some []
uses_of options (word ∷ []) = uses_at_end options (option_of word)
uses_of options (word ∷ next ∷ rest) =
    uses_before options (option_of word) next (uses_of options (next ∷ rest)) (uses_of options rest)
