-- What single words spell: numbers of options, and values of parameters.
use Rattle.std.specs.Prelude.{◌≡◌, ◌≢◌, ℕ, ℤ, ◌<◌, ◌^◌, ◌==◌, Bool, false, codes, Option, Some, None, List, length, slice_index}
use Rattle.std.specs.Str.Parse.{IsNumeral, digits_value, signed_digits_value, without_leading_sign}
use Rattle.std.specs.List.{after_first, before_first, position_or_len}
use Rattle.std.specs.Option.{option_map_or}
use Rattle.std.specs.Str.{bytes_eq}
use mir.Syntax.{w32}
use mir.Val.{SFits}

-- digits alone, of a number within 32 bits
pub record SpellsNumber (text : List ℕ) (n : ℕ) : Type 0 where
  pub digits : IsNumeral 10 text
  pub value : n ≡ digits_value 10 text
  pub fits : n < 2 ^ 32

-- `-` or nothing, and digits, of a number within 32 bits with a sign
pub record SpellsValue (text : List ℕ) (z : ℤ) : Type 0 where
  pub no_plus : slice_index text 0 ≢ 43
  pub digits : IsNumeral 10 (without_leading_sign text)
  pub value : z ≡ signed_digits_value 10 text
  pub fits : SFits w32 z

-- the number of an option: its value spells it, or it is the usual one if the option is absent
abbrev pub IsChosen : Option (List ℕ) → ℕ → ℕ → Type 0
IsChosen None usual n = n ≡ usual
IsChosen (Some text) usual n = SpellsNumber text n

-- a flag that is given has the value `true`
abbrev pub is_true : Option (List ℕ) → Bool
is_true given = option_map_or (λ t. bytes_eq t (codes "true")) given false

-- `NAME=VALUE`: the name is all that comes before the first `=`
pub record SpellsParameter (word name : List ℕ) (z : ℤ) : Type 0 where
  pub equals : position_or_len (λ b. b == 61) word < length word
  pub front : name ≡ before_first (λ b. b == 61) word
  pub back : SpellsValue (after_first (λ b. b == 61) word) z
