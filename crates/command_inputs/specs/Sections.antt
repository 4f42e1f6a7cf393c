-- The sections of the input, split at lines that are exactly the separator: the first one, and for three sections also the first
-- one after it.
use Rattle.std.specs.Prelude.{◌≡◌, ◌⊎◌, ℕ, ◌+◌, ◌-◌, ◌<◌, ◌==◌, ◌||◌}
use Rattle.std.specs.Prelude.{◌&&◌, Bool, IsTrue, List, [], ◌∷◌, length, take, drop, slice_index, nat_eq}
use Rattle.std.specs.List.{starts_with}

-- two percent signs and a line feed
abbrev pub separator : List ℕ
separator = 37 ∷ 37 ∷ 10 ∷ []

-- a line begins at this offset
abbrev pub begins_line : List ℕ → ℕ → Bool
begins_line input at = (at == 0) || (slice_index input (at - 1) == 10)

-- the line at this offset is exactly the separator
abbrev pub separates : List ℕ → ℕ → Bool
separates input at = begins_line input at && starts_with nat_eq (drop at input) separator

-- the first separator is at this offset
pub record IsFirstSeparator (input : List ℕ) (at : ℕ) : Type 0 where
  pub here : IsTrue (separates input at)
  pub within : at < length input
  pub none_before : (k : ℕ) → k < at → ¬ IsTrue (separates input k)

-- no line is a separator
abbrev pub HasNoSeparator : List ℕ → Type 0
HasNoSeparator input = (k : ℕ) → k < length input → ¬ IsTrue (separates input k)

-- ---- two sections

-- the first separator line splits what is before it from the rest, whatever this holds
pub record IsParted (input text rest : List ℕ) : Type 0 where
  pub at : ℕ
  pub first : IsFirstSeparator input at
  pub before : text ≡ take at input
  pub behind : rest ≡ drop (at + 3) input

-- ---- three sections

-- the first separator line and the first one after it split the input into three sections. The last is the rest, whatever it
-- holds
pub record IsPartedInThree (input text middle rest : List ℕ) : Type 0 where
  pub behind : List ℕ
  pub first : IsParted input text behind
  pub second : IsParted behind middle rest

-- no line is a separator, or none after the first one
abbrev pub LacksSeparator : List ℕ → Type 0
LacksSeparator input = HasNoSeparator input ⊎ ((text behind : List ℕ) × IsParted input text behind × HasNoSeparator behind)
