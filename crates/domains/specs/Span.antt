-- A span is the set of the whole numbers from one end to the other, both included.
use Rattle.std.specs.Prelude.{ℕ, zero, suc, ℤ, pos, negsuc, ◌+ℤ◌, ◌≤ℤ◌, ◌↔◌, List, [], ◌∷◌}
use Rattle.std.specs.Int.{int_min, int_max, int_gap}

-- how contracts see a span: by its two ends
pub record Ends : Type 0 where
  pub lo : ℤ
  pub hi : ℤ

-- v is a number of the span
abbrev pub Holds : Ends → ℤ → Type 0
Holds s v = (s.lo ≤ℤ v) × (v ≤ℤ s.hi)

-- what holds of each Span of the program: it is not empty, and its ends lie within 1,048,576 of 0
pub record IsSpan (s : Ends) : Type 0 where
  pub least : negsuc 1048575 ≤ℤ s.lo
  pub ordered : s.lo ≤ℤ s.hi
  pub most : s.hi ≤ℤ pos 1048576

-- each number of a is one of b
abbrev pub IsSubspan : Ends → Ends → Type 0
IsSubspan a b = (v : ℤ) → Holds a v → Holds b v

-- m is the intersection of a and b
abbrev pub IsMeet : Ends → Ends → Ends → Type 0
IsMeet a b m = (v : ℤ) → Holds m v ↔ (Holds a v × Holds b v)

-- a and b have no number in common
abbrev pub AreApart : Ends → Ends → Type 0
AreApart a b = (v : ℤ) → ¬ (Holds a v × Holds b v)

-- h is the least span that holds both a and b
pub record IsHull (a b h : Ends) : Type 0 where
  pub first : IsSubspan a h
  pub second : IsSubspan b h
  pub least : (s : Ends) → IsSubspan a s → IsSubspan b s → IsSubspan h s

-- the intersection of two spans that have a number in common, by its ends
abbrev pub meet_of : Ends → Ends → Ends
meet_of a b = record { lo = int_max a.lo b.lo; hi = int_min a.hi b.hi }

-- the least span that holds both spans, by its ends
abbrev pub hull_of : Ends → Ends → Ends
hull_of a b = record { lo = int_min a.lo b.lo; hi = int_max a.hi b.hi }

-- n numbers, from v on
abbrev pub numbers_from : ℤ → ℕ → List ℤ
numbers_from v zero = []
numbers_from v (suc n) = v ∷ numbers_from (v +ℤ pos 1) n

-- how many numbers a span has
abbrev pub len_of : Ends → ℕ
len_of s = int_gap s.lo (s.hi +ℤ pos 1)

-- the numbers of a span, rising
abbrev pub numbers_of : Ends → List ℤ
numbers_of s = numbers_from s.lo (len_of s)
