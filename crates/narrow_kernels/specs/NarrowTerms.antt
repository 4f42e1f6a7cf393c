-- Sums whose terms are made of the items of a list.
use Rattle.std.specs.Prelude.{ℤ, pos, ◌+ℤ◌, List, [], ◌∷◌}

-- the terms of a list, added up exactly
abbrev pub narrow_term_sum : {A : Type 0} → (A → ℤ) → List A → ℤ
narrow_term_sum f [] = pos 0
narrow_term_sum f (x ∷ xs) = f x +ℤ narrow_term_sum f xs
