-- What holds of the members of lists at their places.
use Rattle.std.specs.Prelude.{◌≡◌, ℕ, List, [], ◌∷◌, Some, slice_get}

-- each member of the list has what its place asks for
abbrev pub EachAt : {X : Type 0} → (ℕ → X → Type 0) → List X → Type 0
EachAt {X = X} holds xs = (place : ℕ) (x : X) → slice_get xs place ≡ Some x → holds place x

-- the lists are equally long, and each member of the second belongs to the one at its place in the first
abbrev pub BelongTogether : {X Y : Type 0} → (X → Y → Type 0) → List X → List Y → Type 0
BelongTogether belongs [] [] = Unit {0}
BelongTogether belongs [] (y ∷ ys) = ⊥
BelongTogether belongs (x ∷ xs) [] = ⊥
BelongTogether belongs (x ∷ xs) (y ∷ ys) = belongs x y × BelongTogether belongs xs ys
