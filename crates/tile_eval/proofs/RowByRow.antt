-- Lists of what stands at the points of an area, that are made row by row.
use Rattle.std.proofs.Common.{arith, ℕ, zero, suc, ℤ, pos, ◌≡◌, ◌+◌, ◌-◌, ◌<◌}
use Rattle.std.proofs.Common.{◌+ℤ◌, refl, sym, ap, ◌∙◌, List, [], ◌∷◌, ◌++◌, map, length, append_assoc}
use Rattle.std.proofs.Math.IntN.{+ℤ_idr}
use Rattle.std.proofs.lemmas.Int.{ints}
use Rattle.std.proofs.lemmas.List.{append-nil, map-append}
use Rattle.std.proofs.lemmas.Simd.{map-map}
use Rattle.domains.specs.Pairs.{pairs}
use Rattle.domains.specs.Span.{len_of, numbers_from, numbers_of}
use Rattle.domains.specs.Area.{points_of}
use Rattle.domains.specs.declared.area.Area.{Area}
use Rattle.row_loops.specs.Rows.{EachPlace, at}

next : (b : ℤ) (k : ℕ) → b +ℤ pos (suc k) ≡ b +ℤ pos 1 +ℤ pos k
next b k = omega (arith, ints)

-- numbers that are those of f along a row are its values
pub line_is : (f : ℤ → ℤ) (first : ℤ) (n : ℕ) (xs : List ℤ) → length xs ≡ n → EachPlace n (λ k. at xs k ≡ f (first +ℤ pos k))
    → xs ≡ map f (numbers_from first n)
line_is f first zero [] long each = refl
line_is f first zero (x ∷ xs) long each = absurd (omega arith)
line_is f first (suc n) [] long each = absurd (omega arith)
line_is f first (suc n) (x ∷ xs) long each =
    let here : x ≡ f first = each 0 (omega arith) ∙ ap f (+ℤ_idr first) in
    let rest = line_is f (first +ℤ pos 1) n xs (omega arith) (λ k h. each (suc k) (omega arith) ∙ ap f (next first k)) in
    λ i. here i ∷ rest i

-- what is left of an area from a row on, where n rows are left
abbrev pub rest_of : {X : Type 0} → (ℤ × ℤ → X) → ℤ → ℕ → List ℤ → List X
rest_of h row n cols = map h (pairs (numbers_from row n) cols)

first_row : {X : Type 0} (h : ℤ × ℤ → X) (row : ℤ) (n : ℕ) (cols : List ℤ)
    → rest_of h row (suc n) cols ≡ map (λ c. h (row, c)) cols ++ rest_of h (row +ℤ pos 1) n cols
first_row h row n cols =
    map-append h (map (λ c. (row, c)) cols) (pairs (numbers_from (row +ℤ pos 1) n) cols)
    ∙ ap (λ xs. xs ++ rest_of h (row +ℤ pos 1) n cols) (map-map h (λ (c : ℤ). (row, c)) cols)

-- one row more is made
pub row_made : {X : Type 0} (h : ℤ × ℤ → X) (first row : ℤ) (place count : ℕ) (cols : List ℤ) (made more all : List X) → place < count
    → row ≡ first +ℤ pos place
    → made ++ rest_of h (first +ℤ pos place) (count - place) cols ≡ all → more ≡ made ++ map (λ c. h (row, c)) cols
    → more ++ rest_of h (first +ℤ pos (place + 1)) (count - (place + 1)) cols ≡ all
row_made h first row place count cols made more all within at_row so is =
    let left : count - place ≡ suc (count - (place + 1)) = omega arith in
    let below : first +ℤ pos (place + 1) ≡ row +ℤ pos 1 = omega (arith, ints) in
    let n : ℕ = count - (place + 1) in
    (λ i. is i ++ rest_of h (below i) n cols)
    ∙ append_assoc made (map (λ c. h (row, c)) cols) (rest_of h (row +ℤ pos 1) n cols)
    ∙ ap (λ xs. made ++ xs) (sym (first_row h row n cols))
    ∙ (λ i. made ++ rest_of h (at_row i) (sym left i) cols)
    ∙ so

pub none_made : {X : Type 0} (h : ℤ × ℤ → X) (area : Area)
    → rest_of h (area.rows.lo +ℤ pos 0) (len_of area.rows - 0) (numbers_of area.cols) ≡ map h (points_of area)
none_made h area =
    let all : len_of area.rows - 0 ≡ len_of area.rows = omega arith in λ i. rest_of h (+ℤ_idr area.rows.lo i) (all i) (numbers_of area.cols)

pub all_made : {X : Type 0} (h : ℤ × ℤ → X) (area : Area) (count : ℕ) (made : List X) → count ≡ len_of area.rows
    → made ++ rest_of h (area.rows.lo +ℤ pos count) (len_of area.rows - count) (numbers_of area.cols) ≡ map h (points_of area)
    → made ≡ map h (points_of area)
all_made h area count made whole so =
    let none : len_of area.rows - count ≡ 0 = omega arith in
    sym (append-nil made) ∙ sym (ap (λ n. made ++ rest_of h (area.rows.lo +ℤ pos count) n (numbers_of area.cols)) none) ∙ so
