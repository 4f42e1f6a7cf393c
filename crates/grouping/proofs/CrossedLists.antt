-- Lists row by row: what stands at each place, how many there are, and which are the same.
use Rattle.std.proofs.Common.{ℕ, zero, suc, ◌+◌, ◌*◌, ◌/◌, ◌%◌, ◌<◌, ◌≤◌, ◌≡◌, ◌⊎◌, inl, inr, Some, None, List, [], ◌∷◌}
use Rattle.std.proofs.Common.{◌++◌, map, length, get_or, arith, refl, sym, ap, ◌∙◌}
use Rattle.std.specs.Prelude.{slice_get}
use Rattle.std.specs.List.{flat_map}
use Rattle.std.proofs.Math.Nat.{suc-mul, mul-le-mul_right}
use Rattle.std.proofs.lemmas.Nat.{div-add-mod'}
use Rattle.std.proofs.lemmas.List.{map-append, length-append, length-map, get_or_append_left, get_or-append-add, get_or-map, get_or_past}
use Rattle.std.proofs.lemmas.Option.{slice_get_cases, slice_get_within, get_or_from_slice_get, same_Some}
use Rattle.domains.specs.Span.{Ends}
use Rattle.tile_boxes.specs.Tallies.{area_of}
use Rattle.grouping.specs.inside.Crossed.{crossed}

-- row by row
abbrev pub by_rows : {X Y Z : Type 0} → (X → Y → Z) → List X → List Y → List Z
by_rows f xs ys = flat_map (λ x. map (f x) ys) xs

pub length-by_rows : {X Y Z : Type 0} (f : X → Y → Z) (xs : List X) (ys : List Y) → length (by_rows f xs ys) ≡ length xs * length ys
length-by_rows f [] ys = omega arith
length-by_rows f (x ∷ xs) ys =
    omega (arith, length-append (map (f x) ys) (by_rows f xs ys), length-map ys (f x), length-by_rows f xs ys, suc-mul (length xs) (length ys))

-- what stands in a row and a column
pub at_row : {X Y Z : Type 0} (f : X → Y → Z) (xs : List X) (ys : List Y) (i j : ℕ) (x : X) (y : Y) (d : Z) → slice_get xs i ≡ Some x
    → slice_get ys j ≡ Some y → get_or (by_rows f xs ys) (i * length ys + j) d ≡ f x y
at_row f [] ys i j x y d row col = absurd (cc)
at_row f (z ∷ zs) ys zero j x y d row col =
    let low = slice_get_within ys j y col in
    let place : 0 * length ys + j ≡ j = omega arith in
    let inside : j < length (map (f z) ys) = omega (arith, length-map ys (f z), low) in
    ap (λ k. get_or (by_rows f (z ∷ zs) ys) k d) place
    ∙ get_or_append_left (map (f z) ys) (by_rows f zs ys) d j inside
    ∙ get_or-map (f z) ys j y d low
    ∙ ap (f z) (get_or_from_slice_get ys j y y col)
    ∙ ap (λ w. f w y) (same_Some z x row)
at_row f (z ∷ zs) ys (suc i) j x y d row col =
    let place : suc i * length ys + j ≡ length (map (f z) ys) + (i * length ys + j) =
    omega (arith, suc-mul i (length ys), length-map ys (f z)) in
    ap (λ k. get_or (by_rows f (z ∷ zs) ys) k d) place
    ∙ get_or-append-add (map (f z) ys) (by_rows f zs ys) (i * length ys + j) d
    ∙ at_row f zs ys i j x y d row col

pub map_by_rows : {X Y Z W : Type 0} (g : Z → W) (f : X → Y → Z) (xs : List X) (ys : List Y)
    → map g (by_rows f xs ys) ≡ by_rows (λ x y. g (f x y)) xs ys
map_by_rows g f [] ys = refl
map_by_rows g f (x ∷ xs) ys =
    map-append g (map (f x) ys) (by_rows f xs ys) ∙ (λ i. one ys i ++ map_by_rows g f xs ys i)
  where
    one : (zs : List _) → map g (map (f x) zs) ≡ map (λ y. g (f x y)) zs
    one [] = refl
    one (z ∷ zs) = ap (λ ws. g (f x z) ∷ ws) (one zs)

-- two lists have the same at each place
same_row : {Y V Z : Type 0} (f : Y → Z) (g : V → Z) (ys : List Y) (vs : List V) → length ys ≡ length vs
    → ((j : ℕ) (y : Y) (v : V) → slice_get ys j ≡ Some y → slice_get vs j ≡ Some v → f y ≡ g v) → map f ys ≡ map g vs
same_row f g [] [] count same = refl
same_row f g [] (v ∷ vs) count same = absurd (omega arith)
same_row f g (y ∷ ys) [] count same = absurd (omega arith)
same_row f g (y ∷ ys) (v ∷ vs) count same =
    let rest = same_row f g ys vs (omega arith) (λ j. same (suc j)) in
    (λ i. same 0 y v refl refl i ∷ rest i)

pub same_by_rows : {X Y U V Z : Type 0} (f : X → Y → Z) (g : U → V → Z) (xs : List X) (ys : List Y) (us : List U) (vs : List V)
    → length xs ≡ length us → length ys ≡ length vs
    → ((i j : ℕ) (x : X) (y : Y) (u : U) (v : V) → slice_get xs i ≡ Some x → slice_get ys j ≡ Some y → slice_get us i ≡ Some u
    → slice_get vs j ≡ Some v → f x y ≡ g u v) → by_rows f xs ys ≡ by_rows g us vs
same_by_rows f g [] ys [] vs rows cols same = refl
same_by_rows f g [] ys (u ∷ us) vs rows cols same = absurd (omega arith)
same_by_rows f g (x ∷ xs) ys [] vs rows cols same = absurd (omega arith)
same_by_rows f g (x ∷ xs) ys (u ∷ us) vs rows cols same =
    let here = same_row (f x) (g u) ys vs cols (λ j y v at at'. same 0 j x y u v refl at refl at') in
    let rest = same_by_rows f g xs ys us vs (omega arith) cols (λ i j x' y u' v a b c d. same (suc i) j x' y u' v a b c d) in
    (λ i. here i ++ rest i)

-- ---- areas

-- past the last row there is none
pub none_crossed : (rows cols : List Ends) (k : ℕ) → slice_get rows (k / length cols) ≡ None → get_or (crossed rows cols) k None ≡ None
none_crossed rows cols k none = get_or_past (crossed rows cols) k None (from (slice_get_cases rows (k / length cols)).1)
  where
    from : ((r : Ends) × (k / length cols < length rows) × (slice_get rows (k / length cols) ≡ Some r)
        × (get_or rows (k / length cols) r ≡ r)) ⊎ ((length rows ≤ k / length cols) × (slice_get rows (k / length cols) ≡ None))
        → length (crossed rows cols) ≤ k
    from (inl (r, low, is, same)) = absurd (cc)
    from (inr (past, is)) =
        omega (arith, length-by_rows (λ r c. Some (area_of r c)) rows cols, mul-le-mul_right (length cols) past, div-add-mod' k (length cols))

pub one_crossed : (rows cols : List Ends) (k : ℕ) (r c : Ends) → slice_get rows (k / length cols) ≡ Some r
    → slice_get cols (k % length cols) ≡ Some c → get_or (crossed rows cols) k None ≡ Some (area_of r c)
one_crossed rows cols k r c row col =
    ap (λ n. get_or (crossed rows cols) n None) (sym (div-add-mod' k (length cols)))
    ∙ at_row (λ r c. Some (area_of r c)) rows cols (k / length cols) (k % length cols) r c None row col

pub empty_crossed : (rows cols : List Ends) (k : ℕ) → length cols ≡ 0 → get_or (crossed rows cols) k None ≡ None
empty_crossed rows cols k none =
    let count : length rows * length cols ≡ 0 = ap (λ n. length rows * n) none ∙ (let e : length rows * 0 ≡ 0 = omega arith in e) in
    get_or_past (crossed rows cols) k None (omega (arith, length-by_rows (λ r c. Some (area_of r c)) rows cols, count))
