-- Tiles that come in one after the other, row by row.
use Rattle.std.proofs.Common.{arith, ℕ, suc, ℤ, ◌≡◌, ◌+◌, ◌-◌, ◌<◌, ◌≤◌, sym, ap, ◌∙◌, List, ◌++◌, map, take, drop, length}
use Rattle.std.specs.Prelude.{fold}
use Rattle.std.specs.List.{range_with_len}
use Rattle.std.proofs.lemmas.Grind.{common_steps}
use Rattle.std.proofs.lemmas.List.Sums.{fold-append}
use Rattle.domains.specs.Pairs.{pairs}

abbrev pub row_of : ℕ → ℕ → ℕ → List (ℕ × ℕ)
row_of i j n = map (λ k. (i, k)) (range_with_len j n)

module _ {X : Type 0} (f : X → ℕ × ℕ → X) where
  -- one tile more of a row
  pub tile_more : (i col cols : ℕ) (x y all : X) → col < cols → fold f x (row_of i col (cols - col)) ≡ all → y ≡ f x (i, col)
      → fold f y (row_of i (col + 1) (cols - (col + 1))) ≡ all
  tile_more i col cols x y all within so is =
      let left : cols - col ≡ suc (cols - (col + 1)) = omega arith in
      ap (λ z. fold f z (row_of i (col + 1) (cols - (col + 1)))) is ∙ sym (ap (λ n. fold f x (row_of i col n)) left) ∙ so

  -- one row more
  pub row_more : (row rows : ℕ) (cols : List ℕ) (x y all : X) → row < rows → fold f x (pairs (range_with_len row (rows - row)) cols) ≡ all
      → y ≡ fold f x (map (λ j. (row, j)) cols) → fold f y (pairs (range_with_len (row + 1) (rows - (row + 1))) cols) ≡ all
  row_more row rows cols x y all within so is =
      let left : rows - row ≡ suc (rows - (row + 1)) = omega arith in
      let n : ℕ = rows - (row + 1) in
      ap (λ z. fold f z (pairs (range_with_len (row + 1) n) cols)) is
      ∙ sym (fold-append f x (map (λ j. (row, j)) cols) (pairs (range_with_len (row + 1) n) cols))
      ∙ sym (ap (λ m. fold f x (pairs (range_with_len row m) cols)) left)
      ∙ so

  pub none_came : (rows : ℕ) (cols : List ℕ) (x start all : X) → x ≡ start → fold f start (pairs (range_with_len 0 rows) cols) ≡ all
      → fold f x (pairs (range_with_len 0 (rows - 0)) cols) ≡ all
  none_came rows cols x start all is so =
      let same : rows - 0 ≡ rows = omega arith in (λ i. fold f (is i) (pairs (range_with_len 0 (same i)) cols)) ∙ so

  pub all_came : (row rows : ℕ) (cols : List ℕ) (x all : X) → rows ≤ row → fold f x (pairs (range_with_len row (rows - row)) cols) ≡ all
      → x ≡ all
  all_came row rows cols x all past so =
      let none : rows - row ≡ 0 = omega arith in sym (ap (λ n. fold f x (pairs (range_with_len row n) cols)) none) ∙ so

-- what was written to all places of a vector is what it has
pub written : (n : ℕ) (xs ys : List ℤ) → length xs ≡ length ys → n ≡ length xs → take n (xs ++ drop (length xs) ys) ≡ xs
written n xs ys long count = grind (arith, common_steps)
