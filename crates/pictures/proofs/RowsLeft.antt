-- Lists of what stands at the points of an area, row by row.
use Rattle.std.proofs.Common.{ℕ, ℤ, ◌≡◌, sym, ap, ◌∙◌, List, ◌++◌}
use Rattle.std.proofs.lemmas.List.{append-nil}
use Rattle.tile_eval.proofs.RowByRow.{rest_of}

-- where no row is left all is made
pub no_row_left : {X : Type 0} (h : ℤ × ℤ → X) (row : ℤ) (n : ℕ) (cols : List ℤ) (made all : List X) → n ≡ 0
    → made ++ rest_of h row n cols ≡ all → made ≡ all
no_row_left h row n cols made all none so = sym (append-nil made) ∙ sym (ap (λ m. made ++ rest_of h row m cols) none) ∙ so
