-- Totals over rows of tiles, each from what bins start from, are joined to the totals over all tiles.
use Rattle.std.proofs.Common.{ℕ, ℤ, ◌≡◌, List, [], ◌∷◌, map, refl, sym, ap, ◌∙◌}
use Rattle.std.specs.Prelude.{fold}
use Rattle.std.proofs.lemmas.List.Sums.{fold-append}
use Rattle.domains.specs.Pairs.{pairs}
use Rattle.operators.specs.declared.operator.ReductionOp.{ReductionOp}
use Rattle.reductions.specs.Bins.{joined_bins}
use Rattle.reductions.proofs.GatherOnto.{joined_bins-assoc, still_kept}

module _ (way : ReductionOp) (totals : ℕ × ℕ → List ℤ) where
  -- the bins once the totals over a tile came in
  abbrev took : List ℤ → ℕ × ℕ → List ℤ
  took bins t = joined_bins way bins (totals t)

  -- bins joined with what others are once tiles came in are what they are joined with the others, once the tiles came in
  joined_first : (xs ys : List ℤ) (tiles : List (ℕ × ℕ)) → joined_bins way xs (fold took ys tiles) ≡ fold took (joined_bins way xs ys) tiles
  joined_first xs ys [] = refl
  joined_first xs ys (t ∷ ts) =
      joined_first xs (joined_bins way ys (totals t)) ts
      ∙ ap (λ (zs : List ℤ). fold took zs ts) (sym (joined_bins-assoc way xs ys (totals t)))

  pub rows_join : (first xs : List ℤ) → joined_bins way xs first ≡ xs → (rows cols : List ℕ)
      → fold (joined_bins way) xs (map (λ i. fold took first (map (λ j. (i, j)) cols)) rows) ≡ fold took xs (pairs rows cols)
  rows_join first xs kept [] cols = refl
  rows_join first xs kept (i ∷ is) cols =
      let row : List (ℕ × ℕ) = map (λ j. (i, j)) cols in
      let more : List ℤ = fold took first row in
      rows_join first (joined_bins way xs more) (still_kept way first xs more kept) is cols
      ∙ ap (λ (zs : List ℤ). fold took zs (pairs is cols)) (joined_first xs first row ∙ ap (λ (zs : List ℤ). fold took zs row) kept)
      ∙ sym (fold-append took xs row (pairs is cols))
