-- Bins that are joined place by place.
use Rattle.std.proofs.Common.{arith, ℕ, zero, suc, ◌≡◌, ◌<◌, ℤ, List, [], ◌∷◌, length, ap, ◌∙◌, refl}
use Rattle.std.specs.Prelude.{map, fold}
use Rattle.operators.specs.declared.operator.ReductionOp.{ReductionOp}
use Rattle.job.specs.Totals.{joined}
use Rattle.tile_eval.specs.Rows.{EachPlace, at}
use Rattle.reductions.specs.Bins.{joined_bins}

-- bins of which each is joined with the other of its place
pub joined_by_places : (way : ReductionOp) (xs ys zs : List ℤ) → length ys ≡ length xs → length zs ≡ length xs
    → EachPlace (length xs) (λ k. at zs k ≡ joined way (at xs k) (at ys k)) → zs ≡ joined_bins way xs ys
joined_by_places way [] [] [] e f each = refl
joined_by_places way [] [] (z ∷ zs) e f each = absurd (omega arith)
joined_by_places way [] (y ∷ ys) zs e f each = absurd (omega arith)
joined_by_places way (x ∷ xs) [] zs e f each = absurd (omega arith)
joined_by_places way (x ∷ xs) (y ∷ ys) [] e f each = absurd (omega arith)
joined_by_places way (x ∷ xs) (y ∷ ys) (z ∷ zs) e f each =
    ap (λ (v : ℤ). v ∷ zs) (each 0 (omega arith))
    ∙ ap (λ (vs : List ℤ). joined way x y ∷ vs) (joined_by_places way xs ys zs (omega arith) (omega arith)
    (λ k h. each (suc k) (omega arith)))

-- each of the joined bins
pub at_joined : (way : ReductionOp) (xs ys : List ℤ) (k : ℕ) → k < length xs → length ys ≡ length xs
    → at (joined_bins way xs ys) k ≡ joined way (at xs k) (at ys k)
at_joined way [] ys k h e = absurd (omega arith)
at_joined way (x ∷ xs) [] k h e = absurd (omega arith)
at_joined way (x ∷ xs) (y ∷ ys) zero h e = refl
at_joined way (x ∷ xs) (y ∷ ys) (suc k) h e = at_joined way xs ys k (omega arith) (omega arith)

-- bins that are functions of the same numbers
pub joined_maps : {X : Type 0} (way : ReductionOp) (f g : X → ℤ) (bs : List X)
    → joined_bins way (map f bs) (map g bs) ≡ map (λ b. joined way (f b) (g b)) bs
joined_maps way f g [] = refl
joined_maps way f g (b ∷ bs) = ap (λ (vs : List ℤ). joined way (f b) (g b) ∷ vs) (joined_maps way f g bs)

-- and so the bins once several came, each a function of the same numbers
pub joined_all : {X T : Type 0} (way : ReductionOp) (f : X → ℤ) (g : T → X → ℤ) (bs : List X) (ts : List T)
    → fold (λ xs t. joined_bins way xs (map (g t) bs)) (map f bs) ts ≡ map (λ b. fold (λ a t. joined way a (g t b)) (f b) ts) bs
joined_all way f g bs [] = refl
joined_all {X} {T} way f g bs (t ∷ ts) =
    ap (λ (vs : List ℤ). fold (λ xs u. joined_bins way xs (map (g u) bs)) vs ts) (joined_maps way f (g t) bs)
    ∙ joined_all way (λ b. joined way (f b) (g t b)) g bs ts
