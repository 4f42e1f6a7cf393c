-- The facts of a set in their order, one after another.
use Rattle.std.specs.Prelude.{◌≡◌, ℕ, zero, suc, Bool, true, cond, List, [], ◌∷◌, Some, refl, slice_get}
use Rattle.std.proofs.Common.{ap, ◌∙◌, subst}
use Rattle.std.specs.declared.cmp.Ordering.TheVariants.{Less, Greater}
use Rattle.std.specs.List.{find}
use Rattle.std.specs.Ordering.{is_lt, ordering_reverse}
use Rattle.std.proofs.lemmas.Cmp.{tied_itself}
use Rattle.tile_fact.proofs.OrderLaws.{fact_order}
use Rattle.tile_fact.specs.declared.fact.Fact.{Fact}
use Rattle.tile_fact.specs.Order.{fact_cmp}
use Rattle.fact_store.proofs.SetLaws.{split, less, rises-facts_in}
use Rattle.fact_store.specs.Facts.{FactSet, facts_in, least, least_above}
use Rattle.fact_store.specs.inside.SortedLists.{rises, below_each}

abbrev above : Fact → Fact → Bool
above f g = is_lt (fact_cmp f g)

pub first_above : (x : Fact) (xs : List Fact) → below_each x xs ≡ true → find (above x) xs ≡ slice_get xs 0
first_above x [] h = refl
first_above x (y ∷ ys) h = ap (λ b. cond b (Some y) (find (above x) ys)) ((split (is_lt (fact_cmp x y)) (below_each x ys) h).0)

below_later : (x f : Fact) (xs : List Fact) (i : ℕ) → below_each x xs ≡ true → slice_get xs i ≡ Some f → fact_cmp x f ≡ Less
below_later x f [] i h e = cc
below_later x f (y ∷ ys) zero h e =
    let same : y ≡ f = cc in
    subst (λ g. fact_cmp x g ≡ Less) same (less (fact_cmp x y) ((split (is_lt (fact_cmp x y)) (below_each x ys) h).0))
below_later x f (y ∷ ys) (suc i) h e = below_later x f ys i ((split (is_lt (fact_cmp x y)) (below_each x ys) h).1) e

next_in : (f : Fact) (xs : List Fact) (i : ℕ) → rises xs ≡ true → slice_get xs i ≡ Some f → find (above f) xs ≡ slice_get xs (suc i)
next_in f [] i h e = cc
next_in f (y ∷ ys) zero h e =
    let same : y ≡ f = cc in
    subst (λ g. find (above g) (y ∷ ys) ≡ slice_get (y ∷ ys) 1) same
    (ap (λ o. cond (is_lt o) (Some y) (find (above y) ys)) (tied_itself fact_order y)
    ∙ first_above y ys ((split (below_each y ys) (rises ys) h).0))
next_in f (y ∷ ys) (suc i) h e =
    let parts = split (below_each y ys) (rises ys) h in
    let lt : fact_cmp y f ≡ Less = below_later y f ys i parts.0 e in
    let gt : fact_cmp f y ≡ Greater = fact_order.antisymm f y ∙ ap ordering_reverse lt in
    ap (λ o. cond (is_lt o) (Some y) (find (above f) ys)) gt ∙ next_in f ys i parts.1 e

pub first_fact : (s : FactSet) → least s ≡ slice_get (facts_in s) 0
unfolding least
first_fact s = refl

-- behind the i-th fact comes the next one
pub next_fact : (s : FactSet) (f : Fact) (i : ℕ) → slice_get (facts_in s) i ≡ Some f → least_above s f ≡ slice_get (facts_in s) (suc i)
unfolding least_above
next_fact s f i e = next_in f (facts_in s) i (rises-facts_in s) e
