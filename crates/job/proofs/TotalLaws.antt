-- Totals over an area follow from what is read at its points, and totals of parts join to those of the whole.
use Rattle.std.proofs.Common.{◌≡◌, ℤ, List, [], ◌∷◌, Bool, true, false, cond, ap, ◌∙◌, refl}
use Rattle.std.specs.Prelude.{All, Contains, map, filter}
use Rattle.std.specs.Ordering.{int_eq}
use Rattle.std.proofs.lemmas.List.Elements.{All-head, All-tail, All-weaker, All-contains_itself}
use Rattle.domains.specs.Span.{numbers_of}
use Rattle.domains.specs.Area.{HoldsPoint, IsArea, points_of}
use Rattle.domains.specs.declared.area.Area.{Area}
use Rattle.domains.proofs.Areas.{Contains-points_of}
use Rattle.job.specs.Formula.{Formula}
use Rattle.job.specs.Pipeline.{Body, plane, function, accumulator}
use Rattle.job.specs.Values.{Valuation, formula_value}
use Rattle.job.specs.Reads.{EachRead, SameAt, BodyReads}
use Rattle.job.specs.Totals.{total_of, values_in_bin, body_totals}
use Rattle.job.proofs.Agreeing.{formula_value-agrees}

-- ---- the values in a bin

pub map_same : {X Y : Type 0} (f g : X → Y) (xs : List X) → ((x : X) → f x ≡ g x) → map f xs ≡ map g xs
map_same f g [] same = refl
map_same {X} {Y} f g (x ∷ xs) same = ap (λ (y : Y). y ∷ map f xs) (same x) ∙ ap (λ (ys : List Y). g x ∷ ys) (map_same f g xs same)

module _ (f g : ℤ × ℤ → ℤ) (p q : ℤ × ℤ → Bool) where
  Agrees : ℤ × ℤ → Type 0
  Agrees t = (f t ≡ g t) × (p t ≡ q t)

  kept_same : (b : Bool) (t : ℤ × ℤ) (xs ys : List (ℤ × ℤ)) → f t ≡ g t → map f xs ≡ map g ys
      → map f (cond b (t ∷ xs) xs) ≡ map g (cond b (t ∷ ys) ys)
  kept_same true t xs ys here rest = ap (λ (v : ℤ). v ∷ map f xs) here ∙ ap (λ (vs : List ℤ). g t ∷ vs) rest
  kept_same false t xs ys here rest = rest

  pub filtered_same : (ts : List (ℤ × ℤ)) → All (λ t. (f t ≡ g t) × (p t ≡ q t)) ts → map f (filter p ts) ≡ map g (filter q ts)
  filtered_same [] same = refl
  filtered_same (t ∷ ts) same =
      let here = All-head (λ u. (f u ≡ g u) × (p u ≡ q u)) t ts same in
      ap (λ (b : Bool). map f (cond b (t ∷ filter p ts) (filter p ts))) here.1
      ∙ kept_same (q t) t (filter p ts) (filter q ts) here.0 (filtered_same ts (All-tail (λ u. (f u ≡ g u) × (p u ≡ q u)) t ts same))

pub points_inside : (a : Area) → IsArea a → All (λ t. HoldsPoint a t.0 t.1) (points_of a)
points_inside a h =
    All-weaker (Contains (points_of a)) (λ t. HoldsPoint a t.0 t.1) (λ t there. (Contains-points_of a t.0 t.1 h).0 there) (points_of a)
    (All-contains_itself (points_of a))

module _ (e h : Valuation) (area : Area) (is : IsArea area) where
  values_in_bin-agrees : (value bin : Formula)
      → ((r c : ℤ) → HoldsPoint area r c → EachRead (SameAt e h) value r c × EachRead (SameAt e h) bin r c) → (b : ℤ)
      → values_in_bin e value bin area b ≡ values_in_bin h value bin area b
  values_in_bin-agrees value bin same b =
      filtered_same (λ t. formula_value e value t.0 t.1) (λ t. formula_value h value t.0 t.1) (λ t. int_eq (formula_value e bin t.0 t.1) b)
      (λ t. int_eq (formula_value h bin t.0 t.1) b) (points_of area)
      (All-weaker (λ t. HoldsPoint area t.0 t.1) (λ t. (formula_value e value t.0 t.1 ≡ formula_value h value t.0 t.1)
      × (int_eq (formula_value e bin t.0 t.1) b ≡ int_eq (formula_value h bin t.0 t.1) b))
      (λ t inside. let both = same t.0 t.1 inside in
      (formula_value-agrees e h t.0 t.1 value both.0, ap (λ (z : ℤ). int_eq z b) (formula_value-agrees e h t.0 t.1 bin both.1)))
      (points_of area) (points_inside area is))

  pub body_totals-agrees : (body : Body) → ((r c : ℤ) → HoldsPoint area r c → BodyReads (SameAt e h) body r c)
      → body_totals e area body ≡ body_totals h area body
  body_totals-agrees (plane n) same = refl
  body_totals-agrees (function cases otherwise) same = refl
  body_totals-agrees (accumulator way bins value bin) same =
      map_same (λ b. total_of way (values_in_bin e value bin area b)) (λ b. total_of way (values_in_bin h value bin area b))
      (numbers_of bins) (λ b. ap (total_of way) (values_in_bin-agrees value bin same b))
