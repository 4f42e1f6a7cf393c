-- Lists that rise.
use Rattle.std.proofs.Common.{◌≡◌, ◌||◌, true, false, Bool, List, [], ◌∷◌, ◌++◌, Option, None, Some, refl, ap, ◌∙◌}
use Rattle.std.specs.Cmp.{IsTotalOrder}
use Rattle.std.specs.List.{list_any}
use Rattle.std.specs.declared.cmp.Ordering.{Ordering}
use Rattle.std.specs.declared.cmp.Ordering.TheVariants.{Less, Equal, Greater}
use Rattle.std.specs.Ordering.{is_lt, is_eq, eq_by_cmp, ordering_reverse}
use Rattle.std.specs.Prelude.{IfSome}
use Rattle.tile_fact.specs.Order.{RisesBehind}
use Rattle.tile_fact.specs.Reading.{is_above}

-- the last of some things, or the one before them
abbrev pub last_after : {X : Type 0} → Option X → List X → Option X
last_after last [] = last
last_after last (x ∷ xs) = last_after (Some x) xs

below_of : (r : Ordering) → is_lt r ≡ true → r ≡ Less
below_of Less h = refl
below_of Equal h = absurd cc
below_of Greater h = absurd cc

pub above_of : {X : Type 0} (cmp : X → X → Ordering) (last : Option X) (x : X) → is_above cmp last x ≡ true
    → IfSome last (λ before. cmp before x ≡ Less)
above_of cmp None x h = tt
above_of cmp (Some last) x h = below_of (cmp last x) h

pub is_above_of : {X : Type 0} (cmp : X → X → Ordering) (last : Option X) (x : X) → IfSome last (λ before. cmp before x ≡ Less)
    → is_above cmp last x ≡ true
is_above_of cmp None x h = refl
is_above_of cmp (Some last) x h = ap is_lt h

pub rises_more : {X : Type 0} (cmp : X → X → Ordering) (last : Option X) (xs : List X) (x : X) → RisesBehind cmp last xs
    → is_above cmp (last_after last xs) x ≡ true → RisesBehind cmp last (xs ++ x ∷ [])
rises_more cmp last [] x h above = (above_of cmp last x above, tt)
rises_more cmp last (y ∷ ys) x h above = (h.0, rises_more cmp (Some y) ys x h.1 above)

pub rises_last : {X : Type 0} (cmp : X → X → Ordering) (last : Option X) (xs : List X) (x : X) → RisesBehind cmp last (xs ++ x ∷ [])
    → is_above cmp (last_after last xs) x ≡ true
rises_last cmp last [] x h = is_above_of cmp last x h.0
rises_last cmp last (y ∷ ys) x h = rises_last cmp (Some y) ys x h.1

pub last_of_more : {X : Type 0} (last : Option X) (xs : List X) (x : X) → last_after last (xs ++ x ∷ []) ≡ Some x
last_of_more last [] x = refl
last_of_more last (y ∷ ys) x = last_of_more (Some y) ys x

pub not_rising : {X : Type 0} (cmp : X → X → Ordering) (xs : List X) (x : X) → is_above cmp (last_after None xs) x ≡ false
    → ¬ RisesBehind cmp None (xs ++ x ∷ [])
not_rising cmp xs x low rises = absurd (true_false (is_above cmp (last_after None xs) x) (rises_last cmp None xs x rises) low)
  where
    true_false : (b : Bool) → b ≡ true → b ≡ false → ⊥
    true_false true h k = cc
    true_false false h k = cc

-- ---- a thing in the middle

pub rises_front : {X : Type 0} (cmp : X → X → Ordering) (last : Option X) (xs ys : List X) → RisesBehind cmp last (xs ++ ys)
    → RisesBehind cmp last xs
rises_front cmp last [] ys h = tt
rises_front cmp last (x ∷ xs) ys h = (h.0, rises_front cmp (Some x) xs ys h.1)

rises_anew : {X : Type 0} (cmp : X → X → Ordering) (last : Option X) (xs : List X) → RisesBehind cmp last xs → RisesBehind cmp None xs
rises_anew cmp last [] h = tt
rises_anew cmp last (x ∷ xs) h = (tt, h.1)

pub rises_back : {X : Type 0} (cmp : X → X → Ordering) (last : Option X) (xs : List X) (y : X) (ys : List X)
    → RisesBehind cmp last (xs ++ y ∷ ys) → RisesBehind cmp None ys
rises_back cmp last [] y ys h = rises_anew cmp (Some y) ys h.1
rises_back cmp last (x ∷ xs) y ys h = rises_back cmp (Some x) xs y ys h.1

differ : (a b : Bool) → a ≡ false → (a || b) ≡ b
differ true b h = cc
differ false b h = refl

both_false : (a b : Bool) → a ≡ false → b ≡ false → (a || b) ≡ false
both_false a b h k = differ a b h ∙ k

module _ {X : Type 0} (cmp : X → X → Ordering) (order : IsTotalOrder cmp) where
  low_differs : (w x : X) → cmp x w ≡ Less → eq_by_cmp cmp w x ≡ false
  low_differs w x below = ap is_eq (order.antisymm w x ∙ ap ordering_reverse below)

  high_differs : (w x : X) → cmp w x ≡ Less → eq_by_cmp cmp w x ≡ false
  high_differs w x below = ap is_eq below

  pub none_above : (w last : X) (xs : List X) → cmp w last ≡ Less → RisesBehind cmp (Some last) xs → list_any (eq_by_cmp cmp w) xs ≡ false
  none_above w last [] below h = refl
  none_above w last (x ∷ xs) below h =
      let next : cmp w x ≡ Less = order.trans w last x below h.0 in
      both_false (eq_by_cmp cmp w x) (list_any (eq_by_cmp cmp w) xs) (high_differs w x next) (none_above w x xs next h.1)

  pub first_below : (x : X) (xs : List X) (y : X) (ys : List X) → RisesBehind cmp (Some x) (xs ++ y ∷ ys) → cmp x y ≡ Less
  first_below x [] y ys h = h.0
  first_below x (z ∷ zs) y ys h = order.trans x z y h.0 (first_below z zs y ys h.1)

  -- those up to y are all another than w, which is above y
  pub none_below : (w : X) (last : Option X) (xs : List X) (y : X) (ys : List X) → RisesBehind cmp last (xs ++ y ∷ ys) → cmp y w ≡ Less
      → list_any (eq_by_cmp cmp w) (xs ++ y ∷ ys) ≡ list_any (eq_by_cmp cmp w) ys
  none_below w last [] y ys h below = differ (eq_by_cmp cmp w y) (list_any (eq_by_cmp cmp w) ys) (low_differs w y below)
  none_below w last (x ∷ xs) y ys h below =
      let low : cmp x w ≡ Less = order.trans x y w (first_below x xs y ys h.1) below in
      differ (eq_by_cmp cmp w x) (list_any (eq_by_cmp cmp w) (xs ++ y ∷ ys)) (low_differs w x low)
      ∙ none_below w (Some x) xs y ys h.1 below

  -- those from y on are all another than w, which is below y
  pub only_front : (w : X) (last : Option X) (xs : List X) (y : X) (ys : List X) → RisesBehind cmp last (xs ++ y ∷ ys) → cmp w y ≡ Less
      → list_any (eq_by_cmp cmp w) (xs ++ y ∷ ys) ≡ list_any (eq_by_cmp cmp w) xs
  only_front w last [] y ys h below =
      both_false (eq_by_cmp cmp w y) (list_any (eq_by_cmp cmp w) ys) (high_differs w y below) (none_above w y ys below h.1)
  only_front w last (x ∷ xs) y ys h below =
      ap (λ (b : Bool). eq_by_cmp cmp w x || b) (only_front w (Some x) xs y ys h.1 below)

  pub found_here : (w : X) (xs : List X) (y : X) (ys : List X) → cmp w y ≡ Equal → list_any (eq_by_cmp cmp w) (xs ++ y ∷ ys) ≡ true
  found_here w [] y ys same = ap (λ (o : Ordering). is_eq o || list_any (eq_by_cmp cmp w) ys) same
  found_here w (x ∷ xs) y ys same = ap (λ (b : Bool). eq_by_cmp cmp w x || b) (found_here w xs y ys same) ∙ or_true (eq_by_cmp cmp w x)
    where
      or_true : (b : Bool) → (b || true) ≡ true
      or_true true = refl
      or_true false = refl
