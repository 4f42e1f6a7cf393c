-- Bins in two tables, of which each has a part of a bin's content.
use Rattle.std.proofs.Common.{arith, inl, inr, ℕ, zero, suc, ◌≡◌, ◌<◌, ◌≤◌, ℤ, pos, ◌+ℤ◌, w64, FitsSigned, Bool, true, false, List, [], ◌∷◌, ◌++◌, drop, length}
use Rattle.std.proofs.Common.{ap, sym, ◌∙◌, refl, replicate}
use Rattle.std.specs.Prelude.{◌⊎◌, map, slice_index}
use Rattle.std.specs.Ordering.{int_eq}
use Rattle.std.proofs.Math.IntN.{+ℤ_idr}
use Rattle.std.proofs.lemmas.Bool.{cases_lt}
use Rattle.std.proofs.lemmas.Int.{ints, int_wrap_fits}
use Rattle.std.proofs.lemmas.List.{get_or-map, get_or_past, drop_all}
use Rattle.domains.specs.Arithmetic.{wrapped_long}
use Rattle.operators.specs.declared.operator.ReductionOp.TheVariants.{Sum}
use Rattle.job.specs.Totals.{joined}
use Rattle.tile_eval.specs.Rows.{EachPlace, at}
use Rattle.reductions.specs.Bins.{joined_bins}
use Rattle.reductions.specs.inside.Gathering.{once_came, after_values, values_of_bin}
use Rattle.reductions.proofs.TakeValues.{not_here, other_place, one_more, at_same, same_long}
use Rattle.reductions.proofs.TotalsInAnyOrder.{joined-comm, joined-assoc}

-- the bin of a byte is the byte
pub byte_bin : (bytes : List ℕ) (k place : ℕ) → k < length bytes → place ≡ slice_index bytes k
    → pos 0 +ℤ pos place ≡ at (map pos bytes) k
byte_bin bytes k place h is =
    let zero : pos 0 +ℤ pos place ≡ pos place = omega (arith, ints) in
    zero ∙ ap pos is ∙ sym (get_or-map pos bytes k 0 (pos 0) h)

-- ---- a value that comes to one of two parts

left_came : (here : Bool) (x y v : ℤ) → joined Sum (once_came Sum here x v) y ≡ once_came Sum here (joined Sum x y) v
left_came true x y v = joined-assoc Sum x v y ∙ ap (joined Sum x) (joined-comm Sum v y) ∙ sym (joined-assoc Sum x y v)
left_came false x y v = refl

right_came : (here : Bool) (x y v : ℤ) → joined Sum x (once_came Sum here y v) ≡ once_came Sum here (joined Sum x y) v
right_came true x y v = sym (joined-assoc Sum x y v)
right_came false x y v = refl

-- one value more is in the first part
pub first_more : (vs cs : List ℤ) (b : ℤ) (k : ℕ) (x y new first : ℤ) → k < length vs → length cs ≡ length vs
    → new ≡ once_came Sum (int_eq (at cs k) b) x (at vs k)
    → after_values Sum (joined Sum x y) (values_of_bin (drop k vs) (drop k cs) b) ≡ first
    → after_values Sum (joined Sum new y) (values_of_bin (drop (suc k) vs) (drop (suc k) cs) b) ≡ first
first_more vs cs b k x y new first below len is before =
    one_more Sum vs cs b k (joined Sum x y) (joined Sum new y) first below len
    (ap (λ (z : ℤ). joined Sum z y) is ∙ left_came (int_eq (at cs k) b) x y (at vs k)) before

-- and in the second
pub second_more : (vs cs : List ℤ) (b : ℤ) (k : ℕ) (x y new first : ℤ) → k < length vs → length cs ≡ length vs
    → new ≡ once_came Sum (int_eq (at cs k) b) y (at vs k)
    → after_values Sum (joined Sum x y) (values_of_bin (drop k vs) (drop k cs) b) ≡ first
    → after_values Sum (joined Sum x new) (values_of_bin (drop (suc k) vs) (drop (suc k) cs) b) ≡ first
second_more vs cs b k x y new first below len is before =
    one_more Sum vs cs b k (joined Sum x y) (joined Sum x new) first below len
    (ap (joined Sum x) is ∙ right_came (int_eq (at cs k) b) x y (at vs k)) before

-- no value is left
pub none_left : (vs cs : List ℤ) (b : ℤ) (k : ℕ) (x first : ℤ) → length vs ≤ k
    → after_values Sum x (values_of_bin (drop k vs) (drop k cs) b) ≡ first → x ≡ first
none_left vs cs b k x first past before =
    ap (λ (ws : List ℤ). after_values Sum x (values_of_bin ws (drop k cs) b)) (sym (drop_all k vs past)) ∙ before

-- ---- a table that is shorter than the bins

-- a number that comes to one of its places, seen from each place of the bins
pub came_anywhere : (xs new : List ℤ) (place : ℕ) (v : ℤ) → place < length xs → length new ≡ length xs
    → EachPlace (length xs) (λ j. at new j ≡ once_came Sum (int_eq (pos 0 +ℤ pos place) (pos 0 +ℤ pos j)) (at xs j) v)
    → (j : ℕ) → at new j ≡ once_came Sum (int_eq (pos 0 +ℤ pos place) (pos 0 +ℤ pos j)) (at xs j) v
came_anywhere xs new place v there len each j = by (cases_lt j (length xs))
  where
    by : (j < length xs) ⊎ (length xs ≤ j) → at new j ≡ once_came Sum (int_eq (pos 0 +ℤ pos place) (pos 0 +ℤ pos j)) (at xs j) v
    by (inl h) = each j h
    by (inr past) =
        let other : int_eq (pos 0 +ℤ pos place) (pos 0 +ℤ pos j) ≡ false =
        not_here (pos 0 +ℤ pos j) (pos 0 +ℤ pos place) (other_place (pos 0) j place (λ same. omega (arith, same, past, there))) in
        get_or_past new j (pos 0) (omega (arith, past, len))
        ∙ sym (get_or_past xs j (pos 0) past)
        ∙ ap (λ (here : Bool). once_came Sum here (at xs j) v) (sym other)

-- a bin whose other part is 0
pub with_nothing : (x : ℤ) → FitsSigned w64 x → joined Sum x (pos 0) ≡ x
with_nothing x fits = ap wrapped_long (+ℤ_idr x) ∙ int_wrap_fits w64 x fits

pub at_cleared : (n k : ℕ) → at (replicate n (pos 0)) k ≡ pos 0
at_cleared n k = by (cases_lt k n)
  where
    by : (k < n) ⊎ (n ≤ k) → at (replicate n (pos 0)) k ≡ pos 0
    by (inl h) = at_same (pos 0) n k h
    by (inr past) = get_or_past (replicate n (pos 0)) k (pos 0) (omega (arith, past, same_long n (pos 0)))

-- bins of which the first are joined with the numbers of a table
pub joined_in_front : (us ws ys : List ℤ) → length ys ≡ length us
    → EachPlace (length (us ++ ws)) (λ k. joined Sum (at (us ++ ws) k) (pos 0) ≡ at (us ++ ws) k)
    → EachPlace (length (us ++ ws)) (λ k. at (joined_bins Sum us ys ++ ws) k ≡ joined Sum (at (us ++ ws) k) (at ys k))
joined_in_front [] ws [] e kept k h = sym (kept k h)
joined_in_front [] ws (y ∷ ys) e kept k h = absurd (omega arith)
joined_in_front (u ∷ us) ws [] e kept k h = absurd (omega arith)
joined_in_front (u ∷ us) ws (y ∷ ys) e kept zero h = refl
joined_in_front (u ∷ us) ws (y ∷ ys) e kept (suc k) h =
    joined_in_front us ws ys (omega arith) (λ m l. kept (suc m) (omega arith)) k (omega arith)
