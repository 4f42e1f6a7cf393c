-- Means of nine numbers, block by block.
use Rattle.std.proofs.Common.{arith, ℕ, ℤ, ◌≡◌, ◌≢◌, ◌+◌, ◌-◌, ◌<◌, ◌≤◌, ◌⊎◌, inl, inr, pos, negsuc, ◌≤ℤ◌, ◌+ℤ◌, ◌-ℤ◌, ◌*ℤ◌, length, take, drop, List, ◌∙◌, ap, sym, subst, w16, w32, FitsSigned}
use Rattle.std.specs.Prelude.{slice_set}
use Rattle.std.specs.Int.{int_wrap}
use Rattle.std.proofs.lemmas.Bool.{cases_lt}
use Rattle.std.proofs.lemmas.List.{get_or-set_same, get_or-set_other}
use borrow.Author.Count.{below_more}
use Rattle.std.proofs.lemmas.Grind.{common_steps}
use Rattle.std.proofs.lemmas.Int.{ints, int_wrap_fits}
use borrow.Rule.Slice.PartMut.{put_mid}
use Rattle.domains.specs.Arithmetic.{wrapped, floor_div}
use Rattle.domains.proofs.Floors.{floor_only}
use Rattle.row_loops.specs.Rows.{EachPlace, at}
use Rattle.narrow_kernels.specs.NarrowMeans.{mean_of_nine, AreColumnParts, IsColumnSum}

-- ---- sums of three numbers

-- the sum of numbers that are hardly below ninth parts
module _ (a b c p q r s : ℤ) (is : s ≡ p +ℤ q +ℤ r) where
  pub ninths_most : (pos 9 *ℤ p) ≤ℤ a → (pos 9 *ℤ q) ≤ℤ b → (pos 9 *ℤ r) ≤ℤ c → (pos 9 *ℤ s) ≤ℤ (a +ℤ b +ℤ c)
  ninths_most x y z = omega (arith, ints, is, x, y, z)

  pub ninths_least : a ≤ℤ (pos 9 *ℤ p +ℤ pos 9) → b ≤ℤ (pos 9 *ℤ q +ℤ pos 9) → c ≤ℤ (pos 9 *ℤ r +ℤ pos 9) → (a +ℤ b +ℤ c) ≤ℤ (pos 9 *ℤ s +ℤ pos 27)
  ninths_least x y z = omega (arith, ints, is, x, y, z)

-- what nine times a number leaves of a sum, where it is small
pub rest_is : (s q r : ℤ) → r ≡ int_wrap w16 (s +ℤ q *ℤ negsuc 8) → (pos 9 *ℤ q) ≤ℤ s → s ≤ℤ (pos 9 *ℤ q +ℤ pos 27) → pos 9 *ℤ q +ℤ r ≡ s
rest_is s q r e most least =
    let fits : FitsSigned w16 (s +ℤ q *ℤ negsuc 8) = omega (arith, ints, most, least) in
    let is : r ≡ s +ℤ q *ℤ negsuc 8 = e ∙ int_wrap_fits w16 _ fits in
    omega (arith, ints, is)

-- the parts of the sum of three numbers
pub parts_are : (a b c q r : ℤ) → FitsSigned w16 a → FitsSigned w16 b → FitsSigned w16 c
    → (pos 9 *ℤ q) ≤ℤ (a +ℤ b +ℤ c) → (a +ℤ b +ℤ c) ≤ℤ (pos 9 *ℤ q +ℤ pos 27) → pos 9 *ℤ q +ℤ r ≡ a +ℤ b +ℤ c → IsColumnSum (a +ℤ b +ℤ c) q r
parts_are a b c q r x y z most least is = (
  is,
  (
    (omega (arith, ints, most, is), omega (arith, ints, least, is)),
    (omega (arith, ints, is, x, y, z), omega (arith, ints, is, x, y, z)),
  ),
)

-- one more is written, in its two parts
module _ (sum : ℕ → ℤ) (highs lows : List ℤ) (k : ℕ) (high low : ℤ) where
  abbrev is_sum : List ℤ → List ℤ → ℕ → Type 0
  is_sum hs ls j = IsColumnSum (sum j) (at hs j) (at ls j)

  kept : (j : ℕ) → j ≢ k → is_sum highs lows j → is_sum (slice_set highs k high) (slice_set lows k low) j
  kept j ne e =
      subst (λ (v : ℤ). IsColumnSum (sum j) v (at (slice_set lows k low) j)) (sym (get_or-set_other highs k j high (pos 0) ne))
      (subst (λ (v : ℤ). IsColumnSum (sum j) (at highs j) v) (sym (get_or-set_other lows k j low (pos 0) ne)) e)

  pub sums_more : k < length highs → k < length lows → IsColumnSum (sum k) high low → EachPlace k (is_sum highs lows)
      → EachPlace (k + 1) (is_sum (slice_set highs k high) (slice_set lows k low))
  sums_more lh ll e below =
      below_more (is_sum (slice_set highs k high) (slice_set lows k low)) k (λ j h. kept j (omega arith) (below j h))
      (subst (λ (v : ℤ). IsColumnSum (sum k) v (at (slice_set lows k low) k)) (sym (get_or-set_same highs k high (pos 0) lh))
      (subst (λ (v : ℤ). IsColumnSum (sum k) high v) (sym (get_or-set_same lows k low (pos 0) ll)) e))

-- three of them are added exactly
pub exact_mean : (s t u hs ht hu ls lt lu : ℤ) → IsColumnSum s hs ls → IsColumnSum t ht lt → IsColumnSum u hu lu
    → floor_div (pos 9 *ℤ (hs +ℤ ht +ℤ hu) +ℤ (ls +ℤ lt +ℤ lu)) (pos 9) ≡ floor_div (wrapped (s +ℤ t +ℤ u)) (pos 9)
exact_mean s t u hs ht hu ls lt lu x y z =
    let fits : FitsSigned w32 (s +ℤ t +ℤ u) =
    omega (arith, ints, x.0, x.1.1.0, x.1.1.1, y.0, y.1.1.0, y.1.1.1, z.0, z.1.1.0, z.1.1.1) in
    let same : pos 9 *ℤ (hs +ℤ ht +ℤ hu) +ℤ (ls +ℤ lt +ℤ lu) ≡ s +ℤ t +ℤ u = omega (arith, ints, x.0, y.0, z.0) in
    ap (λ (v : ℤ). floor_div v (pos 9)) (same ∙ sym (int_wrap_fits w32 _ fits))

-- ---- the ninth part of a sum in two parts

pub ninth_of_parts : (ninths rests m z : ℤ) → (pos 9 *ℤ m) ≤ℤ rests → rests ≤ℤ (pos 9 *ℤ m +ℤ pos 8) → z ≡ m +ℤ ninths
    → z ≡ floor_div (pos 9 *ℤ ninths +ℤ rests) (pos 9)
ninth_of_parts ninths rests m z most least is =
    (floor_only (pos 9 *ℤ ninths +ℤ rests) (pos 9) z (pos 9 *ℤ ninths +ℤ rests -ℤ z *ℤ pos 9) (omega (arith, ints)) record {
      split = omega (arith, ints);
      least = omega (arith, ints, most, is);
      below = omega (arith, ints, least, is);
    }).0

-- the mean of nine numbers fits in 16 bits
module _ (qa ra qb rb qc rc m : ℤ) (a : AreColumnParts qa ra) (b : AreColumnParts qb rb) (c : AreColumnParts qc rc)
    (most : (pos 9 *ℤ m) ≤ℤ (ra +ℤ rb +ℤ rc)) (least : (ra +ℤ rb +ℤ rc) ≤ℤ (pos 9 *ℤ m +ℤ pos 8))
  where
    pub mean_fits : FitsSigned w16 (m +ℤ (qa +ℤ qb +ℤ qc))
    mean_fits = omega (arith, ints, most, least, a.1.0, a.1.1, b.1.0, b.1.1, c.1.0, c.1.1)

-- ---- a part of a row

put_before : (a b k : ℕ) (xs ys : List ℤ) → k < a → a ≤ length xs → at (put_mid a (b - a) xs ys) k ≡ at xs k
put_before a b k xs ys h le = grind (arith, common_steps)

put_within : (a b k : ℕ) (xs ys : List ℤ) → a ≤ k → k < b → b ≤ length xs → length ys ≡ b - a
    → at (put_mid a (b - a) xs ys) k ≡ at ys (k - a)
put_within a b k xs ys h l le len = grind (arith, common_steps)

part_at : (a b k : ℕ) (xs : List ℤ) → a ≤ k → k < b → b ≤ length xs → at (take (b - a) (drop a xs)) (k - a) ≡ at xs k
part_at a b k xs h l le = grind (arith, common_steps)

-- ---- the means of parts of lines

module _ (f e k : ℕ) (low : f ≤ k) (high : k + 2 < e) where
  abbrev part : List ℤ → List ℤ
  part xs = take (e - f) (drop f xs)

  first_at : (xs : List ℤ) → e ≤ length xs → at (part xs) (k - f) ≡ at xs k
  first_at xs le = grind (arith, common_steps)

  later_at : (xs : List ℤ) (j : ℕ) → j ≤ 2 → e ≤ length xs → at (part xs) (k - f + j) ≡ at xs (k + j)
  later_at xs j l le =
      let same : k - f + j ≡ k + j - f = omega arith in
      ap (at (part xs)) same ∙ part_at f e (k + j) xs (omega arith) (omega arith) le

  mean_of_parts : (a b c : List ℤ) → e ≤ length a → e ≤ length b → e ≤ length c
      → mean_of_nine (part a) (part b) (part c) (k - f) ≡ mean_of_nine a b c k
  mean_of_parts a b c la lb lc = λ i.
      floor_div (wrapped ((first_at a la i +ℤ first_at b lb i +ℤ first_at c lc i)
      +ℤ (later_at a 1 (omega arith) la i +ℤ later_at b 1 (omega arith) lb i +ℤ later_at c 1 (omega arith) lc i)
      +ℤ (later_at a 2 (omega arith) la i +ℤ later_at b 2 (omega arith) lb i +ℤ later_at c 2 (omega arith) lc i))) (pos 9)

-- a block of means is written
module _ (first end k : ℕ) (out new a b c : List ℤ) where
  pub block_written : first ≤ end → end ≤ length out → length new ≡ end - first → k < end
      → length a ≡ length out + 2 → length b ≡ length out + 2 → length c ≡ length out + 2
      → (k < first → at out k ≡ mean_of_nine a b c k)
      → (first ≤ k → at new (k - first)
      ≡ mean_of_nine (take (end + 2 - first) (drop first a)) (take (end + 2 - first) (drop first b)) (take (end + 2 - first) (drop first c)) (k - first))
      → at (put_mid first (end - first) out new) k ≡ mean_of_nine a b c k
  block_written o short count inside la lb lc before here = by (cases_lt k first)
    where
      by : (k < first) ⊎ (first ≤ k) → at (put_mid first (end - first) out new) k ≡ mean_of_nine a b c k
      by (inl h) = put_before first end k out new h (omega arith) ∙ before h
      by (inr h) =
          put_within first end k out new h inside short count ∙ here h
          ∙ mean_of_parts first (end + 2) k h (omega arith) a b c (omega arith) (omega arith) (omega arith)
