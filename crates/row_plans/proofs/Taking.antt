-- Which rows reads take.
use Rattle.std.proofs.Common.{ℕ, ◌*◌, ◌≡◌, ℤ, pos, negsuc, ◌+ℤ◌, ◌*ℤ◌, ◌≤ℤ◌, ◌<ℤ◌, arith, sym, ap, ◌∙◌, refl, List}
use Rattle.std.proofs.Math.IntN.{*ℤ_comm}
use Rattle.std.proofs.lemmas.Int.{ints}
use borrow.Author.Differences.{sum_is_lem}
use Rattle.domains.specs.Arithmetic.{floor_div, floor_rem}
use Rattle.domains.specs.Index.{Scale, index_at}
use Rattle.domains.proofs.Floors.{floor_only, floor_splits}
use Rattle.row_plans.specs.Taken.{middle_row, AreTakenKept}
use Rattle.row_plans.specs.declared.row_state.RowState.{RowState}
use Rattle.row_plans.specs.declared.rows_read.RowsRead.{RowsRead}

-- a number divided by 1 is the number
floor_div_by_one : (a : ℤ) → floor_div a (pos 1) ≡ a
floor_div_by_one a =
    sym (floor_only a (pos 1) a (pos 0) (omega (arith, ints)) (record { split = omega (arith, ints); least = omega (arith, ints); below = omega (arith, ints) })).0

-- an index that neither multiplies nor divides is a distance
pub index_by_distance : (i : Scale) (r : ℤ) → i.mul ≡ pos 1 → i.div ≡ pos 1 → index_at i r ≡ r +ℤ i.add
index_by_distance i r e f =
    let step : index_at i r ≡ pos 1 *ℤ r +ℤ i.add = rw (e, f) (floor_div_by_one (pos 1 *ℤ r +ℤ i.add)) in
    omega (arith, ints)

-- what a list takes, another list takes that reaches at least as far
pub reaching_keeps : (states : List RowState) (g : ℕ) (r : ℤ) (x y : RowsRead) → y.stage ≡ x.stage → y.rows ≡ x.rows → y.index ≡ x.index
    → x.first ≤ℤ y.first → y.last ≤ℤ x.last → AreTakenKept states g r x → AreTakenKept states g r y
reaching_keeps states g r x y e f i low high h = record {
  kept = λ held q above below.
      let same : middle_row y r ≡ middle_row x r = rw i refl in
      rw e (h.kept (rw (← f) held) q (omega (arith, ints)) (omega (arith, ints)));
}

distributes : (j k : ℤ) (m : ℕ) → (j +ℤ k) *ℤ pos m ≡ j *ℤ pos m +ℤ k *ℤ pos m
distributes j k m =
    let sum = ap (λ (x : ℕ). x * m) (sum_is_lem j k) in
    omega (arith, ints, sum)

spreads : (m : ℕ) (j k : ℤ) → pos m *ℤ (j +ℤ k) ≡ pos m *ℤ j +ℤ pos m *ℤ k
spreads m j k = *ℤ_comm (pos m) (j +ℤ k) ∙ distributes j k m ∙ (λ i. *ℤ_comm j (pos m) i +ℤ *ℤ_comm k (pos m) i)

floor_moves : (mul add div r a b : ℤ) → pos 1 ≤ℤ mul → pos 1 ≤ℤ div → mul *ℤ a ≡ div *ℤ b
    → floor_div (mul *ℤ (r +ℤ a) +ℤ add) div ≡ floor_div (mul *ℤ r +ℤ add) div +ℤ b
floor_moves (pos m) add (pos n) r a b p least same =
    let v = pos m *ℤ r +ℤ add in
    let q = floor_div v (pos n) in
    let above : pos 0 <ℤ pos n = omega (arith, ints) in
    let floor = floor_splits v (pos n) above in
    let spread = spreads m r a in
    let gathered = distributes q b n in
    let swapped = *ℤ_comm b (pos n) in
    sym (floor_only (pos m *ℤ (r +ℤ a) +ℤ add) (pos n) (q +ℤ b) (floor_rem v (pos n)) above (record {
      split = omega (arith, ints, floor.split, spread, gathered, swapped, same);
      least = floor.least;
      below = floor.below;
    })).0
floor_moves (negsuc m) add div r a b p least same = absurd p.le
floor_moves (pos m) add (negsuc n) r a b p least same = absurd least.le

-- an index moves by b where the number moves by a, if mul * a is div * b
pub index_moves : (i : Scale) (r a b : ℤ) → pos 1 ≤ℤ i.mul → pos 1 ≤ℤ i.div → i.mul *ℤ a ≡ i.div *ℤ b → index_at i (r +ℤ a) ≡ index_at i r +ℤ b
index_moves i r a b p q same = floor_moves i.mul i.add i.div r a b p q same
