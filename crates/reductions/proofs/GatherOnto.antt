-- Bins that are joined with what is gathered, by what they took in.
use Rattle.std.proofs.Common.{arith, ◌≡◌, ◌<◌, ℕ, ℤ, pos, ◌+ℤ◌, List, [], ◌∷◌, length, ap, sym, ◌∙◌, refl, Result, Ok, Err, OnOk}
use Rattle.std.specs.Prelude.{map}
use Rattle.std.proofs.lemmas.List.{length-map}
use Rattle.domains.specs.Span.{len_of, numbers_of}
use Rattle.domains.proofs.Spans.{length-numbers_from}
use Rattle.operators.specs.declared.operator.ReductionOp.{ReductionOp}
use Rattle.job.specs.Totals.{start_of, total_of, joined}
use Rattle.job.proofs.Joining.{total_of-append}
use Rattle.job.proofs.TotalLaws.{map_same}
use Rattle.job.specs.declared.stage.Accumulator.{Accumulator}
use Rattle.tile_eval.specs.Rows.{at}
use Rattle.reductions.specs.Bins.{starts, joined_bins}
use Rattle.reductions.specs.Accumulating.{AreBins}
use Rattle.reductions.specs.inside.Gathering.{after_values, values_among, TookIn}
use Rattle.reductions.proofs.JoinInto.{at_joined, joined_by_places, joined_maps}
use Rattle.reductions.proofs.TakeValues.{at_number, starts_long}
use Rattle.reductions.proofs.TotalsInAnyOrder.{joined-comm, joined-assoc, starts_join, total_by_values, total_of-none}

-- what an outcome says, said otherwise
pub on_ok : {X Y P Q : Type 0} (r : Result X Y) → OnOk r P → (P → Q) → OnOk r Q
on_ok (Ok x) p f = f p
on_ok (Err e) p f = tt

-- ---- one bin

taken_out : (way : ReductionOp) (x y : ℤ) (vs : List ℤ) → after_values way (joined way x y) vs ≡ joined way x (after_values way y vs)
taken_out way x y [] = refl
taken_out way x y (v ∷ vs) = ap (λ (z : ℤ). after_values way z vs) (joined-assoc way x y v) ∙ taken_out way x (joined way y v) vs

-- values that came in one after the other, as their total that came in at once, where the start leaves what was there
pub came_at_once : (way : ReductionOp) (x : ℤ) (vs : List ℤ) → joined way x (start_of way) ≡ x → after_values way x vs ≡ joined way x (total_of way vs)
came_at_once way x vs kept =
    ap (λ (z : ℤ). after_values way z vs) (sym kept) ∙ taken_out way x (start_of way) vs ∙ ap (joined way x) (total_by_values way vs)

-- ---- bins joined with bins

joined_bins-comm : (way : ReductionOp) (xs ys : List ℤ) → joined_bins way xs ys ≡ joined_bins way ys xs
joined_bins-comm way [] [] = refl
joined_bins-comm way [] (y ∷ ys) = refl
joined_bins-comm way (x ∷ xs) [] = refl
joined_bins-comm way (x ∷ xs) (y ∷ ys) = λ i. joined-comm way x y i ∷ joined_bins-comm way xs ys i

pub joined_bins-assoc : (way : ReductionOp) (xs ys zs : List ℤ)
    → joined_bins way (joined_bins way xs ys) zs ≡ joined_bins way xs (joined_bins way ys zs)
joined_bins-assoc way [] ys zs = refl
joined_bins-assoc way (x ∷ xs) [] zs = refl
joined_bins-assoc way (x ∷ xs) (y ∷ ys) [] = refl
joined_bins-assoc way (x ∷ xs) (y ∷ ys) (z ∷ zs) = λ i. joined-assoc way x y z i ∷ joined_bins-assoc way xs ys zs i

-- bins that the start leaves are left by it once others were joined
pub still_kept : (way : ReductionOp) (first xs ys : List ℤ) → joined_bins way xs first ≡ xs
    → joined_bins way (joined_bins way xs ys) first ≡ joined_bins way xs ys
still_kept way first xs ys kept =
    joined_bins-assoc way xs ys first
    ∙ ap (joined_bins way xs) (joined_bins-comm way ys first)
    ∙ sym (joined_bins-assoc way xs first ys)
    ∙ ap (λ (zs : List ℤ). joined_bins way zs ys) kept

-- ---- the bins of an accumulator

pub first_bins : (a : Accumulator) (xs : List ℤ) → xs ≡ starts a.fold a.bins → AreBins a xs
first_bins a xs is = record {
  count = ap length is ∙ starts_long a.fold a.bins;
  kept =
      ap (λ (zs : List ℤ). joined_bins a.fold zs (starts a.fold a.bins)) is
      ∙ joined_maps a.fold (λ b. start_of a.fold) (λ b. start_of a.fold) (numbers_of a.bins)
      ∙ map_same (λ b. joined a.fold (start_of a.fold) (start_of a.fold)) (λ b. start_of a.fold) (numbers_of a.bins)
      (λ b. starts_join a.fold)
      ∙ sym is;
}

pub joined_are_bins : (a : Accumulator) (old more new : List ℤ) → AreBins a old → length new ≡ length old
    → new ≡ joined_bins a.fold old more → AreBins a new
joined_are_bins a old more new are same is = record {
  count = same ∙ are.count;
  kept =
      ap (λ (zs : List ℤ). joined_bins a.fold zs (starts a.fold a.bins)) is
      ∙ still_kept a.fold (starts a.fold a.bins) old more are.kept
      ∙ sym is;
}

kept_at : (a : Accumulator) (xs : List ℤ) → AreBins a xs → (k : ℕ) → k < length xs → joined a.fold (at xs k) (start_of a.fold) ≡ at xs k
kept_at a xs are k h =
    let within : k < len_of a.bins = omega (arith, are.count) in
    ap (joined a.fold (at xs k)) (sym (at_number (λ b. start_of a.fold) a.bins.lo (len_of a.bins) k within))
    ∙ sym (at_joined a.fold xs (starts a.fold a.bins) k h (starts_long a.fold a.bins ∙ sym are.count))
    ∙ ap (λ (zs : List ℤ). at zs k) are.kept

module _ (a : Accumulator) (value bin : ℤ → ℤ → ℤ) (points : List (ℤ × ℤ)) where
  abbrev gathered_there : List ℤ
  gathered_there = map (λ b. total_of a.fold (values_among value bin points b)) (numbers_of a.bins)

  long : length gathered_there ≡ len_of a.bins
  long = length-map (numbers_of a.bins) (λ b. total_of a.fold (values_among value bin points b))
      ∙ length-numbers_from a.bins.lo (len_of a.bins)

  -- those that took in points are joined with what is gathered there
  pub took_is_joined : (old new : List ℤ) → AreBins a old → length new ≡ length old → TookIn a.fold value bin a.bins.lo points old new
      → new ≡ joined_bins a.fold old gathered_there
  took_is_joined old new are same took =
      joined_by_places a.fold old gathered_there new (long ∙ sym are.count) same (λ j h.
      let within : j < len_of a.bins = omega (arith, are.count) in
      took j h
      ∙ came_at_once a.fold (at old j) (values_among value bin points (a.bins.lo +ℤ pos j)) (kept_at a old are j h)
      ∙ ap (joined a.fold (at old j))
      (sym (at_number (λ b. total_of a.fold (values_among value bin points b)) a.bins.lo (len_of a.bins) j within)))

  -- and from the start this is what is gathered
  pub from_starts : (old : List ℤ) → old ≡ starts a.fold a.bins → joined_bins a.fold old gathered_there ≡ gathered_there
  from_starts old is =
      ap (λ (zs : List ℤ). joined_bins a.fold zs gathered_there) is
      ∙ joined_maps a.fold (λ b. start_of a.fold) (λ b. total_of a.fold (values_among value bin points b)) (numbers_of a.bins)
      ∙ map_same (λ b. joined a.fold (start_of a.fold) (total_of a.fold (values_among value bin points b)))
      (λ b. total_of a.fold (values_among value bin points b)) (numbers_of a.bins) (λ b.
      ap (λ (z : ℤ). joined a.fold z (total_of a.fold (values_among value bin points b))) (sym (total_of-none a.fold))
      ∙ sym (total_of-append a.fold [] (values_among value bin points b)))
