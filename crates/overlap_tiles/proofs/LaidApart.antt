-- Ranges that are laid one after another: each meets no earlier one that is still to be read, and starts at the least such place.
use Rattle.std.proofs.Common.{ℕ, zero, suc, arith, ◌+◌, ◌<◌, ◌≤◌, ◌≡◌, inl, inr, List, [], ◌∷◌, ◌++◌, map, take, refl, sym, ap}
use Rattle.std.proofs.Common.{◌∙◌, subst, Some, append_assoc, length, get_or, drop}
use Rattle.std.specs.Prelude.{All, AllPairs, Contains, nat_le, slice_get}
use Rattle.std.specs.List.{sum}
use Rattle.std.proofs.lemmas.Bool.{leb-true, le-leb}
use Rattle.std.proofs.lemmas.List.{append-nil, drop_more, drop_all}
use Rattle.std.proofs.lemmas.List.Elements.{All-nil, All-cons, All-weaker, All-filter, All-contains}
use Rattle.std.proofs.lemmas.List.Elements.{Contains-append_left, Contains-push, Contains-push_cases}
use Rattle.std.proofs.lemmas.List.Kept.{AllPairs-filter}
use Rattle.std.proofs.lemmas.List.Sums.{sum_by-cons}
use Rattle.std.proofs.lemmas.Option.{same_Some}
use Rattle.domains.proofs.PairLists.{Contains-filter, Contains-from_filter}
use Rattle.domains.specs.Area.{point_count}
use Rattle.tile_boxes.specs.Costs.{points_in}
use Rattle.overlap_tiles.specs.Ranges.{LieApart}
use Rattle.overlap_tiles.specs.Views.{step_view}
use Rattle.overlap_tiles.specs.declared.steps.TileStep.{TileStep}
use Rattle.overlap_tiles.specs.inside.Made.{still_held, held_by, held_after, laid, laid_of, range_of}
use Rattle.overlap_tiles.specs.declared.ranges.HeldRange.{HeldRange}
use Rattle.overlap_tiles.proofs.Gaps.{StartsBefore, EndBy, gap_apart, gap_least, gap_within, with_held-All, with_held-has, with_held-rises}

-- what has room where earlier ranges are still to be read at place k
pub record IsLaid (past : List HeldRange) (k : ℕ) (h : HeldRange) : Type 0 where
  pub apart : (b : HeldRange) → Contains past b → k ≤ b.last → LieApart (range_of b) (range_of h)
  pub least : (start : ℕ) → ((b : HeldRange) → Contains past b → k ≤ b.last → LieApart (range_of b) (start, h.len)) → h.start ≤ start

-- what is held at place k: all earlier ranges that are still to be read, and no others
pub record IsHeld (past : List HeldRange) (k : ℕ) (held : List HeldRange) : Type 0 where
  pub all : (b : HeldRange) → Contains past b → k ≤ b.last → Contains held b
  pub earlier : All (Contains past) held
  pub rise : AllPairs StartsBefore held

pub nothing_held : IsHeld [] 0 []
nothing_held = record {
  all = λ b there still. there;
  earlier = All-nil (Contains []);
  rise = λ i j d p q. absurd (omega (arith, q));
}

module _ (past : List HeldRange) (k : ℕ) (held : List HeldRange) (s : ℕ × ℕ) (is : IsHeld past k held) where
  abbrev new : HeldRange
  new = held_by k held s

  kept : (b : HeldRange) → Contains past b → k ≤ b.last → Contains (still_held k held) b
  kept b there still = Contains-filter (λ h. nat_le k h.last) held b (is.all b there still) (le-leb k b.last still)

  rising : AllPairs StartsBefore (still_held k held)
  rising = AllPairs-filter StartsBefore (λ h. nat_le k h.last) held is.rise

  pub new_is_laid : IsLaid past k (held_by k held s)
  new_is_laid = record {
    apart = λ b there still. gap_apart s.0 0 (still_held k held) rising b (kept b there still);
    least = λ start free. gap_least s.0 0 start (still_held k held) (omega arith) (λ h in_held.
        let from = Contains-from_filter (λ x. nat_le k x.last) held h in_held in
        free h (All-contains (Contains past) held h is.earlier from.0) (leb-true k h.last from.1));
  }

  pub held_next : IsHeld (past ++ held_by k held s ∷ []) (suc k) (held_after k held s)
  held_next = record {
    all = λ b there still. with_held-has new (still_held k held) b (elim (Contains-push_cases past new b there) [
      | inl k ↦ inr (kept b k (omega arith))
      | inr e ↦ inl e
    ]);
    earlier = with_held-All (Contains (past ++ new ∷ [])) new (still_held k held) (Contains-push past new)
        (All-weaker (Contains past) (Contains (past ++ new ∷ [])) (λ b there. Contains-append_left past (new ∷ []) b there)
        (still_held k held) (All-filter (λ h. nat_le k h.last) (Contains past) held is.earlier));
    rise = with_held-rises new (still_held k held) rising;
  }

-- each range that is laid is laid among those before it
pub laid_at : (past : List HeldRange) (k : ℕ) (held : List HeldRange) (ss : List (ℕ × ℕ)) → IsHeld past k held → (j : ℕ) (h : HeldRange)
    → slice_get (laid k held ss) j ≡ Some h → IsLaid (past ++ take j (laid k held ss)) (k + j) h
laid_at past k held [] is j h there = absurd (cc)
laid_at past k held (s ∷ ss) is zero h there =
    let none : k ≡ k + 0 = omega arith in
    subst (IsLaid (past ++ []) (k + 0)) (same_Some (held_by k held s) h there)
    (subst (λ (bs : List HeldRange). IsLaid bs (k + 0) (held_by k held s)) (sym (append-nil past))
    (subst (λ (n : ℕ). IsLaid past n (held_by k held s)) none (new_is_laid past k held s is)))
laid_at past k held (s ∷ ss) is (suc j) h there =
    let new = held_by k held s in
    let rest = laid (suc k) (held_after k held s) ss in
    let more : suc k + j ≡ k + suc j = omega arith in
    subst (λ (n : ℕ). IsLaid (past ++ new ∷ take j rest) n h) more
    (subst (λ (bs : List HeldRange). IsLaid bs (suc k + j) h) (append_assoc past (new ∷ []) (take j rest))
    (laid_at (past ++ new ∷ []) (suc k) (held_after k held s) ss (held_next past k held s is) j h there))

-- ---- lengths, last readers and ends

pub laid_from : (k : ℕ) (held : List HeldRange) (ss : List (ℕ × ℕ)) → map (λ h. (h.len, h.last)) (laid k held ss) ≡ ss
laid_from k held [] = refl
laid_from k held (s ∷ ss) = ap (λ (xs : List (ℕ × ℕ)). s ∷ xs) (laid_from (suc k) (held_after k held s) ss)

-- what is held ends by so much more
pub ends_after : (n k : ℕ) (held : List HeldRange) (s : ℕ × ℕ) → EndBy n held → EndBy (n + s.0) (held_after k held s)
ends_after n k held s ends =
    let still : EndBy n (still_held k held) = All-filter (λ h. nat_le k h.last) (λ h. h.start + h.len ≤ n) held ends in
    let start = gap_within s.0 0 n (still_held k held) (omega arith) still in
    with_held-All (λ h. h.start + h.len ≤ n + s.0) (held_by k held s) (still_held k held) (omega arith)
    (All-weaker (λ h. h.start + h.len ≤ n) (λ h. h.start + h.len ≤ n + s.0) (λ h low. omega arith) (still_held k held) still)

pub laid_within : (n k : ℕ) (held : List HeldRange) (ss : List (ℕ × ℕ)) → EndBy n held → EndBy (n + sum (map (λ s. s.0) ss)) (laid k held ss)
laid_within n k held [] ends = All-nil (λ h. h.start + h.len ≤ n + 0)
laid_within n k held (s ∷ ss) ends =
    let still : EndBy n (still_held k held) = All-filter (λ h. nat_le k h.last) (λ h. h.start + h.len ≤ n) held ends in
    let start = gap_within s.0 0 n (still_held k held) (omega arith) still in
    let all : sum (map (λ x. x.0) (s ∷ ss)) ≡ s.0 + sum (map (λ x. x.0) ss) = sum_by-cons (λ x. x) s.0 (map (λ x. x.0) ss) in
    All-cons (λ h. h.start + h.len ≤ n + sum (map (λ x. x.0) (s ∷ ss))) (held_by k held s) (laid (suc k) (held_after k held s) ss)
    (omega arith)
    (All-weaker (λ h. h.start + h.len ≤ n + s.0 + sum (map (λ x. x.0) ss)) (λ h. h.start + h.len ≤ n + sum (map (λ x. x.0) (s ∷ ss)))
    (λ h low. omega arith) (laid (suc k) (held_after k held s) ss)
    (laid_within (n + s.0) (suc k) (held_after k held s) ss (ends_after n k held s ends)))

-- ---- steps of the program

-- one step more
pub laid_more : (lasts : List ℕ) (steps : List TileStep) (k : ℕ) (step : TileStep) (held : List HeldRange) (done all : List (ℕ × ℕ))
    → k < length steps → step ≡ get_or steps k step
    → done ++ map range_of (laid k held (map (laid_of lasts) (map step_view (drop k steps)))) ≡ all
    → (done ++ range_of (held_by k held (laid_of lasts (step_view step))) ∷ [])
    ++ map range_of
    (laid (k + 1) (held_after k held (laid_of lasts (step_view step))) (map (laid_of lasts) (map step_view (drop (k + 1) steps))))
    ≡ all
laid_more lasts steps k step held done all less is so_far =
    let rest : List TileStep = drop (k + 1) steps in
    let split : step ∷ rest ≡ drop k steps =
    ap (λ (s : TileStep). s ∷ rest) is ∙ sym (drop_more steps k step less) in
    let one : suc k ≡ k + 1 = omega arith in
    append_assoc done (range_of (held_by k held (laid_of lasts (step_view step))) ∷ [])
    (map range_of (laid (k + 1) (held_after k held (laid_of lasts (step_view step))) (map (laid_of lasts) (map step_view rest))))
    ∙ ap (λ (n : ℕ). done ++ range_of (held_by k held (laid_of lasts (step_view step))) ∷ map range_of
    (laid n (held_after k held (laid_of lasts (step_view step))) (map (laid_of lasts) (map step_view rest)))) (sym one)
    ∙ ap (λ (ss : List TileStep). done ++ map range_of (laid k held (map (laid_of lasts) (map step_view ss)))) split
    ∙ so_far

pub points_more : (steps : List TileStep) (k : ℕ) (step : TileStep) → k < length steps → step ≡ get_or steps k step
    → points_in (map step_view (drop k steps)) ≡ point_count step.area + points_in (map step_view (drop (k + 1) steps))
points_more steps k step less is =
    ap (λ (ss : List TileStep). points_in (map step_view ss)) (drop_more steps k step less)
    ∙ ap (λ (s : TileStep). points_in (map step_view (s ∷ drop (k + 1) steps))) (sym is)
    ∙ sum_by-cons (λ n. n) (point_count step.area) (map (λ s. point_count s.1) (map step_view (drop (k + 1) steps)))

-- all steps
pub laid_all : (lasts : List ℕ) (steps : List TileStep) (k : ℕ) (held : List HeldRange) (done all : List (ℕ × ℕ)) → length steps ≤ k
    → done ++ map range_of (laid k held (map (laid_of lasts) (map step_view (drop k steps)))) ≡ all → done ≡ all
laid_all lasts steps k held done all past so_far =
    sym (append-nil done)
    ∙ ap (λ (ss : List TileStep). done ++ map range_of (laid k held (map (laid_of lasts) (map step_view ss)))) (sym (drop_all k steps past))
    ∙ so_far
