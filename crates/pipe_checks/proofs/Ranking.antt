-- Ranks are found for all stages exactly where no stage leads back to itself.
use Rattle.std.proofs.Common.{ℕ, zero, suc, ◌+◌, ◌-◌, ◌<◌, ◌≤◌, max, ◌≡◌, ◌≢◌, ◌⊎◌, inl, inr, Bool, true, false, cond, eqb, List}
use Rattle.std.proofs.Common.{[], ◌∷◌, Option, Some, None, unwrap_or, map, length, drop, set, get_or, slice_get, slice_index}
use Rattle.std.proofs.Common.{replicate, ◌||◌, sym, ◌∙◌, ap, refl, subst, arith}
use Rattle.std.specs.List.{IsDistinct, AllByRecursion, list_any}
use Rattle.std.proofs.lemmas.Bool.{cases_eq, cases_lt}
use Rattle.std.proofs.lemmas.Bool.Decides.{eqb_tells}
use Rattle.std.proofs.lemmas.Option.{slice_get_within, slice_get-get_or, get_or_from_slice_get, same_Some, none-some}
use Rattle.std.proofs.lemmas.List.{get_or-set_other, get_or_past, get_or_read}
use Rattle.std.proofs.lemmas.List.{get_or_default, get_or-map, length-set, length-map, length-replicate, at_drop_more}
use Rattle.std.proofs.lemmas.Map.Keys.{IsDistinct-cons}
use Rattle.std.proofs.lemmas.Map.Steps.{length-le_from_distinct_below}
use Rattle.pipe_checks.specs.StageLinks.{StageLinks}
use Rattle.pipe_checks.specs.Graph.{links_at, Reads, IsRanking, Way, IsAcyclic}
use Rattle.domains.specs.Greatest.{greatest}
use Rattle.pipe_checks.specs.inside.Search.{rank_over, unknowns, known_rank, IsBounded, SomeUnranked, AreRanked}
use Rattle.pipe_checks.proofs.Numbering.{ranking-from_recurrence}
use Rattle.pipe_checks.proofs.Unknown.{unknowns-set, unknowns-le}
use Rattle.domains.proofs.Places.{slice_get-set_same, slice_get-set_other}

-- ---- the greatest

-- the greatest so far, and one more
pub greatest_more : (f : ℕ → ℕ) (xs : List ℕ) (i g : ℕ) → i < length xs
    → max g (greatest (map f (drop i xs))) ≡ max (max g (f (get_or xs i 0))) (greatest (map f (drop (i + 1) xs)))
greatest_more f xs i g h = let e = at_drop_more (λ ys. max g (greatest (map f ys))) xs i 0 h in omega (arith, e)

pub greatest-le : (f : ℕ → ℕ) (xs : List ℕ) (m : ℕ) → ((t : ℕ) → f t ≤ m) → greatest (map f xs) ≤ m
greatest-le f [] m h = omega arith
greatest-le f (x ∷ xs) m h = omega (arith, h x, greatest-le f xs m h)

pub greatest_same : (f g : ℕ → ℕ) (xs : List ℕ) → ((k : ℕ) → k < length xs → f (get_or xs k 0) ≡ g (get_or xs k 0))
    → greatest (map f xs) ≡ greatest (map g xs)
greatest_same f g [] h = refl
greatest_same f g (x ∷ xs) h =
    let first : f x ≡ g x = h 0 (omega arith) in
    let rest = greatest_same f g xs (λ k l. h (suc k) (omega arith)) in
    cc

-- one step of the loop over what a stage reads
pub above_step : (ranks : List (Option ℕ)) (xs : List ℕ) (i g k : ℕ) → i < length xs → known_rank ranks (get_or xs i 0) ≡ k
    → max g (greatest (map (known_rank ranks) (drop i xs))) ≡ greatest (map (known_rank ranks) xs)
    → max (max g k) (greatest (map (known_rank ranks) (drop (i + 1) xs))) ≡ greatest (map (known_rank ranks) xs)
above_step ranks xs i g k h e inv =
    let step = greatest_more (known_rank ranks) xs i g h in
    let same : max (max g (known_rank ranks (get_or xs i 0))) (greatest (map (known_rank ranks) (drop (i + 1) xs)))
    ≡ max (max g k) (greatest (map (known_rank ranks) (drop (i + 1) xs))) =
    ap (λ n. max (max g n) (greatest (map (known_rank ranks) (drop (i + 1) xs)))) e in
    sym same ∙ sym step ∙ inv

pub known_is : (ranks : List (Option ℕ)) (t r : ℕ) → slice_get ranks t ≡ Some (Some r) → known_rank ranks t ≡ r
known_is ranks t r e = ap (λ o. unwrap_or o 0) (get_or_from_slice_get ranks t (Some r) None e)

pub known_unranked : (ranks : List (Option ℕ)) (t : ℕ) → slice_get ranks t ≡ Some None → known_rank ranks t ≡ 0
known_unranked ranks t e = ap (λ o. unwrap_or o 0) (get_or_from_slice_get ranks t None None e)

pub known_past : (ranks : List (Option ℕ)) (t : ℕ) → slice_get ranks t ≡ None → known_rank ranks t ≡ 0
known_past ranks t e = by_place (cases_lt t (length ranks))
  where
    by_place : (t < length ranks) ⊎ (length ranks ≤ t) → known_rank ranks t ≡ 0
    by_place (inr h) = ap (λ o. unwrap_or o 0) (get_or_past ranks t None h)
    by_place (inl h) = absurd (none-some _ (sym e ∙ slice_get-get_or ranks t None h))

-- none of the stages is unranked, place by place
pub none_of_them : (ranks : List (Option ℕ)) (xs : List ℕ) → ((k : ℕ) → k < length xs → slice_get ranks (get_or xs k 0) ≡ Some None → ⊥)
    → SomeUnranked ranks xs → ⊥
none_of_them ranks xs h u = h u.0 u.2 (ap (slice_get ranks) (get_or_default xs u.0 0 u.1 u.2 ∙ u.3) ∙ u.4)

-- ---- one stage more has its rank

known_rank-le : (ranks : List (Option ℕ)) (n t : ℕ) → length ranks ≡ n → IsBounded ranks n → known_rank ranks t + unknowns ranks ≤ n
known_rank-le ranks n t e b = by_place (slice_get ranks t) refl
  where
    by_place : (o : Option (Option ℕ)) → slice_get ranks t ≡ o → known_rank ranks t + unknowns ranks ≤ n
    by_place None p = omega (arith, known_past ranks t p, unknowns-le ranks)
    by_place (Some None) p = omega (arith, known_unranked ranks t p, unknowns-le ranks)
    by_place (Some (Some r)) p = omega (arith, known_is ranks t r p, b t r p)

rank_over-le : (rank : ℕ → ℕ) (l : StageLinks) (m : ℕ) → ((t : ℕ) → rank t ≤ m) → rank_over rank l ≤ m + 1
rank_over-le rank l m h = by_kind l.is_plane
  where
    by_kind : (b : Bool) → cond b 0 (greatest (map rank l.reads) + 1) ≤ m + 1
    by_kind true = omega arith
    by_kind false = omega (arith, greatest-le rank l.reads m h)

-- the stages whose ranks count keep them where an unknown one becomes known
reads_same : (ranks : List (Option ℕ)) (l : StageLinks) (s r : ℕ) → slice_get ranks s ≡ Some None → (SomeUnranked ranks l.reads → ⊥)
    → rank_over (known_rank (set ranks s (Some r))) l ≡ rank_over (known_rank ranks) l
reads_same ranks l s r unknown ranked =
    ap (λ n. cond l.is_plane 0 (n + 1)) (greatest_same (known_rank (set ranks s (Some r))) (known_rank ranks) l.reads same)
  where
    apart : (k : ℕ) → k < length l.reads → get_or l.reads k 0 ≢ s
    apart k h e = ranked (k, get_or l.reads k 0, h, get_or_default l.reads k (get_or l.reads k 0) 0 h, ap (slice_get ranks) e ∙ unknown)

    same : (k : ℕ) → k < length l.reads → known_rank (set ranks s (Some r)) (get_or l.reads k 0) ≡ known_rank ranks (get_or l.reads k 0)
    same k h = ap (λ o. unwrap_or o 0) (get_or-set_other ranks s (get_or l.reads k 0) (Some r) None (apart k h))

-- what is unranked afterwards was unranked before
unranked_before : (ranks : List (Option ℕ)) (reads : List ℕ) (s r : ℕ) → s < length ranks → SomeUnranked (set ranks s (Some r)) reads
    → SomeUnranked ranks reads
unranked_before ranks reads s r h u = (u.0, u.1, u.2, u.3, before (cases_eq u.1 s))
  where
    before : (u.1 ≡ s) ⊎ (u.1 ≡ s → ⊥) → slice_get ranks u.1 ≡ Some None
    before (inl e) =
        let known : slice_get (set ranks s (Some r)) u.1 ≡ Some (Some r) =
        ap (slice_get (set ranks s (Some r))) e ∙ slice_get-set_same ranks s (Some r) h in
        let both : Some (Some r) ≡ Some None = sym known ∙ u.4 in
        absurd (none-some r (sym (same_Some _ _ both)))
    before (inr n) = sym (slice_get-set_other ranks s u.1 (Some r) n) ∙ u.4

pub ranked_more : (g : List StageLinks) (ranks : List (Option ℕ)) (s r : ℕ) → AreRanked g ranks → slice_get ranks s ≡ Some None
    → r ≡ rank_over (known_rank ranks) (links_at g s) → (SomeUnranked ranks (links_at g s).reads → ⊥) → AreRanked g (set ranks s (Some r))
ranked_more g ranks s r h unknown is ready =
    record { each = length-set ranks s (Some r) ∙ h.each; bounded = bounded; rank = rank; ranked = ranked }
  where
    within : s < length ranks
    within = slice_get_within ranks s None unknown

    fewer : unknowns (set ranks s (Some r)) + 1 ≡ unknowns ranks
    fewer = unknowns-set ranks s r unknown

    known : slice_get (set ranks s (Some r)) s ≡ Some (Some r)
    known = slice_get-set_same ranks s (Some r) within

    low : (t : ℕ) → known_rank ranks t ≤ length g - unknowns ranks
    low t = omega (arith, known_rank-le ranks (length g) t h.each h.bounded)

    at_most : unknowns ranks ≤ length g
    at_most = omega (arith, unknowns-le ranks, h.each)

    value : (t q : ℕ) → (t ≡ s) → slice_get (set ranks s (Some r)) t ≡ Some (Some q) → q ≡ r
    value t q e p = same_Some _ _ (same_Some _ _ (sym p ∙ ap (slice_get (set ranks s (Some r))) e ∙ known))

    bounded : IsBounded (set ranks s (Some r)) (length g)
    bounded t q p = by_place (cases_eq t s)
      where
        by_place : (t ≡ s) ⊎ (t ≡ s → ⊥) → q + unknowns (set ranks s (Some r)) ≤ length g
        by_place (inl e) =
            let top = rank_over-le (known_rank ranks) (links_at g s) (length g - unknowns ranks) low in
            omega (arith, value t q e p, is, top, fewer, at_most)
        by_place (inr n) =
            omega (arith, h.bounded t q (sym (slice_get-set_other ranks s t (Some r) n) ∙ p), fewer)

    rank : (t q : ℕ) → slice_get (set ranks s (Some r)) t ≡ Some (Some q) → q ≡ rank_over (known_rank (set ranks s (Some r))) (links_at g t)
    rank t q p = by_place (cases_eq t s)
      where
        by_place : (t ≡ s) ⊎ (t ≡ s → ⊥) → q ≡ rank_over (known_rank (set ranks s (Some r))) (links_at g t)
        by_place (inl e) =
            value t q e p ∙ is ∙ sym (reads_same ranks (links_at g s) s r unknown ready)
            ∙ ap (λ x. rank_over (known_rank (set ranks s (Some r))) (links_at g x)) (sym e)
        by_place (inr n) =
            let old = sym (slice_get-set_other ranks s t (Some r) n) ∙ p in
            h.rank t q old ∙ sym (reads_same ranks (links_at g t) s r unknown (h.ranked t q old))

    ranked : (t q : ℕ) → slice_get (set ranks s (Some r)) t ≡ Some (Some q) → SomeUnranked (set ranks s (Some r)) (links_at g t).reads → ⊥
    ranked t q p u = by_place (cases_eq t s)
      where
        before : SomeUnranked ranks (links_at g t).reads
        before = unranked_before ranks (links_at g t).reads s r within u

        by_place : (t ≡ s) ⊎ (t ≡ s → ⊥) → ⊥
        by_place (inl e) = ready (subst (λ x. SomeUnranked ranks (links_at g x).reads) e before)
        by_place (inr n) = h.ranked t q (sym (slice_get-set_other ranks s t (Some r) n) ∙ p) before

pub ranked_fewer : (ranks : List (Option ℕ)) (s r : ℕ) → slice_get ranks s ≡ Some None → unknowns (set ranks s (Some r)) < unknowns ranks
ranked_fewer ranks s r unknown = omega (arith, unknowns-set ranks s r unknown)

none_known : (n t r : ℕ) → slice_get (replicate n None) t ≡ Some (Some r) → ⊥
none_known zero t r e = none-some _ e
none_known (suc n) zero r e = none-some r (same_Some _ _ e)
none_known (suc n) (suc t) r e = none_known n t r e

pub ranked_start : (g : List StageLinks) (n : ℕ) → n ≡ length g → AreRanked g (replicate n None)
ranked_start g n e = record {
  each = length-replicate n None ∙ e;
  bounded = λ t r p. absurd (none_known n t r p);
  rank = λ t r p. absurd (none_known n t r p);
  ranked = λ t r p. absurd (none_known n t r p);
}

-- ---- all stages have their ranks

pub ranking_of : (g : List StageLinks) (ranks : List (Option ℕ)) (v : List ℕ) → AreRanked g ranks → map Some v ≡ ranks → IsRanking g v
ranking_of g ranks v h e = ranking-from_recurrence g v (record { each = each; rank = rank })
  where
    each : length v ≡ length g
    each = sym (length-map v Some) ∙ ap length e ∙ h.each

    known : (t : ℕ) → known_rank ranks t ≡ slice_index v t
    known t = by_place (cases_lt t (length v))
      where
        by_place : (t < length v) ⊎ (length v ≤ t) → known_rank ranks t ≡ slice_index v t
        by_place (inr l) =
            ap (λ o. unwrap_or o 0) (get_or_past ranks t None (omega (arith, each, h.each))) ∙ sym (get_or_past v t 0 l)
        by_place (inl l) =
            ap (λ xs. unwrap_or (get_or xs t None) 0) (sym e) ∙ ap (λ o. unwrap_or o 0) (get_or-map Some v t 0 None l)

    rank : (s : ℕ) → s < length g → slice_index v s ≡ rank_over (slice_index v) (links_at g s)
    rank s l =
        let within : s < length v = omega (arith, each) in
        let got : slice_get ranks s ≡ Some (Some (get_or v s 0)) =
        ap (λ xs. slice_get xs s) (sym e) ∙ slice_get-get_or (map Some v) s None (omega (arith, length-map v (λ (x : ℕ). Some x)))
        ∙ ap Some (get_or-map Some v s 0 None within) in
        h.rank s (get_or v s 0) got
        ∙ ap (λ n. cond (links_at g s).is_plane 0 (n + 1))
        (greatest_same (known_rank ranks) (slice_index v) (links_at g s).reads (λ k l. known _))

-- ---- no stage can have its rank

-- one read more
way_then : (g : List StageLinks) (k s t u : ℕ) → Way g k s t → Reads g t u → Way g (suc k) s u
way_then g zero s t u w r = (u, subst (λ x. Reads g x u) (sym w) r, refl)
way_then g (suc k) s t u w r = (w.0, w.1, way_then g k w.0 t u w.2 r)

-- a stage without a rank
Unranked : List (Option ℕ) → Type 0
Unranked ranks = (s : ℕ) × (slice_get ranks s ≡ Some None)

pub stuck_is_cyclic : (g : List StageLinks) (ranks : List (Option ℕ)) → length ranks ≡ length g
    → ((s : ℕ) → slice_get ranks s ≡ Some None → SomeUnranked ranks (links_at g s).reads) → (s : ℕ) → slice_get ranks s ≡ Some None
    → IsAcyclic g → ⊥
stuck_is_cyclic g ranks each stuck start unknown acyclic =
    let long =
    length-le_from_distinct_below (chain (suc (length g)) start unknown) (length g) (distinct (suc (length g)) start unknown)
    (below (suc (length g)) start unknown) in
    omega (arith, long, length-chain (suc (length g)) start unknown)
  where
    next : (s : ℕ) → slice_get ranks s ≡ Some None → ℕ
    next s u = (stuck s u).1

    next_unknown : (s : ℕ) (u : slice_get ranks s ≡ Some None) → slice_get ranks (next s u) ≡ Some None
    next_unknown s u = (stuck s u).4

    next_reads : (s : ℕ) (u : slice_get ranks s ≡ Some None) → Reads g s (next s u)
    next_reads s u = ((stuck s u).0, (stuck s u).2, (stuck s u).3)

    chain : (n s : ℕ) → slice_get ranks s ≡ Some None → List ℕ
    chain zero s u = []
    chain (suc n) s u = s ∷ chain n (next s u) (next_unknown s u)

    length-chain : (n s : ℕ) (u : slice_get ranks s ≡ Some None) → length (chain n s u) ≡ n
    length-chain zero s u = refl
    length-chain (suc n) s u = ap suc (length-chain n (next s u) (next_unknown s u))

    below : (n s : ℕ) (u : slice_get ranks s ≡ Some None) (q : ℕ) → list_any (eqb q) (chain n s u) ≡ true → q < length g
    below zero s u q e = cc
    below (suc n) s u q e = by_test (eqb_tells q s) (λ h. below n (next s u) (next_unknown s u) q h)
      where
        rest : List ℕ
        rest = chain n (next s u) (next_unknown s u)

        by_test : ((eqb q s ≡ true) × (q ≡ s)) ⊎ ((eqb q s ≡ false) × (q ≢ s)) → (list_any (eqb q) rest ≡ true → q < length g)
            → q < length g
        by_test (inl p) others = omega (arith, p.1, slice_get_within ranks s None u, each)
        by_test (inr p) others = others (sym (ap (λ b. b || list_any (eqb q) rest) p.0) ∙ e)

    -- a stage that leads to the chain is not in it
    later : (n k s t : ℕ) (u : slice_get ranks t ≡ Some None) → Way g (suc k) s t → AllByRecursion (λ y. eqb s y ≡ false) (chain n t u)
    later zero k s t u w = tt
    later (suc n) k s t u w =
        (by_test (eqb_tells s t), later n (suc k) s (next t u) (next_unknown t u) (way_then g (suc k) s t (next t u) w (next_reads t u)))
      where
        by_test : ((eqb s t ≡ true) × (s ≡ t)) ⊎ ((eqb s t ≡ false) × (s ≢ t)) → eqb s t ≡ false
        by_test (inl p) = absurd (acyclic s k (subst (Way g (suc k) s) (sym p.1) w))
        by_test (inr p) = p.0

    distinct : (n s : ℕ) (u : slice_get ranks s ≡ Some None) → IsDistinct eqb (chain n s u)
    distinct zero s u = unfold IsDistinct in tt
    distinct (suc n) s u =
        IsDistinct-cons eqb s _ (later n 0 s (next s u) (next_unknown s u) (next s u, next_reads s u, refl))
        (distinct n (next s u) (next_unknown s u))

-- what `graph[s]` gives
pub links_read : (g : List StageLinks) (s : ℕ) (l : StageLinks) → s < length g → l ≡ get_or g s l → links_at g s ≡ l
links_read g s l h e = sym (get_or_read g s l h e _)
