-- Cycles of reads, as lists and as ways.
use Rattle.std.proofs.Common.{ℕ, zero, suc, ◌+◌, ◌-◌, ◌<◌, ◌≤◌, ◌≡◌, ◌⊎◌, inl, inr, List, [], ◌∷◌, ◌++◌, Option, Some, length}
use Rattle.std.proofs.Common.{slice_get, slice_index, sym, ◌∙◌, ap, refl, subst, arith}
use Rattle.std.proofs.lemmas.Bool.{cases_lt}
use Rattle.std.proofs.lemmas.Option.{same_Some}
use Rattle.std.proofs.lemmas.List.{get_or_append_left, get_or_push, length_push}
use Rattle.pipe_checks.specs.StageLinks.{StageLinks}
use Rattle.pipe_checks.specs.Graph.{links_at, Reads, Way, IsAcyclic, IsCycle, IsShortestFrom, IsShortestCycle}
use Rattle.pipe_checks.specs.inside.Search.{SomeAt, AreDistances, IsWayBack}
use Rattle.pipe_checks.proofs.Distances.{some_at, reads_within}

-- from a place of a list to its end
way_from : (g : List StageLinks) (c : List ℕ) (n i : ℕ) → i + n + 1 ≡ length c
    → ((i : ℕ) → i + 1 < length c → Reads g (slice_index c i) (slice_index c (i + 1)))
    → Way g n (slice_index c i) (slice_index c (length c - 1))
way_from g c zero i e reads = ap (slice_index c) (omega arith)
way_from g c (suc n) i e reads = (slice_index c (i + 1), reads i (omega arith), way_from g c n (i + 1) (omega arith) reads)

pub way_round : (g : List StageLinks) (c : List ℕ) → IsCycle g c
    → (k : ℕ) × (length c ≡ k + 2) × Way g (suc k) (slice_index c 0) (slice_index c 0)
way_round g c h =
    let k = length c - 2 in
    let one : length c ≡ k + 2 = omega (arith, h.long) in
    let way = way_from g c (suc k) 0 (omega (arith, h.long)) h.reads in
    (k, one, subst (Way g (suc k) (slice_index c 0)) (sym h.closed) way)

-- a stage at a distance reads one that is nearer
pub leads_down : (g : List StageLinks) (goal t d : ℕ) (far : List (Option ℕ)) → AreDistances g goal far → slice_get far t ≡ Some (Some (suc d))
    → SomeAt far (links_at g t).reads d
leads_down g goal t d far h at =
    let w = h.way t (suc d) at in
    let f = h.least w.0 d w.2 in
    by_distance w.0 f.0 w.1 f.1 f.2 (cases_lt f.0 d)
  where
    by_distance : (u e : ℕ) → Reads g t u → slice_get far u ≡ Some (Some e) → e ≤ d → (e < d) ⊎ (d ≤ e) → SomeAt far (links_at g t).reads d
    by_distance u e r p l (inl less) =
        let f = h.least t (suc e) (u, r, h.way u e p) in
        absurd (omega (arith, f.2, same_Some _ _ (same_Some _ _ (sym f.1 ∙ at))))
    by_distance u e r p l (inr more) =
        let same : e ≡ d = omega arith in
        some_at far (links_at g t).reads u d r (subst (λ n. slice_get far u ≡ Some (Some n)) same p)

-- what stands ahead: the goal, or one that is nearer
pub record IsAhead (g : List StageLinks) (goal : ℕ) (far : List (Option ℕ)) (at steps : ℕ) : Type 0 where
  pub arrived : steps ≡ 0 → at ≡ goal
  pub on : 0 < steps → SomeAt far (links_at g at).reads (steps - 1)

pub ahead_at : (g : List StageLinks) (goal t d : ℕ) (far : List (Option ℕ)) → AreDistances g goal far → slice_get far t ≡ Some (Some d)
    → IsAhead g goal far t d
ahead_at g goal t zero far h at = record { arrived = λ e. h.way t zero at; on = λ l. absurd (omega arith) }
ahead_at g goal t (suc d) far h at =
    record {
      arrived =
          λ e. absurd (omega arith);
      on = λ l. subst (SomeAt far (links_at g t).reads) (sub_one) (leads_down g goal t d far h at);
    }
  where
    sub_one : d ≡ suc d - 1
    sub_one = omega arith

-- the way so far
pub record IsUnderWay (g : List StageLinks) (start : ℕ) (far : List (Option ℕ)) (left : ℕ) (way : List ℕ) (here steps : ℕ) : Type 0 where
  pub long : length way + steps ≡ left + 2
  pub some : 0 < length way
  pub first : slice_index way 0 ≡ start
  pub last : slice_index way (length way - 1) ≡ here
  pub reads : (i : ℕ) → i + 1 < length way → Reads g (slice_index way i) (slice_index way (i + 1))
  pub at : (i : ℕ) → i + 1 < length way → slice_get far (slice_index way (i + 1)) ≡ Some (Some (left - i))
  pub least : (i u : ℕ) → i + 1 < length way → Reads g (slice_index way i) u → slice_get far u ≡ Some (Some (left - i))
      → slice_index way (i + 1) ≤ u

pub under_way_first : (g : List StageLinks) (start : ℕ) (far : List (Option ℕ)) (left : ℕ)
    → IsUnderWay g start far left (start ∷ []) start (left + 1)
under_way_first g start far left = record {
  long = omega arith;
  some = omega arith;
  first = refl;
  last = refl;
  reads = λ i h. absurd (omega arith);
  at = λ i h. absurd (omega arith);
  least = λ i u h. absurd (omega arith);
}

-- the least of what is read at the next distance
pub record IsNext (g : List StageLinks) (far : List (Option ℕ)) (here steps next : ℕ) : Type 0 where
  pub read : Reads g here next
  pub at : slice_get far next ≡ Some (Some steps)
  pub least : (u : ℕ) → Reads g here u → slice_get far u ≡ Some (Some steps) → next ≤ u

pub under_way_more : (g : List StageLinks) (start : ℕ) (far : List (Option ℕ)) (left : ℕ) (way : List ℕ) (here steps next : ℕ)
    → IsUnderWay g start far left way here (steps + 1) → IsNext g far here steps next
    → IsUnderWay g start far left (way ++ next ∷ []) next steps
under_way_more g start far left way here steps next h n = record {
  long = omega (arith, long, h.long);
  some = omega (arith, long);
  first = get_or_append_left way (next ∷ []) 0 0 h.some ∙ h.first;
  last = get_or_push way next 0 (length (way ++ next ∷ []) - 1) (omega (arith, long));
  reads = λ i l. reads i l (cases_lt (i + 1) (length way));
  at = λ i l. at i l (cases_lt (i + 1) (length way));
  least = λ i u l. least i u l (cases_lt (i + 1) (length way));
}
  where
    more : List ℕ
    more = way ++ next ∷ []

    long : length more ≡ length way + 1
    long = length_push way next

    old : (i : ℕ) → i < length way → slice_index more i ≡ slice_index way i
    old i p = get_or_append_left way (next ∷ []) 0 i p

    end : (i : ℕ) → i + 1 < length more → length way ≤ i + 1 → length way ≡ i + 1
    end i l p = omega (arith, long)

    end_is : (i : ℕ) → length way ≡ i + 1 → slice_index more i ≡ here
    end_is i e = old i (omega arith) ∙ ap (slice_index way) (omega arith) ∙ h.last

    next_is : (i : ℕ) → length way ≡ i + 1 → slice_index more (i + 1) ≡ next
    next_is i e = get_or_push way next 0 (i + 1) e

    steps_is : (i : ℕ) → length way ≡ i + 1 → Some (Some steps) ≡ Some (Some (left - i))
    steps_is i e = ap (λ (n : ℕ). Some (Some n)) (omega (arith, h.long))

    reads : (i : ℕ) → i + 1 < length more → (i + 1 < length way) ⊎ (length way ≤ i + 1)
        → Reads g (slice_index more i) (slice_index more (i + 1))
    reads i l (inl p) =
        subst (λ s. Reads g s (slice_index more (i + 1))) (sym (old i (omega arith)))
        (subst (Reads g (slice_index way i)) (sym (old (i + 1) p)) (h.reads i p))
    reads i l (inr p) =
        subst (λ s. Reads g s (slice_index more (i + 1))) (sym (end_is i (end i l p)))
        (subst (Reads g here) (sym (next_is i (end i l p))) n.read)

    at : (i : ℕ) → i + 1 < length more → (i + 1 < length way) ⊎ (length way ≤ i + 1)
        → slice_get far (slice_index more (i + 1)) ≡ Some (Some (left - i))
    at i l (inl p) = ap (slice_get far) (old (i + 1) p) ∙ h.at i p
    at i l (inr p) = ap (slice_get far) (next_is i (end i l p)) ∙ n.at ∙ steps_is i (end i l p)

    least : (i u : ℕ) → i + 1 < length more → (i + 1 < length way) ⊎ (length way ≤ i + 1) → Reads g (slice_index more i) u
        → slice_get far u ≡ Some (Some (left - i)) → slice_index more (i + 1) ≤ u
    least i u l (inl p) r e =
        omega (arith, old (i + 1) p, h.least i u p (subst (λ s. Reads g s u) (old i (omega arith)) r) e)
    least i u l (inr p) r e =
        omega
        (arith, next_is i (end i l p), n.least u (subst (λ s. Reads g s u) (end_is i (end i l p)) r) (e ∙ sym (steps_is i (end i l p))))

pub way_back_is : (g : List StageLinks) (start : ℕ) (far : List (Option ℕ)) (left here : ℕ) (way : List ℕ) (steps : ℕ)
    → IsUnderWay g start far left way here steps → steps ≡ 0 → here ≡ start → IsWayBack g start far left way
way_back_is g start far left here way steps h e arrived =
    record { long = omega (arith, h.long); first = h.first; last = h.last ∙ arrived; reads = h.reads; at = h.at; least = h.least }

-- the way back is the first of the shortest cycles
pub shortest_from : (g : List StageLinks) (start left : ℕ) (far : List (Option ℕ)) (c : List ℕ) → AreDistances g start far
    → ((k : ℕ) → SomeAt far (links_at g start).reads k → left ≤ k) → IsWayBack g start far left c → IsShortestFrom g start c
shortest_from g start left far c h nearest back = record {
  cycle = record { long = omega (arith, back.long); closed = back.first ∙ sym back.last; reads = back.reads };
  start = back.first;
  shortest = shortest;
  first = first;
}
  where
    shortest : (d : List ℕ) → IsCycle g d → slice_index d 0 ≡ start → length c ≤ length d
    shortest d cycle e =
        let round = way_round g d cycle in
        let way = subst (λ s. Way g (suc round.0) s s) e round.2 in
        let f = h.least way.0 round.0 way.2 in
        omega (arith, nearest f.0 (some_at far (links_at g start).reads way.0 f.0 way.1 f.1), f.2, round.1, back.long)

    -- what a stage of the way reads is no nearer than what comes next
    no_nearer : (i u d : ℕ) → i + 1 < length c → Reads g (slice_index c i) u → slice_get far u ≡ Some (Some d) → left - i ≤ d
    no_nearer zero u d l r at =
        omega (arith, nearest d (some_at far (links_at g start).reads u d (subst (λ s. Reads g s u) back.first r) at))
    no_nearer (suc i) u d l r at =
        let less : i + 1 < length c = omega arith in
        let here = back.at i less in
        let one : suc i ≡ i + 1 = omega arith in
        let way : Way g (suc d) (slice_index c (i + 1)) start = (u, subst (λ k. Reads g (slice_index c k) u) one r, h.way u d at) in
        let f = h.least (slice_index c (i + 1)) (suc d) way in
        omega (arith, f.2, same_Some _ _ (same_Some _ _ (sym f.1 ∙ here)))

    first : (d : List ℕ) → IsCycle g d → slice_index d 0 ≡ start → length d ≡ length c → (i : ℕ) → i < length c
        → ((k : ℕ) → k < i → slice_index d k ≡ slice_index c k) → slice_index c i ≤ slice_index d i
    first d cycle e same zero l agree = omega (arith, back.first, e)
    first d cycle e same (suc i) l agree =
        let less : i + 1 < length c = omega arith in
        let one : suc i ≡ i + 1 = omega arith in
        let u = slice_index d (i + 1) in
        let read : Reads g (slice_index c i) u = subst (λ s. Reads g s u) (agree i (omega arith)) (cycle.reads i (omega (arith, same))) in
        let rest : Way g (left - i) u start =
        subst (Way g (left - i) u) (sym cycle.closed ∙ e)
        (way_from g d (left - i) (i + 1) (omega (arith, same, back.long)) cycle.reads) in
        let f = h.least u (left - i) rest in
        let far_one : f.0 ≡ left - i = omega (arith, f.2, no_nearer i u f.0 less read f.1) in
        let least = back.least i u less read (f.1 ∙ ap (λ (n : ℕ). Some (Some n)) far_one) in
        omega (arith, least, ap (slice_index c) one, ap (slice_index d) one)

pub no_cycle_from : (g : List StageLinks) (start : ℕ) (far : List (Option ℕ)) → AreDistances g start far
    → ((k : ℕ) → SomeAt far (links_at g start).reads k → ⊥) → (k : ℕ) → Way g (suc k) start start → ⊥
no_cycle_from g start far h none k w =
    let f = h.least w.0 k w.2 in
    none f.0 (some_at far (links_at g start).reads w.0 f.0 w.1 f.1)

-- the first stage with a cycle has the least
pub shortest_of_all : (g : List StageLinks) (start : ℕ) (c : List ℕ) → IsShortestFrom g start c
    → ((s : ℕ) → s < start → (k : ℕ) → Way g (suc k) s s → ⊥) → IsShortestCycle g c
shortest_of_all g start c h before = record { from_start = subst (λ s. IsShortestFrom g s c) (sym h.start) h; least = least }
  where
    least : (d : List ℕ) → IsCycle g d → slice_index c 0 ≤ slice_index d 0
    least d cycle = by_place (cases_lt (slice_index d 0) start)
      where
        by_place : (slice_index d 0 < start) ⊎ (start ≤ slice_index d 0) → slice_index c 0 ≤ slice_index d 0
        by_place (inl l) = let round = way_round g d cycle in absurd (before (slice_index d 0) l round.0 round.2)
        by_place (inr l) = omega (arith, h.start)

pub acyclic_of : (g : List StageLinks) (n : ℕ) → length g ≤ n → ((s : ℕ) → s < n → (k : ℕ) → Way g (suc k) s s → ⊥) → IsAcyclic g
acyclic_of g n l before s k w = before s (omega (arith, reads_within g s w.0 w.1)) k w
