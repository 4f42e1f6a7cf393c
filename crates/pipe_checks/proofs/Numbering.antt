-- The least numbers of stages above all that they read, and the recurrence that gives them.
use Rattle.std.proofs.Common.{ℕ, zero, suc, ◌+◌, ◌-◌, ◌<◌, ◌≤◌, ◌≡◌, ◌≢◌, ◌⊎◌, inl, inr, Bool, true, false, cond, List, [], ◌∷◌}
use Rattle.std.proofs.Common.{map, length, set, get_or, slice_index, sym, ◌∙◌, ap, refl, subst, arith}
use Rattle.std.proofs.lemmas.Bool.{cases_eq, cases_lt, false≢true}
use Rattle.std.proofs.lemmas.List.{get_or-set_other, get_or-set_same, get_or_past, length-set}
use Rattle.std.specs.Prelude.{Contains}
use Rattle.pipe_checks.specs.StageLinks.{StageLinks}
use Rattle.pipe_checks.specs.Graph.{links_at, IsPlane, Reads, IsRanked, IsRanking}
use Rattle.domains.specs.Greatest.{greatest}
use Rattle.pipe_checks.specs.inside.Search.{rank_over}
use Rattle.pipe_checks.proofs.Distances.{reads_within}

-- ---- the greatest

at_most_greatest : (f : ℕ → ℕ) (xs : List ℕ) (i t : ℕ) → i < length xs → get_or xs i t ≡ t → f t ≤ greatest (map f xs)
at_most_greatest f [] i t h e = absurd (omega arith)
at_most_greatest f (x ∷ xs) zero t h e = omega (arith, ap f e)
at_most_greatest f (x ∷ xs) (suc i) t h e = omega (arith, at_most_greatest f xs i t (omega arith) e)

greatest_at_most : (f : ℕ → ℕ) (xs : List ℕ) (m : ℕ) → ((t : ℕ) → Contains xs t → f t ≤ m) → greatest (map f xs) ≤ m
greatest_at_most f [] m h = omega arith
greatest_at_most f (x ∷ xs) m h =
    omega (arith, h x (0, omega arith, refl), greatest_at_most f xs m (λ t c. h t (suc c.0, omega (arith, c.1), c.2)))

-- ---- planes and other stages

cases_true : (b : Bool) → (b ≡ true) ⊎ (b ≡ true → ⊥)
cases_true true = inl refl
cases_true false = inr false≢true

not_true : (b : Bool) → (b ≡ true → ⊥) → b ≡ false
not_true true n = absurd (n refl)
not_true false n = refl

rank_of_plane : (rank : ℕ → ℕ) (l : StageLinks) → l.is_plane ≡ true → rank_over rank l ≡ 0
rank_of_plane rank l e = ap (λ b. cond b 0 (greatest (map rank l.reads) + 1)) e

rank_of_other : (rank : ℕ → ℕ) (l : StageLinks) → (l.is_plane ≡ true → ⊥) → rank_over rank l ≡ greatest (map rank l.reads) + 1
rank_of_other rank l n = ap (λ b. cond b 0 (greatest (map rank l.reads) + 1)) (not_true l.is_plane n)

-- ---- from the recurrence to the least numbers

-- each stage has its rank by the ranks of those that it reads
pub record Recurs (g : List StageLinks) (ranks : List ℕ) : Type 0 where
  pub each : length ranks ≡ length g
  pub rank : (s : ℕ) → s < length g → slice_index ranks s ≡ rank_over (slice_index ranks) (links_at g s)

ranked_of : (g : List StageLinks) (ranks : List ℕ) → Recurs g ranks → IsRanked g ranks
ranked_of g ranks h = record { each = h.each; plane = λ s p. plane s p (cases_lt s (length g)); other = other; above = above }
  where
    plane : (s : ℕ) → IsPlane g s → (s < length g) ⊎ (length g ≤ s) → slice_index ranks s ≡ 0
    plane s p (inl l) = h.rank s l ∙ rank_of_plane (slice_index ranks) (links_at g s) p
    plane s p (inr l) = get_or_past ranks s 0 (omega (arith, h.each))

    other : (s : ℕ) → s < length g → (IsPlane g s → ⊥) → 1 ≤ slice_index ranks s
    other s l n = omega (arith, h.rank s l, rank_of_other (slice_index ranks) (links_at g s) n)

    above : (s t : ℕ) → (IsPlane g s → ⊥) → Reads g s t → slice_index ranks t < slice_index ranks s
    above s t n r =
        omega (
          arith,
          h.rank s (reads_within g s t r),
          rank_of_other (slice_index ranks) (links_at g s) n,
          at_most_greatest (slice_index ranks) (links_at g s).reads r.0 t r.1 r.2,
        )

-- one stage, where all below it have no greater rank than elsewhere
no_greater : (g : List StageLinks) (ranks others : List ℕ) (s : ℕ) → Recurs g ranks → IsRanked g others
    → ((t : ℕ) → slice_index ranks t < slice_index ranks s → slice_index ranks t ≤ slice_index others t)
    → slice_index ranks s ≤ slice_index others s
no_greater g ranks others s h o below = by_place (cases_lt s (length g))
  where
    by_kind : s < length g → (IsPlane g s) ⊎ (IsPlane g s → ⊥) → slice_index ranks s ≤ slice_index others s
    by_kind l (inl p) = omega (arith, h.rank s l, rank_of_plane (slice_index ranks) (links_at g s) p)
    by_kind l (inr n) =
        let most =
        greatest_at_most (slice_index ranks) (links_at g s).reads (slice_index others s - 1)
        (λ t c. omega (arith, o.above s t n c, below t ((ranked_of g ranks h).above s t n c))) in
        omega (arith, h.rank s l, rank_of_other (slice_index ranks) (links_at g s) n, most, o.other s l n)

    by_place : (s < length g) ⊎ (length g ≤ s) → slice_index ranks s ≤ slice_index others s
    by_place (inl l) = by_kind l (cases_true (links_at g s).is_plane)
    by_place (inr l) = omega (arith, get_or_past ranks s 0 (omega (arith, h.each)))

least_up_to : (g : List StageLinks) (ranks others : List ℕ) → Recurs g ranks → IsRanked g others → (n s : ℕ) → slice_index ranks s < n
    → slice_index ranks s ≤ slice_index others s
least_up_to g ranks others h o zero s l = absurd (omega arith)
least_up_to g ranks others h o (suc n) s l = no_greater g ranks others s h o (λ t less. least_up_to g ranks others h o n t (omega arith))

pub ranking-from_recurrence : (g : List StageLinks) (ranks : List ℕ) → Recurs g ranks → IsRanking g ranks
ranking-from_recurrence g ranks h = record {
  ranked = ranked_of g ranks h;
  least = λ others o s. least_up_to g ranks others h o (slice_index ranks s + 1) s (omega arith);
}

-- ---- and back

-- a stage may have any lesser number that is above all that it reads
lowered : (g : List StageLinks) (ranks : List ℕ) (s m : ℕ) → IsRanked g ranks → s < length g → (IsPlane g s → ⊥) → 1 ≤ m
    → m ≤ slice_index ranks s → ((t : ℕ) → Reads g s t → slice_index ranks t < m) → IsRanked g (set ranks s m)
lowered g ranks s m h within not_plane one less top = record {
  each = length-set ranks s m ∙ h.each;
  plane = λ t p. plane t p (cases_eq t s);
  other = λ t l n. other t l n (cases_eq t s);
  above = λ u t n r. above u t n r (cases_eq u s);
}
  where
    here : (t : ℕ) → t ≡ s → slice_index (set ranks s m) t ≡ m
    here t e = ap (slice_index (set ranks s m)) e ∙ get_or-set_same ranks s m 0 (omega (arith, h.each))

    there : (t : ℕ) → t ≢ s → slice_index (set ranks s m) t ≡ slice_index ranks t
    there t n = get_or-set_other ranks s t m 0 n

    falls : (t : ℕ) → (t ≡ s) ⊎ (t ≡ s → ⊥) → slice_index (set ranks s m) t ≤ slice_index ranks t
    falls t (inl e) = omega (arith, here t e, ap (slice_index ranks) e)
    falls t (inr n) = omega (arith, there t n)

    plane : (t : ℕ) → IsPlane g t → (t ≡ s) ⊎ (t ≡ s → ⊥) → slice_index (set ranks s m) t ≡ 0
    plane t p (inl e) = absurd (not_plane (subst (IsPlane g) e p))
    plane t p (inr n) = there t n ∙ h.plane t p

    other : (t : ℕ) → t < length g → (IsPlane g t → ⊥) → (t ≡ s) ⊎ (t ≡ s → ⊥) → 1 ≤ slice_index (set ranks s m) t
    other t l n (inl e) = omega (arith, here t e)
    other t l n (inr d) = omega (arith, there t d, h.other t l n)

    above : (u t : ℕ) → (IsPlane g u → ⊥) → Reads g u t → (u ≡ s) ⊎ (u ≡ s → ⊥)
        → slice_index (set ranks s m) t < slice_index (set ranks s m) u
    above u t n r (inl e) = omega (arith, here u e, falls t (cases_eq t s), top t (subst (λ v. Reads g v t) e r))
    above u t n r (inr d) = omega (arith, there u d, falls t (cases_eq t s), h.above u t n r)

pub ranking-recurs : (g : List StageLinks) (ranks : List ℕ) → IsRanking g ranks → (s : ℕ) → s < length g
    → slice_index ranks s ≡ rank_over (slice_index ranks) (links_at g s)
ranking-recurs g ranks h s within = by_kind (cases_true (links_at g s).is_plane)
  where
    most : ℕ
    most = greatest (map (slice_index ranks) (links_at g s).reads)

    over : (t : ℕ) → Reads g s t → slice_index ranks t < most + 1
    over t r = omega (arith, at_most_greatest (slice_index ranks) (links_at g s).reads r.0 t r.1 r.2)

    at_least : (IsPlane g s → ⊥) → most + 1 ≤ slice_index ranks s
    at_least n =
        let top =
        greatest_at_most (slice_index ranks) (links_at g s).reads (slice_index ranks s - 1)
        (λ t c. omega (arith, h.ranked.above s t n c)) in
        omega (arith, top, h.ranked.other s within n)

    at_most : (IsPlane g s → ⊥) → slice_index ranks s ≤ most + 1
    at_most n =
        let low = lowered g ranks s (most + 1) h.ranked within n (omega arith) (at_least n) over in
        omega (arith, h.least (set ranks s (most + 1)) low s, get_or-set_same ranks s (most + 1) 0 (omega (arith, h.ranked.each)))

    by_kind : (IsPlane g s) ⊎ (IsPlane g s → ⊥) → slice_index ranks s ≡ rank_over (slice_index ranks) (links_at g s)
    by_kind (inl p) = h.ranked.plane s p ∙ sym (rank_of_plane (slice_index ranks) (links_at g s) p)
    by_kind (inr n) =
        let same : slice_index ranks s ≡ most + 1 = omega (arith, at_least n, at_most n) in
        same ∙ sym (rank_of_other (slice_index ranks) (links_at g s) n)
