-- Boxes follow the rule: steps beyond the number of ranks change nothing.
use Rattle.std.proofs.Common.{ℕ, zero, suc, ◌+◌, ◌<◌, ◌≤◌, ◌⊎◌, inl, inr, arith, ◌≡◌, nat_eq, Option, Some, None, List, [], ◌∷◌}
use Rattle.std.proofs.Common.{◌++◌, map, filter, max, refl, sym, ap, ◌∙◌}
use Rattle.std.specs.Prelude.{slice_get, if◌then◌else◌}
use Rattle.std.specs.List.{flat_map}
use Rattle.std.proofs.lemmas.Bool.{cases_lt}
use Rattle.std.proofs.lemmas.List.{map-append}
use Rattle.std.proofs.lemmas.List.Elements.{filter-append}
use Rattle.domains.specs.declared.area.Area.{Area}
use Rattle.job.specs.Pipeline.{Stage, rank_of}
use Rattle.job.specs.Reads.{IsRanked}
use Rattle.tile_boxes.specs.Order.{greatest_rank, backward}
use Rattle.tile_boxes.specs.Schedules.{is_inlined}
use Rattle.tile_boxes.specs.Demands.{Demand, hull_of_all, areas_of}
use Rattle.tile_boxes.specs.Targets.{Target, region_by, stage_demands, demands_by, cut_to, box_by, box_within, box}
use Rattle.tile_boxes.proofs.DemandsFall.{none_of_higher}

-- ---- ranks

le_max : (a b c : ℕ) → a ≤ b → a ≤ max c b
le_max a b c h = omega arith

pub rank_below : (stages : List Stage) (g : ℕ) → rank_of stages g ≤ greatest_rank stages
rank_below [] g = omega arith
rank_below (s ∷ ss) zero = omega arith
rank_below (s ∷ ss) (suc g) = le_max (rank_of ss g) (greatest_rank ss) s.rank (rank_below ss g)

-- ---- what is demanded of a stage

pub areas_of-append : (g : ℕ) (ds es : List Demand) → areas_of g (ds ++ es) ≡ areas_of g ds ++ areas_of g es
areas_of-append g ds es =
    ap (map (λ (d : Demand). d.area)) (filter-append (λ (d : Demand). nat_eq d.stage g) ds es)
    ∙ map-append (λ (d : Demand). d.area) (filter (λ d. nat_eq d.stage g) ds) (filter (λ d. nat_eq d.stage g) es)

-- by two families of demands that agree on what is demanded of the stage
pub same_areas : (D E : ℕ → List Demand) (g : ℕ) (rs : List ℕ) → ((r : ℕ) → areas_of g (D r) ≡ areas_of g (E r))
    → areas_of g (flat_map D rs) ≡ areas_of g (flat_map E rs)
same_areas D E g [] same = refl
same_areas D E g (r ∷ rs) same =
    areas_of-append g (D r) (flat_map D rs) ∙ ap (λ xs. xs ++ areas_of g (flat_map D rs)) (same r)
    ∙ ap (λ xs. areas_of g (E r) ++ xs) (same_areas D E g rs same) ∙ sym (areas_of-append g (E r) (flat_map E rs))

-- boxes count only for stages of greater rank
same_region : (t : Target) (b c : ℕ → Option Area) (r : ℕ) → b r ≡ c r → region_by t b r ≡ region_by t c r
same_region t b c r e = ap (λ o. if nat_eq r t.stage then Some t.region else (if is_inlined t.inlining r then o else None)) e

pub same_demands : (t : Target) (b c : ℕ → Option Area) (r : ℕ) → b r ≡ c r → demands_by t b r ≡ demands_by t c r
same_demands t b c r e = ap (stage_demands (slice_get t.job.stages r)) (same_region t b c r e)

pub box_by-same : (t : Target) (b c : ℕ → Option Area) (g : ℕ) → IsRanked t.job.stages
    → ((r : ℕ) → rank_of t.job.stages g < rank_of t.job.stages r → b r ≡ c r) → box_by t b g ≡ box_by t c g
box_by-same t b c g ranked same =
    ap (λ xs. cut_to (slice_get t.job.stages g) (hull_of_all xs))
    (same_areas (demands_by t b) (demands_by t c) g (backward t.job.stages)
    (λ r. from r (cases_lt (rank_of t.job.stages g) (rank_of t.job.stages r))))
  where
    from : (r : ℕ) → (rank_of t.job.stages g < rank_of t.job.stages r) ⊎ (rank_of t.job.stages r ≤ rank_of t.job.stages g)
        → areas_of g (demands_by t b r) ≡ areas_of g (demands_by t c r)
    from r (inr low) = none_of_higher t b r g ranked low ∙ sym (none_of_higher t c r g ranked low)
    from r (inl high) = ap (areas_of g) (same_demands t b c r (same r high))

-- ---- steps

-- the number of steps is enough for a stage
abbrev pub IsEnough : Target → ℕ → ℕ → Type 0
IsEnough t n g = greatest_rank t.job.stages < n + rank_of t.job.stages g

pub enough_left : (m n a b : ℕ) → m < suc n + a → a < b → m < n + b
enough_left m n a b h k = omega arith

pub box_within-enough : (t : Target) → IsRanked t.job.stages → (n m g : ℕ) → IsEnough t n g → IsEnough t m g
    → box_within t n g ≡ box_within t m g
box_within-enough t ranked zero m g a b = absurd (let low = rank_below t.job.stages g in omega arith)
box_within-enough t ranked (suc n) zero g a b = absurd (let low = rank_below t.job.stages g in omega arith)
box_within-enough t ranked (suc n) (suc m) g a b =
    box_by-same t (box_within t n) (box_within t m) g ranked (λ r high.
    box_within-enough t ranked n m r (enough_left (greatest_rank t.job.stages) n (rank_of t.job.stages g) (rank_of t.job.stages r) a high)
    (enough_left (greatest_rank t.job.stages) m (rank_of t.job.stages g) (rank_of t.job.stages r) b high))

above : (m a b : ℕ) → a < b → m < m + b
above m a b h = omega arith

pub all_enough : (m b : ℕ) → m < suc m + b
all_enough m b = omega arith

pub box_follows : (t : Target) (g : ℕ) → IsRanked t.job.stages → box t g ≡ box_by t (box t) g
unfolding box
box_follows t g ranked =
    let most : ℕ = greatest_rank t.job.stages in
    box_by-same t (box_within t most) (box t) g ranked (λ r high.
    box_within-enough t ranked most (suc most) r (above most (rank_of t.job.stages g) (rank_of t.job.stages r) high)
    (all_enough most (rank_of t.job.stages r)))
