-- Values follow from values of lower rank, by as many steps as the rank has or by more.
use Rattle.std.proofs.Common.{ℕ, zero, suc, arith, ◌<◌, ◌≡◌, ℤ, List, Option, Some, None, ap, ◌∙◌, refl}
use Rattle.std.specs.Prelude.{All, slice_get}
use Rattle.std.specs.Option.{option_map_or}
use Rattle.std.proofs.lemmas.List.Elements.{All-weaker}
use Rattle.job.specs.Pipeline.{Stage, Pipeline, rank_of}
use Rattle.job.specs.Values.{Valuation, body_value, stage_value, value_within, value}
use Rattle.job.specs.Reads.{stage_read, reads_of, rank_by, IsRanked}
use Rattle.job.proofs.Steps.{rank_falls, IsSame, body_value-agrees}

-- the rank of a stage that is there
pub rank_is : (stages : List Stage) (g : ℕ) (s : Stage) → slice_get stages g ≡ Some s → rank_of stages g ≡ s.rank
rank_is stages g s is = ap (λ (o : Option Stage). option_map_or (λ t. t.rank) o 0) is

-- reads lead to lower ranks
pub reads_fall : (stages : List Stage) → IsRanked stages → (g : ℕ) (s : Stage) → slice_get stages g ≡ Some s
    → All (λ x. rank_of stages (stage_read x) < rank_of stages g) (reads_of s.body)
reads_fall stages ranked g s is =
    All-weaker (λ x. rank_of stages (stage_read x) < rank_by stages s.body) (λ x. rank_of stages (stage_read x) < rank_of stages g)
    (λ x falls. let here : rank_of stages g ≡ rank_by stages s.body = rank_is stages g s is ∙ ranked g s is in omega arith)
    (reads_of s.body) (rank_falls stages s.body)

by_stage : (job : Pipeline) (e h : Valuation) (r c : ℤ) (o : Option Stage)
    → ((s : Stage) → o ≡ Some s → body_value job.picture e s.body r c ≡ body_value job.picture h s.body r c)
    → stage_value job e o r c ≡ stage_value job h o r c
by_stage job e h r c None same = refl
by_stage job e h r c (Some s) same = same s refl

below_both : (k g n : ℕ) → k < g → g < suc n → k < n
below_both k g n a b = omega arith

-- all steps beyond the rank give the same value
pub value_within-enough : (job : Pipeline) → IsRanked job.stages → (n m g : ℕ) → rank_of job.stages g < n → rank_of job.stages g < m
    → (r c : ℤ) → value_within job n g r c ≡ value_within job m g r c
value_within-enough job ranked zero m g a b r c = absurd (omega arith)
value_within-enough job ranked (suc n) zero g a b r c = absurd (omega arith)
value_within-enough job ranked (suc n) (suc m) g a b r c =
    by_stage job (value_within job n) (value_within job m) r c (slice_get job.stages g) (λ s is.
    body_value-agrees (value_within job n) (value_within job m) job.picture s.body
    (All-weaker (λ x. rank_of job.stages (stage_read x) < rank_of job.stages g)
    (λ x. IsSame (value_within job n) (value_within job m) (stage_read x))
    (λ x falls. value_within-enough job ranked n m (stage_read x)
    (below_both (rank_of job.stages (stage_read x)) (rank_of job.stages g) n falls a)
    (below_both (rank_of job.stages (stage_read x)) (rank_of job.stages g) m falls b))
    (reads_of s.body) (reads_fall job.stages ranked g s is))
    r c)

lt_last : (n : ℕ) → n < suc n
lt_last n = omega arith

pub value_within-value : (job : Pipeline) (n g : ℕ) (r c : ℤ) → IsRanked job.stages → rank_of job.stages g < n
    → value_within job n g r c ≡ value job g r c
value_within-value job n g r c ranked enough =
    value_within-enough job ranked n (suc (rank_of job.stages g)) g enough (lt_last (rank_of job.stages g)) r c

-- a value is what its stage makes of the values that it reads
pub value-unroll : (job : Pipeline) (g : ℕ) (r c : ℤ) → IsRanked job.stages
    → value job g r c ≡ stage_value job (value job) (slice_get job.stages g) r c
value-unroll job g r c ranked =
    let n : ℕ = rank_of job.stages g in
    by_stage job (value_within job n) (value job) r c (slice_get job.stages g) (λ s is.
    body_value-agrees (value_within job n) (value job) job.picture s.body
    (All-weaker (λ x. rank_of job.stages (stage_read x) < n) (λ x. IsSame (value_within job n) (value job) (stage_read x))
    (λ x falls. λ i j. value_within-value job n (stage_read x) i j ranked falls)
    (reads_of s.body) (reads_fall job.stages ranked g s is))
    r c)
