-- On their domains the stages' equations have one solution.
use Rattle.std.proofs.Common.{ℕ, zero, suc, arith, ◌<◌, ◌≡◌, ℤ, [], ◌∷◌, ◌++◌, Option, FitsSigned, w32, subst, ap, sym, ◌∙◌, refl}
use Rattle.std.specs.Prelude.{All, map}
use Rattle.std.specs.Option.{ForSome}
use Rattle.std.proofs.lemmas.List.Elements.{All-head, All-tail}
use Rattle.domains.specs.Area.{HoldsPoint}
use Rattle.domains.specs.declared.area.Area.{Area}
use Rattle.netpbm.specs.Image.{Image}
use Rattle.domains.specs.Index.{index_at}
use Rattle.job.specs.Formula.{Formula}
use Rattle.job.specs.Pipeline.{Body, plane, function, accumulator, Stage, Pipeline, rank_of}
use Rattle.job.specs.Values.{Valuation, kernel_row, kernel_column, body_value, stage_value, value}
use Rattle.job.specs.Reads.{Read, point, window, stage_read, reads_in}
use Rattle.job.specs.Reads.{EachTaken, SameAt, CaseReads, BodyReads, other_formula, reads_of, IsRanked}
use Rattle.job.specs.Boxes.{box_of, AreBoxed}
use Rattle.job.specs.WellFormed.{IsReadable, InDomainRange, IsStage, IsJob, Solves}
use Rattle.job.proofs.Agreeing.{All-left, All-right, formula_value-agrees}
use Rattle.job.proofs.Choosing.{AlikeWhere, chosen_alike}
use Rattle.job.proofs.Steps.{All-from_map, All-from_flat_map, All-both, other_each}
use Rattle.job.proofs.Unrolling.{reads_fall, value-unroll}
use Rattle.std.proofs.lemmas.Int.{ints}
use Rattle.domains.specs.Span.{Ends, Holds}
use Rattle.job.proofs.Fitting.{from_bounds, body_fits}
use Rattle.job.proofs.BoxLaws.{passed_in_box}

-- a stage has one value at a point where all that it reads there has
pub body_value-agrees_there : (picture : Image) (e h : Valuation) (domain : Area) (body : Body) (r c : ℤ) → AreBoxed domain body
    → HoldsPoint domain r c → BodyReads (SameAt e h) body r c → body_value picture e body r c ≡ body_value picture h body r c
body_value-agrees_there picture e h domain (plane n) r c boxed inside reads = refl
body_value-agrees_there picture e h domain (function cases otherwise) r c boxed inside reads =
    chosen_alike e h r c cases otherwise
    (All-both (λ p. p.box ≡ box_of domain p.tests) (λ p. CaseReads (SameAt e h) p r c) (AlikeWhere e h r c)
    (λ p is same passed. let there = passed_in_box domain p.tests r c inside passed in
    formula_value-agrees e h r c p.formula (same there.0 (is ∙ there.1) there.2))
    cases boxed reads.0)
    (λ f is. formula_value-agrees e h r c f (reads.1 f is))
body_value-agrees_there picture e h domain (accumulator fold bins value bin) r c boxed inside reads = refl

-- what follows at each read follows for a stage
pub BodyReads-both : (P Q : ℕ → ℤ → ℤ → Type 0) (R : Read → Type 0) (body : Body) (r c : ℤ)
    → ((x : Read) → R x → EachTaken P x r c → EachTaken Q x r c) → All R (reads_of body) → BodyReads P body r c → BodyReads Q body r c
BodyReads-both P Q R (plane n) r c f each reads = tt
BodyReads-both P Q R (function cases otherwise) r c f each reads =
    let E : Formula → Type 0 = λ a. All R (reads_in a) in
    let all : All E (map (λ p. p.formula) cases ++ other_formula otherwise) =
    All-from_flat_map R reads_in (map (λ p. p.formula) cases ++ other_formula otherwise) each in
    let front : All (λ p. E p.formula) cases =
    All-from_map E (λ p. p.formula) cases (All-left E (map (λ p. p.formula) cases) (other_formula otherwise) all) in
    let back : ForSome otherwise E = other_each E otherwise (All-right E (map (λ p. p.formula) cases) (other_formula otherwise) all) in (
      All-both (λ p. E p.formula) (λ p. CaseReads P p r c) (λ p. CaseReads Q p r c)
          (λ p static taken. λ box is inside. All-both R (λ x. EachTaken P x r c) (λ x. EachTaken Q x r c) f (reads_in p.formula) static
          (taken box is inside))
          cases front reads.0,
      (λ a is. All-both R (λ x. EachTaken P x r c) (λ x. EachTaken Q x r c) f (reads_in a) (back a is) (reads.1 a is)),
    )
BodyReads-both P Q R (accumulator fold bins value bin) r c f each reads =
    let E : Formula → Type 0 = λ a. All R (reads_in a) in
    let all : All E (value ∷ bin ∷ []) = All-from_flat_map R reads_in (value ∷ bin ∷ []) each in (
      All-both R (λ x. EachTaken P x r c) (λ x. EachTaken Q x r c) f (reads_in value) (All-head E value (bin ∷ []) all) reads.0,
      All-both R (λ x. EachTaken P x r c) (λ x. EachTaken Q x r c) f (reads_in bin) (All-head E bin [] (All-tail E value (bin ∷ []) all))
          reads.1,
    )

pub ranked_is : (job : Pipeline) → IsJob job → IsRanked job.stages
ranked_is job h g s is = (h.stages g s is).rank

-- ---- by rank

lt_more : (a b n : ℕ) → a < b → b < suc n → a < n
lt_more a b n p q = omega arith

lt_last : (n : ℕ) → n < suc n
lt_last n = omega arith

-- what follows at a point of a stage from all that it reads there holds at each point of each stage
module _ (job : Pipeline) (h : IsJob job) (P : ℕ → ℤ → ℤ → Type 0)
    (step : (g : ℕ) (r c : ℤ) (x : IsReadable job.stages g r c) → BodyReads P x.stage.body r c → P g r c) where
  taken_below : (n : ℕ) → ((k : ℕ) → rank_of job.stages k < n → (r c : ℤ) → IsReadable job.stages k r c → P k r c) → (r c : ℤ) (x : Read)
      → rank_of job.stages (stage_read x) < n → EachTaken (IsReadable job.stages) x r c → EachTaken P x r c
  taken_below n below r c (point g i j) falls there = below g falls (index_at i r) (index_at j c) there
  taken_below n below r c (window g kernel) falls there =
      λ a b la lb. below g falls (kernel_row kernel r a) (kernel_column kernel c b) (there a b la lb)

  at_stage : (g : ℕ) → ((k : ℕ) → rank_of job.stages k < rank_of job.stages g → (r c : ℤ) → IsReadable job.stages k r c → P k r c)
      → (r c : ℤ) → IsReadable job.stages g r c → P g r c
  at_stage g below r c x =
      step g r c x
      (BodyReads-both (IsReadable job.stages) P (λ y. rank_of job.stages (stage_read y) < rank_of job.stages g) x.stage.body r c
      (taken_below (rank_of job.stages g) below r c)
      (reads_fall job.stages (ranked_is job h) g x.stage x.there)
      ((h.stages g x.stage x.there).reads r c x.within))

  all_below : (n g : ℕ) → rank_of job.stages g < n → (r c : ℤ) → IsReadable job.stages g r c → P g r c
  all_below zero g low = absurd (omega arith)
  all_below (suc n) g low = at_stage g (λ k falls. all_below n k (lt_more (rank_of job.stages k) (rank_of job.stages g) n falls low))

  pub by_rank : (g : ℕ) (r c : ℤ) → IsReadable job.stages g r c → P g r c
  by_rank g = all_below (suc (rank_of job.stages g)) g (lt_last (rank_of job.stages g))

-- ---- values

-- the values solve the stages' equations
pub value_solves : (job : Pipeline) → IsRanked job.stages → Solves job (value job)
value_solves job ranked g s is valued r c inside =
    value-unroll job g r c ranked ∙ ap (λ (o : Option Stage). stage_value job (value job) o r c) is

pub one_solution : (job : Pipeline) → IsJob job → (env : Valuation) → Solves job env → (g : ℕ) (r c : ℤ) → IsReadable job.stages g r c
    → env g r c ≡ value job g r c
one_solution job h env solves =
    by_rank job h (SameAt env (value job)) (λ g r c x reads.
    solves g x.stage x.there x.valued r c x.within
    ∙ body_value-agrees_there job.picture env (value job) x.stage.domain x.stage.body r c (h.stages g x.stage x.there).boxes x.within reads
    ∙ sym (value_solves job (ranked_is job h) g x.stage x.there x.valued r c x.within))

pub near_fits : (s : Ends) (v : ℤ) → InDomainRange s → Holds s v → FitsSigned w32 v
near_fits s v is holds =
    let low = holds.0 in let high = holds.1 in let least = is.least in let most = is.most in
    from_bounds v (omega (arith, ints)) (omega (arith, ints))

pub value_fits : (job : Pipeline) → IsJob job → (g : ℕ) (r c : ℤ) → IsReadable job.stages g r c → FitsSigned w32 (value job g r c)
value_fits job h =
    by_rank job h (λ g r c. FitsSigned w32 (value job g r c)) (λ g r c x reads.
    let is : IsStage job x.stage = h.stages g x.stage x.there in
    subst (FitsSigned w32) (sym (value_solves job (ranked_is job h) g x.stage x.there x.valued r c x.within))
    (body_fits (value job) r c (near_fits x.stage.domain.rows r is.rows x.within.0) (near_fits x.stage.domain.cols c is.cols x.within.1)
    job.picture x.stage.domain x.stage.body h.picture is.boxes is.formulas x.within reads))
