-- Local values follow from local values of lower rank, and are the values where what is given is true.
use Rattle.std.proofs.Common.{ℕ, zero, suc, arith, ◌<◌, ◌≡◌, ℤ, Bool, true, false, List, Option, Some, None, slice_get, ap, sym, ◌∙◌, refl}
use Rattle.std.specs.Prelude.{if◌then◌else◌}
use Rattle.std.proofs.lemmas.List.Elements.{All-weaker}
use Rattle.domains.specs.Index.{index_at}
use Rattle.domains.specs.Area.{HoldsPoint}
use Rattle.domains.specs.Tiles.{tile_area, tile_at}
use Rattle.domains.specs.declared.grid.Grid.{Grid}
use Rattle.domains.proofs.Covers.{tile_is}
use Rattle.job.specs.Pipeline.{Body, plane, function, accumulator, Stage, Pipeline, rank_of}
use Rattle.job.specs.Answers.{grid_of}
use Rattle.job.specs.Values.{Valuation, kernel_row, kernel_column, body_value, stage_value, value}
use Rattle.job.specs.Reads.{Read, point, window, stage_read, EachTaken, SameAt, BodyReads, reads_of, IsRanked}
use Rattle.job.specs.WellFormed.{IsJob}
use Rattle.job.proofs.Steps.{IsSame, body_value-agrees}
use Rattle.job.proofs.Unrolling.{reads_fall, value-unroll}
use Rattle.job.proofs.Solving.{BodyReads-both, body_value-agrees_there, ranked_is}
use Rattle.tile_eval.specs.Rows.{at}
use Rattle.tile_eval.specs.Raster.{place_of}
use Rattle.tile_eval.proofs.Rasters.{raster_at}
use Rattle.tile_boxes.specs.Schedules.{is_inlined}
use Rattle.tile_sources.specs.KnownTiles.{KnownTiles, number_in, given_number, AreTrue, IsGivenAt}
use Rattle.one_tile.specs.Local.{body_given, stage_given, read_from, local_within, local_value, FunctionAtHand, BodyAtHand}
use Rattle.one_tile.specs.Local.{StageAtHand, IsAtHand, IsClosed}
use Rattle.tile_sources.proofs.GivenLines.{grid_is}

below_both : (k g n : ℕ) → k < g → g < suc n → k < n
below_both k g n a b = omega arith

lt_last : (n : ℕ) → n < suc n
lt_last n = omega arith

by_stage : (job : Pipeline) (e h : Valuation) (r c : ℤ) (o : Option Stage)
    → ((s : Stage) → o ≡ Some s → body_value job.picture e s.body r c ≡ body_value job.picture h s.body r c)
    → stage_value job e o r c ≡ stage_value job h o r c
by_stage job e h r c None same = refl
by_stage job e h r c (Some s) same = same s refl

-- ---- steps beyond the rank

module _ (job : Pipeline) (inlining : List Bool) (given : KnownTiles) where
  body_same : (e h : Valuation) (g : ℕ) (s : Stage) (b : Body) (r c : ℤ) → e g r c ≡ h g r c
      → body_given job inlining given e g s b r c ≡ body_given job inlining given h g s b r c
  body_same e h g s (plane n) r c same = refl
  body_same e h g s (function ps o) r c same = ap (λ (z : ℤ). if is_inlined inlining g then z else given_number job given g s r c) same
  body_same e h g s (accumulator fold bins v b) r c same = refl

  stage_same : (e h : Valuation) (g : ℕ) (o : Option Stage) (r c : ℤ) → e g r c ≡ h g r c
      → stage_given job inlining given e g o r c ≡ stage_given job inlining given h g o r c
  stage_same e h g None r c same = refl
  stage_same e h g (Some s) r c same = body_same e h g s s.body r c same

-- all steps beyond the rank give the same local value
local_within-enough : (job : Pipeline) (inlining : List Bool) (given : KnownTiles) → IsRanked job.stages → (n m g : ℕ)
    → rank_of job.stages g < n → rank_of job.stages g < m → (r c : ℤ)
    → local_within job inlining given n g r c ≡ local_within job inlining given m g r c
local_within-enough job inlining given ranked zero m g a b r c = absurd (omega arith)
local_within-enough job inlining given ranked (suc n) zero g a b r c = absurd (omega arith)
local_within-enough job inlining given ranked (suc n) (suc m) g a b r c =
    let e : Valuation = read_from job inlining given (local_within job inlining given n) in
    let h : Valuation = read_from job inlining given (local_within job inlining given m) in
    by_stage job e h r c (slice_get job.stages g) (λ s is.
    body_value-agrees e h job.picture s.body
    (All-weaker (λ x. rank_of job.stages (stage_read x) < rank_of job.stages g) (λ x. IsSame e h (stage_read x))
    (λ x falls. λ i j. stage_same job inlining given (local_within job inlining given n) (local_within job inlining given m) (stage_read x)
    (slice_get job.stages (stage_read x)) i j
    (local_within-enough job inlining given ranked n m (stage_read x)
    (below_both (rank_of job.stages (stage_read x)) (rank_of job.stages g) n falls a)
    (below_both (rank_of job.stages (stage_read x)) (rank_of job.stages g) m falls b) i j))
    (reads_of s.body) (reads_fall job.stages ranked g s is))
    r c)

-- a local value is what its stage makes of what it reads
pub local-unroll : (job : Pipeline) (inlining : List Bool) (given : KnownTiles) (g : ℕ) (r c : ℤ) → IsRanked job.stages
    → local_value job inlining given g r c ≡ stage_value job (read_from job inlining given (local_value job inlining given)) (slice_get
    job.stages g) r c
local-unroll job inlining given g r c ranked =
    let n : ℕ = rank_of job.stages g in
    let e : Valuation = read_from job inlining given (local_within job inlining given n) in
    let h : Valuation = read_from job inlining given (local_value job inlining given) in
    by_stage job e h r c (slice_get job.stages g) (λ s is.
    body_value-agrees e h job.picture s.body
    (All-weaker (λ x. rank_of job.stages (stage_read x) < n) (λ x. IsSame e h (stage_read x))
    (λ x falls. λ i j. stage_same job inlining given (local_within job inlining given n) (local_value job inlining given) (stage_read x)
    (slice_get job.stages (stage_read x)) i j
    (local_within-enough job inlining given ranked n (suc (rank_of job.stages (stage_read x))) (stage_read x) falls
    (lt_last (rank_of job.stages (stage_read x))) i j))
    (reads_of s.body) (reads_fall job.stages ranked g s is))
    r c)

-- ---- what is at hand decides

taken_weaker : (P Q : ℕ → ℤ → ℤ → Type 0) → ((g : ℕ) (r c : ℤ) → P g r c → Q g r c) → (x : Read) (r c : ℤ) → EachTaken P x r c
    → EachTaken Q x r c
taken_weaker P Q f (point g i j) r c h = f g (index_at i r) (index_at j c) h
taken_weaker P Q f (window g kernel) r c h = λ a b la lb. f g (kernel_row kernel r a) (kernel_column kernel c b) (h a b la lb)

pub reads_weaker : (P Q : ℕ → ℤ → ℤ → Type 0) → ((g : ℕ) (r c : ℤ) → P g r c → Q g r c) → (body : Body) (r c : ℤ) → BodyReads P body r c
    → BodyReads Q body r c
reads_weaker P Q f body r c = BodyReads-both P Q (λ x. Unit {0}) body r c (λ x u. taken_weaker P Q f x r c) (λ n d l. tt)

by_flag : (b : Bool) (A B : Type 0) (x y z : ℤ) → (A → x ≡ y) → FunctionAtHand b A B → (if b then x else z) ≡ (if b then y else z)
by_flag true A B x y z f h = f h
by_flag false A B x y z f h = refl

module _ (job : Pipeline) (inlining : List Bool) (given : KnownTiles) (Inner : ℕ → ℤ → ℤ → Type 0)
    (e h : Valuation) (g : ℕ) (r c : ℤ) (same : Inner g r c → e g r c ≡ h g r c) where
  body_decides : (s : Stage) (b : Body) → BodyAtHand job inlining given Inner g s b r c
      → body_given job inlining given e g s b r c ≡ body_given job inlining given h g s b r c
  body_decides s (plane n) hand = refl
  body_decides s (function ps o) hand = by_flag (is_inlined inlining g) (Inner g r c) (IsGivenAt given g (grid_of job s) r c) (e g r c)
      (h g r c) (given_number job given g s r c) same hand
  body_decides s (accumulator fold bins v b) hand = absurd hand

  stage_decides : (o : Option Stage) → StageAtHand job inlining given Inner g o r c
      → stage_given job inlining given e g o r c ≡ stage_given job inlining given h g o r c
  stage_decides None hand = absurd hand
  stage_decides (Some s) hand = body_decides s s.body hand

  pub hand_decides : IsAtHand job inlining given Inner g r c → read_from job inlining given e g r c ≡ read_from job inlining given h g r c
  hand_decides hand = stage_decides (slice_get job.stages g) hand

-- what a stage makes of what is at hand is its local value, where what is computed before is local
pub step_is_local : (job : Pipeline) (inlining : List Bool) (given : KnownTiles) (Inner : ℕ → ℤ → ℤ → Type 0) (e : Valuation) → IsJob job
    → ((g : ℕ) (r c : ℤ) → IsAtHand job inlining given Inner g r c
    → read_from job inlining given e g r c ≡ read_from job inlining given (local_value job inlining given) g r c)
    → (g : ℕ) (s : Stage) (r c : ℤ) → slice_get job.stages g ≡ Some s → HoldsPoint s.domain r c
    → BodyReads (IsAtHand job inlining given Inner) s.body r c
    → body_value job.picture (read_from job inlining given e) s.body r c ≡ local_value job inlining given g r c
step_is_local job inlining given Inner e is right g s r c there inside reads =
    let h : Valuation = local_value job inlining given in
    body_value-agrees_there job.picture (read_from job inlining given e) (read_from job inlining given h) s.domain s.body r c
    (is.stages g s there).boxes inside
    (reads_weaker (IsAtHand job inlining given Inner) (SameAt (read_from job inlining given e) (read_from job inlining given h)) right
    s.body r c reads)
    ∙ sym (local-unroll job inlining given g r c (ranked_is job is)
    ∙ ap (λ (o : Option Stage). stage_value job (read_from job inlining given h) o r c) there)

-- ---- what is given is true

module _ (job : Pipeline) (is : IsJob job) where
  value_is : (g : ℕ) (s : Stage) (r c : ℤ) → slice_get job.stages g ≡ Some s
      → value job g r c ≡ body_value job.picture (value job) s.body r c
  value_is g s r c there = value-unroll job g r c (ranked_is job is) ∙ ap (λ (o : Option Stage). stage_value job (value job) o r c) there

  module _ (inlining : List Bool) (given : KnownTiles) (true_tiles : AreTrue job given) where
    given_is : (g : ℕ) (s : Stage) (r c : ℤ) → slice_get job.stages g ≡ Some s → IsGivenAt given g (grid_of job s) r c
        → given_number job given g s r c ≡ value job g r c
    given_is g s r c there h =
        let grid : Grid = grid_of job s in
        let t : ℕ × ℕ = tile_at grid r c in
        let tile = tile_is grid r c (grid_is job is g s there) h.0 in
        ap (number_in (tile_area grid t.0 t.1) r c) h.1.1
        ∙ ap (λ (xs : List ℤ). at xs (place_of (tile_area grid t.0 t.1) r c)) (true_tiles g s there t.0 t.1 h.1.0 tile.there h.1.1)
        ∙ raster_at (tile_area grid t.0 t.1) (value job g) r c tile.holds

    module _ (Inner : ℕ → ℤ → ℤ → Type 0) (g : ℕ) (r c : ℤ) (inner : Inner g r c
        → local_value job inlining given g r c ≡ value job g r c) where
      function_true : (s : Stage) (b : Bool) → slice_get job.stages g ≡ Some s
          → FunctionAtHand b (Inner g r c) (IsGivenAt given g (grid_of job s) r c)
          → (if b then local_value job inlining given g r c else given_number job given g s r c) ≡ value job g r c
      function_true s true there hand = inner hand
      function_true s false there hand = given_is g s r c there hand

      body_true : (s : Stage) (b : Body) → slice_get job.stages g ≡ Some s → s.body ≡ b → BodyAtHand job inlining given Inner g s b r c
          → body_given job inlining given (local_value job inlining given) g s b r c ≡ value job g r c
      body_true s (plane n) there body hand =
          sym (value_is g s r c there ∙ ap (λ (b : Body). body_value job.picture (value job) b r c) body)
      body_true s (function ps o) there body hand = function_true s (is_inlined inlining g) there hand
      body_true s (accumulator fold bins v b) there body hand = absurd hand

      stage_true : (o : Option Stage) → slice_get job.stages g ≡ o → StageAtHand job inlining given Inner g o r c
          → stage_given job inlining given (local_value job inlining given) g o r c ≡ value job g r c
      stage_true None there hand = absurd hand
      stage_true (Some s) there hand = body_true s s.body there refl hand

      pub read_true : IsAtHand job inlining given Inner g r c
          → read_from job inlining given (local_value job inlining given) g r c ≡ value job g r c
      read_true hand = stage_true (slice_get job.stages g) refl hand

    module _ (Inner : ℕ → ℤ → ℤ → Type 0) (closed : IsClosed job inlining given Inner) where
      taken_true : (n : ℕ) → ((g : ℕ) → rank_of job.stages g < n → (r c : ℤ) → Inner g r c
          → local_value job inlining given g r c ≡ value job g r c)
          → (r c : ℤ) (x : Read) → rank_of job.stages (stage_read x) < n → EachTaken (IsAtHand job inlining given Inner) x r c
          → EachTaken (SameAt (read_from job inlining given (local_value job inlining given)) (value job)) x r c
      taken_true n below r c (point g i j) falls h =
          read_true Inner g (index_at i r) (index_at j c) (below g falls (index_at i r) (index_at j c)) h
      taken_true n below r c (window g kernel) falls h =
          λ a b la lb. read_true Inner g (kernel_row kernel r a) (kernel_column kernel c b)
          (below g falls (kernel_row kernel r a) (kernel_column kernel c b)) (h a b la lb)

      true_below : (n g : ℕ) → rank_of job.stages g < n → (r c : ℤ) → Inner g r c → local_value job inlining given g r c ≡ value job g r c
      true_below zero g low r c there = absurd (omega arith)
      true_below (suc n) g low r c there =
          let p = closed g r c there in
          let e : Valuation = read_from job inlining given (local_value job inlining given) in
          local-unroll job inlining given g r c (ranked_is job is)
          ∙ ap (λ (o : Option Stage). stage_value job e o r c) p.there
          ∙ body_value-agrees_there job.picture e (value job) p.stage.domain p.stage.body r c (is.stages g p.stage p.there).boxes p.inside
          (BodyReads-both (IsAtHand job inlining given Inner) (SameAt e (value job))
          (λ x. rank_of job.stages (stage_read x) < rank_of job.stages g) p.stage.body r c
          (taken_true (rank_of job.stages g) (λ k falls. true_below n k
          (below_both (rank_of job.stages k) (rank_of job.stages g) n falls low)) r c)
          (reads_fall job.stages (ranked_is job is) g p.stage p.there) p.reads)
          ∙ sym (value_is g p.stage r c p.there)

      -- where all that is read is at hand and what is given is true, local values are the values
      pub local_is_value : (g : ℕ) (r c : ℤ) → Inner g r c → local_value job inlining given g r c ≡ value job g r c
      local_is_value g r c there = true_below (suc (rank_of job.stages g)) g (lt_last (rank_of job.stages g)) r c there
