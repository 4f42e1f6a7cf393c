-- A job with more stages behind its own, which it does not read.
use Rattle.std.proofs.Common.{ℕ, ◌+◌, ◌<◌, ◌≤◌, ◌≡◌, ℤ, List, [], ◌∷◌, ◌++◌, Option, Some, length, map, slice_get, ap, sym, subst, ◌∙◌, refl, arith, ◌⊎◌, inl, inr}
use Rattle.std.specs.Prelude.{All, slice_index}
use Rattle.std.specs.Option.{option_map_or}
use Rattle.std.proofs.lemmas.List.Elements.{All-weaker, All-head}
use Rattle.domains.specs.Greatest.{greatest}
use Rattle.domains.specs.Span.{len_of}
use Rattle.netpbm.specs.Image.{InRange}
use Rattle.job.specs.Answers.{height_of, width_of}
use Rattle.job.specs.OtherStages.{with_stages}
use Rattle.job.specs.Pipeline.{Body, plane, function, accumulator, Stage, Output, Pipeline, rank_of}
use Rattle.job.specs.Reads.{Read, rank_by, reads_of, stage_read}
use Rattle.job.specs.Values.{value}
use Rattle.job.specs.WellFormed.{IsJob, IsOutput, IsOutputPlane, IsReadable, IsStage, Solves}
use Rattle.job.proofs.Solving.{one_solution, ranked_is, value_solves}
use Rattle.part_stages.specs.Parts.{IsClosed}
use Rattle.part_stages.proofs.Weaker.{reads_weaker}
use Rattle.part_stages.proofs.Behind.{all_there, in_front_or_behind, map_within, nth_left, there_below, there_left}

module _ (job : Pipeline) (more : List Stage) (is : IsJob job) (closed : IsClosed job) where
  abbrev longer : Pipeline
  longer = with_stages (job.stages ++ more) job

  pub readable_longer : (g : ℕ) (r c : ℤ) → IsReadable job.stages g r c → IsReadable longer.stages g r c
  readable_longer g r c x =
      record { stage = x.stage; there = there_left job.stages more g x.stage x.there; valued = x.valued; within = x.within }

  -- ---- ranks

  rank_same : (g : ℕ) → g < length job.stages → rank_of longer.stages g ≡ rank_of job.stages g
  rank_same g below = ap (λ (o : Option Stage). option_map_or (λ s. s.rank) o 0) (nth_left job.stages more g below)

  ranks_same : (reads : List Read) → All (λ x. stage_read x < length job.stages) reads
      → map (λ x. rank_of longer.stages (stage_read x)) reads ≡ map (λ x. rank_of job.stages (stage_read x)) reads
  ranks_same reads within =
      map_within (λ x. rank_of longer.stages (stage_read x)) (λ x. rank_of job.stages (stage_read x)) reads
      (All-weaker (λ x. stage_read x < length job.stages)
      (λ x. rank_of longer.stages (stage_read x) ≡ rank_of job.stages (stage_read x)) (λ x. rank_same (stage_read x)) reads within)

  pub rank_by_same : (body : Body) → All (λ x. stage_read x < length job.stages) (reads_of body) → rank_by longer.stages body ≡ rank_by job.stages body
  rank_by_same (plane n) within = refl
  rank_by_same (function cases otherwise) within =
      ap (λ (ns : List ℕ). greatest ns + 1) (ranks_same (reads_of (function cases otherwise)) within)
  rank_by_same (accumulator fold bins value bin) within =
      ap (λ (ns : List ℕ). greatest ns + 1) (ranks_same (reads_of (accumulator fold bins value bin)) within)

  -- ---- stages and outputs

  own_stage : (g : ℕ) (s : Stage) → slice_get job.stages g ≡ Some s → IsStage longer s
  own_stage g s there =
      let stage : IsStage job s = is.stages g s there in
      record {
        rank = stage.rank
            ∙ sym (rank_by_same s.body (all_there (λ t. All (λ x. stage_read x < length job.stages) (reads_of t.body)) job.stages g s there closed));
        rows = stage.rows;
        cols = stage.cols;
        body = stage.body;
        boxes = stage.boxes;
        formulas = stage.formulas;
        reads = λ r c inside. reads_weaker (IsReadable job.stages) (IsReadable longer.stages) readable_longer s.body r c (stage.reads r c inside);
        tiles = stage.tiles;
      }

  plane_longer : (height width g : ℕ) → IsOutputPlane job height width g → IsOutputPlane longer height width g
  plane_longer height width g of =
      record {
        stage = of.stage;
        there = there_left job.stages more g of.stage of.there;
        function = of.function;
        rows = of.rows;
        cols = of.cols;
      }

  pub first_plane : (o : Output) → IsOutput job o → slice_index o.stages 0 < length job.stages
  first_plane o of = found o.stages of.planes of.equal_sides
    where
      found : (gs : List ℕ) → (length gs ≡ 1) ⊎ (length gs ≡ 3)
          → All (IsOutputPlane job (height_of job (slice_index o.stages 0)) (width_of job (slice_index o.stages 0))) gs
          → slice_index gs 0 < length job.stages
      found [] (inl e) all = absurd (omega (arith, e))
      found [] (inr e) all = absurd (omega (arith, e))
      found (g ∷ gs) e all =
          let of = All-head (IsOutputPlane job (height_of job (slice_index o.stages 0)) (width_of job (slice_index o.stages 0))) g gs all in
          there_below job.stages g of.stage of.there

  output_longer : (o : Output) → IsOutput job o → IsOutput longer o
  output_longer o of =
      let first : ℕ = slice_index o.stages 0 in
      let same = nth_left job.stages more first (first_plane o of) in
      let high : height_of longer first ≡ height_of job first = ap (λ (s : Option Stage). option_map_or (λ s. len_of s.domain.rows) s 0) same in
      let wide : width_of longer first ≡ width_of job first = ap (λ (s : Option Stage). option_map_or (λ s. len_of s.domain.cols) s 0) same in
      record {
        planes = of.planes;
        height = subst (λ (n : ℕ). InRange 4096 n) (sym high) of.height;
        width = subst (λ (n : ℕ). InRange 4096 n) (sym wide) of.width;
        equal_sides =
            subst (λ (n : ℕ). All (IsOutputPlane longer n (width_of longer first)) o.stages) (sym high)
            (subst (λ (n : ℕ). All (IsOutputPlane longer (height_of job first) n) o.stages) (sym wide)
            (All-weaker (IsOutputPlane job (height_of job first) (width_of job first))
            (IsOutputPlane longer (height_of job first) (width_of job first))
            (plane_longer (height_of job first) (width_of job first)) o.stages of.equal_sides));
        max = of.max;
      }

  pub job_longer : All (IsStage longer) more → length longer.stages ≤ 65536 → IsJob longer
  job_longer formed few =
      record {
        stages = λ g s there.
            in_front_or_behind (IsStage longer) job.stages more g s own_stage
            (λ k t is. all_there (IsStage longer) more k t is formed) there;
        few_stages = few;
        output = λ o there. output_longer o (is.output o there);
        params = is.params;
        tables = is.tables;
        few_tables = is.few_tables;
        picture = is.picture;
        sides = is.sides;
      }

  -- ---- values

  solves_longer : IsJob longer → Solves job (value longer)
  solves_longer formed g s there valued r c inside =
      value_solves longer (ranked_is longer formed) g s (there_left job.stages more g s there) valued r c inside

  pub values_longer : IsJob longer → (g : ℕ) (r c : ℤ) → IsReadable job.stages g r c → value longer g r c ≡ value job g r c
  values_longer formed = one_solution job is (value longer) (solves_longer formed)
