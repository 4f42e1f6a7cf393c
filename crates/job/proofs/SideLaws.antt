-- What a job answers knows of no sides of tiles.
use Rattle.std.proofs.Common.{◌≡◌, ℕ, zero, suc, refl, map, slice_get}
use Rattle.std.specs.Prelude.{slice_index, []}
use Rattle.std.specs.Option.{option_map, option_map_or}
use Rattle.domains.specs.Area.{points_of}
use Rattle.domains.specs.Sides.{Sides}
use Rattle.job.specs.Answers.{height_of, image, sample_of, width_of}
use Rattle.job.specs.Pipeline.{Pipeline, rank_of}
use Rattle.job.specs.TileSides.{with_sides}
use Rattle.job.specs.Totals.{body_totals, totals}
use Rattle.job.specs.Values.{stage_value, value, value_within}

-- ---- values

within : (job : Pipeline) (s : Sides) (n : ℕ) → value_within (with_sides s job) n ≡ value_within job n
within job s zero = refl
within job s (suc n) = λ i. λ g r c. stage_value job (within job s n i) (slice_get job.stages g) r c

pub same_values : (job : Pipeline) (s : Sides) → value (with_sides s job) ≡ value job
same_values job s = λ i. λ g r c. within job s (suc (rank_of job.stages g)) i g r c

pub same_totals : (job : Pipeline) (s : Sides) (g : ℕ) → totals (with_sides s job) g ≡ totals job g
same_totals job s g = λ i. option_map_or (λ st. body_totals (same_values job s i) st.domain st.body) (slice_get job.stages g) []

pub same_image : (job : Pipeline) (s : Sides) → image (with_sides s job) ≡ image job
same_image job s = λ i. option_map
    (λ o. record {
      rows = height_of job (slice_index o.stages 0);
      cols = width_of job (slice_index o.stages 0);
      max = o.max;
      planes = map (λ g. option_map_or (λ st. map (λ p. sample_of o.max (same_values job s i g p.0 p.1)) (points_of st.domain))
          (slice_get job.stages g) []) o.stages;
    }) job.output
