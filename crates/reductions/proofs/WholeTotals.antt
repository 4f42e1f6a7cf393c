-- What an accumulator gathers from whole stages, and what gathering asks of it.
use Rattle.std.proofs.Common.{ℕ, ℤ, ◌≡◌, List, [], ◌∷◌, Option, Some, slice_get, ap, sym, ◌∙◌, subst}
use Rattle.std.specs.Prelude.{All}
use Rattle.std.specs.Option.{option_map_or}
use Rattle.std.proofs.lemmas.List.Elements.{All-head, All-tail}
use Rattle.std.proofs.lemmas.Option.{same_Some}
use Rattle.domains.specs.Area.{HoldsPoint, IsArea, IsSubarea}
use Rattle.domains.specs.declared.area.Area.{Area}
use Rattle.job.specs.declared.stage.Accumulator.{Accumulator as KeptAccumulator}
use Rattle.job.specs.declared.stage.Body.TheVariants.{Accumulator}
use Rattle.job.specs.Pipeline.{Body, Stage, Pipeline}
use Rattle.job.specs.Reads.{SameAt, BodyReads, stage_read, reads_of, formulas_of}
use Rattle.job.specs.Totals.{body_totals, totals, totals_over}
use Rattle.job.specs.Values.{Valuation, value}
use Rattle.job.specs.Views.{formula_view, body_view}
use Rattle.job.specs.WellFormed.{IsFormula, IsStage, IsJob, InDomainRange}
use Rattle.job.proofs.TotalLaws.{body_totals-agrees}
use Rattle.whole_stages.specs.Known.{sample_in, IsKnownAt, AreTrue, AreKnownOf, BodyServed, IsServed}
use Rattle.whole_stages.specs.declared.buffers.StageBuffer.{StageBuffer}
use Rattle.whole_stages.proofs.Knowing.{known_there, sample_there, reads_known}
use Rattle.whole_stages.proofs.TrueTiles.{tile_in_domain}
use Rattle.tile_eval.proofs.NearAreas.{domain_is_area, near_inside}
use Rattle.reductions.specs.TruePartials.{IsAccumulatorTile, IsDomainPart}
use Rattle.reductions.specs.Accumulating.{HasFormulas}

pub totals_is : (job : Pipeline) (g : ℕ) (s : Stage) → slice_get job.stages g ≡ Some s
    → totals job g ≡ body_totals (value job) s.domain s.body
totals_is job g s there = ap (λ (o : Option Stage). option_map_or (λ t. body_totals (value job) t.domain t.body) o []) there

totals_over_is : (job : Pipeline) (g : ℕ) (s : Stage) (area : Area) → slice_get job.stages g ≡ Some s
    → totals_over job area g ≡ body_totals (value job) area s.body
totals_over_is job g s area there = ap (λ (o : Option Stage). option_map_or (λ t. body_totals (value job) area t.body) o []) there

pub stage_totals : (job : Pipeline) (g : ℕ) (s : Stage) → slice_get job.stages g ≡ Some s → totals_over job s.domain g ≡ totals job g
stage_totals job g s there = totals_over_is job g s s.domain there ∙ sym (totals_is job g s there)

-- what serves for an accumulator is all that it reads
pub accumulator_inputs : (job : Pipeline) (buffers : List (Option StageBuffer)) (g : ℕ) (s : Stage) (a : KeptAccumulator)
    → slice_get job.stages g ≡ Some s → s.body ≡ body_view (Accumulator a) → IsServed job buffers g
    → All (λ x. AreKnownOf job buffers (stage_read x)) (reads_of s.body)
accumulator_inputs job buffers g s a there is served =
    subst (λ (b : Body). All (λ x. AreKnownOf job buffers (stage_read x)) (reads_of b)) (sym is)
    (subst (BodyServed job buffers g) is (served s there))

module _ (job : Pipeline) (buffers : List (Option StageBuffer)) (g : ℕ) (s : Stage) (area : Area) (h : IsJob job)
    (there : slice_get job.stages g ≡ Some s) (right : AreTrue job buffers) (part : IsDomainPart job g area)
    (inputs : All (λ x. AreKnownOf job buffers (stage_read x)) (reads_of s.body)) where
  -- all that is read of the points of the area is known
  pub part_reads : (r c : ℤ) → HoldsPoint area r c → BodyReads (IsKnownAt buffers) s.body r c
  part_reads r c inside =
      reads_known job h (IsKnownAt buffers) (AreKnownOf job buffers) (known_there job buffers right) g s there inputs r c
      (part.within s there r c inside)

  -- and an accumulator gathers its totals there
  pub part_totals : body_totals (λ k i j. sample_in (slice_get buffers k) i j) area s.body ≡ totals_over job area g
  part_totals =
      let env : Valuation = λ k i j. sample_in (slice_get buffers k) i j in
      body_totals-agrees env (value job) area part.is s.body (λ r c inside.
      reads_known job h (SameAt env (value job)) (AreKnownOf job buffers) (sample_there job buffers right) g s there inputs r c
      (part.within s there r c inside))
      ∙ sym (totals_over_is job g s area there)

  pub part_near : InDomainRange area.rows × InDomainRange area.cols
  part_near = let own = h.stages g s there in near_inside area s.domain part.is (part.within s there) own.rows own.cols

-- the whole domain, and each tile, is a part of the domain
pub whole_part : (job : Pipeline) → IsJob job → (g : ℕ) (s : Stage) → slice_get job.stages g ≡ Some s → IsDomainPart job g s.domain
whole_part job is g s there = record {
  is = domain_is_area job is g s there;
  within = λ t found. subst (IsSubarea s.domain) (ap (λ (x : Stage). x.domain) (same_Some s t (sym there ∙ found))) (λ r c inside. inside);
}

pub tile_part : (job : Pipeline) (g i j : ℕ) (area : Area) → IsArea area → IsAccumulatorTile job g i j area → IsDomainPart job g area
tile_part job g i j area is tile = record {
  is = is;
  within = λ t found.
      subst (IsSubarea area) (ap (λ (x : Stage). x.domain) (same_Some tile.stage t (sym tile.tile.there ∙ found)))
      (tile_in_domain job g i j tile.stage area tile.tile);
}

-- the formulas of an accumulator are those of its stage
pub has_formulas : (job : Pipeline) (s : Stage) (a : KeptAccumulator) → IsStage job s → s.body ≡ body_view (Accumulator a) → HasFormulas a
has_formulas job s a is e =
    let all : All IsFormula (formulas_of (body_view (Accumulator a))) = subst (λ (b : Body). All IsFormula (formulas_of b)) e is.formulas in
    record {
      value = All-head IsFormula (formula_view a.value) (formula_view a.bin ∷ []) all;
      bin = All-head IsFormula (formula_view a.bin) [] (All-tail IsFormula (formula_view a.value) (formula_view a.bin ∷ []) all);
    }
