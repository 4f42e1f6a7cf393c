use Rattle.std.proofs.Common.{◌<◌, ℕ, List, Option, length, refl, sym, ap, subst, ◌∙◌}
use Rattle.std.specs.Prelude.{All}
use Rattle.std.specs.List.{flat_map}
use Rattle.domains.specs.declared.area.Area.{Area}
use Rattle.job.specs.Kept.{pipeline_in}
use Rattle.domains.proofs.Places.{all_at}
use Rattle.tile_boxes.specs.Targets.{Target, IsTarget, box, demands_by, target_over}
use Rattle.tile_boxes.specs.Walks.{cut_hull, demanded_all}
use Rattle.grouping.specs.inside.Standings.{areas_at}
use Rattle.grouping.proofs.CostsGrow.{areas_are_targets}
use Rattle.grouping.proofs.ReadersMakeBoxes.{cut_is_box}
use Rattle.grouping.proofs.GreedyIsTheRule.{readers_there}
use Rattle.grouping.proofs.greedy.Grouper.find_box_in_tile.Goals as goal

pub demand_reads_of_readers-requires-clause-walk : goal.demand_reads_of_readers-requires-clause-walk
demand_reads_of_readers-requires-clause-walk c =
    let job = pipeline_in c.args.job.now in
    let inlining = c.args.self.now.inlining in
    let h = c.args.candidate.now.group in
    record {
      target =
          all_at (λ a. IsTarget (target_over job inlining h a)) (areas_at job h) c.args.spot.now.place c.args.spot.now.tile
          (areas_are_targets job inlining h c.args.job.now.well) c.requires.spot;
      inlining =
          refl;
      stand =
          c.requires.stand;
      tile = c.requires.spot;
    }

pub demand_reads_of_readers-requires-clause-readers : goal.demand_reads_of_readers-requires-clause-readers
demand_reads_of_readers-requires-clause-readers c =
    let job = pipeline_in c.args.job.now in
    subst (λ (rs : List ℕ). All (λ r. r < length job.stages) rs) (sym (c.deref.ensures.value ∙ c.requires.candidate.read))
    (readers_there job c.args.candidate.now.number)

pub returns-clause-is : goal.returns-clause-is
returns-clause-is c =
    let job = pipeline_in c.args.job.now in
    let g = c.args.candidate.now.number in
    let t : Target = target_over job c.args.self.now.inlining c.args.candidate.now.group c.args.spot.now.tile in
    let there : g < length c.args.hulls.now = subst (λ (n : ℕ). g < n) (sym c.requires.hulls) c.requires.candidate.there in
    let demanded = c.demand_reads_of_readers.ensures
    ∙ (λ i. demanded_all (c.clear_trial_bounding_box.ensures i) (flat_map (demands_by t (box t)) ((c.deref.ensures.value ∙ c.requires.candidate.read) i))) in
    c.find_stage_box.ensures.is ∙ ap (λ (hulls : List (Option Area)). cut_hull job.stages hulls g) demanded
    ∙ cut_is_box t g c.args.hulls.now c.args.job.now.well there
