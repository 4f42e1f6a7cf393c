-- Where each tile fits into scratch memory no tile is too big, so that memory is all that an answer can lack.
use Rattle.std.proofs.Common.{◌≡◌, ℕ, List, true, Option, None, refl, sym, ◌∙◌}
use Rattle.std.specs.Option.{option_map, option_or}
use Rattle.std.proofs.lemmas.Option.{none-some}
use Rattle.grouping.specs.Inlining.{Inlining, IsScheduleOf}
use Rattle.tile_boxes.specs.Costs.{AllFitScratch}
use Rattle.identity.specs.declared.key.Key.{Key}
use Rattle.job.specs.Answers.{Tile}
use Rattle.job.specs.Pipeline.{Pipeline}
use Rattle.overlap_tiles.specs.Needs.{key_of}
use Rattle.tile_run.specs.declared.fault.RunFault.TheVariants.{ScratchTooBig}
use Rattle.tile_run.specs.declared.room.TiledStages.{TiledStages}
use Rattle.tile_run.specs.declared.room.TiledStages.TheVariants.{Accumulators, Functions}
use Rattle.tile_run.specs.Work.{wanted_by, first_too_big}
use Rattle.tile_run.proofs.FirstTooBig.{fits_none}
use Rattle.accumulators.specs.Answers.{IsEvaluationFault}

none_too_big : (job : Pipeline) (s : Inlining) (work : TiledStages) → IsScheduleOf job s → AllFitScratch job s.inlining
    → first_too_big job s.inlining (wanted_by job s.inlining work) ≡ None
none_too_big job s work is fit =
    fits_none job (record s { fits = true }) work (record { inlining = is.inlining; costs = is.costs; fits = λ e. fit }) refl

pub never_too_big : (program : List ℕ) (job : Pipeline) (s : Inlining) (key : Key) → IsScheduleOf job s
    → AllFitScratch job s.inlining → IsEvaluationFault program job s.inlining (ScratchTooBig key) → ⊥
never_too_big program job s key is fit told =
    let found : (f a : Option Tile) → Option Tile = λ f a. option_or f a in
    none-some key
    (sym (λ i. option_map (key_of program job) (found (none_too_big job s Functions is fit i) (none_too_big job s Accumulators is fit i)))
    ∙ told)
