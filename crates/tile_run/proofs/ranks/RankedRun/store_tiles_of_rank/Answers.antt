use Rattle.std.proofs.Common.{arith, ℕ, ◌+◌, ◌≡◌, ◌<◌, Option, Some, eqb, slice_get, length, subst, sym, ap, ◌∙◌}
use Rattle.std.specs.Option.{option_eq, option_map}
use Rattle.std.proofs.lemmas.List.{length-map}
use Rattle.job.specs.Kept.{pipeline_in}
use Rattle.job.specs.Pipeline.{Pipeline}
use Rattle.job.specs.Views.{stage_view}
use Rattle.tile_run.specs.declared.stored.StoredTiles.{StoredTiles}
use Rattle.tile_run.specs.inside.Running.{AreStored}
use Rattle.tile_run.proofs.TestsOfRanks.{rank_there, rank_elsewhere}
use Rattle.tile_run.proofs.RunAllStores.{AreStoredTo, stored_more, stored_other, stored_end}
use Rattle.tile_run.proofs.ranks.RankedRun.store_tiles_of_rank.Goals as goal
use Rattle.tile_run.proofs.ranks.RankedRun.store_tiles_of_rank.Goals.{then-eq+in_ok-stored, else-eq}

pub make_tiles_if_stage_is_stored-requires-clause-stored : goal.make_tiles_if_stage_is_stored-requires-clause-stored
make_tiles_if_stage_is_stored-requires-clause-stored g c κs within =
    let run = c.args.self.now in
    let job : Pipeline = pipeline_in run.job.now in
    let n = c.loop-number.number in
    let test : option_eq eqb (option_map (λ s. s.rank) (slice_get job.stages n)) (Some c.args.rank) ≡ c.eq.result =
    sym (c.eq.ensures ∙ ap (λ (o : Option ℕ). option_eq eqb o (Some c.args.rank)) c.rank.ensures) in
    subst (λ k. AreStored job run.schedule.now.inlining k c.loop-number.stored.stages.items)
    (sym (rank_there job.stages n c.args.rank (test ∙ c.if-eq.true))) c.loop-number.invariant.stored

pub loop-number-preserved : goal.loop-number-preserved
loop-number-preserved g c =
    let run = c.args.self.now in
    let job : Pipeline = pipeline_in run.job.now in
    let inlining = run.schedule.now.inlining in
    let n = c.loop-number.number in
    let within : n < length job.stages = omega (
      arith,
      sym (length-map c.stages-number-end.result.now stage_view)
          ∙ ap length c.stages-number-end.ensures,
    ) in
    let test : option_eq eqb (option_map (λ s. s.rank) (slice_get job.stages n)) (Some c.args.rank) ≡ c.eq.result =
    sym (c.eq.ensures ∙ ap (λ (o : Option ℕ). option_eq eqb o (Some c.args.rank)) c.rank.ensures) in
    elim c.if-eq.branch [
      | then-eq+in_ok-stored w ↦
          subst (λ (k : StoredTiles). AreStoredTo job inlining c.args.rank (n + 1) k.stages.items) (sym w.stored-is)
          (stored_more job inlining n c.loop-number.stored.stages.items w.in_ok-stored.field-0 c.loop-number.invariant.stored.length
          within w.in_ok-stored.ensures c.args.rank c.loop-number.invariant)
      | else-eq w ↦
          subst (λ (k : StoredTiles). AreStoredTo job inlining c.args.rank (n + 1) k.stages.items) (sym w.stored-is)
          (stored_other job inlining c.args.rank n c.loop-number.stored.stages.items c.loop-number.invariant
          (rank_elsewhere job.stages n c.args.rank (test ∙ w.if-eq.false)))
    ]

pub returns : goal.returns
returns g c =
    let run = c.args.self.now in
    let job : Pipeline = pipeline_in run.job.now in
    let inlining = run.schedule.now.inlining in
    let last : c.loop-number.number ≡ length job.stages = omega (
      arith,
      sym (length-map c.stages-number-end.result.now stage_view)
          ∙ ap length c.stages-number-end.ensures,
    ) in
    stored_end job inlining c.args.rank c.loop-number.stored.stages.items
    (subst (λ n. AreStoredTo job inlining c.args.rank n c.loop-number.stored.stages.items) last c.loop-number.invariant)
