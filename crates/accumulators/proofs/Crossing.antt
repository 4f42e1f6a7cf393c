-- An accumulator whose totals are put together row by row may be shared by threads.
use denote.Builtin.{One}
use denote.Hole.{as_row}
use denote.RattleType.{RattleType}
use denote.Ref.{NamedLft}
use denote.Struct.Field.{usize-field, shr_ref_field}
use denote.Param.Send.{IsSync, sendable, shr_sync}
use denote.Param.SendFields.{as_row_sync, declared_sync}
use Rattle.std.proofs.Crossing as owners
use Rattle.accumulators.specs.contracts.computed.ComputedJob as ComputedJob
use Rattle.accumulators.specs.contracts.totals.TiledAccumulation as TiledAccumulation
use Rattle.domains.specs.contracts.grid.Grid as Grid
use Rattle.grouping.specs.contracts.schedule.Schedule as Schedule
use Rattle.job.specs.contracts.job.Job as Job
use Rattle.job.specs.contracts.stage.Accumulator as Accumulator
use Rattle.tile_run.specs.contracts.stored.StoredTiles as StoredTiles
use Rattle.tile_run.proofs.Crossing.{job_sync, schedule_sync, accumulator_sync}

stored_sync : IsSync StoredTiles.the_row
stored_sync = search (sendable, owners.crosses) depth 40

grid_sync : IsSync Grid.the_row
grid_sync = search (sendable, owners.crosses) depth 40

module _ (a : NamedLft) (R : RattleType) (one : One R.mir) (y : IsSync R) where
  reference_sync : IsSync (as_row (shr_ref_field a R one))
  reference_sync = as_row_sync (shr_ref_field a R one) (shr_sync a.mir a.lft R y)

module _ (a : NamedLft) where
  computed_sync : IsSync (ComputedJob.the_row a)
  computed_sync = declared_sync (ComputedJob.the_type a) (
    reference_sync a Job.the_row tt job_sync,
    (reference_sync a Schedule.the_row tt schedule_sync, (reference_sync a StoredTiles.the_row tt stored_sync, tt)),
  )

  pub accumulation_sync : IsSync (TiledAccumulation.the_row a)
  accumulation_sync = declared_sync (TiledAccumulation.the_type a) (
    computed_sync,
    (as_row_sync usize-field (search sendable), (reference_sync a Accumulator.the_row tt accumulator_sync, (grid_sync, tt))),
  )
