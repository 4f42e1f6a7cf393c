use Rattle.std.proofs.Common.{rules, ◌≡◌, sym, subst}
use Rattle.domains.specs.Area.{IsArea}
use Rattle.domains.specs.declared.grid.Grid.{Grid}
use Rattle.job.specs.Answers.{grid_of}
use Rattle.job.specs.Kept.{pipeline_in}
use Rattle.job.specs.Views.{stage_view}
use Rattle.tile_sources.specs.KnownTiles.{HasWholeTiles}
use Rattle.one_tile.proofs.StepsRun.{have_areas}
use Rattle.one_tile.proofs.tile_job.TileJob.view_supplied_tiles.Goals as goal

pub invariant_of-result : goal.invariant_of-result
invariant_of-result g c =
    let is : c.new.result ≡ grid_of (pipeline_in c.args.self.now.job.now) (stage_view c.args.stage.now) = search rules in
    record {
      area = subst (λ (grid : Grid). IsArea grid.area) (sym is)
          (have_areas (pipeline_in c.args.self.now.job.now) c.args.self.now.job.now.well c.args.number (stage_view c.args.stage.now)
          c.requires);
      whole = subst (λ (grid : Grid). HasWholeTiles (g.K.TileSource.given c.args.self.now.known.now) c.args.number grid) (sym is)
          (c.args.self.now.whole c.args.number (stage_view c.args.stage.now) c.requires);
    }
