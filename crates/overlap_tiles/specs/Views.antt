-- Steps and needs of the program, as contracts see them.
use Rattle.std.specs.Prelude.{ℕ}
use Rattle.domains.specs.declared.area.Area.{Area}
use Rattle.job.specs.Answers.{Tile}
use Rattle.overlap_tiles.specs.declared.needs.NeededTile.{NeededTile}
use Rattle.overlap_tiles.specs.declared.steps.TileStep.{TileStep}

abbrev pub step_view : TileStep → ℕ × Area
step_view s = (s.stage, s.area)

abbrev pub need_view : NeededTile → Tile
need_view n = record { stage = n.stage; row = n.row; col = n.col }
