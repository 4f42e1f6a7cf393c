use Rattle.std.proofs.Common.{arith, ℕ, ◌≡◌, sym, ◌∙◌, subst, Bool, None, find}
use Rattle.std.specs.List.{flat_map, range_with_len}
use Rattle.domains.specs.Tiles.{tile_rows}
use Rattle.job.specs.Kept.{pipeline_in}
use Rattle.overlap_tiles.specs.Needs.{tile_of_stage}
use Rattle.overlap_tiles.specs.Work.{is_tile_over_scratch_limit}
use Rattle.tile_run.specs.inside.Room.{row_tiles}
use Rattle.tile_run.proofs.FirstFound.{list_more, some_found, is_nothing}
use Rattle.tile_run.proofs.room.OversizedTileSearch.find_oversized_tile.Goals as goal

pub returns-then-is_some : goal.returns-then-is_some
returns-then-is_some c =
    let end = c.tile_rows-row-end.ensures.number in
    some_found (λ t. is_tile_over_scratch_limit (pipeline_in c.args.self.now.job.now) c.args.self.now.schedule.now.inlining
    (tile_of_stage c.args.self.now.stage t)) (row_tiles c.args.self.now.grid) (tile_rows c.args.self.now.grid) c.loop-row.row
    c.in_ok-found.found
    (omega (arith, c.loop-row-test.true)) c.loop-row.invariant c.in_ok-found.ensures (sym c.is_some.ensures ∙ c.if-is_some.true)

pub loop-row-preserved : goal.loop-row-preserved
loop-row-preserved c =
    list_more (λ t. is_tile_over_scratch_limit (pipeline_in c.args.self.now.job.now) c.args.self.now.schedule.now.inlining
    (tile_of_stage c.args.self.now.stage t)) (row_tiles c.args.self.now.grid) c.loop-row.row None c.loop-row.invariant
    (sym c.in_ok-found.ensures ∙ is_nothing c.in_ok-found.found (sym c.is_some.ensures ∙ c.if-is_some.false))

pub returns : goal.returns
returns c =
    let p : ℕ × ℕ → Bool = λ t. is_tile_over_scratch_limit (pipeline_in c.args.self.now.job.now) c.args.self.now.schedule.now.inlining
    (tile_of_stage c.args.self.now.stage t) in
    let end : c.loop-row.row ≡ tile_rows c.args.self.now.grid = omega (arith, c.tile_rows-row-end.ensures.number) in
    sym (subst (λ (n : ℕ). find p (flat_map (row_tiles c.args.self.now.grid) (range_with_len 0 n)) ≡ None) end c.loop-row.invariant)
