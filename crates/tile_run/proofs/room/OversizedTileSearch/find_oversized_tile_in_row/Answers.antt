use Rattle.std.proofs.Common.{arith, ℕ, ◌≡◌, sym, ◌∙◌, subst, Bool, None, find, map}
use Rattle.std.specs.List.{range_with_len}
use Rattle.domains.specs.Tiles.{tile_cols}
use Rattle.job.specs.Kept.{pipeline_in}
use Rattle.overlap_tiles.specs.Needs.{tile_of_stage}
use Rattle.overlap_tiles.specs.Work.{is_tile_over_scratch_limit}
use Rattle.tile_run.proofs.FirstFound.{one_more, one_found}
use Rattle.tile_run.proofs.room.OversizedTileSearch.find_oversized_tile_in_row.Goals as goal

pub returns-then-branch : goal.returns-then-branch
returns-then-branch c =
    let end = c.tile_cols-col-end.ensures.number in
    sym (one_found (λ t. is_tile_over_scratch_limit (pipeline_in c.args.self.now.job.now) c.args.self.now.schedule.now.inlining
    (tile_of_stage c.args.self.now.stage t)) (λ j. (c.args.row, j)) (tile_cols c.args.self.now.grid) c.loop-col.col
    (omega (arith, c.loop-col-test.true)) c.loop-col.invariant (sym c.in_ok-is_oversized_tile.ensures ∙ c.if-branch.true))

pub loop-col-preserved : goal.loop-col-preserved
loop-col-preserved c =
    one_more (λ t. is_tile_over_scratch_limit (pipeline_in c.args.self.now.job.now) c.args.self.now.schedule.now.inlining
    (tile_of_stage c.args.self.now.stage t)) (λ j. (c.args.row, j)) c.loop-col.col
    c.loop-col.invariant (sym c.in_ok-is_oversized_tile.ensures ∙ c.if-branch.false)

pub returns : goal.returns
returns c =
    let p : ℕ × ℕ → Bool = λ t. is_tile_over_scratch_limit (pipeline_in c.args.self.now.job.now) c.args.self.now.schedule.now.inlining
    (tile_of_stage c.args.self.now.stage t) in
    let end : c.loop-col.col ≡ tile_cols c.args.self.now.grid = omega (arith, c.tile_cols-col-end.ensures.number) in
    sym (subst (λ (n : ℕ). find p (map (λ (j : ℕ). (c.args.row, j)) (range_with_len 0 n)) ≡ None) end c.loop-col.invariant)
