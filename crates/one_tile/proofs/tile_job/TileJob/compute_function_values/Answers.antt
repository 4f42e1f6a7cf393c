use Rattle.std.proofs.Common.{◌≡◌, ℕ, sym, subst}
use Rattle.domains.specs.declared.area.Area.{Area}
use Rattle.job.specs.Kept.{pipeline_in}
use Rattle.overlap_tiles.specs.Views.{step_view}
use Rattle.one_tile.specs.Prepared.{IsPrepared}
use Rattle.one_tile.proofs.LayoutsPrepare.{own_layout, layout_steps}
use Rattle.one_tile.proofs.tile_job.TileJob.compute_function_values.Goals as goal

pub write_function_values-requires-clause-prepared : goal.write_function_values-requires-clause-prepared
write_function_values-requires-clause-prepared g c =
    let job = pipeline_in c.args.self.now.job.now in
    let l = c.args.self.now.layout.now in
    let given = g.K.TileSource.given c.args.self.now.known.now in
    let some = c.requires.layout in
    let own = own_layout job some.inlining given l some.stage some.row some.col some.layout in
    let end : step_view c.args.step.now ≡ (some.stage, own.area) =
    c.requires.last _ _ (layout_steps job l.inlining given l some.stage some.row some.col own) in
    subst (λ (s : ℕ × Area). IsPrepared job l given c.in_ok-boxes.boxes s.0 s.1) (sym end)
    (c.in_ok-boxes.ensures.prepared some.stage some.row some.col own own.area own.tile)
