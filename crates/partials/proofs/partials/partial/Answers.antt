use Rattle.std.proofs.Common.{rules, ◌≡◌, None, sym, subst}
use Rattle.job.specs.Kept.{pipeline_in, program_id_in}
use Rattle.overlap_tiles.specs.Plans.{TileLayout}
use Rattle.one_tile.specs.Runs.{first_missing, NeedsGiven}
use Rattle.one_tile.proofs.LayoutsPrepare.{keys_given}
use Rattle.partials.proofs.TrueTilesGiveTotals.{layout_totals_true}
use Rattle.partials.proofs.partials.partial.Goals as goal

pub compute_tile_partial-requires-clause-layout : goal.compute_tile_partial-requires-clause-layout
compute_tile_partial-requires-clause-layout g c =
    let own = c.requires.plan in
    record {
      inlining = own.inlining;
      stage = own.stage;
      row = own.row;
      col = own.col;
      layout =
          c.layout.ensures.tile (program_id_in c.args.job.now) (pipeline_in c.args.job.now) own.inlining own.stage own.row own.col own.plan;
    }

pub compute_tile_partial-requires-clause-needs : goal.compute_tile_partial-requires-clause-needs
compute_tile_partial-requires-clause-needs g c =
    let given = g.K.TileSource.given c.args.known.now in
    let none : first_missing given c.args.plan.now.needs ≡ None = search rules in
    subst (λ (l : TileLayout). NeedsGiven given l.needs) (sym c.layout.ensures.same) (keys_given given c.args.plan.now.needs none)

pub returns-clause-totals : goal.returns-clause-totals
returns-clause-totals g c = λ inlining k i j is.
    c.in_ok-bins.ensures inlining k i j (c.layout.ensures.tile (program_id_in c.args.job.now) (pipeline_in c.args.job.now) inlining k i j
    is)

pub returns-clause-right : goal.returns-clause-right
returns-clause-right g c = λ right inlining k i j is.
    let job = pipeline_in c.args.job.now in
    let given = g.K.TileSource.given c.args.known.now in
    let layout = c.layout.ensures.tile (program_id_in c.args.job.now) job inlining k i j is in
    let none : first_missing given c.args.plan.now.needs ≡ None = search rules in
    let are_given = subst (λ (l : TileLayout). NeedsGiven given l.needs) (sym c.layout.ensures.same)
    (keys_given given c.args.plan.now.needs none) in
    layout_totals_true job inlining given c.layout.result.now k i j layout c.args.job.now.well are_given right c.in_ok-bins.bins.items
    (c.in_ok-bins.ensures inlining k i j layout)
