use Rattle.std.proofs.Common.{ℕ, ◌≡◌, arith, ap, subst, sym, ◌∙◌}
use Rattle.std.specs.List.{flat_map, range_with_len}
use Rattle.domains.specs.Tiles.{tile_cols, tile_rows}
use Rattle.job.specs.Kept.{pipeline_in, program_id_in}
use Rattle.held_facts.specs.inside.Gathering.{CameIn, row_partials}
use Rattle.held_facts.specs.inside.Judging.{RowIsReady}
use Rattle.held_facts.proofs.HeldPartials.{by_rows, more_came}
use Rattle.held_facts.proofs.held.HeldJobFacts.accumulate_stage_partials.Goals as goal

pub accumulate_row_partials-requires-clause-ready : goal.accumulate_row_partials-requires-clause-ready
accumulate_row_partials-requires-clause-ready g c =
    let s = c.args.self.now.state.now in
    let program = program_id_in c.args.self.now.job.now in
    let job = pipeline_in c.args.self.now.job.now in
    subst (λ (n : ℕ). RowIsReady s program job c.args.stage n c.loop-row.row) (sym c.tile_cols.ensures.number)
    (c.requires.ready c.in-Some.grid (sym c.in-Some.ensures) c.loop-row.row (omega (arith, c.tile_rows-row-end.ensures.number)))

pub loop-row-preserved : goal.loop-row-preserved
loop-row-preserved g c =
    let s = c.args.self.now.state.now in
    let program = program_id_in c.args.self.now.job.now in
    let job = pipeline_in c.args.self.now.job.now in
    let came = subst
    (λ (n : ℕ). CameIn job c.args.stage (row_partials s program job c.args.stage n c.loop-row.row) c.loop-row.gathering
    c.accumulate_row_partials.new.gathering)
    c.tile_cols.ensures.number c.accumulate_row_partials.ensures in
    more_came job c.args.stage (row_partials s program job c.args.stage (tile_cols c.in-Some.grid)) c.loop-row.row c.args.gathering.now
    c.loop-row.gathering c.accumulate_row_partials.new.gathering c.loop-row.invariant came

pub returns-after-loop-row : goal.returns-after-loop-row
returns-after-loop-row g c =
    let s = c.args.self.now.state.now in
    let program = program_id_in c.args.self.now.job.now in
    let job = pipeline_in c.args.self.now.job.now in
    let rows = row_partials s program job c.args.stage (tile_cols c.in-Some.grid) in
    let end : c.loop-row.row ≡ tile_rows c.in-Some.grid = omega (arith, c.tile_rows-row-end.ensures.number) in
    subst (λ xs. CameIn job c.args.stage xs c.args.gathering.now c.loop-row.gathering)
    (ap (λ n. flat_map rows (range_with_len 0 n)) end ∙ sym (by_rows s program job c.args.stage c.in-Some.grid (sym c.in-Some.ensures)))
    c.loop-row.invariant
