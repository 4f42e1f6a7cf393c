use Rattle.std.proofs.Common.{arith, ◌<◌, ap, sym, ◌∙◌, ◌++◌, List, refl}
use Rattle.identity.specs.declared.key.Key.{Key}
use Rattle.job.specs.Kept.{pipeline_in, program_id_in}
use Rattle.overlap_tiles.proofs.WorkKeys.{keys_are, number_fits}
use Rattle.overlap_tiles.proofs.work.push_work_keys_of_tiles_of_stage.Goals as goal

pub returns-in_ok-push_work_keys_of_grid : goal.returns-in_ok-push_work_keys_of_grid
returns-in_ok-push_work_keys_of_grid c =
    let job = pipeline_in c.args.job.now in
    let low : c.args.stage < 65536 = number_fits job c.args.job.now.well c.args.stage c.in-Some.grid (sym c.in-Some.ensures) in
    c.in_ok-push_work_keys_of_grid.ensures
    ∙ ap (λ (ks : List Key). c.args.keys.now.items ++ ks)
    (keys_are (program_id_in c.args.job.now) job c.args.named.now
    (record { program = c.args.named.now.program; input = c.args.named.now.input; stage = _; row = 0; col = 0 }) c.args.stage c.in-Some.grid
    c.requires refl refl (omega arith)
    (sym c.in-Some.ensures))
