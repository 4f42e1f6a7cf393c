use Rattle.std.proofs.Common.{rules, ◌≡◌, sym, subst, List}
use Rattle.std.specs.Prelude.{AllPairs}
use Rattle.identity.specs.declared.key.Key.{Key}
use Rattle.job.specs.Kept.{pipeline_in, program_id_in}
use Rattle.overlap_tiles.specs.Needs.{IsKeyBefore}
use Rattle.overlap_tiles.specs.Work.{wanted_keys}
use Rattle.overlap_tiles.proofs.WorkIsExact.{wanted_keys_rise}
use Rattle.overlap_tiles.proofs.work.list_work_keys_of_results.Goals as goal

pub returns-clause-rising : goal.returns-clause-rising
returns-clause-rising c =
    let program = program_id_in c.args.job.now in
    let job = pipeline_in c.args.job.now in
    let list : c.in_ok-keys.keys.items ≡ wanted_keys program job = search rules in
    subst (λ (ks : List Key). AllPairs IsKeyBefore ks) (sym list) (wanted_keys_rise program job)
