use Rattle.std.proofs.Common.{rules, map}
use Rattle.job.specs.Views.{stage_view}
use Rattle.normal_jobs.proofs.Splits.{stand_behind}
use Rattle.normal_jobs.proofs.splitting.make_split_normal_stages.Goals as goal

pub returns : goal.returns
returns c =
    stand_behind c.args.parts.now.known.items (map stage_view c.args.stages.now) (map stage_view c.args.parts.now.stages.items)
    c.in_ok-made.made.items c.in_ok-behind.behind.items c.append.new.self.items c.in_ok-append.ensures.items (search rules) (search rules)
