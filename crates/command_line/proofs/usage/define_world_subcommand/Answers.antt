use Rattle.std.proofs.Common.{◌||◌, ◌∙◌, ap₂}
use Rattle.std.proofs.lemmas.Result.{IfOk-weaker}
use Rattle.clap.specs.Words.{with_rule}
use Rattle.command_line.proofs.usage.define_world_subcommand.Goals as goal

pub returns-clause-app : goal.returns-clause-app
returns-clause-app c =
    IfOk-weaker c.arg.result _ _
    (λ r h. h.shape c.make_number_option_definition.ensures.local ∙ ap₂ with_rule c.in_ok-define_job_subcommand.ensures.app c.make_number_option_definition.ensures.rule) c.arg.ensures

pub returns-clause-local : goal.returns-clause-local
returns-clause-local c =
    IfOk-weaker c.arg.result _ _
    (λ r h. h.globals ∙ ap₂ (λ a b. a || b) c.in_ok-define_job_subcommand.ensures.local c.make_number_option_definition.ensures.local) c.arg.ensures
