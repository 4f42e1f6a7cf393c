use Rattle.std.proofs.Common.{◌||◌, ◌∙◌, ap₂}
use Rattle.std.proofs.lemmas.Result.{IfOk-weaker}
use Rattle.clap.specs.Words.{with_rule}
use Rattle.command_line.proofs.usage.define_run_subcommand.Goals as goal

pub returns-clause-app : goal.returns-clause-app
returns-clause-app c =
    let nodes = c.in_ok-arg.ensures.shape c.make_number_option_definition.ensures.local ∙ ap₂ with_rule c.in_ok-define_job_subcommand.ensures.app c.make_number_option_definition.ensures.rule in
    let turns = c.in_ok-arg-2.ensures.shape c.make_number_option_definition-2.ensures.local ∙ ap₂ with_rule nodes c.make_number_option_definition-2.ensures.rule in
    let capacity = c.in_ok-arg-3.ensures.shape c.make_number_option_definition-3.ensures.local ∙ ap₂ with_rule turns c.make_number_option_definition-3.ensures.rule in
    let lose = c.in_ok-arg-4.ensures.shape c.make_number_option_definition-4.ensures.local ∙ ap₂ with_rule capacity c.make_number_option_definition-4.ensures.rule in
    let repeat = c.in_ok-arg-5.ensures.shape c.make_number_option_definition-5.ensures.local ∙ ap₂ with_rule lose c.make_number_option_definition-5.ensures.rule in
    IfOk-weaker c.arg-6.result _ _
    (λ r h. h.shape c.make_number_option_definition-6.ensures.local ∙ ap₂ with_rule repeat c.make_number_option_definition-6.ensures.rule) c.arg-6.ensures

pub returns-clause-local : goal.returns-clause-local
returns-clause-local c =
    let nodes = c.in_ok-arg.ensures.globals ∙ ap₂ (λ a b. a || b) c.in_ok-define_job_subcommand.ensures.local c.make_number_option_definition.ensures.local in
    let turns = c.in_ok-arg-2.ensures.globals ∙ ap₂ (λ a b. a || b) nodes c.make_number_option_definition-2.ensures.local in
    let capacity = c.in_ok-arg-3.ensures.globals ∙ ap₂ (λ a b. a || b) turns c.make_number_option_definition-3.ensures.local in
    let lose = c.in_ok-arg-4.ensures.globals ∙ ap₂ (λ a b. a || b) capacity c.make_number_option_definition-4.ensures.local in
    let repeat = c.in_ok-arg-5.ensures.globals ∙ ap₂ (λ a b. a || b) lose c.make_number_option_definition-5.ensures.local in
    IfOk-weaker c.arg-6.result _ _ (λ r h. h.globals ∙ ap₂ (λ a b. a || b) repeat c.make_number_option_definition-6.ensures.local) c.arg-6.ensures
