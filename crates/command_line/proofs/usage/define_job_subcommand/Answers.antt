use Rattle.std.proofs.Common.{◌≡◌, ◌||◌, ◌∙◌, ap, ap₂, true}
use Rattle.std.proofs.lemmas.Result.{IfOk-weaker}
use Rattle.clap.specs.Words.{app_of, new_app, with_rule}
use Rattle.clap.specs.Simple.{app_of_fields, on_top}
use Rattle.command_line.proofs.usage.define_job_subcommand.Goals as goal

pub returns-clause-app : goal.returns-clause-app
returns-clause-app c =
    let plain : app_of c.disable_help_flag.result ≡ on_top (λ s. record s { disable_help_flag = true }) (new_app c.args.name.now) =
    ap app_of_fields c.disable_help_flag.ensures ∙ ap (on_top (λ s. record s { disable_help_flag = true })) c.new.ensures.app in
    let rows = c.in_ok-arg.ensures.shape c.make_number_option_definition.ensures.local ∙ ap₂ with_rule plain c.make_number_option_definition.ensures.rule in
    let cols = c.in_ok-arg-2.ensures.shape c.make_number_option_definition-2.ensures.local ∙ ap₂ with_rule rows c.make_number_option_definition-2.ensures.rule in
    let percent = c.in_ok-arg-3.ensures.shape c.make_number_option_definition-3.ensures.local ∙ ap₂ with_rule cols c.make_number_option_definition-3.ensures.rule in
    let stored = c.in_ok-arg-4.ensures.shape c.make_flag_option_definition.ensures.local ∙ ap₂ with_rule percent c.make_flag_option_definition.ensures.rule in
    IfOk-weaker c.arg-5.result _ _
    (λ r h. h.shape c.make_parameter_argument_definition.ensures.local ∙ ap₂ with_rule stored c.make_parameter_argument_definition.ensures.rule)
    c.arg-5.ensures

pub returns-clause-local : goal.returns-clause-local
returns-clause-local c =
    let plain = ap (λ fields. fields.has_globals) c.disable_help_flag.ensures ∙ c.new.ensures.local in
    let rows = c.in_ok-arg.ensures.globals ∙ ap₂ (λ a b. a || b) plain c.make_number_option_definition.ensures.local in
    let cols = c.in_ok-arg-2.ensures.globals ∙ ap₂ (λ a b. a || b) rows c.make_number_option_definition-2.ensures.local in
    let percent = c.in_ok-arg-3.ensures.globals ∙ ap₂ (λ a b. a || b) cols c.make_number_option_definition-3.ensures.local in
    let stored = c.in_ok-arg-4.ensures.globals ∙ ap₂ (λ a b. a || b) percent c.make_flag_option_definition.ensures.local in
    IfOk-weaker c.arg-5.result _ _ (λ r h. h.globals ∙ ap₂ (λ a b. a || b) stored c.make_parameter_argument_definition.ensures.local) c.arg-5.ensures
