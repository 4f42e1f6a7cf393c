use Rattle.std.proofs.Common.{◌≡◌, ◌∙◌, ap, ap₂, true}
use Rattle.std.proofs.lemmas.Result.{IfOk-weaker}
use Rattle.clap.specs.Words.{App, with_subcommand}
use Rattle.clap.specs.Simple.{app_of_fields, on_top}
use Rattle.command_line.proofs.usage.define_command_line.Goals as goal

-- what stands on top, the same of both
top : (a b : App) → a ≡ b → a.top ≡ b.top
top a b same = ap (λ (app : App). app.top) same

pub returns : goal.returns
returns c =
    let nameless = ap app_of_fields c.no_binary_name.ensures ∙ ap (on_top (λ s. record s { no_binary_name = true })) c.new.ensures.app in
    let flagless = ap app_of_fields c.disable_help_flag.ensures ∙ ap (on_top (λ s. record s { disable_help_flag = true })) nameless in
    let helpless =
    ap app_of_fields c.disable_help_subcommand.ensures ∙ ap (on_top (λ s. record s { disable_help_subcommand = true })) flagless in
    let empty = ap app_of_fields c.subcommand_required.ensures ∙ ap (on_top (λ s. record s { subcommand_required = true })) helpless in
    let eval = c.in_ok-subcommand.ensures.shape c.in_ok-define_job_subcommand.ensures.local ∙ ap₂ with_subcommand empty
    (top _ _ c.in_ok-define_job_subcommand.ensures.app) in
    let check =
    c.in_ok-subcommand-2.ensures.shape c.in_ok-define_job_subcommand-2.ensures.local ∙ ap₂ with_subcommand eval (top _ _ c.in_ok-define_job_subcommand-2.ensures.app) in
    let plan =
    c.in_ok-subcommand-3.ensures.shape c.in_ok-define_job_subcommand-3.ensures.local ∙ ap₂ with_subcommand check
    (top _ _ c.in_ok-define_job_subcommand-3.ensures.app) in
    let audit =
    c.in_ok-subcommand-4.ensures.shape c.in_ok-define_job_subcommand-4.ensures.local ∙ ap₂ with_subcommand plan (top _ _ c.in_ok-define_job_subcommand-4.ensures.app) in
    let world =
    c.in_ok-subcommand-5.ensures.shape c.in_ok-define_world_subcommand.ensures.local ∙ ap₂ with_subcommand audit (top _ _ c.in_ok-define_world_subcommand.ensures.app) in
    IfOk-weaker c.subcommand-6.result _ _
    (λ r h. h.shape c.in_ok-define_run_subcommand.ensures.local ∙ ap₂ with_subcommand world (top _ _ c.in_ok-define_run_subcommand.ensures.app)) c.subcommand-6.ensures
