use Rattle.std.proofs.Common.{◌∙◌, List, None, sym, subst, rules}
use Rattle.std.proofs.lemmas.Option.{none-some}
use Rattle.std.proofs.lemmas.Result.{err_from_is_err_and}
use Rattle.clap.specs.Words.{Row, app_of, found_of, rows_of}
use Rattle.command_line.specs.Asking.{AreOptions, AreParametersIn, HasOwn}
use Rattle.command_line.proofs.AskedRequest.{accepted, asks_too, entered, refused, same_rows, same_word}
use Rattle.command_line.proofs.words.read_job_command_request.Goals as goal

pub returns-in_default-clause-usage : goal.returns-in_default-clause-usage
returns-in_default-clause-usage c = λ usage request asked. c.in_default.ensures.none request.task asked.task

pub returns-in_err-matches-clause-usage : goal.returns-in_err-matches-clause-usage
returns-in_err-matches-clause-usage c =
    let p = err_from_is_err_and c.from_residual-in_err-matches.result c.from_residual-in_err-matches.ensures.1 in
    rw p.1 (λ usage. refused c.args.words.now (app_of c.in_ok-define_command_line.field-0) c.in_err-matches.field-0.0 c.in_ok-define_command_line.ensures
    c.in_err-matches.ensures.kinds (p.2 usage))

pub returns-in_default-subcommand-clause-usage : goal.returns-in_default-subcommand-clause-usage
returns-in_default-subcommand-clause-usage c = λ usage request asked.
    let rows =
    entered c.args.words.now (app_of c.in_ok-define_command_line.field-0) c.in_ok-matches.matches c.subcommand.result None c.in_ok-define_command_line.ensures
    c.in_ok-matches.ensures.matches c.subcommand.ensures.rows c.in_default-subcommand.is in
    none-some asked.rows (sym rows ∙ asked.given)

pub returns-in_default-read_task_with_its_options-clause-usage : goal.returns-in_default-read_task_with_its_options-clause-usage
returns-in_default-read_task_with_its_options-clause-usage c = λ usage request asked.
    let rows =
    entered c.args.words.now (app_of c.in_ok-define_command_line.field-0) c.in_ok-matches.matches c.subcommand.result _ c.in_ok-define_command_line.ensures
    c.in_ok-matches.ensures.matches c.subcommand.ensures.rows c.in-Some-subcommand.is in
    c.in_default-read_task_with_its_options.ensures.none request.task
    (same_word c.args.words.now request.task c.in-Some.named asked.task c.in-Some.ensures.some)
    (subst (λ (found : List Row). HasOwn found request.task)
    (same_rows c.args.words.now request asked (rows_of (found_of c.in-Some-subcommand.given.now)) rows) asked.own)

pub returns-in_default-read_tile_and_schedule_options-clause-usage : goal.returns-in_default-read_tile_and_schedule_options-clause-usage
returns-in_default-read_tile_and_schedule_options-clause-usage c = λ usage request asked.
    let rows =
    entered c.args.words.now (app_of c.in_ok-define_command_line.field-0) c.in_ok-matches.matches c.subcommand.result _ c.in_ok-define_command_line.ensures
    c.in_ok-matches.ensures.matches c.subcommand.ensures.rows c.in-Some-subcommand.is in
    c.in_default-read_tile_and_schedule_options.ensures.none request.options
    (subst (λ (found : List Row). AreOptions found request.options)
    (same_rows c.args.words.now request asked (rows_of (found_of c.in-Some-subcommand.given.now)) rows) asked.options)

pub returns-in_err-read_parameter_arguments-clause-usage : goal.returns-in_err-read_parameter_arguments-clause-usage
returns-in_err-read_parameter_arguments-clause-usage c =
    let p = err_from_is_err_and c.from_residual-in_err-read_parameter_arguments.result c.from_residual-in_err-read_parameter_arguments.ensures.1 in
    let rows =
    entered c.args.words.now (app_of c.in_ok-define_command_line.field-0) c.in_ok-matches.matches c.subcommand.result _ c.in_ok-define_command_line.ensures
    c.in_ok-matches.ensures.matches c.subcommand.ensures.rows c.in-Some-subcommand.is in
    rw (p.1, p.2) (λ usage request asked.
    c.in_err-read_parameter_arguments.ensures.usage usage request.parameters.items
    (subst (λ (found : List Row). AreParametersIn found request.parameters.items)
    (same_rows c.args.words.now request asked (rows_of (found_of c.in-Some-subcommand.given.now)) rows) asked.parameters))

pub returns-clause-asked : goal.returns-clause-asked
returns-clause-asked c =
    let rows =
    entered c.args.words.now (app_of c.in_ok-define_command_line.field-0) c.in_ok-matches.matches c.subcommand.result _ c.in_ok-define_command_line.ensures
    c.in_ok-matches.ensures.matches c.subcommand.ensures.rows c.in-Some-subcommand.is in
    record {
      accepted =
          accepted c.args.words.now (app_of c.in_ok-define_command_line.field-0) c.in_ok-matches.matches c.in_ok-define_command_line.ensures
          c.in_ok-matches.ensures.kinds;
      no_separator = search rules;
      task = asks_too c.args.words.now c.in-Some.named c.in-Some-read_task_with_its_options.task c.in-Some.ensures.some c.in-Some-read_task_with_its_options.ensures.same;
      rows = rows_of (found_of c.in-Some-subcommand.given.now);
      given = rows;
      own = c.in-Some-read_task_with_its_options.ensures.own;
      options = c.in-Some-read_tile_and_schedule_options.ensures.some;
      parameters = c.in_ok-read_parameter_arguments.ensures.some;
    }

pub returns-in_err-read_parameter_arguments-clause-memory : goal.returns-in_err-read_parameter_arguments-clause-memory
returns-in_err-read_parameter_arguments-clause-memory c =
    let p = err_from_is_err_and c.from_residual-in_err-read_parameter_arguments.result c.from_residual-in_err-read_parameter_arguments.ensures.1 in
    rw p.1 (λ memory. record { task = c.in-Some.named; named = c.in-Some.ensures.some; no_separator = search rules })
