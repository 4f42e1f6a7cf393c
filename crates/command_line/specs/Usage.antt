-- The usage text: the commands that take options and values of parameters, and which ones they take. Clap's definitions specify
-- how such a command line is read. `merge`, which takes no words, is not among the commands.
use Rattle.std.specs.Prelude.{Some, true, codes}
use Rattle.clap.specs.Words.{App, Rule, Shape, Text, new_app, new_rule, with_rule, with_subcommand}
use Rattle.clap.specs.Simple.{on_top}
use Rattle.clap.specs.Lexer.{usize_max}
use Rattle.clap.specs.declared.builder.action.ArgAction.TheVariants.{Append, Set, SetTrue}

-- `--NAME N` or `--NAME=N`, once at most
abbrev pub number_option : Text → Rule
number_option name = record (new_rule name) { long = Some name; action = Some Set }

-- `--NAME`, once at most
abbrev pub flag_option : Text → Rule
flag_option name = record (new_rule name) { long = Some name; action = Some SetTrue }

-- the words that are not options, any number of them
abbrev pub parameter_words : Rule
parameter_words = record (new_rule (codes "NAME=VALUE")) {
  action = Some Append;
  range = Some (record { start_inclusive = 0; end_inclusive = usize_max });
}

-- a command of this name: `[--rows N] [--cols N] [--percent N] [--stored] [NAME=VALUE]...`
abbrev pub command_app : Text → App
command_app name =
    with_rule (with_rule (with_rule (with_rule (with_rule
    (on_top (λ s. record s { disable_help_flag = true }) (new_app name))
    (number_option (codes "rows"))) (number_option (codes "cols"))) (number_option (codes "percent")))
    (flag_option (codes "stored"))) parameter_words

-- `run` takes `[--nodes N] [--turns N] [--capacity N] [--lose N] [--repeat N] [--restart N]` too
abbrev pub run_app : App
run_app =
    with_rule (with_rule (with_rule (with_rule (with_rule (with_rule (command_app (codes "run"))
    (number_option (codes "nodes"))) (number_option (codes "turns"))) (number_option (codes "capacity")))
    (number_option (codes "lose"))) (number_option (codes "repeat"))) (number_option (codes "restart"))

-- `world` takes `[--nodes N]` too
abbrev pub world_app : App
world_app = with_rule (command_app (codes "world")) (number_option (codes "nodes"))

abbrev pub command_shape : Text → Shape
command_shape name = (command_app name).top

-- one of the six commands, without the program's name and without help
abbrev pub usage : App
usage =
    with_subcommand (with_subcommand (with_subcommand (with_subcommand (with_subcommand (with_subcommand
    (on_top (λ s. record s {
      no_binary_name = true;
      disable_help_flag = true;
      disable_help_subcommand = true;
      subcommand_required = true;
    }) (new_app (codes "tilefarm")))
    (command_shape (codes "eval"))) (command_shape (codes "check"))) (command_shape (codes "plan"))) (command_shape (codes "audit")))
    world_app.top) run_app.top
