use Rattle.std.proofs.Common.{◌∙◌, ap}
use Rattle.clap.specs.Words.{found_of}
use Rattle.clap.proofs.WalkLemmas.{first_value-rows}
use Rattle.command_line.specs.Values.{is_true}
use Rattle.command_line.proofs.words.is_flag_option_set_by_name.Goals as goal

pub returns : goal.returns
returns c = c.is_flag_option_text_true.ensures ∙ ap is_true (c.get_str.ensures ∙ first_value-rows (found_of c.args.given.now) c.args.name.now)
