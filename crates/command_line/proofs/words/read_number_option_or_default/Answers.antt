use Rattle.std.proofs.Common.{◌∙◌, ℕ, List, Option, subst}
use Rattle.std.specs.Prelude.{IfNone, IfSome}
use Rattle.clap.specs.Words.{found_of}
use Rattle.clap.proofs.WalkLemmas.{first_value-rows}
use Rattle.command_line.specs.Values.{IsChosen}
use Rattle.command_line.proofs.words.read_number_option_or_default.Goals as goal

pub returns-clause-some : goal.returns-clause-some
returns-clause-some c =
    subst (λ (text : Option (List ℕ)). IfSome c.parse_option_number_or_default.result (IsChosen text c.args.usual))
    (c.get_str.ensures ∙ first_value-rows (found_of c.args.given.now) c.args.name.now) c.parse_option_number_or_default.ensures.some

pub returns-clause-none : goal.returns-clause-none
returns-clause-none c =
    subst (λ (text : Option (List ℕ)). IfNone c.parse_option_number_or_default.result ((n : ℕ) → ¬ IsChosen text c.args.usual n))
    (c.get_str.ensures ∙ first_value-rows (found_of c.args.given.now) c.args.name.now) c.parse_option_number_or_default.ensures.none
