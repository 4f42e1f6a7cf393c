use Rattle.std.proofs.Common.{◌≡◌, ◌++◌, [], ◌∷◌, SFits, rules, w32}
use Rattle.std.proofs.Math.Facts.{to_z-of_z}
use Rattle.std.specs.Prelude.{string_bytes}
use Rattle.command_line.proofs.SpelledParameters.{more_parameters, no_parameters}
use Rattle.command_line.proofs.words.parse_all_parameter_arguments.Goals as goal

pub returns-in_default-clause-usage : goal.returns-in_default-clause-usage
returns-in_default-clause-usage c =
    λ usage. no_parameters c.args.words.now c.loop-word.word-index _ c.loop-word-test.true c.in_default.ensures.none

pub loop-word-preserved : goal.loop-word-preserved
loop-word-preserved c =
    let named : c.in-Some.name.now ≡ string_bytes c.in_ok-from_str.field-0 = search rules in
    let fits : SFits w32 c.in-Some.value = search rules in
    let grown : c.push.new.self.items ≡ c.loop-word.parameters.items ++ (c.in_ok-from_str.field-0, c.in-Some.value) ∷ [] =
    rw (to_z-of_z {w = w32} {z = c.in-Some.value} fits) at c.in_ok-push.ensures.items in
    more_parameters c.args.words.now c.loop-word.word-index _ c.loop-word.parameters.items c.push.new.self.items
    (c.in_ok-from_str.field-0, c.in-Some.value) c.in-Some.name.now c.loop-word-test.true
    c.loop-word.invariant c.in-Some.ensures.some named grown
