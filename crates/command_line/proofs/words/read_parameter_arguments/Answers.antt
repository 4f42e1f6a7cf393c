use Rattle.std.proofs.Common.{◌≡◌, ◌∙◌, List, [], ap, codes, map, option_map, sym, subst}
use Rattle.std.specs.Prelude.{IfErr, IfOk, unwrap_or}
use Rattle.clap.specs.Words.{Text, found_of}
use Rattle.clap.proofs.WalkLemmas.{raw_values-rows}
use Rattle.command_line.specs.Asking.{AreParameters, Given}
use Rattle.command_line.specs.declared.words.CommandLineRefusal.TheVariants.{Usage}
use Rattle.command_line.proofs.words.read_parameter_arguments.Goals as goal

pub returns-in-Some-clause-some : goal.returns-in-Some-clause-some
returns-in-Some-clause-some c =
    let all =
    sym (ap (option_map (λ s. map (λ v. v.now) s.now)) c.in-Some.is) ∙ c.get_strs.ensures
    ∙ raw_values-rows (found_of c.args.given.now) (codes "NAME=VALUE") in
    subst (λ (ts : List Text). IfOk c.parse_all_parameter_arguments.result (λ ps. AreParameters ts ps.items)) (ap (λ o. unwrap_or o []) all)
    c.parse_all_parameter_arguments.ensures.some

pub returns-in-Some-clause-usage : goal.returns-in-Some-clause-usage
returns-in-Some-clause-usage c =
    let all =
    sym (ap (option_map (λ s. map (λ v. v.now) s.now)) c.in-Some.is) ∙ c.get_strs.ensures
    ∙ raw_values-rows (found_of c.args.given.now) (codes "NAME=VALUE") in
    subst (λ (ts : List Text). IfErr c.parse_all_parameter_arguments.result (λ refusal. refusal ≡ Usage → (ps : List Given) → ¬ AreParameters ts ps))
    (ap (λ o. unwrap_or o []) all) c.parse_all_parameter_arguments.ensures.usage

pub returns-in-None-clause-some : goal.returns-in-None-clause-some
returns-in-None-clause-some c =
    let all =
    sym (ap (option_map (λ s. map (λ v. v.now) s.now)) c.in-None.is) ∙ c.get_strs.ensures
    ∙ raw_values-rows (found_of c.args.given.now) (codes "NAME=VALUE") in
    subst (λ (ts : List Text). AreParameters ts c.new.result.items) (ap (λ o. unwrap_or o []) all)
    (subst (λ (gs : List Given). AreParameters [] gs) (sym c.new.ensures.items) tt)
