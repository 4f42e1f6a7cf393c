use Rattle.std.proofs.Common.{◌≡◌, ℕ, codes, rules, subst}
use Rattle.clap.specs.Words.{first_of, found_of, rows_of}
use Rattle.command_line.proofs.ChosenOptions.{chosen_usual, no_farm, none_then}
use Rattle.command_line.specs.Values.{IsChosen}
use Rattle.command_line.proofs.words.read_farm_options.Goals as goal

pub returns-clause-none : goal.returns-clause-none
returns-clause-none c =
    let rows = rows_of (found_of c.args.given.now) in
    let same : c.in_ok-count.count ≡ c.in_ok-nodes.nodes = search rules in
    none_then c.new.result
    (no_farm rows c.in_ok-nodes.nodes c.in_ok-turns.turns c.in_ok-capacity.capacity
    (subst (λ (n : ℕ). IsChosen (first_of (codes "nodes") rows) 2 n) same
    (chosen_usual _ _ _ _ (search rules) c.in_ok-count.ensures.some))
    (chosen_usual _ _ _ _ (search rules) c.in_ok-turns.ensures.some)
    (chosen_usual _ _ _ _ (search rules) c.in_ok-capacity.ensures.some)) c.new.ensures.refused
