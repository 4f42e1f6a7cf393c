use Rattle.std.proofs.Common.{ap, map, ◌∙◌, refl}
use Rattle.std.specs.Option.{option_map}
use Rattle.std.proofs.lemmas.Option.{slice_get-map}
use Rattle.domains.proofs.Places.{here_is, all_at}
use Rattle.job.specs.Views.{case_view}
use Rattle.job.specs.WellFormed.{IsFormula}
use Rattle.tile_boxes.proofs.demands.demand_reads_of_cases.Goals as goal

pub demand_case_reads-requires-clause-formula : goal.demand_case_reads-requires-clause-formula
demand_case_reads-requires-clause-formula c =
    let cases = c.args.cases.now in
    let n = c.loop-case.case-index in
    all_at IsFormula (map (λ p. p.formula) (map case_view cases)) n (case_view c.case-item.result).formula c.requires.formulas
    (slice_get-map (λ p. p.formula) (map case_view cases) n
    ∙ ap (option_map (λ p. p.formula)) (slice_get-map case_view cases n
    ∙ ap (option_map case_view) (here_is cases cases n _ refl c.loop-case-test.true c.case-item.is)))
