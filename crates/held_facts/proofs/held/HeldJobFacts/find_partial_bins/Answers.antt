use Rattle.std.proofs.Common.{ap, sym, ◌∙◌}
use Rattle.std.specs.Option.{option_copied}
use Rattle.job.specs.Kept.{pipeline_in}
use Rattle.held_facts.proofs.OneHeld.{bins_read}
use Rattle.held_facts.proofs.held.HeldJobFacts.find_partial_bins.Goals as goal

pub returns-in-Partial-clause-count : goal.returns-in-Partial-clause-count
returns-in-Partial-clause-count g c =
    bins_read c.args.self.now.state.now (pipeline_in c.args.self.now.job.now) c.args.key.now c.in_ok-find_nth_fact_of_key.field-0.now
    c.as_slice.result.now c.requires (sym c.find_nth_fact_of_key.ensures ∙ ap option_copied c.in_ok-find_nth_fact_of_key.was) (cc)
