-- What a state that knew nothing is after one update.
use Rattle.std.proofs.Common.{◌≡◌, ◌∙◌, sym}
use Rattle.std.proofs.lemmas.Bool.{true≢false}
use Rattle.fact_store.proofs.SetLaws as sets
use Rattle.identity.specs.Keys.{ids_in}
use Rattle.identity.specs.declared.job_ids.JobId.{JobId}
use Rattle.states.proofs.IdLaws.{has-no_ids}
use Rattle.states.proofs.JoinLaws.{join_comm, join_nothing}
use Rattle.node_state.specs.States.{IsState, State, join, nothing, of_fact, of_retirement, with_fact, with_retired}
use Rattle.tile_fact.specs.declared.fact.Fact.{Fact}

-- what joins nothing is itself
alone : (s : State) → IsState s → join nothing s ≡ s
alone s is = join_comm nothing s ∙ join_nothing s is

pub fact_alone : (fact : Fact) → with_fact nothing fact ≡ of_fact fact
fact_alone fact = alone (of_fact fact) (λ f has. has-no_ids (ids_in f.key))

pub retirement_alone : (ids : JobId) → with_retired nothing ids ≡ of_retirement ids
retirement_alone ids = alone (of_retirement ids) (λ f has. absurd (true≢false (sym has ∙ sets.holds-nothing f)))
