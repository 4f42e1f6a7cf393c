-- What a node answers from its state.
use Rattle.std.specs.Prelude.{if◌then◌else◌}
use Rattle.identity.specs.Keys.{ids_in}
use Rattle.identity.specs.declared.job_ids.JobId.{JobId}
use Rattle.identity.specs.declared.key.Key.{Key}
use Rattle.tile_fact.specs.declared.fact.Fact.{Fact}
use Rattle.held_facts.specs.Answers as held
use Rattle.held_facts.specs.declared.answers.Known.{Known}
use Rattle.held_facts.specs.declared.answers.Known.TheVariants as known
use Rattle.held_facts.specs.declared.answers.Taken.{Taken}
use Rattle.held_facts.specs.declared.answers.Taken.TheVariants.{New, Already, Retired}
use Rattle.node_state.specs.States.{State, retires}

-- whether a fact that is taken was new, held already, or of a retired job
abbrev pub taken_of : State → Fact → Taken
taken_of s f = if retires s (ids_in f.key) then Retired else held.taken_of s.facts f

-- whether a retirement that is taken was new
abbrev pub retired_of : State → JobId → Taken
retired_of s ids = if retires s ids then Already else New

-- none, one or several facts of the key are held, or its job is retired
abbrev pub known_of : State → Key → Known
known_of s key = if retires s (ids_in key) then known.Retired else held.known_of s.facts key
