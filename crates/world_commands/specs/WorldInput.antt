-- From the bytes of an input to its job and to the events of its script.
use Rattle.std.specs.Prelude.{◌≡◌, ℕ, List}
use Rattle.catalog.specs.Entries.{Entry}
use Rattle.domains.specs.Sides.{Sides}
use Rattle.gossip_events.specs.Scripts.{AreEvents, lines}
use Rattle.gossip_events.specs.declared.event.Event.{Event}
use Rattle.command_inputs.specs.Giving.{Given}
use Rattle.command_inputs.specs.Input.{IsInputAround}
use Rattle.job.specs.Pipeline.{Pipeline}
use Rattle.job.specs.WellFormed.{IsJob}
use Rattle.command_inputs.specs.JobCatalog.{catalog_of}
use Rattle.pipe_tree.specs.Tree.{Declaration}

-- the input is a program of this tree, a script and a picture; the job is the program's and the picture's, and the script
-- specifies the events by the catalog that has this job alone
pub record IsInputWorld (input : List ℕ) (given : List Given) (sides : Sides) (tree : List Declaration) (job : Pipeline)
    (events : List Event) : Type 0 where
  pub script : List ℕ
  pub around : IsInputAround input given sides tree job script
  pub tells : AreEvents (catalog_of tree job) (lines script) events

-- the catalog of the job alone, and the events of an input
pub record IsReadWorld (input : List ℕ) (given : List Given) (sides : Sides) (jobs : List Entry) (events : List Event) : Type 0 where
  pub tree : List Declaration
  pub job : Pipeline
  pub is_job : IsJob job
  pub of_input : IsInputWorld input given sides tree job events
  pub alone : jobs ≡ catalog_of tree job
