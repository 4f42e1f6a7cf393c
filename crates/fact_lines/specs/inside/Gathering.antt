-- What is read of a text line by line.
use Rattle.std.specs.List.{All, Contains}
use Rattle.std.specs.Prelude.{◌≡◌, ℕ, ◌↔◌, ◌⊎◌, List, [], ◌++◌}
use Rattle.identity.specs.declared.job_ids.JobId.{JobId}
use Rattle.tile_fact.specs.declared.fact.Fact.{Fact}
use Rattle.tile_fact.specs.declared.fault.FactFault.{FactFault}
use Rattle.tile_fact.specs.declared.fault.FactFault.TheVariants as files
use Rattle.fact_lines.specs.declared.fault.FactLinesFault.{FactLinesFault}
use Rattle.fact_lines.specs.declared.fault.FactLinesFault.TheVariants.{BadFile, Memory}
use Rattle.fact_lines.specs.Texts.{IsFileLine, IsGoodLine, AreRetiredOn, IsFactOn}

-- the jobs and the facts with those of a line added: none of an empty one, else those of its file
abbrev pub Adds : List ℕ → List JobId → List Fact → List JobId → List Fact → Type 0
Adds line jobs facts new_jobs new_facts =
    ((line ≡ []) × (new_jobs ≡ jobs) × (new_facts ≡ facts))
    ⊎ ((retired : List JobId) × (others : List Fact) × IsFileLine line retired others × (new_jobs ≡ jobs ++ retired)
    × (new_facts ≡ facts ++ others))

-- the retired jobs and the facts of good lines, in some order, and some of them more than once
pub record Gathers (all : List (List ℕ)) (jobs : List JobId) (facts : List Fact) : Type 0 where
  pub good : All IsGoodLine all
  pub same_ids : (ids : JobId) → Contains jobs ids ↔ AreRetiredOn all ids
  pub same : (fact : Fact) → Contains facts fact ↔ IsFactOn all fact

-- how a fault of the file on the line of this number is reported
abbrev pub told : ℕ → FactFault → FactLinesFault
told number files.Memory = Memory
told number fault = BadFile number fault
