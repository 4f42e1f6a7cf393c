-- The output of `merge`: the file of the join of the supplied fact files.
use Rattle.std.specs.Prelude.{◌≡◌, ℕ, List}
use Rattle.fact_lines.specs.Texts.{IsJoin}
use Rattle.fact_lines.specs.Written.{written}
use Rattle.identity.specs.declared.job_ids.JobId.{JobId}
use Rattle.command_outcomes.specs.Outcomes.{Saying}
use Rattle.tile_fact.specs.declared.fact.Fact.{Fact}

-- the line of their join
pub record IsJoinLine (input bytes : List ℕ) : Type 0 where
  pub retired : List JobId
  pub facts : List Fact
  pub join : IsJoin input retired facts
  pub says : bytes ≡ written retired facts

abbrev pub saying_join : Saying (Unit {0})
saying_join answer input bytes = IsJoinLine input bytes
