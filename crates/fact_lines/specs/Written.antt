-- The line that retired jobs and facts are written as.
use Rattle.std.specs.Prelude.{◌≡◌, ℕ, List, [], ◌∷◌, ◌++◌, length}
use Rattle.hex.specs.Hex.{encode_lower}
use Rattle.identity.specs.declared.job_ids.JobId.{JobId}
use Rattle.tile_fact.specs.declared.fact.Fact.{Fact}
use Rattle.tile_fact.specs.FactFile.{fact_file}
use Rattle.fact_lines.specs.declared.writing.FactFileCounts.{FactFileCounts}

-- their file in lower-case hexadecimal digits, and a line feed
abbrev pub written : List JobId → List Fact → List ℕ
written retired facts = encode_lower (fact_file retired facts) ++ 10 ∷ []

-- the counts are those of the lists
pub record AreCounts (counts : FactFileCounts) (retired : List JobId) (facts : List Fact) : Type 0 where
  pub of_retired : counts.retired ≡ length retired
  pub of_facts : counts.facts ≡ length facts
