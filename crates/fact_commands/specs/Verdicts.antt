-- The output of `audit` in bytes: the verdict on each fact, which jobs are retired, and whether a fact is false.
use Rattle.std.specs.Prelude.{ℕ, List, [], ◌∷◌, ◌++◌, Contains, codes}
use Rattle.std.specs.Fmt.{decimal}
use Rattle.std.specs.List.{flat_map, zip}
use Rattle.fact_audit.specs.declared.verdict.Verdict.{Verdict}
use Rattle.fact_audit.specs.declared.verdict.Verdict.TheVariants.{Foreign, Misshapen, True, False}
use Rattle.hex.specs.Hex.{encode_lower}
use Rattle.identity.specs.declared.job_ids.JobId.{JobId}
use Rattle.identity.specs.declared.key.Key.{Key}
use Rattle.tile_fact.specs.declared.fact.Fact.{Fact}
use Rattle.fact_commands.specs.declared.finding.AuditFinding.{AuditFinding}
use Rattle.fact_commands.specs.declared.finding.AuditFinding.TheVariants.{NoFalse, AFalse}

-- ---- lines of facts

abbrev pub verdict_word : Verdict → List ℕ
verdict_word Foreign = codes "Foreign"
verdict_word Misshapen = codes "Misshapen"
verdict_word True = codes "True"
verdict_word False = codes "False"

-- ` STAGE ROW COLUMN` and LF
abbrev pub place_text : Key → List ℕ
place_text key = 32 ∷ decimal key.stage ++ 32 ∷ decimal key.row ++ 32 ∷ decimal key.col ++ 10 ∷ []

-- the verdict on a fact, and its stage, row and column
abbrev pub verdict_line : Fact × Verdict → List ℕ
verdict_line judged = verdict_word judged.1 ++ place_text judged.0.key

-- a line for each fact, in their order
abbrev pub verdict_lines : List Fact → List Verdict → List ℕ
verdict_lines facts verdicts = flat_map verdict_line (zip facts verdicts)

-- ---- lines of retired jobs

-- `Retired`, the two identities in lower-case hexadecimal digits, and LF
abbrev pub retired_line : JobId → List ℕ
retired_line ids = codes "Retired " ++ encode_lower ids.program ++ 32 ∷ encode_lower ids.input ++ 10 ∷ []

-- the lines of the facts, and then a line for each retired job, in their orders
abbrev pub audit_lines : List Fact → List Verdict → List JobId → List ℕ
audit_lines facts verdicts retired = verdict_lines facts verdicts ++ flat_map retired_line retired

-- ---- what they found

-- a fact is false, or none is
abbrev pub IsFinding : AuditFinding → List Verdict → Type 0
IsFinding AFalse verdicts = Contains verdicts False
IsFinding NoFalse verdicts = ¬ (Contains verdicts False)
