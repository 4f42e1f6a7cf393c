-- The output of `check` in bytes: the identities of the program and of its input, and a line for each stage.
use Rattle.std.specs.Prelude.{◌≡◌, ℕ, List, [], ◌∷◌, ◌++◌, codes, length, slice_get}
use Rattle.std.specs.Fmt.{decimal, signed_decimal}
use Rattle.std.specs.List.{flat_map, range_with_len}
use Rattle.std.specs.Option.{option_map_or}
use Rattle.hex.specs.Hex.{encode_lower}
use Rattle.sha2.specs.Sha256.{sha256}
use Rattle.domains.specs.Span.{Ends}
use Rattle.domains.specs.declared.area.Area.{Area}
use Rattle.pipe_tree.specs.Tree.{Declaration}
use Rattle.pipe_print.specs.Canonical.{canonical}
use Rattle.job.specs.Answers.{tiles}
use Rattle.job.specs.Identity.{input_id}
use Rattle.job.specs.Pipeline.{Body, plane, function, accumulator, Stage, Pipeline}

-- ---- lines of stages

abbrev pub kind_word : Body → List ℕ
kind_word (plane n) = codes "plane"
kind_word (function pieces otherwise) = codes "func"
kind_word (accumulator way bins value bin) = codes "accum"

-- the first number, two dots and the last number
abbrev pub span_text : Ends → List ℕ
span_text s = signed_decimal s.lo ++ codes ".." ++ signed_decimal s.hi

-- the number of a stage, its kind and its name
abbrev pub stage_head : ℕ → Stage → List ℕ
stage_head g s = codes "stage " ++ decimal g ++ 32 ∷ kind_word s.body ++ 32 ∷ s.name

-- the rows and the columns of a domain, and how many tiles there are
abbrev pub stage_tail : Area → ℕ → List ℕ
stage_tail a n = 32 ∷ span_text a.rows ++ 32 ∷ span_text a.cols ++ codes " tiles " ++ decimal n ++ 10 ∷ []

abbrev pub stage_line : Pipeline → ℕ → Stage → List ℕ
stage_line job g s = stage_head g s ++ stage_tail s.domain (length (tiles job g))

abbrev pub stage_line_at : Pipeline → ℕ → List ℕ
stage_line_at job g = option_map_or (stage_line job g) (slice_get job.stages g) []

abbrev pub stage_lines : Pipeline → List ℕ
stage_lines job = flat_map (stage_line_at job) (range_with_len 0 (length job.stages))

-- ---- the whole

-- a word, a blank and an identity, two digits a byte
abbrev pub identity_line : List ℕ → List ℕ → List ℕ
identity_line word id = word ++ 32 ∷ encode_lower id ++ 10 ∷ []

-- the identity of the program of this canonical text, that of its input, and the stages in order
abbrev pub check_bytes : List ℕ → Pipeline → List ℕ
check_bytes text job = identity_line (codes "program") (sha256 text) ++ identity_line (codes "input") (input_id job) ++ stage_lines job

-- the output of `check` for a program and its job
abbrev pub SaysCheck : List Declaration → Pipeline → List ℕ → Type 0
SaysCheck tree job bytes = bytes ≡ check_bytes (canonical tree) job
