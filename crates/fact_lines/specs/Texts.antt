-- Texts of fact files: each line is a file in hexadecimal digits, or nothing.
use Rattle.std.specs.List.{All, Contains, slice_split}
use Rattle.std.specs.Prelude.{◌≡◌, ℕ, ◌==◌, ◌↔◌, ◌⊎◌, List, [], Ok}
use Rattle.hex.specs.Hex.{decode_of}
use Rattle.identity.specs.declared.job_ids.JobId.{JobId}
use Rattle.identity.specs.Keys.{ids_in}
use Rattle.tile_fact.specs.declared.fact.Fact.{Fact}
use Rattle.tile_fact.specs.FactFile.{IsFactFile}
use Rattle.tile_fact.specs.Order.{Rises, IdsRise}

-- what comes before the first line feed, between each two, and after the last
abbrev pub lines : List ℕ → List (List ℕ)
lines text = slice_split (λ byte. byte == 10) text

-- two digits for each byte, in either case
abbrev pub IsDigitsOf : List ℕ → List ℕ → Type 0
IsDigitsOf line bytes = decode_of line ≡ Ok bytes

-- the digits of the file of these retired jobs and these facts
pub record IsFileLine (line : List ℕ) (retired : List JobId) (facts : List Fact) : Type 0 where
  pub bytes : List ℕ
  pub digits : IsDigitsOf line bytes
  pub file : IsFactFile bytes retired facts

-- nothing, or the digits of a file
abbrev pub IsGoodLine : List ℕ → Type 0
IsGoodLine line = (line ≡ []) ⊎ ((retired : List JobId) × (facts : List Fact) × IsFileLine line retired facts)

-- a file on one of the lines has x in this part of it
pub record IsOnLines {X : Type 0} (part : List JobId → List Fact → List X) (all : List (List ℕ)) (x : X) : Type 0 where
  pub line : List ℕ
  pub retired : List JobId
  pub facts : List Fact
  pub stands : Contains all line
  pub file : IsFileLine line retired facts
  pub has : Contains (part retired facts) x

-- a file of the lines retires the job
abbrev pub AreRetiredOn : List (List ℕ) → JobId → Type 0
AreRetiredOn all ids = IsOnLines (λ retired facts. retired) all ids

-- a file of the lines has the fact
abbrev pub IsFactOn : List (List ℕ) → Fact → Type 0
IsFactOn all fact = IsOnLines (λ retired facts. facts) all fact

-- all lines are good. These are the retired jobs of all files, and the facts of all files except those of retired jobs; both
-- rise, each once
pub record IsJoin (text : List ℕ) (retired : List JobId) (facts : List Fact) : Type 0 where
  pub good : All IsGoodLine (lines text)
  pub ids_rise : IdsRise retired
  pub rise : Rises facts
  pub same_ids : (ids : JobId) → Contains retired ids ↔ AreRetiredOn (lines text) ids
  pub same : (fact : Fact) → Contains facts fact ↔ (IsFactOn (lines text) fact × ¬ AreRetiredOn (lines text) (ids_in fact.key))
