-- Which bytes are the file of which facts and retired jobs. The most significant byte of a number comes first.
use Rattle.std.specs.Int.{Width, w16, w32, w64, cast_unsigned, to_be_bytes}
use Rattle.std.specs.Int.RustNames.{FitsSigned}
use Rattle.std.specs.List.{flat_map, list_any, AllByRecursion}
use Rattle.std.specs.Ordering.{eq_by_cmp}
use Rattle.std.specs.Prelude.{◌≡◌, ℕ, ℤ, ◌<◌, ◌^◌, Bool, false, List, [], ◌∷◌, ◌++◌, length, slice_index, codes}
use Rattle.identity.specs.declared.job_ids.JobId.{JobId}
use Rattle.identity.specs.declared.key.Key.{Key}
use Rattle.identity.specs.Keys.{ids_in, ids_cmp}
use Rattle.tile_fact.specs.declared.body.Body.{Body}
use Rattle.tile_fact.specs.declared.body.Body.TheVariants.{Tile, Partial}
use Rattle.tile_fact.specs.declared.fact.Fact.{Fact}
use Rattle.tile_fact.specs.Bodies.{IsWithin}
use Rattle.tile_fact.specs.Order.{Rises, IdsRise}

-- ---- the bytes

-- of a file of facts alone
abbrev pub magic : List ℕ
magic = codes "PTF1"

-- of a file of facts and retired jobs
abbrev pub retired_magic : List ℕ
retired_magic = codes "PTF2"

abbrev pub key_bytes : Key → List ℕ
key_bytes key = key.program ++ (key.input ++ (to_be_bytes w16 key.stage ++ (to_be_bytes w32 key.row ++ to_be_bytes w32 key.col)))

-- a number with a sign is written in two's complement
abbrev pub number_bytes : Width → ℤ → List ℕ
number_bytes w number = to_be_bytes w (cast_unsigned w number)

-- the kind, how many numbers there are, and the numbers
abbrev pub body_bytes : Body → List ℕ
body_bytes (Tile samples) = 0 ∷ (to_be_bytes w32 (length samples) ++ flat_map (number_bytes w32) samples)
body_bytes (Partial bins) = 1 ∷ (to_be_bytes w32 (length bins) ++ flat_map (number_bytes w64) bins)

abbrev pub fact_record : Fact → List ℕ
fact_record fact = key_bytes fact.key ++ body_bytes fact.body

abbrev pub ids_bytes : JobId → List ℕ
ids_bytes ids = ids.program ++ ids.input

-- the magic, and if jobs are retired their number and their identities
abbrev pub head_of : List JobId → List ℕ
head_of [] = magic
head_of (ids ∷ more) = retired_magic ++ (to_be_bytes w32 (length (ids ∷ more)) ++ flat_map ids_bytes (ids ∷ more))

abbrev pub records_of : List Fact → List ℕ
records_of facts = to_be_bytes w32 (length facts) ++ flat_map fact_record facts

-- the one spelling of a list of retired jobs and a list of facts
abbrev pub fact_file : List JobId → List Fact → List ℕ
fact_file retired facts = head_of retired ++ records_of facts

-- ---- what has a spelling

abbrev pub AreBytes : List ℕ → Type 0
AreBytes bytes = (i : ℕ) → slice_index bytes i < 256

pub record IsDigest (bytes : List ℕ) : Type 0 where
  pub count : length bytes ≡ 32
  pub are_bytes : AreBytes bytes

pub record IsKey (key : Key) : Type 0 where
  pub program : IsDigest key.program
  pub input : IsDigest key.input
  pub stage : key.stage < 2 ^ 16
  pub row : key.row < 2 ^ 32
  pub col : key.col < 2 ^ 32

-- samples are numbers of 32 bits, bins of 64
abbrev pub HasFittingNumbers : Body → Type 0
HasFittingNumbers (Tile samples) = AllByRecursion (FitsSigned w32) samples
HasFittingNumbers (Partial bins) = AllByRecursion (FitsSigned w64) bins

pub record IsFact (fact : Fact) : Type 0 where
  pub key : IsKey fact.key
  pub within : IsWithin fact.body
  pub numbers : HasFittingNumbers fact.body

pub record AreFacts (facts : List Fact) : Type 0 where
  pub count : length facts < 2 ^ 32
  pub each : AllByRecursion IsFact facts
  pub rise : Rises facts

pub record IsIds (ids : JobId) : Type 0 where
  pub program : IsDigest ids.program
  pub input : IsDigest ids.input

pub record AreIds (retired : List JobId) : Type 0 where
  pub count : length retired < 2 ^ 32
  pub each : AllByRecursion IsIds retired
  pub rise : IdsRise retired

-- whether the fact is of one of these jobs
abbrev pub is_retired : List JobId → Fact → Bool
is_retired retired fact = list_any (eq_by_cmp ids_cmp (ids_in fact.key)) retired

-- no fact is of a retired job
abbrev pub AreApart : List JobId → List Fact → Type 0
AreApart retired facts = AllByRecursion (λ fact. is_retired retired fact ≡ false) facts

pub record AreContents (retired : List JobId) (facts : List Fact) : Type 0 where
  pub ids : AreIds retired
  pub facts_are : AreFacts facts
  pub apart : AreApart retired facts

-- these bytes are the file of these retired jobs and these facts
pub record IsFactFile (bytes : List ℕ) (retired : List JobId) (facts : List Fact) : Type 0 where
  pub contents : AreContents retired facts
  pub spelled : bytes ≡ fact_file retired facts
