-- Why bytes are not a fact file: the first fault from the left, and its place.
use Rattle.std.specs.Int.{w32, to_be_bytes}
use Rattle.std.specs.List.{flat_map, AllByRecursion}
use Rattle.std.specs.Prelude.{◌≡◌, ◌≢◌, ℕ, ◌+◌, ◌*◌, ◌<◌, ◌≤◌, ◌^◌, ◌⊎◌, true, List, [], ◌∷◌, ◌++◌, length, take, slice_index}
use Rattle.identity.specs.declared.job_ids.JobId.{JobId}
use Rattle.tile_fact.specs.declared.fact.Fact.{Fact}
use Rattle.tile_fact.specs.declared.fault.FactFault.{FactFault}
use Rattle.tile_fact.specs.declared.fault.FactFault.TheVariants.{BadMagic, Cut, NotRising, BadKind, TooLong, TrailingBytes, Memory, RetiredFact}
use Rattle.tile_fact.specs.declared.fault.FactFault.TheVariants.{NothingRetired}
use Rattle.tile_fact.specs.declared.kind.FactBodyKind.{FactBodyKind}
use Rattle.tile_fact.specs.FactFile.{magic, retired_magic, fact_record, ids_bytes, head_of, is_retired, IsFact, IsIds, AreIds, AreApart}
use Rattle.tile_fact.specs.FactFile.{IsFactFile}
use Rattle.tile_fact.specs.Numbers.{kind_byte, bytes_each, most}
use Rattle.tile_fact.specs.Order.{Rises, IdsRise}

-- ---- the head

-- the first byte that differs from that of both magics, which have the first three in common
pub record HasBadMagic (bytes : List ℕ) (at : ℕ) : Type 0 where
  pub in_magic : at < 4
  pub in_bytes : at < length bytes
  pub front : take at bytes ≡ take at magic
  pub differs : slice_index bytes at ≢ slice_index magic at
  pub differs_too : slice_index bytes at ≢ slice_index retired_magic at

-- the bytes end before a magic or the count after it is complete
pub record EndsInHead (bytes : List ℕ) : Type 0 where
  pub short : length bytes < 8
  pub front : (take 4 bytes ≡ take (length bytes) magic) ⊎ (take 4 bytes ≡ take (length bytes) retired_magic)

-- ---- the retired jobs

-- the head with its count, which is not 0, the first identities, which rise, and the rest, which begins at this place
pub record HasIds (bytes : List ℕ) (count : ℕ) (ids : List JobId) (at : ℕ) (rest : List ℕ) : Type 0 where
  pub some : 0 < count
  pub count_fits : count < 2 ^ 32
  pub each : AllByRecursion IsIds ids
  pub rise : IdsRise ids
  pub whole : bytes ≡ retired_magic ++ (to_be_bytes w32 count ++ (flat_map ids_bytes ids ++ rest))
  pub place : at + length rest ≡ length bytes

-- the bytes end before the two identities of a job, which have 64 bytes, or the count of facts after them all are complete
pub record EndsInIds (bytes : List ℕ) : Type 0 where
  pub count : ℕ
  pub ids : List JobId
  pub start : ℕ
  pub rest : List ℕ
  pub has : HasIds bytes count ids start rest
  pub cut : ((length ids < count) × (length rest < 64)) ⊎ ((length ids ≡ count) × (length rest < 4))

-- whole identities begin here, and they are not above those before
pub record HasLowIds (bytes : List ℕ) (at : ℕ) : Type 0 where
  pub count : ℕ
  pub ids : List JobId
  pub low_ids : JobId
  pub behind : List ℕ
  pub has : HasIds bytes count ids at (ids_bytes low_ids ++ behind)
  pub few : length ids < count
  pub ids_are : IsIds low_ids
  pub low : ¬ IdsRise (ids ++ low_ids ∷ [])

-- the count of retired jobs is there, and is 0
pub record HasNoIds (bytes : List ℕ) (at : ℕ) : Type 0 where
  pub rest : List ℕ
  pub whole : bytes ≡ retired_magic ++ (to_be_bytes w32 0 ++ rest)
  pub place : at ≡ 4

-- ---- the records

-- the head with its count; records of the first facts, which rise and are of no retired job; and the rest, which begins at this
-- place
pub record HasRecords (bytes : List ℕ) (retired : List JobId) (count : ℕ) (facts : List Fact) (at : ℕ) (rest : List ℕ) : Type 0 where
  pub ids : AreIds retired
  pub count_fits : count < 2 ^ 32
  pub each : AllByRecursion IsFact facts
  pub rise : Rises facts
  pub apart : AreApart retired facts
  pub whole : bytes ≡ head_of retired ++ (to_be_bytes w32 count ++ (flat_map fact_record facts ++ rest))
  pub place : at + length rest ≡ length bytes

-- the same, where at least one more record is to come
pub record AwaitsRecord (bytes : List ℕ) (at : ℕ) (rest : List ℕ) : Type 0 where
  pub retired : List JobId
  pub count : ℕ
  pub facts : List Fact
  pub has : HasRecords bytes retired count facts at rest
  pub few : length facts < count

-- the length after the kind is cut; or it is allowed, and too few bytes for so many numbers follow it
abbrev pub IsCutBody : FactBodyKind → List ℕ → Type 0
IsCutBody kind body =
    (length body < 4)
    ⊎ ((len : ℕ) × (numbers : List ℕ) × (body ≡ to_be_bytes w32 len ++ numbers) × (len ≤ most kind)
    × (length numbers < len * bytes_each kind))

-- the key has 74 bytes; it is cut, or no kind follows it, or what follows the kind is cut
abbrev pub IsCutRecord : List ℕ → Type 0
IsCutRecord rest =
    (length rest ≤ 74)
    ⊎ ((key : List ℕ) × (kind : FactBodyKind) × (body : List ℕ) × (rest ≡ key ++ kind_byte kind ∷ body) × (length key ≡ 74) × IsCutBody kind body)

pub record EndsInRecord (bytes : List ℕ) : Type 0 where
  pub start : ℕ
  pub rest : List ℕ
  pub awaits : AwaitsRecord bytes start rest
  pub cut : IsCutRecord rest

-- the byte after the key is no kind
pub record HasBadKind (bytes : List ℕ) (at : ℕ) : Type 0 where
  pub start : ℕ
  pub key : List ℕ
  pub byte : ℕ
  pub body : List ℕ
  pub awaits : AwaitsRecord bytes start (key ++ byte ∷ body)
  pub key_is : length key ≡ 74
  pub no_kind : 1 < byte
  pub place : at ≡ start + 74

-- the length after the kind is above the greatest
pub record HasLongRecord (bytes : List ℕ) (at : ℕ) : Type 0 where
  pub start : ℕ
  pub key : List ℕ
  pub kind : FactBodyKind
  pub len : ℕ
  pub behind : List ℕ
  pub awaits : AwaitsRecord bytes start (key ++ kind_byte kind ∷ (to_be_bytes w32 len ++ behind))
  pub key_is : length key ≡ 74
  pub len_fits : len < 2 ^ 32
  pub too_long : most kind < len
  pub place : at ≡ start + 75

-- a whole record begins here, and its fact is not above the one before
pub record HasLowRecord (bytes : List ℕ) (at : ℕ) : Type 0 where
  pub retired : List JobId
  pub count : ℕ
  pub facts : List Fact
  pub fact : Fact
  pub behind : List ℕ
  pub has : HasRecords bytes retired count facts at (fact_record fact ++ behind)
  pub few : length facts < count
  pub fact_is : IsFact fact
  pub low : ¬ Rises (facts ++ fact ∷ [])

-- a whole record begins here; its fact is above the one before, and is of a retired job
pub record HasRetiredRecord (bytes : List ℕ) (at : ℕ) : Type 0 where
  pub retired : List JobId
  pub count : ℕ
  pub facts : List Fact
  pub fact : Fact
  pub behind : List ℕ
  pub has : HasRecords bytes retired count facts at (fact_record fact ++ behind)
  pub few : length facts < count
  pub fact_is : IsFact fact
  pub high : Rises (facts ++ fact ∷ [])
  pub is_of : is_retired retired fact ≡ true

-- all records are there, and bytes after them
pub record HasTrailingBytes (bytes : List ℕ) (at : ℕ) : Type 0 where
  pub retired : List JobId
  pub count : ℕ
  pub facts : List Fact
  pub rest : List ℕ
  pub has : HasRecords bytes retired count facts at rest
  pub all : length facts ≡ count
  pub some : 0 < length rest

-- ---- the table

abbrev pub IsFault : List ℕ → FactFault → Type 0
IsFault bytes (BadMagic at) = HasBadMagic bytes at
IsFault bytes (Cut at) = (at ≡ length bytes) × (EndsInHead bytes ⊎ (EndsInIds bytes ⊎ EndsInRecord bytes))
IsFault bytes (NotRising at) = HasLowIds bytes at ⊎ HasLowRecord bytes at
IsFault bytes (BadKind at) = HasBadKind bytes at
IsFault bytes (TooLong at) = HasLongRecord bytes at
IsFault bytes (TrailingBytes at) = HasTrailingBytes bytes at
-- memory is refused only for a fact file
IsFault bytes Memory = (retired : List JobId) × (facts : List Fact) × IsFactFile bytes retired facts
IsFault bytes (RetiredFact at) = HasRetiredRecord bytes at
IsFault bytes (NothingRetired at) = HasNoIds bytes at
