-- What the steps of the reader return: a value and the bytes after it, or the fault. There are `total` bytes in all, and
-- the place of a byte is the number of those before it.
use Rattle.std.specs.Int.{w32, from_be_bytes}
use Rattle.std.specs.declared.cmp.Ordering.{Ordering}
use Rattle.std.specs.Ordering.{is_lt}
use Rattle.std.specs.Prelude.{ℕ, zero, suc, ◌+◌, ◌-◌, ◌*◌, nat_lt, Bool, true, ◌==◌, if◌then◌else◌, List, [], ◌∷◌, length, take, codes}
use Rattle.std.specs.Prelude.{drop, Option, None, Some, Result, Ok, Err}
use Rattle.identity.specs.declared.job_ids.JobId.{JobId}
use Rattle.identity.specs.Keys.{ids_cmp}
use Rattle.tile_fact.specs.declared.fact.Fact.{Fact}
use Rattle.tile_fact.specs.declared.fault.FactFault.{FactFault}
use Rattle.tile_fact.specs.declared.fault.FactFault.TheVariants.{BadMagic, Cut, NotRising, BadKind, TooLong, TrailingBytes, RetiredFact}
use Rattle.tile_fact.specs.declared.fault.FactFault.TheVariants.{NothingRetired}
use Rattle.tile_fact.specs.declared.kind.FactBodyKind.{FactBodyKind}
use Rattle.tile_fact.specs.declared.kind.FactBodyKind.TheVariants.{OfTile, OfPartial}
use Rattle.tile_fact.specs.declared.version.FactFileVersion.{FactFileVersion}
use Rattle.tile_fact.specs.declared.version.FactFileVersion.TheVariants.{OfFacts, OfBoth}
use Rattle.tile_fact.specs.FactFile.{is_retired}
use Rattle.tile_fact.specs.Numbers.{bytes_each, most, pair_in, key_in, fact_of}
use Rattle.tile_fact.specs.Order.{fact_cmp}

infixl 10 ◌>>=◌
abbrev pub ◌>>=◌ : {A B : Type 0} → Result A FactFault → (A → Result B FactFault) → Result B FactFault
(Ok x) >>= f = f x
(Err e) >>= f = Err e

-- ---- parts

-- the wanted bytes, of which the first is at this place
unfoldable pub magic_read : ℕ → List ℕ → List ℕ → Result (List ℕ) FactFault
magic_read at [] bytes = Ok bytes
magic_read at (wanted ∷ more) [] = Err (Cut at)
magic_read at (wanted ∷ more) (byte ∷ bytes) = if byte == wanted then magic_read (at + 1) more bytes else Err (BadMagic at)

unfoldable pub part_read : ℕ → ℕ → List ℕ → Result (List ℕ × List ℕ) FactFault
part_read total len bytes = if nat_lt (length bytes) len then Err (Cut total) else Ok (take len bytes, drop len bytes)

unfoldable pub count_read : ℕ → List ℕ → Result (ℕ × List ℕ) FactFault
count_read total bytes = do
  part ← part_read total 4 bytes
  Ok (from_be_bytes w32 part.0, part.1)

-- ---- one after the other

-- so many things; what each step reads depends on the thing before it, if there is one
unfoldable pub list_read : {X : Type 0} → (Option X → List ℕ → Result (X × List ℕ) FactFault) → ℕ → Option X → List ℕ
    → Result (List X × List ℕ) FactFault
list_read step zero last bytes = Ok ([], bytes)
list_read step (suc count) last bytes = do
  first ← step last bytes
  others ← list_read step count (Some first.0) first.1
  Ok (first.0 ∷ others.0, others.1)

-- whether a thing is above the one before it, if there is one
abbrev pub is_above : {X : Type 0} → (X → X → Ordering) → Option X → X → Bool
is_above cmp None x = true
is_above cmp (Some last) x = is_lt (cmp last x)

-- ---- the head

-- the byte after `PTF`
unfoldable pub version_read : List ℕ → Result (FactFileVersion × List ℕ) FactFault
version_read [] = Err (Cut 3)
version_read (byte ∷ bytes) =
    if byte == 49 then Ok (OfFacts, bytes) else (if byte == 50 then Ok (OfBoth, bytes) else Err (BadMagic 3))

-- the identities of a job, above those before
unfoldable pub pair_read : ℕ → Option JobId → List ℕ → Result (JobId × List ℕ) FactFault
pair_read total last bytes = do
  part ← part_read total 64 bytes
  if is_above ids_cmp last (pair_in part.0) then Ok (pair_in part.0, part.1) else Err (NotRising (total - length bytes))

-- the retired jobs that a file of this version has
unfoldable pub retired_read : ℕ → FactFileVersion → List ℕ → Result (List JobId × List ℕ) FactFault
retired_read total OfFacts bytes = Ok ([], bytes)
retired_read total OfBoth bytes = do
  count ← count_read total bytes
  if count.0 == 0 then Err (NothingRetired 4) else list_read (pair_read total) count.0 None count.1

-- the retired jobs, the count of facts and the bytes after it
unfoldable pub head_read : List ℕ → Result (List JobId × ℕ × List ℕ) FactFault
head_read bytes = do
  front ← magic_read 0 (codes "PTF") bytes
  version ← version_read front
  retired ← retired_read (length bytes) version.0 version.1
  count ← count_read (length bytes) retired.1
  Ok (retired.0, count.0, count.1)

-- ---- a record

unfoldable pub kind_read : ℕ → List ℕ → Result (FactBodyKind × List ℕ) FactFault
kind_read total [] = Err (Cut total)
kind_read total (zero ∷ bytes) = Ok (OfTile, bytes)
kind_read total (suc zero ∷ bytes) = Ok (OfPartial, bytes)
kind_read total (suc (suc byte) ∷ bytes) = Err (BadKind (total - length (suc (suc byte) ∷ bytes)))

-- a number of numbers that is allowed after the kind
unfoldable pub length_read : ℕ → FactBodyKind → List ℕ → Result (ℕ × List ℕ) FactFault
length_read total kind bytes = do
  len ← count_read total bytes
  if nat_lt (most kind) len.0 then Err (TooLong (total - length bytes)) else Ok len

unfoldable pub record_read : ℕ → List ℕ → Result (Fact × List ℕ) FactFault
record_read total bytes = do
  key ← part_read total 74 bytes
  kind ← kind_read total key.1
  len ← length_read total kind.0 kind.1
  numbers ← part_read total (len.0 * bytes_each kind.0) len.1
  Ok (fact_of (key_in key.0) kind.0 numbers.0, numbers.1)

-- a record above the one before, of a job that is not retired
unfoldable pub fact_read : ℕ → List JobId → Option Fact → List ℕ → Result (Fact × List ℕ) FactFault
fact_read total retired last bytes = do
  first ← record_read total bytes
  if is_above fact_cmp last first.0
      then (if is_retired retired first.0 then Err (RetiredFact (total - length bytes)) else Ok first)
      else Err (NotRising (total - length bytes))

-- ---- the whole

-- nothing after the records
unfoldable pub end_read : ℕ → List Fact → List ℕ → Result (List Fact) FactFault
end_read total facts bytes = if length bytes == 0 then Ok facts else Err (TrailingBytes (total - length bytes))

-- so many records, and nothing after them
unfoldable pub body_read : ℕ → List JobId → ℕ → List ℕ → Result (List Fact) FactFault
body_read total retired count bytes = do
  records ← list_read (fact_read total retired) count None bytes
  end_read total records.0 records.1

-- the retired jobs and the facts
unfoldable pub file_read : List ℕ → Result (List JobId × List Fact) FactFault
file_read bytes = do
  head ← head_read bytes
  facts ← body_read (length bytes) head.0 head.1 head.2
  Ok (head.0, facts)
