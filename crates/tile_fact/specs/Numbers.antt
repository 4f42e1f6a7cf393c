-- The identities of jobs, from the bytes of a file; and the kind, the key and the numbers, from the bytes of a record.
use Rattle.std.specs.Int.{Width, w16, w32, w64, byte_len, cast_signed, from_be_bytes}
use Rattle.std.specs.Prelude.{ℕ, zero, suc, ℤ, ◌/◌, List, [], ◌∷◌, length, take, drop}
use Rattle.identity.specs.declared.job_ids.JobId.{JobId}
use Rattle.identity.specs.declared.key.Key.{Key}
use Rattle.tile_fact.specs.declared.body.Body.{Body}
use Rattle.tile_fact.specs.declared.body.Body.TheVariants.{Tile, Partial}
use Rattle.tile_fact.specs.declared.fact.Fact.{Fact}
use Rattle.tile_fact.specs.declared.kind.FactBodyKind.{FactBodyKind}
use Rattle.tile_fact.specs.declared.kind.FactBodyKind.TheVariants.{OfTile, OfPartial}

abbrev pub kind_byte : FactBodyKind → ℕ
kind_byte OfTile = 0
kind_byte OfPartial = 1

-- how wide a number is
abbrev pub width_of : FactBodyKind → Width
width_of OfTile = w32
width_of OfPartial = w64

abbrev pub bytes_each : FactBodyKind → ℕ
bytes_each OfTile = 4
bytes_each OfPartial = 8

-- the most numbers that a fact may have
abbrev pub most : FactBodyKind → ℕ
most OfTile = 1048576
most OfPartial = 4096

-- the two identities in 64 bytes
abbrev pub pair_in : List ℕ → JobId
pair_in bytes = record { program = take 32 bytes; input = take 32 (drop 32 bytes) }

-- so many of them, one after the other
unfoldable pub first_pairs : ℕ → List ℕ → List JobId
first_pairs zero bytes = []
first_pairs (suc count) bytes = pair_in (take 64 bytes) ∷ first_pairs count (drop 64 bytes)

-- the key in 74 bytes
abbrev pub key_in : List ℕ → Key
key_in bytes = record {
  program = take 32 bytes;
  input = take 32 (drop 32 bytes);
  stage = from_be_bytes w16 (take 2 (drop 64 bytes));
  row = from_be_bytes w32 (take 4 (drop 66 bytes));
  col = from_be_bytes w32 (take 4 (drop 70 bytes));
}

abbrev pub number_in : Width → List ℕ → ℤ
number_in w bytes = cast_signed w (from_be_bytes w (take (byte_len w) bytes))

-- so many numbers, one after the other
unfoldable pub first_numbers : Width → ℕ → List ℕ → List ℤ
first_numbers w zero bytes = []
first_numbers w (suc count) bytes = number_in w bytes ∷ first_numbers w count (drop (byte_len w) bytes)

-- all numbers that are whole
abbrev pub numbers_in : Width → List ℕ → List ℤ
numbers_in w bytes = first_numbers w (length bytes / byte_len w) bytes

abbrev pub body_in : FactBodyKind → List ℕ → Body
body_in OfTile bytes = Tile (numbers_in w32 bytes)
body_in OfPartial bytes = Partial (numbers_in w64 bytes)

-- the fact whose record has this key, this kind and these bytes of numbers
abbrev pub fact_of : Key → FactBodyKind → List ℕ → Fact
fact_of key kind bytes = record { key = key; body = body_in kind bytes }
