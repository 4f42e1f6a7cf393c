-- What is hashed of a job's input, and which tiles have keys.
use Rattle.std.specs.Prelude.{ℕ, ℤ, List, [], ◌∷◌, ◌++◌, length, codes, IsSomeAnd}
use Rattle.std.specs.List.{flat_map}
use Rattle.std.specs.Int.{w16, w32, cast_unsigned, to_be_bytes}
use Rattle.sha2.specs.Sha256.{sha256}
use Rattle.domains.specs.Tiles.{HasTile}
use Rattle.netpbm.specs.Spelling.{spelling}
use Rattle.tables.specs.declared.table.Table.{Table}
use Rattle.job.specs.Pipeline.{Parameter, Pipeline}
use Rattle.job.specs.Readers.{grid_at}

-- the length of the name in 8 bits, the name, and the value in 32 bits, as two's complement; the most significant byte
-- first, here and below
abbrev pub parameter_bytes : Parameter → List ℕ
parameter_bytes p = length p.name ∷ [] ++ p.name ++ to_be_bytes w32 (cast_unsigned w32 p.value)

-- the sides of the tiles in 32 bits each, the number of parameters in 16 bits (a text has at most 64), and the parameters
abbrev pub given_bytes : Pipeline → List ℕ
given_bytes job =
    to_be_bytes w32 job.sides.height ++ to_be_bytes w32 job.sides.width ++ to_be_bytes w16 (length job.params)
    ++ flat_map parameter_bytes job.params

-- an entry in 32 bits, as two's complement
abbrev pub entry_bytes : ℤ → List ℕ
entry_bytes v = to_be_bytes w32 (cast_unsigned w32 v)

-- the length of the name in 8 bits, the name, the first index in 32 bits, the number of entries in 16 bits, and the entries
abbrev pub table_bytes : Table → List ℕ
table_bytes t =
    length t.name ∷ [] ++ t.name ++ to_be_bytes w32 (cast_unsigned w32 t.lo) ++ to_be_bytes w16 (length t.values)
    ++ flat_map entry_bytes t.values

-- the number of tables in 16 bits, and the tables
abbrev pub tables_bytes : List Table → List ℕ
tables_bytes ts = to_be_bytes w16 (length ts) ++ flat_map table_bytes ts

-- `PTI1` and what is given; where there are tables, `PTI2`, what is given, and the tables
abbrev pub settings_by : Pipeline → List Table → List ℕ
settings_by job [] = codes "PTI1" ++ given_bytes job
settings_by job (t ∷ ts) = codes "PTI2" ++ given_bytes job ++ tables_bytes (t ∷ ts)

abbrev pub settings_bytes : Pipeline → List ℕ
settings_bytes job = settings_by job job.tables

-- and the written form of the picture
abbrev pub input_bytes : Pipeline → List ℕ
input_bytes job = settings_bytes job ++ spelling job.picture

-- the identity of the program's input
abbrev pub input_id : Pipeline → List ℕ
input_id job = sha256 (input_bytes job)

-- there is a tile of stage g in row i and column j of its grid
abbrev pub HasTileAt : Pipeline → ℕ → ℕ → ℕ → Type 0
HasTileAt job g i j = IsSomeAnd (grid_at job g) (λ grid. HasTile grid i j)
