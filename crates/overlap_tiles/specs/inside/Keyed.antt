-- The keys of tiles, as the code makes them from one key that has the identities and the stage.
use Rattle.std.specs.Prelude.{ℕ, ◌≡◌, List, map}
use Rattle.std.specs.List.{range_with_len}
use Rattle.identity.specs.declared.key.Key.{Key}
use Rattle.job.specs.Identity.{input_id}
use Rattle.job.specs.Pipeline.{Pipeline}

-- the key of another tile of the stage
abbrev pub key_at : Key → ℕ × ℕ → Key
key_at k t = record { program = k.program; input = k.input; stage = k.stage; row = t.0; col = t.1 }

-- those of the first n tiles of row i
abbrev pub row_keys : Key → ℕ → ℕ → List Key
row_keys k n i = map (λ j. key_at k (i, j)) (range_with_len 0 n)

-- it has the identities of this program and of its input
pub record Names (id : List ℕ) (job : Pipeline) (k : Key) : Type 0 where
  pub program : k.program ≡ id
  pub input : k.input ≡ input_id job
