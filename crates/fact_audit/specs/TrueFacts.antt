-- Which facts are true.
use Rattle.std.specs.Prelude.{ℕ, ◌≡◌, List, Some, slice_get}
use Rattle.reductions.specs.TruePartials.{IsTruePartial}
use Rattle.catalog.specs.Entries.{Entry, ids_in, ids_of}
use Rattle.identity.specs.declared.key.Key.{Key}
use Rattle.job.specs.Pipeline.{Pipeline}
use Rattle.tile_eval.specs.Raster.{IsTrueTile}
use Rattle.tile_fact.specs.declared.body.Body.{Body}
use Rattle.tile_fact.specs.declared.body.Body.TheVariants.{Tile, Partial}
use Rattle.tile_fact.specs.declared.fact.Fact.{Fact}

-- the numbers of a tile are the values of the function there, row by row; those of a partial are the accumulator's bins over the
-- tile. The stage and the tile exist
abbrev pub BodyIsTrue : Pipeline → Key → Body → Type 0
BodyIsTrue job key (Tile samples) = IsTrueTile job key.stage key.row key.col samples
BodyIsTrue job key (Partial bins) = IsTruePartial job key.stage key.row key.col bins

abbrev pub IsTrueOf : Fact → Pipeline → Type 0
IsTrueOf fact job = BodyIsTrue job fact.key fact.body

-- a job of the catalog has the identities that the key names, and P holds of it
pub record HasJob (catalog : List Entry) (key : Key) (P : Pipeline → Type 0) : Type 0 where
  pub index : ℕ
  pub entry : Entry
  pub there : slice_get catalog index ≡ Some entry
  pub ids : ids_of entry ≡ ids_in key
  pub holds : P entry.pipeline

-- the fact is true of the job that its key names
abbrev pub IsTrueFact : List Entry → Fact → Type 0
IsTrueFact catalog fact = HasJob catalog fact.key (IsTrueOf fact)
