-- What a catalog is that has the job of one program alone.
use Rattle.std.specs.Prelude.{List, [], ◌∷◌}
use Rattle.catalog.specs.Entries.{Entry}
use Rattle.job.specs.Pipeline.{Pipeline}
use Rattle.pipe_print.specs.Canonical.{canonical}
use Rattle.pipe_tree.specs.Tree.{Declaration}

-- it keeps the canonical text of the program
abbrev pub catalog_of : List Declaration → Pipeline → List Entry
catalog_of tree job = record { text = canonical tree; pipeline = job } ∷ []
