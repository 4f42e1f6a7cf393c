-- None of the jobs before has these identities.
use Rattle.std.proofs.Common.{ℕ, ◌<◌, map}
use Rattle.catalog.specs.Entries.{entry_of, StandsAt}
use Rattle.catalog.proofs.catalog.Catalog.find.Given as goal

abbrev pub invariant-loop-index : goal.invariant-loop-index
invariant-loop-index l = (i : ℕ) → i < l.index → ¬ (StandsAt (map entry_of l.jobs) l.ids i)
