use Rattle.std.proofs.Common.{◌≡◌}
use Rattle.std.specs.List.{list_any}
use Rattle.std.specs.Ordering.{eq_by_cmp}
use Rattle.identity.specs.Keys.{ids_cmp}
use Rattle.tile_fact.specs.Listing.{IsListing}
use Rattle.tile_fact.specs.Numbers.{first_pairs}
use Rattle.tile_fact.proofs.retired.EncodedRetiredJobs.has_job.Given as goal

-- the job is among those that are left if it is among all
abbrev pub invariant-loop-count : goal.invariant-loop-count
invariant-loop-count l =
    IsListing l.count l.rest
    × (list_any (eq_by_cmp ids_cmp l.job) (first_pairs l.count l.rest)
    ≡ list_any (eq_by_cmp ids_cmp l.job) (first_pairs l.self.count l.self.bytes.now))

abbrev pub decreases-loop-count : goal.decreases-loop-count
decreases-loop-count l = l.count
