-- The order of keys.
use Rattle.std.specs.Cmp.Lexicographic.{slice_cmp}
use Rattle.std.specs.declared.cmp.Ordering.{Ordering}
use Rattle.std.specs.Ordering.{nat_cmp, then_cmp, on}
use Rattle.identity.specs.declared.key.Key.{Key}
use Rattle.identity.specs.declared.job_ids.JobId.{JobId}

-- the identities of the job whose tile a key names
abbrev pub ids_in : Key → JobId
ids_in key = record { program = key.program; input = key.input }

-- the order of their fields
abbrev pub ids_cmp : JobId → JobId → Ordering
ids_cmp = then_cmp (on (λ i. i.program) (slice_cmp nat_cmp)) (on (λ i. i.input) (slice_cmp nat_cmp))

-- keys are in the order of the first field that differs, and identities in that of the first byte that differs
abbrev pub key_cmp : Key → Key → Ordering
key_cmp =
    then_cmp (on (λ k. k.program) (slice_cmp nat_cmp)) (then_cmp (on (λ k. k.input) (slice_cmp nat_cmp))
    (then_cmp (on (λ k. k.stage) nat_cmp) (then_cmp (on (λ k. k.row) nat_cmp) (on (λ k. k.col) nat_cmp))))
