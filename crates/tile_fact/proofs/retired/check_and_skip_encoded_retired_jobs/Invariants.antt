use Rattle.std.proofs.Common.{◌≡◌, ◌≤◌, ◌-◌, List, length, None}
use Rattle.identity.specs.declared.job_ids.JobId.{JobId}
use Rattle.tile_fact.specs.Reading.{list_read, pair_read}
use Rattle.tile_fact.proofs.LoopLaws.{with_front}
use Rattle.tile_fact.proofs.retired.check_and_skip_encoded_retired_jobs.Given as goal

-- behind some identities, what is left to read is as the whole
abbrev pub invariant-loop : goal.invariant-loop
invariant-loop l =
    (length l.rest ≤ l.total)
    × ((front : List JobId)
    × (with_front front (list_read (pair_read l.total) (l.count - l.counter) l.last l.rest)
    ≡ list_read (pair_read l.total) l.count None l.bytes))
