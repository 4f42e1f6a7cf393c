use Rattle.std.proofs.Common.{◌≡◌, ◌≤◌, ◌-◌, ◌*◌, ◌++◌, length}
use Rattle.tile_fact.specs.Numbers.{first_pairs}
use Rattle.tile_fact.proofs.retired.EncodedRetiredJobs.decode_jobs.Given as goal

-- the jobs so far, and those of the bytes that are left, are all
abbrev pub invariant-loop : goal.invariant-loop
invariant-loop l =
    ((l.self.count - l.counter) * 64 ≤ length l.rest)
    × (l.jobs.items ++ first_pairs (l.self.count - l.counter) l.rest ≡ first_pairs l.self.count l.self.bytes.now)
