use Rattle.std.proofs.Common.{◌≡◌, ◌≤◌, ◌-◌, length, Option, None}
use Rattle.tile_fact.specs.declared.fact.Fact.{Fact}
use Rattle.tile_fact.specs.Numbers.{first_pairs}
use Rattle.tile_fact.specs.Reading.{list_read, fact_read}
use Rattle.tile_fact.proofs.LoopLaws.{with_front}
use Rattle.tile_fact.proofs.file.decode_facts_of_checked_records.Given as goal

-- behind the facts so far, what is left to read is as the whole
abbrev pub invariant-loop : goal.invariant-loop
invariant-loop l =
    (length l.rest ≤ l.total)
    × ((last : Option Fact)
    × (with_front l.facts.items
    (list_read (fact_read l.total (first_pairs l.retired.count l.retired.bytes.now)) (l.count - l.counter) last l.rest)
    ≡ list_read (fact_read l.total (first_pairs l.retired.count l.retired.bytes.now)) l.count None l.bytes))
