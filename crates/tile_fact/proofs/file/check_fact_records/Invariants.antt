use Rattle.std.proofs.Common.{◌≡◌, ◌≤◌, ◌-◌, List, length, None}
use Rattle.std.specs.Option.{option_map}
use Rattle.tile_fact.specs.declared.fact.Fact.{Fact}
use Rattle.tile_fact.specs.Numbers.{fact_of, first_pairs}
use Rattle.tile_fact.specs.Reading.{list_read, fact_read}
use Rattle.tile_fact.proofs.LoopLaws.{with_front}
use Rattle.tile_fact.proofs.file.check_fact_records.Given as goal

-- behind some facts, what is left to read is as the whole
abbrev pub invariant-loop : goal.invariant-loop
invariant-loop l =
    (length l.rest ≤ l.total)
    × ((front : List Fact)
    × (with_front front
    (list_read (fact_read l.total (first_pairs l.retired.count l.retired.bytes.now)) (l.count - l.counter)
    (option_map (λ r. fact_of r.label.key r.label.kind r.numbers.now) l.last) l.rest)
    ≡ list_read (fact_read l.total (first_pairs l.retired.count l.retired.bytes.now)) l.count None l.bytes))
