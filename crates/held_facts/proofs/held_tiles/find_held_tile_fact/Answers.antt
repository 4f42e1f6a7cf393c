use Rattle.std.proofs.Common.{rules, ◌≡◌, Some, None, sym, ap, ◌∙◌}
use Rattle.std.specs.Option.{option_copied}
use Rattle.std.specs.Prelude.{slice_get}
use Rattle.std.proofs.lemmas.List.Sorted.{IsPartitionPoint-from_clause}
use Rattle.held_facts.specs.inside.Holding.{is_before_tile}
use Rattle.held_facts.proofs.ListLaws as list
use Rattle.held_facts.proofs.TilesInOrder.{parted, there_is, there_is_none, none_left}
use Rattle.held_facts.proofs.held_tiles.find_held_tile_fact.Goals as goal

pub returns-in_err-fact : goal.returns-in_err-fact
returns-in_err-fact c =
    let g = c.args.stage in
    let facts = c.args.facts.now in
    let n = c.partition_point-place.result in
    let cut = IsPartitionPoint-from_clause (is_before_tile g c.args.row c.args.col) facts n c.partition_point-place.ensures.partitioned
    (parted g c.args.row c.args.col facts c.requires) (λ a r q k. search rules) in
    let none : slice_get facts n ≡ None = sym c.get_held_fact_at_index.ensures ∙ ap option_copied c.in_err-fact.was in
    let result : option_copied c.from_residual.result ≡ None = search rules in
    result ∙ sym (none_left g c.args.row c.args.col facts c.requires n cut (list.none_left facts n none))

pub returns-then-is_held_fact_of_tile : goal.returns-then-is_held_fact_of_tile
returns-then-is_held_fact_of_tile c =
    let g = c.args.stage in
    let facts = c.args.facts.now in
    let n = c.partition_point-place.result in
    let fact = c.in_ok-fact.fact.now in
    let cut = IsPartitionPoint-from_clause (is_before_tile g c.args.row c.args.col) facts n c.partition_point-place.ensures.partitioned
    (parted g c.args.row c.args.col facts c.requires) (λ a r q k. search rules) in
    let here : slice_get facts n ≡ Some fact = sym c.get_held_fact_at_index.ensures ∙ ap option_copied c.in_ok-fact.was in
    sym (there_is g c.args.row c.args.col facts c.requires n cut fact here (sym c.is_held_fact_of_tile.ensures ∙ c.if-is_held_fact_of_tile.true))

pub returns-else-is_held_fact_of_tile : goal.returns-else-is_held_fact_of_tile
returns-else-is_held_fact_of_tile c =
    let g = c.args.stage in
    let facts = c.args.facts.now in
    let n = c.partition_point-place.result in
    let fact = c.in_ok-fact.fact.now in
    let cut = IsPartitionPoint-from_clause (is_before_tile g c.args.row c.args.col) facts n c.partition_point-place.ensures.partitioned
    (parted g c.args.row c.args.col facts c.requires) (λ a r q k. search rules) in
    let here : slice_get facts n ≡ Some fact = sym c.get_held_fact_at_index.ensures ∙ ap option_copied c.in_ok-fact.was in
    sym (there_is_none g c.args.row c.args.col facts c.requires n cut fact here (sym c.is_held_fact_of_tile.ensures ∙ c.if-is_held_fact_of_tile.false))
