use Rattle.std.proofs.Common.{ℤ, ◌≡◌, ◌<◌, ◌++◌, pos, length, List, subst, sym, ◌∙◌}
use Rattle.operators.specs.declared.operator.ReductionOp.TheVariants.{Sum}
use Rattle.job.specs.Totals.{joined}
use Rattle.tile_eval.specs.Rows.{EachPlace, at}
use Rattle.reductions.proofs.TwoTables.{joined_in_front}
use Rattle.reductions.proofs.byte_bins.add_table_to_bins.Goals as goal

pub returns : goal.returns
returns c = λ j h.
    let us : List ℤ = c.split_at_mut-first.result.0.now in
    let ws : List ℤ = c.split_at_mut-first.result.1.now in
    let table : List ℤ = c.args.table.now in
    let whole : c.args.bins.now ≡ us ++ ws = c.split_at_mut-first.ensures.value in
    let inside : j < length (us ++ ws) = subst (λ (xs : List ℤ). j < length xs) whole h in
    (λ i. at (c.join_into.ensures i ++ ws) j)
    ∙ joined_in_front us ws table (sym c.split_at_mut-first.ensures.front_len)
    (subst (λ (xs : List ℤ). EachPlace (length xs) (λ k. joined Sum (at xs k) (pos 0) ≡ at xs k)) whole c.sum_with_zero_leaves_each_bin.ensures) j inside
    ∙ (λ i. joined Sum (at (sym whole i) j) (at table j))
