use Rattle.std.proofs.Common.{rules, arith, ◌<◌, ◌+ℤ◌, pos, length, replicate, w32, FitsSigned, ap, ◌∙◌}
use Rattle.std.specs.Prelude.{map}
use Rattle.std.proofs.lemmas.Int.{to_z-of_z}
use Rattle.operators.specs.declared.operator.ReductionOp.TheVariants.{Sum}
use Rattle.job.specs.Totals.{joined}
use Rattle.tile_eval.specs.Rows.{at}
use Rattle.reductions.specs.inside.Gathering.{after_values, values_of_bin}
use Rattle.reductions.proofs.TwoTables.{at_cleared}
use Rattle.reductions.proofs.byte_bins.add_number_to_bin_of_each_byte.Goals as goal

pub returns : goal.returns
returns c = λ j h.
    let inside : j < length c.add_number_to_bins_of_byte_words.new.bins = omega (arith, c.add_number_to_bins_of_byte_words.auto.bins) in
    let number_fits : FitsSigned w32 c.args.number = search rules in
    let cleared = at_cleared 256 j in
    c.add_table_to_bins.ensures j inside ∙ c.add_number_to_bins_of_byte_words.ensures j h
    ∙ (λ i. after_values Sum ((ap (joined Sum (at c.args.bins.now j)) cleared ∙ c.sum_with_zero_leaves_each_bin.ensures j h) i)
    (values_of_bin (replicate (length c.args.bytes.now) (to_z-of_z w32 c.args.number number_fits i)) (map pos c.args.bytes.now)
    (pos 0 +ℤ pos j)))
