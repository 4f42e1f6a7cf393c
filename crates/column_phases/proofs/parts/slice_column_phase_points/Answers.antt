use Rattle.std.proofs.Common.{arith}
use Rattle.std.proofs.lemmas.Int.{ints}
use Rattle.column_phases.proofs.RowLaws.{part_within}
use Rattle.column_phases.proofs.parts.slice_column_phase_points.Goals as goal

pub invariant_of-result : goal.invariant_of-result
invariant_of-result c =
    let points = c.args.points.now in
    let within =
    part_within c.args.period c.requires.least c.requires.most points.len c.args.place points.col c.find_column_phase_number_at_place.result
    c.requires.first c.requires.place points.col_least points.within c.find_column_phase_number_at_place.ensures in
    let low = points.row_least in
    let high = points.row_most in
    let left = within.0 in
    let right = within.1 in
    record {
      row_least = omega (arith, ints, low, high);
      row_most = omega (arith, ints, low, high);
      col_least = omega (arith, ints, left, right);
      within = omega (arith, ints, left, right);
    }
