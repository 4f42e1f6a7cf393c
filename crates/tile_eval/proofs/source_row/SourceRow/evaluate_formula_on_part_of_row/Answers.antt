use Rattle.std.proofs.Common.{arith, ◌≤◌, ◌<◌, ◌-◌, length, take, drop}
use Rattle.job.specs.Reads.{EachRead}
use Rattle.job.specs.Values.{formula_value}
use Rattle.job.specs.Views.{formula_view}
use Rattle.tile_eval.proofs.Gathering.{reads_along, room_less}
use Rattle.tile_eval.proofs.Covering.{cut_len, part_each, part_values}
use Rattle.tile_eval.proofs.source_row.SourceRow.evaluate_formula_on_part_of_row.Goals as goal

pub evaluate_formula-requires-clause-reads : goal.evaluate_formula-requires-clause-reads
evaluate_formula-requires-clause-reads g c =
    let o : c.args.from < c.args.to = c.if-from-to.true in
    let cut = cut_len c.args.from c.args.to c.args.out.now o c.requires.most in
    let some : 0 < length (take (c.args.to - c.args.from) (drop c.args.from c.args.out.now)) = rw cut (omega arith) in
    reads_along (g.S.RowSource.has c.args.self.now.source.now) c.slice_points-points.result.row c.slice_points-points.result.col _
    (formula_view c.args.formula.now) some c.requires.formula
    (part_each (EachRead (g.S.RowSource.has c.args.self.now.source.now) (formula_view c.args.formula.now)) c.args.self.now.points.row
    c.args.self.now.points.col
    c.slice_points-points.result.row c.slice_points-points.result.col c.args.from c.args.to c.args.out.now o c.requires.most c.slice_points-points.ensures.row
    c.slice_points-points.ensures.col
    c.requires.reads)

pub evaluate_formula-requires-clause-room : goal.evaluate_formula-requires-clause-room
evaluate_formula-requires-clause-room g c =
    let cut = cut_len c.args.from c.args.to c.args.out.now c.if-from-to.true c.requires.most in
    let most = c.requires.most in
    let le : length (take (c.args.to - c.args.from) (drop c.args.from c.args.out.now)) ≤ length c.args.out.now = rw cut (omega arith) in
    room_less (formula_view c.args.formula.now) (length c.args.out.now) _ _ _ le (omega arith) c.requires.room

pub returns-then-from-to-clause-inside : goal.returns-then-from-to-clause-inside
returns-then-from-to-clause-inside g c = λ k l low high.
    part_values (formula_value (g.S.RowSource.samples c.args.self.now.source.now) (formula_view c.args.formula.now))
    c.args.self.now.points.row c.args.self.now.points.col
    c.slice_points-points.result.row c.slice_points-points.result.col c.args.from c.args.to k c.args.out.now c.evaluate_formula.new.out c.if-from-to.true
    c.requires.most c.evaluate_formula.auto.out
    c.slice_points-points.ensures.row c.slice_points-points.ensures.col c.evaluate_formula.ensures low high
