use Rattle.std.proofs.Common.{arith, ◌≤◌, ◌<◌, ◌-◌, length, take, drop}
use Rattle.job.specs.Reads.{EachRead}
use Rattle.job.specs.Values.{formula_value}
use Rattle.narrow_eval.specs.NarrowPrograms.{program_formula}
use Rattle.tile_eval.proofs.Gathering.{reads_along, room_less}
use Rattle.tile_eval.proofs.Covering.{cut_len, part_each, part_values}
use Rattle.value_ranges.specs.Narrow.{IsNarrow}
use Rattle.narrow_sums.proofs.NarrowFormulas.{narrow_along}
use Rattle.narrow_eval.proofs.narrow_points.NarrowPoints.run_narrow_program_on_part.Goals as goal

pub run_narrow_program-requires-clause-reads : goal.run_narrow_program-requires-clause-reads
run_narrow_program-requires-clause-reads g c =
    let o : c.args.from < c.args.to = c.if-from-to.true in
    let cut = cut_len c.args.from c.args.to c.args.out.now o c.requires.most in
    let some : 0 < length (take (c.args.to - c.args.from) (drop c.args.from c.args.out.now)) = rw cut (omega arith) in
    reads_along (g.S.NarrowSource.has c.args.self.now.source.now) c.slice_points-points.result.row c.slice_points-points.result.col _
    (program_formula c.args.program.now) some c.requires.formula
    (part_each (EachRead (g.S.NarrowSource.has c.args.self.now.source.now) (program_formula c.args.program.now)) c.args.self.now.points.row
    c.args.self.now.points.col
    c.slice_points-points.result.row c.slice_points-points.result.col c.args.from c.args.to c.args.out.now o c.requires.most c.slice_points-points.ensures.row
    c.slice_points-points.ensures.col
    c.requires.reads)

pub run_narrow_program-requires-clause-room : goal.run_narrow_program-requires-clause-room
run_narrow_program-requires-clause-room g c =
    let cut = cut_len c.args.from c.args.to c.args.out.now c.if-from-to.true c.requires.most in
    let most = c.requires.most in
    let le : length (take (c.args.to - c.args.from) (drop c.args.from c.args.out.now)) ≤ length c.args.out.now = rw cut (omega arith) in
    room_less (program_formula c.args.program.now) (length c.args.out.now) _ _ _ le (omega arith) c.requires.room

pub returns-then-from-to-clause-inside : goal.returns-then-from-to-clause-inside
returns-then-from-to-clause-inside g c = λ k l low high.
    part_values (formula_value (g.S.NarrowSource.samples c.args.self.now.source.now) (program_formula c.args.program.now))
    c.args.self.now.points.row c.args.self.now.points.col
    c.slice_points-points.result.row c.slice_points-points.result.col c.args.from c.args.to k c.args.out.now c.run_narrow_program.new.out c.if-from-to.true
    c.requires.most c.run_narrow_program.auto.out
    c.slice_points-points.ensures.row c.slice_points-points.ensures.col c.run_narrow_program.ensures low high

pub run_narrow_program-requires-clause-narrow : goal.run_narrow_program-requires-clause-narrow
run_narrow_program-requires-clause-narrow g c =
    narrow_along (g.S.NarrowSource.samples c.args.self.now.source.now) c.slice_points-points.result.row c.slice_points-points.result.col _
    (program_formula c.args.program.now)
    (part_each (IsNarrow (g.S.NarrowSource.samples c.args.self.now.source.now) (program_formula c.args.program.now)) c.args.self.now.points.row
    c.args.self.now.points.col
    c.slice_points-points.result.row c.slice_points-points.result.col c.args.from c.args.to c.args.out.now c.if-from-to.true
    c.requires.most c.slice_points-points.ensures.row c.slice_points-points.ensures.col
    c.requires.narrow)
