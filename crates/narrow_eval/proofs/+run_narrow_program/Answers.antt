use Rattle.std.proofs.Common.{rules, length, sym}
use Rattle.narrow_sums.proofs.SumRows.{start_is_formula, start_reads_within, start_narrow_within, start_has_room, joined_row_reads}
use Rattle.narrow_eval.specs.NarrowPrograms.{program_formula}
use Rattle.narrow_eval.proofs.+run_narrow_program.Goals as goal

pub narrow_points::NarrowPoints::run_narrow_program_of_joined_sum-run_narrow_program-requires : goal.narrow_points::NarrowPoints::run_narrow_program_of_joined_sum-run_narrow_program-requires
narrow_points::NarrowPoints::run_narrow_program_of_joined_sum-run_narrow_program-requires g t c κs within =
    let f = program_formula c.args.start.now in
    let row = c.args.sum.now in
    let points = c.args.self.now.points in
    let n = length c.args.out.now in
    let source = c.args.self.now.source.now in (
      search rules,
      (
        search rules,
        (
          c.requires.fits,
          (
            start_is_formula f row c.requires.formula,
            (
              start_narrow_within (g.S.NarrowSource.samples source) f row points.row points.col n c.requires.narrow,
              (
                start_reads_within (g.S.NarrowSource.has source) f row points.row points.col n c.requires.reads,
                start_has_room f row n (length c.args.temps.now) c.requires.room,
              ),
            ),
          ),
        ),
      ),
    )

pub narrow_points::NarrowPoints::run_narrow_program_of_joined_sum-join_narrow_sum_row-requires-clause-reads : goal.narrow_points::NarrowPoints::run_narrow_program_of_joined_sum-join_narrow_sum_row-requires-clause-reads
narrow_points::NarrowPoints::run_narrow_program_of_joined_sum-join_narrow_sum_row-requires-clause-reads g t c =
    let f = program_formula c.args.start.now in
    let row = c.args.sum.now in
    let points = c.args.self.now.points in
    let read = joined_row_reads (g.S.NarrowSource.has c.args.self.now.source.now) points.row points.col (length c.args.out.now) f row c.requires.reads in
    rw (sym c.requires.fits) read
