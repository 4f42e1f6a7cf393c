use Rattle.std.proofs.Common.{arith, ◌≤◌, ◌-◌, List, length, sym, subst}
use Rattle.std.specs.Prelude.{All}
use Rattle.operators.specs.declared.point_test.PointTest.{PointTest as KeptTest}
use Rattle.narrow_eval.specs.declared.narrow_program.NarrowProgram.{NarrowProgram}
use Rattle.job.specs.WellFormed.{IsTest}
use Rattle.job.specs.Views.{test_view}
use Rattle.narrow_eval.specs.NarrowPrograms.{program_formula}
use Rattle.job.proofs.Steps.{All-from_map}
use Rattle.tile_eval.specs.Reading.{ReadsWithin, HasRoom}
use Rattle.tile_eval.proofs.Gathering.{reads_along, room_less}
use Rattle.narrow_sums.specs.NarrowFormulas.{NarrowWithin}
use Rattle.narrow_sums.proofs.NarrowFormulas.{narrow_along}
use Rattle.narrow_eval.proofs.narrow_points.NarrowPoints.overwrite_narrow_case_in_box.Goals as goal

pub find_row_mask-requires : goal.find_row_mask-requires
find_row_mask-requires g c =
    subst (λ (ts : List KeptTest). All (λ t. IsTest (test_view t)) ts) (sym c.deref.ensures.value)
    (All-from_map IsTest test_view c.args.case.now.tests.items c.requires.roomy.tests)

pub run_narrow_program-requires-clause-reads : goal.run_narrow_program-requires-clause-reads
run_narrow_program-requires-clause-reads g c =
    (reads_along (g.S.NarrowSource.has c.args.self.now.source.now) c.args.self.now.points.row c.args.self.now.points.col (length
    c.args.out.now)
    (program_formula c.args.case.now.program) c.requires.some c.requires.roomy.formula
    (λ k l. (c.requires.ready k l).reads (c.requires.inside k l)))

pub run_narrow_program-requires-clause-room : goal.run_narrow_program-requires-clause-room
run_narrow_program-requires-clause-room g c =
    let room : length c.args.temps.now - length c.args.out.now ≤ length c.args.temps.now = omega arith in
    let same : length c.args.out.now ≤ length c.args.out.now = omega arith in
    (room_less (program_formula c.args.case.now.program) (length c.args.out.now) (length c.args.out.now) _ _ same room
    c.requires.roomy.operands)

pub obtain_narrow_case_line-line-requires-clause-reads : goal.obtain_narrow_case_line-line-requires-clause-reads
obtain_narrow_case_line-line-requires-clause-reads g c =
    rw (sym c.requires.fits) ((reads_along (g.S.NarrowSource.has c.args.self.now.source.now) c.args.self.now.points.row c.args.self.now.points.col (length
    c.args.out.now)
    (program_formula c.args.case.now.program) c.requires.some c.requires.roomy.formula
    (λ k l. (c.requires.ready k l).reads (c.requires.inside k l))))

pub copy_narrow_row_where_mask_holds-requires-clause-tests : goal.copy_narrow_row_where_mask_holds-requires-clause-tests
copy_narrow_row_where_mask_holds-requires-clause-tests g c =
    subst (λ (ts : List KeptTest). All (λ t. IsTest (test_view t)) ts) (sym c.deref-in_default.ensures.value)
    (All-from_map IsTest test_view c.args.case.now.tests.items c.requires.roomy.tests)

pub run_narrow_program-requires-clause-narrow : goal.run_narrow_program-requires-clause-narrow
run_narrow_program-requires-clause-narrow g c =
    (narrow_along (g.S.NarrowSource.samples c.args.self.now.source.now) c.args.self.now.points.row c.args.self.now.points.col (length
    c.args.out.now)
    (program_formula c.args.case.now.program) (λ k l. (c.requires.ready k l).narrow (c.requires.inside k l)))

pub obtain_narrow_case_line-line-requires-clause-narrow : goal.obtain_narrow_case_line-line-requires-clause-narrow
obtain_narrow_case_line-line-requires-clause-narrow g c =
    rw (sym c.requires.fits) ((narrow_along (g.S.NarrowSource.samples c.args.self.now.source.now) c.args.self.now.points.row c.args.self.now.points.col (length
    c.args.out.now)
    (program_formula c.args.case.now.program) (λ k l. (c.requires.ready k l).narrow (c.requires.inside k l))))
