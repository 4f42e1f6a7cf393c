use Rattle.std.proofs.Common.{rules, arith, ◌<◌, length}
use Rattle.std.proofs.lemmas.Bool.Decides.{nat_tests}
use Rattle.linear_rows.proofs.LinearMeans.{is_kernel, has_row, all_within, mean_is}
use Rattle.linear_rows.proofs.linear_means.write_linear_mean.Goals as goal

pub borrow_narrow_stencil_line-above-requires-clause-kernel : goal.borrow_narrow_stencil_line-above-requires-clause-kernel
borrow_narrow_stencil_line-above-requires-clause-kernel g c = is_kernel _ c.requires.right

pub borrow_narrow_stencil_line-own-requires-clause-kernel : goal.borrow_narrow_stencil_line-own-requires-clause-kernel
borrow_narrow_stencil_line-own-requires-clause-kernel g c = is_kernel _ c.requires.right

pub borrow_narrow_stencil_line-below-requires-clause-kernel : goal.borrow_narrow_stencil_line-below-requires-clause-kernel
borrow_narrow_stencil_line-below-requires-clause-kernel g c = is_kernel _ c.requires.right

pub borrow_narrow_stencil_line-above-requires-clause-a : goal.borrow_narrow_stencil_line-above-requires-clause-a
borrow_narrow_stencil_line-above-requires-clause-a g c = has_row _ c.requires.right 0 (omega arith)

pub borrow_narrow_stencil_line-own-requires-clause-a : goal.borrow_narrow_stencil_line-own-requires-clause-a
borrow_narrow_stencil_line-own-requires-clause-a g c = has_row _ c.requires.right 1 (omega arith)

pub borrow_narrow_stencil_line-below-requires-clause-a : goal.borrow_narrow_stencil_line-below-requires-clause-a
borrow_narrow_stencil_line-below-requires-clause-a g c = has_row _ c.requires.right 2 (omega arith)

pub borrow_narrow_stencil_line-above-requires-clause-reads : goal.borrow_narrow_stencil_line-above-requires-clause-reads
borrow_narrow_stencil_line-above-requires-clause-reads g c = λ j l.
    let points = c.args.points.now in
    let some : 0 < points.len = first_of (search rules, grind (arith, nat_tests, c.is_empty.ensures, c.if-is_empty.false), omega arith) in
    all_within _ c.requires.right (g.S.NarrowSource.has c.args.source.now) c.args.mean.now.stage points.len points.row points.col some
    c.requires.reads 0 j (omega arith) (omega (arith, l, c.requires.fits))

pub borrow_narrow_stencil_line-own-requires-clause-reads : goal.borrow_narrow_stencil_line-own-requires-clause-reads
borrow_narrow_stencil_line-own-requires-clause-reads g c = λ j l.
    let points = c.args.points.now in
    let some : 0 < points.len = first_of (search rules, grind (arith, nat_tests, c.is_empty.ensures, c.if-is_empty.false), omega arith) in
    all_within _ c.requires.right (g.S.NarrowSource.has c.args.source.now) c.args.mean.now.stage points.len points.row points.col some
    c.requires.reads 1 j (omega arith) (omega (arith, l, c.requires.fits))

pub borrow_narrow_stencil_line-below-requires-clause-reads : goal.borrow_narrow_stencil_line-below-requires-clause-reads
borrow_narrow_stencil_line-below-requires-clause-reads g c = λ j l.
    let points = c.args.points.now in
    let some : 0 < points.len = first_of (search rules, grind (arith, nat_tests, c.is_empty.ensures, c.if-is_empty.false), omega arith) in
    all_within _ c.requires.right (g.S.NarrowSource.has c.args.source.now) c.args.mean.now.stage points.len points.row points.col some
    c.requires.reads 2 j (omega arith) (omega (arith, l, c.requires.fits))

pub returns : goal.returns
returns g c = λ k h.
    let points = c.args.points.now in
    let above = c.borrow_narrow_stencil_line-above in
    let own = c.borrow_narrow_stencil_line-own in
    let below = c.borrow_narrow_stencil_line-below in
    let f = g.S.NarrowSource.samples c.args.source.now c.args.mean.now.stage in
    let inside : k < length c.args.out.now = omega (arith, h, c.write_narrow_means_of_nine.auto.out) in
    mean_is f points.row points.col above.result.now own.result.now below.result.now k c.args.mean.now.kernel.now c.requires.right
    (record { long = omega (arith, inside, above.ensures.count); under_row = above.ensures.under })
    (record { long = omega (arith, inside, own.ensures.count); under_row = own.ensures.under })
    (record { long = omega (arith, inside, below.ensures.count); under_row = below.ensures.under })
    _ (c.write_narrow_means_of_nine.ensures k inside)
