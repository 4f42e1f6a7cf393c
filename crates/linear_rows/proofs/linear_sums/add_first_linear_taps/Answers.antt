use Rattle.std.proofs.Common.{arith, ◌<◌, ◌+ℤ◌, ◌∙◌, pos, ap}
use Rattle.domains.specs.Arithmetic.{wrapped}
use Rattle.linear_rows.proofs.LinearValues.{first_one, first_two, first_three, first_four}
use Rattle.linear_rows.proofs.linear_sums.add_first_linear_taps.Goals as goal

pub returns-in-len1-clause-sums : goal.returns-in-len1-clause-sums
returns-in-len1-clause-sums g c = λ k l s e.
    let points = c.args.points.now in
    let inside : k < points.len = omega (arith, l, c.requires.fits) in
    c.add_linear_term.ensures k l s e
    ∙ ap wrapped (first_one (g.S.NarrowSource.samples c.args.source.now) points.row (points.col +ℤ pos k) c.args.taps.now c.a-item.result s _
    c.in-len1.len_at_least c.a-item.is (c.borrow_linear_line.ensures.values k inside))

pub returns-in-len2-clause-sums : goal.returns-in-len2-clause-sums
returns-in-len2-clause-sums g c = λ k l s e.
    let points = c.args.points.now in
    let inside : k < points.len = omega (arith, l, c.requires.fits) in
    c.add_linear_term-in-len2.ensures k l s e
    ∙ ap wrapped (first_two (g.S.NarrowSource.samples c.args.source.now) points.row (points.col +ℤ pos k) c.args.taps.now
    c.a-item-then-taps-lt3.result c.b-item.result s _ _ c.in-len2.len_at_least c.a-item-then-taps-lt3.is c.b-item.is
    (c.borrow_linear_line-a.ensures.values k inside) (c.borrow_linear_line-b.ensures.values k inside))

pub returns-in-len3-clause-sums : goal.returns-in-len3-clause-sums
returns-in-len3-clause-sums g c = λ k l s e.
    let points = c.args.points.now in
    let inside : k < points.len = omega (arith, l, c.requires.fits) in
    c.add_linear_term-in-len3.ensures k l s e
    ∙ ap wrapped (first_three (g.S.NarrowSource.samples c.args.source.now) points.row (points.col +ℤ pos k) c.args.taps.now
    c.a-item-then-taps-lt4.result c.b-item-then-taps-lt4.result c.c-item.result s _ _ _ c.in-len3.len_at_least
    c.a-item-then-taps-lt4.is c.b-item-then-taps-lt4.is c.c-item.is
    (c.borrow_linear_line-a-in-len3.ensures.values k inside) (c.borrow_linear_line-b-in-len3.ensures.values k inside)
    (c.borrow_linear_line-c.ensures.values k inside))

pub returns-in-len4-up-clause-sums : goal.returns-in-len4-up-clause-sums
returns-in-len4-up-clause-sums g c = λ k l s e.
    let points = c.args.points.now in
    let inside : k < points.len = omega (arith, l, c.requires.fits) in
    c.add_linear_term-in-len4-up.ensures k l s e
    ∙ ap wrapped (first_four (g.S.NarrowSource.samples c.args.source.now) points.row (points.col +ℤ pos k) c.args.taps.now
    c.a-item-2.result c.b-item-2.result c.c-item-2.result c.d-item.result s _ _ _ _ c.in-len4-up.len_at_least
    c.a-item-2.is c.b-item-2.is c.c-item-2.is c.d-item.is
    (c.borrow_linear_line-a-in-len4-up.ensures.values k inside) (c.borrow_linear_line-b-in-len4-up.ensures.values k inside)
    (c.borrow_linear_line-c-in-len4-up.ensures.values k inside) (c.borrow_linear_line-d.ensures.values k inside))
