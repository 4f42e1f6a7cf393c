use Rattle.std.proofs.Common.{rules, arith, ◌<◌, ◌≤◌, ◌+ℤ◌, ◌∙◌, ℤ, pos, w16, w32, FitsSigned, length, sym, subst}
use Rattle.std.proofs.lemmas.Int.{to_z-of_z}
use Rattle.linear_rows.proofs.LinearValues.{first_one, first_two, first_three, first_four}
use Rattle.linear_rows.proofs.LinearQuotients.{few_taps}
use Rattle.linear_rows.proofs.linear_quotient.LinearQuotient.try_few_linear_taps.Goals as goal

pub write_shifted_linear_term-requires-clause-fits :
    goal.write_shifted_linear_term-requires-clause-fits
write_shifted_linear_term-requires-clause-fits g c = λ k l.
    let own = c.args.self.now in
    let points = c.args.points.now in
    let env = g.S.NarrowSource.samples c.args.source.now in
    let here : ℤ = points.col +ℤ pos k in
    let inside : k < points.len = omega (arith, l, c.requires.fits) in
    let number : FitsSigned w32 own.sum.number = search rules in
    let make = c.shift_linear_quotients-make.ensures in
    let few : length c.deref.result.now ≤ 1 = omega (arith, c.in-len1.len_below) in
    let value = few_taps own env points.row here c.shift_linear_quotients-make.result 1 c.deref.result.now _ _
    c.in-Shr.is make.bits make.low make.high (to_z-of_z w32 own.sum.number number) few c.deref.ensures.value
    (first_one env points.row here c.deref.result.now c.a-item.result _ _ c.in-len1.len_at_least
    c.a-item.is (c.borrow_linear_line-a.ensures.values k inside)) in
    subst (FitsSigned w16) (sym value) (c.requires.narrow k inside)

pub write_shifted_linear_term-requires-in-len2-clause-fits :
    goal.write_shifted_linear_term-requires-in-len2-clause-fits
write_shifted_linear_term-requires-in-len2-clause-fits g c = λ k l.
    let own = c.args.self.now in
    let points = c.args.points.now in
    let env = g.S.NarrowSource.samples c.args.source.now in
    let here : ℤ = points.col +ℤ pos k in
    let inside : k < points.len = omega (arith, l, c.requires.fits) in
    let number : FitsSigned w32 own.sum.number = search rules in
    let make = c.shift_linear_quotients-make.ensures in
    let few : length c.deref.result.now ≤ 2 = omega (arith, c.in-len2.len_below) in
    let value = few_taps own env points.row here c.shift_linear_quotients-make.result 2 c.deref.result.now _ _
    c.in-Shr.is make.bits make.low make.high (to_z-of_z w32 own.sum.number number) few c.deref.ensures.value
    (first_two env points.row here c.deref.result.now c.a-item-then-this-lt3.result c.b-item.result _ _ _ c.in-len2.len_at_least
    c.a-item-then-this-lt3.is c.b-item.is (c.borrow_linear_line-a-in-len2.ensures.values k inside) (c.borrow_linear_line-b.ensures.values k inside)) in
    subst (FitsSigned w16) (sym value) (c.requires.narrow k inside)

pub write_shifted_linear_term-requires-in-len3-clause-fits :
    goal.write_shifted_linear_term-requires-in-len3-clause-fits
write_shifted_linear_term-requires-in-len3-clause-fits g c = λ k l.
    let own = c.args.self.now in
    let points = c.args.points.now in
    let env = g.S.NarrowSource.samples c.args.source.now in
    let here : ℤ = points.col +ℤ pos k in
    let inside : k < points.len = omega (arith, l, c.requires.fits) in
    let number : FitsSigned w32 own.sum.number = search rules in
    let make = c.shift_linear_quotients-make.ensures in
    let few : length c.deref.result.now ≤ 3 = omega (arith, c.in-len3.len_below) in
    let value = few_taps own env points.row here c.shift_linear_quotients-make.result 3 c.deref.result.now _ _
    c.in-Shr.is make.bits make.low make.high (to_z-of_z w32 own.sum.number number) few c.deref.ensures.value
    (first_three env points.row here c.deref.result.now c.a-item-then-this-lt4.result c.b-item-then-this-lt4.result c.c-item.result _ _ _ _ c.in-len3.len_at_least
    c.a-item-then-this-lt4.is c.b-item-then-this-lt4.is c.c-item.is (c.borrow_linear_line-a-in-len3.ensures.values k inside) (c.borrow_linear_line-b-in-len3.ensures.values k inside) (c.borrow_linear_line-c.ensures.values k inside)) in
    subst (FitsSigned w16) (sym value) (c.requires.narrow k inside)

pub write_shifted_linear_term-requires-in-len4-clause-fits :
    goal.write_shifted_linear_term-requires-in-len4-clause-fits
write_shifted_linear_term-requires-in-len4-clause-fits g c = λ k l.
    let own = c.args.self.now in
    let points = c.args.points.now in
    let env = g.S.NarrowSource.samples c.args.source.now in
    let here : ℤ = points.col +ℤ pos k in
    let inside : k < points.len = omega (arith, l, c.requires.fits) in
    let number : FitsSigned w32 own.sum.number = search rules in
    let make = c.shift_linear_quotients-make.ensures in
    let few : length c.deref.result.now ≤ 4 = omega (arith, c.in-len4.len_below) in
    let value = few_taps own env points.row here c.shift_linear_quotients-make.result 4 c.deref.result.now _ _
    c.in-Shr.is make.bits make.low make.high (to_z-of_z w32 own.sum.number number) few c.deref.ensures.value
    (first_four env points.row here c.deref.result.now c.a-item-then-this-lt5.result c.b-item-then-this-lt5.result c.c-item-then-this-lt5.result c.d-item.result
    _ _ _ _ _ c.in-len4.len_at_least c.a-item-then-this-lt5.is c.b-item-then-this-lt5.is c.c-item-then-this-lt5.is c.d-item.is
    (c.borrow_linear_line-a-in-len4.ensures.values k inside) (c.borrow_linear_line-b-in-len4.ensures.values k inside)
    (c.borrow_linear_line.ensures.values k inside) (c.borrow_linear_line-in-len4.ensures.values k inside)) in
    subst (FitsSigned w16) (sym value) (c.requires.narrow k inside)

pub returns-in-len1 : goal.returns-in-len1
returns-in-len1 g c = λ _ k l.
    let own = c.args.self.now in
    let points = c.args.points.now in
    let env = g.S.NarrowSource.samples c.args.source.now in
    let here : ℤ = points.col +ℤ pos k in
    let inside : k < points.len = omega (arith, l, c.requires.fits) in
    let number : FitsSigned w32 own.sum.number = search rules in
    let make = c.shift_linear_quotients-make.ensures in
    let few : length c.deref.result.now ≤ 1 = omega (arith, c.in-len1.len_below) in
    let value = few_taps own env points.row here c.shift_linear_quotients-make.result 1 c.deref.result.now _ _
    c.in-Shr.is make.bits make.low make.high (to_z-of_z w32 own.sum.number number) few c.deref.ensures.value
    (first_one env points.row here c.deref.result.now c.a-item.result _ _ c.in-len1.len_at_least
    c.a-item.is (c.borrow_linear_line-a.ensures.values k inside)) in
    c.write_shifted_linear_term.ensures k l ∙ value

pub returns-in-len2 : goal.returns-in-len2
returns-in-len2 g c = λ _ k l.
    let own = c.args.self.now in
    let points = c.args.points.now in
    let env = g.S.NarrowSource.samples c.args.source.now in
    let here : ℤ = points.col +ℤ pos k in
    let inside : k < points.len = omega (arith, l, c.requires.fits) in
    let number : FitsSigned w32 own.sum.number = search rules in
    let make = c.shift_linear_quotients-make.ensures in
    let few : length c.deref.result.now ≤ 2 = omega (arith, c.in-len2.len_below) in
    let value = few_taps own env points.row here c.shift_linear_quotients-make.result 2 c.deref.result.now _ _
    c.in-Shr.is make.bits make.low make.high (to_z-of_z w32 own.sum.number number) few c.deref.ensures.value
    (first_two env points.row here c.deref.result.now c.a-item-then-this-lt3.result c.b-item.result _ _ _ c.in-len2.len_at_least
    c.a-item-then-this-lt3.is c.b-item.is (c.borrow_linear_line-a-in-len2.ensures.values k inside) (c.borrow_linear_line-b.ensures.values k inside)) in
    c.write_shifted_linear_term-in-len2.ensures k l ∙ value

pub returns-in-len3 : goal.returns-in-len3
returns-in-len3 g c = λ _ k l.
    let own = c.args.self.now in
    let points = c.args.points.now in
    let env = g.S.NarrowSource.samples c.args.source.now in
    let here : ℤ = points.col +ℤ pos k in
    let inside : k < points.len = omega (arith, l, c.requires.fits) in
    let number : FitsSigned w32 own.sum.number = search rules in
    let make = c.shift_linear_quotients-make.ensures in
    let few : length c.deref.result.now ≤ 3 = omega (arith, c.in-len3.len_below) in
    let value = few_taps own env points.row here c.shift_linear_quotients-make.result 3 c.deref.result.now _ _
    c.in-Shr.is make.bits make.low make.high (to_z-of_z w32 own.sum.number number) few c.deref.ensures.value
    (first_three env points.row here c.deref.result.now c.a-item-then-this-lt4.result c.b-item-then-this-lt4.result c.c-item.result _ _ _ _ c.in-len3.len_at_least
    c.a-item-then-this-lt4.is c.b-item-then-this-lt4.is c.c-item.is (c.borrow_linear_line-a-in-len3.ensures.values k inside) (c.borrow_linear_line-b-in-len3.ensures.values k inside) (c.borrow_linear_line-c.ensures.values k inside)) in
    c.write_shifted_linear_term-in-len3.ensures k l ∙ value

pub returns-in-len4 : goal.returns-in-len4
returns-in-len4 g c = λ _ k l.
    let own = c.args.self.now in
    let points = c.args.points.now in
    let env = g.S.NarrowSource.samples c.args.source.now in
    let here : ℤ = points.col +ℤ pos k in
    let inside : k < points.len = omega (arith, l, c.requires.fits) in
    let number : FitsSigned w32 own.sum.number = search rules in
    let make = c.shift_linear_quotients-make.ensures in
    let few : length c.deref.result.now ≤ 4 = omega (arith, c.in-len4.len_below) in
    let value = few_taps own env points.row here c.shift_linear_quotients-make.result 4 c.deref.result.now _ _
    c.in-Shr.is make.bits make.low make.high (to_z-of_z w32 own.sum.number number) few c.deref.ensures.value
    (first_four env points.row here c.deref.result.now c.a-item-then-this-lt5.result c.b-item-then-this-lt5.result c.c-item-then-this-lt5.result c.d-item.result
    _ _ _ _ _ c.in-len4.len_at_least c.a-item-then-this-lt5.is c.b-item-then-this-lt5.is c.c-item-then-this-lt5.is c.d-item.is
    (c.borrow_linear_line-a-in-len4.ensures.values k inside) (c.borrow_linear_line-b-in-len4.ensures.values k inside)
    (c.borrow_linear_line.ensures.values k inside) (c.borrow_linear_line-in-len4.ensures.values k inside)) in
    c.write_shifted_linear_term-in-len4.ensures k l ∙ value
