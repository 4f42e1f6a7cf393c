use Rattle.std.proofs.Common.{rules, ◌<◌, ◌+ℤ◌, ℤ, length, ap, sym, ◌∙◌, w16}
use Rattle.std.specs.Int.{int_wrap}
use Rattle.row_loops.specs.Rows.{at}
use Rattle.narrow_kernels.proofs.NarrowSums.{sum_of_two, sum_of_three, sum_of_four}
use Rattle.narrow_kernels.proofs.narrow_terms.map_few_narrow_terms.Goals as goal

pub returns-in-len2 : goal.returns-in-len2
returns-in-len2 g c = λ k h.
    c.map_narrow_term-in-len2.ensures k h
    ∙ ap (λ (z : ℤ). g.C.NarrowNumberMap.value c.args.make (int_wrap w16 (g.S.NarrowTerm.exact c.args.start (at c.args.out.now k) k +ℤ z)))
    (sym (sum_of_two (λ item. g.F.NarrowTermForm.exact c.args.form item k) c.args.items.now c.a-item-then-items-lt3.result c.b-item.result
    c.in-len2.len_at_least c.in-len2.len_below c.a-item-then-items-lt3.is c.b-item.is))

pub returns-in-len3 : goal.returns-in-len3
returns-in-len3 g c = λ k h.
    c.map_narrow_term-in-len3.ensures k h
    ∙ ap (λ (z : ℤ). g.C.NarrowNumberMap.value c.args.make (int_wrap w16 (g.S.NarrowTerm.exact c.args.start (at c.args.out.now k) k +ℤ z)))
    (sym (sum_of_three (λ item. g.F.NarrowTermForm.exact c.args.form item k) c.args.items.now c.a-item-then-items-lt4.result c.b-item-then-items-lt4.result c.c-item.result
    c.in-len3.len_at_least c.in-len3.len_below c.a-item-then-items-lt4.is c.b-item-then-items-lt4.is c.c-item.is))

pub returns-in-len4-up : goal.returns-in-len4-up
returns-in-len4-up g c = λ k h.
    let few : length c.args.items.now < 5 = search rules in
    c.map_narrow_term-in-len4-up.ensures k h
    ∙ ap (λ (z : ℤ). g.C.NarrowNumberMap.value c.args.make (int_wrap w16 (g.S.NarrowTerm.exact c.args.start (at c.args.out.now k) k +ℤ z)))
    (sym (sum_of_four (λ item. g.F.NarrowTermForm.exact c.args.form item k) c.args.items.now c.a-item-2.result c.b-item-2.result c.c-item-2.result c.d-item.result
    c.in-len4-up.len_at_least few c.a-item-2.is c.b-item-2.is c.c-item-2.is c.d-item.is))
