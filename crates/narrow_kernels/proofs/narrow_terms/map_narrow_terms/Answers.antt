use Rattle.std.proofs.Common.{ℤ, ◌+ℤ◌, length, drop, ap, ◌∙◌, w16}
use Rattle.std.specs.Int.{int_wrap}
use Rattle.std.proofs.Math.IntN.{+ℤ_assoc}
use Rattle.std.proofs.lemmas.List.Elements.{All-take, All-drop}
use Rattle.row_loops.specs.Rows.{EachPlace, at}
use Rattle.narrow_kernels.proofs.NarrowSums.{sum_with_five}
use Rattle.narrow_kernels.proofs.narrow_terms.map_narrow_terms.Goals as goal

pub map_few_narrow_terms-requires-in-len5-up-clause-items : goal.map_few_narrow_terms-requires-in-len5-up-clause-items
map_few_narrow_terms-requires-in-len5-up-clause-items g c =
    let P = λ (item : g.row.I.Denot). EachPlace (length c.args.out.now) (g.F.NarrowTermForm.has c.args.form item) in
    All-take P _ (drop 5 c.args.items.now) (All-drop P 5 c.args.items.now c.requires.items)

pub returns-in-len5-up : goal.returns-in-len5-up
returns-in-len5-up g c = λ k h.
    let start = g.S.NarrowTerm.exact c.args.start (at c.args.out.now k) k in
    c.map_few_narrow_terms-in-len5-up.ensures k h
    ∙ ap (λ (z : ℤ). g.C.NarrowNumberMap.value c.args.make (int_wrap w16 z)) (+ℤ_assoc start _ _)
    ∙ ap (λ (z : ℤ). g.C.NarrowNumberMap.value c.args.make (int_wrap w16 (start +ℤ z)))
    (sum_with_five (λ item. g.F.NarrowTermForm.exact c.args.form item k) c.args.items.now c.a-item.result c.b-item.result c.c-item.result c.d-item.result
    c.e-item.result c.in-len5-up.len_at_least c.a-item.is c.b-item.is c.c-item.is c.d-item.is c.e-item.is)
