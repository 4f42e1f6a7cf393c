use Rattle.std.proofs.Common.{rules, arith, ℕ, ◌≡◌, ◌<◌, ◌+◌, ◌*◌, ◌/◌, length, ap, subst, ◌∙◌, w32, FitsSigned}
use Rattle.std.proofs.lemmas.Int.{to_z-of_z}
use Rattle.row_loops.proofs.Writing.{EachPlace-pair}
use Rattle.row_kernels.proofs.gathering.gather_each_twice.Goals as goal

pub read_number_at_place-number-requires : goal.read_number_at_place-number-requires
read_number_at_place-number-requires g c =
    let near : c.args.left + 2 * c.loop-k.k < length c.args.out.now = search rules in
    let along : c.args.place + (c.args.left + (c.args.left + 2 * c.loop-k.k)) / 2 ≡ c.args.place + c.args.left + c.loop-k.k = omega arith in
    subst (g.V.RowNumbers.has c.args.numbers) along (c.requires.there (c.args.left + 2 * c.loop-k.k) near)

pub loop-k-preserved : goal.loop-k-preserved
loop-k-preserved g c = λ j h.
    let near : c.args.left + 2 * c.loop-k.k + 1 < length c.loop-k.out = search rules in
    let one : c.args.place + c.args.left + c.loop-k.k ≡ c.args.place + (c.args.left + (c.args.left + 2 * c.loop-k.k)) / 2 = omega arith in
    let two : c.args.place + c.args.left + c.loop-k.k ≡ c.args.place + (c.args.left + (c.args.left + 2 * c.loop-k.k + 1)) / 2 = omega arith in
    let fits : FitsSigned w32 c.read_number_at_place-number.result = search rules in
    let is = to_z-of_z w32 c.read_number_at_place-number.result fits ∙ c.read_number_at_place-number.ensures in
    EachPlace-pair (λ (j : ℕ). g.V.RowNumbers.number c.args.numbers (c.args.place + (c.args.left + j) / 2)) c.loop-k.out
    (c.args.left + 2 * c.loop-k.k) _ near (is ∙ ap (g.V.RowNumbers.number c.args.numbers) one) (is ∙ ap (g.V.RowNumbers.number c.args.numbers) two)
    c.loop-k.invariant j (omega arith)
