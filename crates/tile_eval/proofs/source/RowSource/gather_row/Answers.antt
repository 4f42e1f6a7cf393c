use Rattle.std.proofs.Common.{rules, arith, ◌+ℤ◌, ◌<◌, pos, length, to_z, of_z, w32, FitsSigned, ap, ◌∙◌}
use Rattle.std.proofs.lemmas.Int.{to_z-of_z}
use Rattle.domains.specs.Index.{index_at}
use Rattle.row_loops.proofs.Writing.{EachPlace-more}
use Rattle.tile_eval.proofs.source.RowSource.gather_row.Goals as goal

pub loop-k-preserved : goal.loop-k-preserved
loop-k-preserved g c =
    let value : FitsSigned w32 c.read_sample.result = search rules in
    let found : FitsSigned w32 c.at.result = search rules in
    let at_k : FitsSigned w32 c.column.result = search rules in
    let lt : c.loop-k.k < length c.loop-k.out = omega arith in
    EachPlace-more (λ j. g.Self.RowSource.samples c.args.self.now c.args.stage (to_z w32 (of_z w32 c.args.row))
    (index_at c.args.col.now (c.args.points.now.col +ℤ pos j))) c.loop-k.out c.loop-k.k _ lt
    (to_z-of_z w32 _ value ∙ c.read_sample.ensures
    ∙ ap (g.Self.RowSource.samples c.args.self.now c.args.stage (to_z w32 (of_z w32 c.args.row)))
    (to_z-of_z w32 _ found ∙ c.at.ensures.value ∙ ap (index_at c.args.col.now) (to_z-of_z w32 _ at_k ∙ c.column.ensures)))
    c.loop-k.invariant
