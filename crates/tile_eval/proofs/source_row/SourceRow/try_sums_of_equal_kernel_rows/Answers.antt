use Rattle.std.proofs.Common.{rules, arith, ℤ, ◌≡◌, ◌≤◌, ◌+◌, ◌-◌, List, length, ◌∙◌, ap}
use Rattle.std.proofs.lemmas.Grind.{common_steps}
use Rattle.std.proofs.lemmas.Slice.Eq.{slice_eq-Decides}
use Rattle.std.specs.Cmp.{signed_Decides}
use Rattle.std.specs.Prelude.{slice_index_or, IsTrue}
use Rattle.job.specs.Values.{factors}
use Rattle.tile_eval.proofs.Gathering.{few_factors, found_factors}
use Rattle.tile_eval.proofs.RowPairs.{two_rows_more}
use Rattle.tile_eval.proofs.source_row.SourceRow.try_sums_of_equal_kernel_rows.Goals as goal

pub returns-clause-added : goal.returns-clause-added
returns-clause-added g c = λ t k h s e.
    let first : c.as_slice-factors.result.now ≡ factors c.args.kernel.now c.args.a =
    c.as_slice-factors.ensures
    ∙ found_factors c.args.kernel.now c.args.a _ c.requires.a
    (c.index-as_slice-a.is ∙ ap (λ (ks : List (List ℤ)). slice_index_or ks c.args.a c.index-as_slice-a.result) c.as_slice.ensures) in
    let other : c.as_slice-3.result.now ≡ factors c.args.kernel.now c.args.b =
    c.as_slice-3.ensures
    ∙ found_factors c.args.kernel.now c.args.b _ c.requires.b
    (c.index-as_slice-b.is ∙ ap (λ (ks : List (List ℤ)). slice_index_or ks c.args.b c.index-as_slice-b.result) c.as_slice-2.ensures) in
    let equal : IsTrue c.eq-equal.result = search rules in
    let same : c.as_slice-factors.result.now ≡ c.as_slice-3.result.now =
    (slice_eq-Decides signed_Decides c.as_slice-factors.result.now c.as_slice-3.result.now c.eq-equal.result c.eq-equal.ensures).0 equal in
    let few : length c.as_slice-factors.result.now ≤ 15 = rw first (few_factors c.args.kernel.now c.args.a c.requires.kernel c.requires.a) in
    let len : length c.try_line_sums_under_kernel_rows.new.sums ≡ length c.args.out.now + length c.as_slice-factors.result.now - 1 =
    grind (arith, common_steps) in
    two_rows_more c.args.kernel.now (g.S.RowSource.samples c.args.self.now.source.now c.args.stage) c.args.self.now.points.row
    c.args.self.now.points.col c.args.a c.args.b k c.as_slice-factors.result.now (length c.args.out.now) c.try_line_sums_under_kernel_rows.new.sums s _
    first (same ∙ other) (c.if-not-try_line_sums_under_kernel_rows.ensures t) len h (c.add_tap_sums.ensures k h s e)
