use Rattle.std.proofs.Common.{arith, ◌≡◌, ◌-◌, length, sym, ap, subst, ◌∙◌}
use Rattle.domains.specs.Area.{HoldsPoint}
use Rattle.domains.specs.declared.area.Area.{Area}
use Rattle.job.specs.Kept.{pipeline_in}
use Rattle.job.specs.Pipeline.{accumulator}
use Rattle.job.specs.Totals.{body_totals}
use Rattle.job.specs.Views.{formula_view, stage_view}
use Rattle.job.specs.WellFormed.{InDomainRange}
use Rattle.reductions.specs.Bins.{joined_bins}
use Rattle.reductions.proofs.TilesJoinInTurn.{written}
use Rattle.reductions.proofs.WholeTotals.{has_formulas}
use Rattle.row_totals.specs.RowTotals.{rows_from}
use Rattle.row_totals.proofs.Summing.{bins_of, height_short, rows_near, rows_read, rows_more}
use Rattle.row_totals.proofs.row_total.RowTotal.accumulate_next_summed_rows.Goals as goal

pub find_area_of_summed_rows-area-requires-clause-rows : goal.find_area_of_summed_rows-area-requires-clause-rows
find_area_of_summed_rows-area-requires-clause-rows g c =
    let self = c.args.self.now in
    let job = pipeline_in self.job.now in
    let s = stage_view c.in-Some.found.now in
    let a = c.in-Some.accumulator.now in
    let is = rw c.in-Some.is at c.find_accumulator_of_row_total.ensures.some in
    let well = self.job.now.well in
    subst (λ (x : Area). InDomainRange x.rows) (sym c.domain.ensures) (well.stages self.stage s is.there).rows

pub accumulate_area_into_bins-requires-clause-rows : goal.accumulate_area_into_bins-requires-clause-rows
accumulate_area_into_bins-requires-clause-rows g c =
    let self = c.args.self.now in
    let job = pipeline_in self.job.now in
    let s = stage_view c.in-Some.found.now in
    let a = c.in-Some.accumulator.now in
    let is = rw c.in-Some.is at c.find_accumulator_of_row_total.ensures.some in
    let well = self.job.now.well in
    let area = c.find_area_of_summed_rows-area.result in
    let area_is : area ≡ rows_from s.domain self.next c.args.count =
    c.find_area_of_summed_rows-area.ensures ∙ ap (λ (x : Area). rows_from x self.next c.args.count) c.domain.ensures in
    subst (λ (x : Area). InDomainRange x.rows) (sym area_is)
    (rows_near job self.stage s a is well self.next c.args.count c.requires.some c.requires.left)

pub accumulate_area_into_bins-requires-clause-cols : goal.accumulate_area_into_bins-requires-clause-cols
accumulate_area_into_bins-requires-clause-cols g c =
    let self = c.args.self.now in
    let job = pipeline_in self.job.now in
    let s = stage_view c.in-Some.found.now in
    let a = c.in-Some.accumulator.now in
    let is = rw c.in-Some.is at c.find_accumulator_of_row_total.ensures.some in
    let well = self.job.now.well in
    let area = c.find_area_of_summed_rows-area.result in
    let area_is : area ≡ rows_from s.domain self.next c.args.count =
    c.find_area_of_summed_rows-area.ensures ∙ ap (λ (x : Area). rows_from x self.next c.args.count) c.domain.ensures in
    subst (λ (x : Area). InDomainRange x.cols) (sym area_is) (well.stages self.stage s is.there).cols

pub accumulate_area_into_bins-requires-clause-formulas : goal.accumulate_area_into_bins-requires-clause-formulas
accumulate_area_into_bins-requires-clause-formulas g c =
    let self = c.args.self.now in
    let job = pipeline_in self.job.now in
    let s = stage_view c.in-Some.found.now in
    let a = c.in-Some.accumulator.now in
    let is = rw c.in-Some.is at c.find_accumulator_of_row_total.ensures.some in
    let well = self.job.now.well in
    has_formulas job s a (well.stages self.stage s is.there) is.body

pub accumulate_area_into_bins-requires-clause-reads : goal.accumulate_area_into_bins-requires-clause-reads
accumulate_area_into_bins-requires-clause-reads g c =
    let self = c.args.self.now in
    let job = pipeline_in self.job.now in
    let s = stage_view c.in-Some.found.now in
    let a = c.in-Some.accumulator.now in
    let is = rw c.in-Some.is at c.find_accumulator_of_row_total.ensures.some in
    let well = self.job.now.well in
    let area = c.find_area_of_summed_rows-area.result in
    let area_is : area ≡ rows_from s.domain self.next c.args.count =
    c.find_area_of_summed_rows-area.ensures ∙ ap (λ (x : Area). rows_from x self.next c.args.count) c.domain.ensures in
    λ r q inside.
    rows_read job self.stage s a is well self.next c.args.count c.requires.some c.requires.left (g.S.RowSource.has c.args.source.now)
    (g.S.RowSource.samples c.args.source.now) c.requires.reads r q (subst (λ (x : Area). HoldsPoint x r q) area_is inside)

pub accumulate_area_into_bins-requires-clause-bins : goal.accumulate_area_into_bins-requires-clause-bins
accumulate_area_into_bins-requires-clause-bins g c =
    let self = c.args.self.now in
    let job = pipeline_in self.job.now in
    let s = stage_view c.in-Some.found.now in
    let a = c.in-Some.accumulator.now in
    let is = rw c.in-Some.is at c.find_accumulator_of_row_total.ensures.some in
    let well = self.job.now.well in
    let bins = c.deref_mut.result.now in
    bins_of job self.stage s a is self.first (self.next - self.first) bins (c.deref_mut.ensures.value ∙ self.bins_are)

pub overflow_add-self : goal.overflow_add-self
overflow_add-self g c =
    let self = c.args.self.now in
    let job = pipeline_in self.job.now in
    let s = stage_view c.in-Some.found.now in
    let a = c.in-Some.accumulator.now in
    let is = rw c.in-Some.is at c.find_accumulator_of_row_total.ensures.some in
    let well = self.job.now.well in
    let short = height_short job self.stage s a is well in
    let left = c.requires.left in
    omega (arith, short, left)

pub invariant_of-self-2 : goal.invariant_of-self-2
invariant_of-self-2 g c =
    let self = c.args.self.now in
    let job = pipeline_in self.job.now in
    let s = stage_view c.in-Some.found.now in
    let a = c.in-Some.accumulator.now in
    let is = rw c.in-Some.is at c.find_accumulator_of_row_total.ensures.some in
    let well = self.job.now.well in
    let area = c.find_area_of_summed_rows-area.result in
    let area_is : area ≡ rows_from s.domain self.next c.args.count =
    c.find_area_of_summed_rows-area.ensures ∙ ap (λ (x : Area). rows_from x self.next c.args.count) c.domain.ensures in
    let order = self.order in
    let out = c.accumulate_area_into_bins.new.bins in
    let long : length out ≡ self.bins.len = omega (arith, c.accumulate_area_into_bins.auto.bins, c.deref_mut.ensures.len) in
    let whole : length out ≡ length self.bins.items = omega (arith, long, self.bins.ok.0) in
    let env = g.S.RowSource.samples c.args.source.now in
    let body = accumulator a.fold a.bins (formula_view a.value) (formula_view a.bin) in record {
      summed = self.summed;
      order = omega (arith, order);
      bins_are =
          rows_more job self.stage s a is well self.next c.args.count c.requires.some c.requires.left (g.S.RowSource.has c.args.source.now) env
          c.requires.reads c.requires.right self.first self.bins.items _ order self.bins_are
          (written self.bins.len out self.bins.items whole (sym long)
          ∙ c.accumulate_area_into_bins.ensures
          ∙ (λ i. joined_bins a.fold (c.deref_mut.ensures.value i) (body_totals env (area_is i) body)));
    }
