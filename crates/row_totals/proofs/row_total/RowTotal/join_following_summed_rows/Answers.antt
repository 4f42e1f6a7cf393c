use Rattle.std.proofs.Common.{arith, ◌≡◌, ◌-◌, length, sym, ap, ◌∙◌}
use Rattle.job.specs.Kept.{pipeline_in}
use Rattle.reductions.specs.Bins.{joined_bins}
use Rattle.reductions.proofs.TilesJoinInTurn.{written}
use Rattle.row_totals.specs.RowTotals.{totals_from}
use Rattle.row_totals.proofs.Summing.{bins_long, joined_rows}
use Rattle.row_totals.proofs.row_total.RowTotal.join_following_summed_rows.Goals as goal

pub join_into-requires : goal.join_into-requires
join_into-requires c =
    let self = c.args.self.now in
    let others = c.args.others.now in
    let job = pipeline_in self.job.now in
    let is = rw c.in-Some.is at c.find_accumulator_of_row_total.ensures.some in
    let theirs : others.bins.items ≡ totals_from job self.stage others.first (others.next - others.first) =
    others.bins_are ∙ (λ i. totals_from (c.requires.job i) (c.requires.stage i) others.first (others.next - others.first)) in
    ap length (c.deref.ensures.value ∙ theirs) ∙ bins_long job self.stage _ _ is others.first (others.next - others.first)
    ∙ sym (ap length (c.deref_mut.ensures.value ∙ self.bins_are) ∙ bins_long job self.stage _ _ is self.first (self.next - self.first))

pub invariant_of-self : goal.invariant_of-self
invariant_of-self c =
    let self = c.args.self.now in
    let others = c.args.others.now in
    let job = pipeline_in self.job.now in
    let is = rw c.in-Some.is at c.find_accumulator_of_row_total.ensures.some in
    let order = self.order in
    let out = c.join_into.new.bins in
    let long : length out ≡ self.bins.len = omega (arith, c.join_into.auto.bins, c.deref_mut.ensures.len) in
    let whole : length out ≡ length self.bins.items = omega (arith, long, self.bins.ok.0) in
    let others_order = others.order in
    let follows = c.requires.follows in
    let theirs : others.bins.items ≡ totals_from job self.stage self.next (others.next - self.next) =
    others.bins_are ∙ (λ i. totals_from (c.requires.job i) (c.requires.stage i) (follows i) (others.next - follows i)) in record {
      summed = self.summed;
      order = omega (arith, order, others_order, follows);
      bins_are =
          joined_rows job self.stage _ _ is self.first self.next others.next self.bins.items others.bins.items _ order
          (omega (arith, others_order, follows)) self.bins_are theirs
          (written self.bins.len out self.bins.items whole (sym long)
          ∙ c.join_into.ensures
          ∙ (λ i. joined_bins (c.fold.ensures i) (c.deref_mut.ensures.value i) (c.deref.ensures.value i)));
    }
