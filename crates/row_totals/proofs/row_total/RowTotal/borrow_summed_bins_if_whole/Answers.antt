use Rattle.std.proofs.Common.{rules, arith, ◌≡◌, ◌-◌, sym, ◌∙◌}
use Rattle.domains.specs.Span.{len_of}
use Rattle.job.specs.Kept.{pipeline_in}
use Rattle.row_totals.specs.RowTotals.{totals_from}
use Rattle.row_totals.proofs.Summing.{whole_of_area}
use Rattle.row_totals.proofs.row_total.RowTotal.borrow_summed_bins_if_whole.Goals as goal

pub returns-then-self-len-clause-some : goal.returns-then-self-len-clause-some
returns-then-self-len-clause-some c =
    let self = c.args.self.now in
    let job = pipeline_in self.job.now in
    let first : self.first ≡ 0 = search rules in
    let all : self.next ≡ len_of c.in_ok-domain.domain.rows = search rules in
    let rows : self.next - self.first ≡ len_of c.in_ok-domain.domain.rows = omega (arith, first, all) in
    c.deref.ensures.value ∙ self.bins_are
    ∙ (λ i. totals_from job self.stage (first i) (rows i))
    ∙ whole_of_area job self.stage self.job.now.well c.in_ok-domain.domain (sym c.in_ok-domain.ensures)
