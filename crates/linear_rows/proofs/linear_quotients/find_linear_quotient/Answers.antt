use Rattle.std.proofs.Common.{◌∙◌, ap}
use Rattle.job.specs.Views.{formula_view}
use Rattle.linear_rows.specs.inside.LinearSums.{made}
use Rattle.linear_rows.proofs.LinearMakes.{joined_wrapped}
use Rattle.linear_rows.proofs.linear_quotients.find_linear_quotient.Goals as goal

pub invariant_of-result : goal.invariant_of-result
invariant_of-result c =
    let f = formula_view c.in-Some.of.now in
    record {
      values = λ env r k.
          ap (made c.in-Some.make)
          (c.in-Ok.ensures.values env r k
          ∙ joined_wrapped env r k f c.in-Some.ensures.joined)
          ∙ c.in-Some.ensures.made env r k;
      reads = c.in-Ok.ensures.reads ∙ c.in-Some.ensures.reads;
    }
