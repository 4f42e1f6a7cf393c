use Rattle.std.proofs.Common.{rules, ◌≡◌, ℤ, replicate, ◌∙◌}
use Rattle.std.specs.Prelude.{IfOk}
use Rattle.std.specs.Global.{Vec}
use Rattle.std.proofs.lemmas.Result.{IfOk-weaker}
use Rattle.domains.specs.Span.{len_of}
use Rattle.job.specs.Totals.{start_of}
use Rattle.reductions.specs.Bins.{starts}
use Rattle.reductions.proofs.TakeValues.{starts_are}
use Rattle.reductions.proofs.bin_starts.create_start_bins.Goals as goal

pub returns : goal.returns
returns c =
    let made : IfOk c.vec.result (λ (v : Vec ℤ). v.items ≡ replicate c.len.result c.find_bin_start_value.result) = search rules in
    IfOk-weaker c.vec.result (λ (v : Vec ℤ). v.items ≡ replicate c.len.result c.find_bin_start_value.result) (λ (v : Vec ℤ). v.items
    ≡ starts c.args.op c.args.bins.now) (λ v e.
    e
    ∙ (λ i. replicate (c.len.ensures.number i) (c.find_bin_start_value.ensures i))
    ∙ starts_are (start_of c.args.op) c.args.bins.now.lo (len_of c.args.bins.now))
    made
