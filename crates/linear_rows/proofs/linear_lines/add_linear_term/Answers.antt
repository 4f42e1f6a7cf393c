use Rattle.std.proofs.Common.{rules, ◌<◌, ◌∙◌}
use Rattle.linear_rows.proofs.LinearWraps.{wrapped_left}
use Rattle.linear_rows.proofs.linear_lines.add_linear_term.Goals as goal

pub returns : goal.returns
returns g c = λ k h s e.
    let inside : k < c.loop-k.k = search rules in
    c.loop-k.invariant.done k inside ∙ wrapped_left _ s _ e
