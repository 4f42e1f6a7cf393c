use Rattle.std.proofs.Common.{rules, ◌≡◌, sym, ◌∙◌}
use Rattle.joined_formulas.proofs.known_parts.is_same_joined_table.Goals as goal

pub returns : goal.returns
returns c = λ yes.
    let spans : c.span-2.result.now ≡ c.span.result.now = search rules in
    let span : c.args.other.now.span ≡ c.args.entries.now.span = sym c.span-2.ensures ∙ spans ∙ c.span.ensures in
    let values : c.args.other.now.values ≡ c.args.entries.now.values =
    sym c.values-2.ensures.values ∙ c.is_same_joined_list.ensures yes ∙ c.values.ensures.values in
    (λ i. record { span = span i; values = values i })
