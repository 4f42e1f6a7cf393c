use Rattle.std.proofs.Common.{◌≡◌, ◌∙◌, ℕ, ℤ, IfNone, IfSome, List, None, Option, Some, ap, length, of_z, refl, rules, subst, sym, to_z, w64}
use Rattle.std.proofs.lemmas.Int.{to_z-of_z}
use Rattle.domains.specs.Span.{Ends}
use Rattle.tables.specs.Lines.{SpellEnds, SpellsInteger, parts}
use Rattle.tables.proofs.LineLaws.{ends_spelled, no_indices, no_most_end}
use Rattle.tables.proofs.PartLaws.{then_rest}
use Rattle.tables.proofs.line.parse_table_span_with_dots.Goals as goal

at_any : {T : Type 0} (found : Option T) (P : Type 0) → P → IfNone found P
at_any None P p = p
at_any (Some x) P p = tt

if_found : (found : Option Ends) (P Q R : Ends → Type 0) → IfSome found P → IfSome found Q → ((span : Ends) → P span → Q span → R span)
    → IfSome found R
if_found None P Q R p q f = tt
if_found (Some span) P Q R p q f = f span p q

if_none : (found : Option Ends) (P Q : Type 0) → IfNone found P → (P → Q) → IfNone found Q
if_none None P Q p f = f p
if_none (Some span) P Q p f = tt

spelled_end : (word : List ℕ) (z end : ℤ) → SpellsInteger word z → end ≡ to_z w64 (of_z w64 z) → SpellsInteger word end
spelled_end word z end spells e = subst (SpellsInteger word) (sym (e ∙ to_z-of_z w64 z spells.fits)) spells

pub returns-in_err-parse_table_integer-2-clause-none : goal.returns-in_err-parse_table_integer-2-clause-none
returns-in_err-parse_table_integer-2-clause-none c =
    let cut = c.split_table_line_at_first_byte in
    let more = c.split_table_line_at_first_byte-2 in
    let rest = c.in-Some.rest in
    let last = c.in-Some-behind.last in
    at_any c.from_residual-in_err-parse_table_integer-2.result _
    (no_most_end c.args.ends.now cut.result.0.now rest.now more.result.0.now last.now
    (then_rest 46 c.args.ends.now cut.result.0.now cut.result.1 rest c.in-Some.is cut.ensures)
    (then_rest 46 rest.now more.result.0.now more.result.1 last c.in-Some-behind.is more.ensures)
    c.in_err-parse_table_integer-2.ensures.none)

pub returns-clause-some : goal.returns-clause-some
returns-clause-some c =
    let cut = c.split_table_line_at_first_byte in
    let more = c.split_table_line_at_first_byte-2 in
    let rest = c.in-Some.rest in
    let last = c.in-Some-behind.last in
    let e = then_rest 46 c.args.ends.now cut.result.0.now cut.result.1 rest c.in-Some.is cut.ensures in
    let f = then_rest 46 rest.now more.result.0.now more.result.1 last c.in-Some-behind.is more.ensures in
    let empty : length more.result.0.now ≡ 0 = search rules in
    let found = c.build_table_span_within_limits.ensures in
    if_found c.build_table_span_within_limits.result _ _ (SpellEnds (parts 46 c.args.ends.now)) found.some found.within
    (λ span is within.
    ends_spelled c.args.ends.now cut.result.0.now rest.now more.result.0.now last.now span e f empty
    (spelled_end cut.result.0.now c.in_ok-parse_table_integer.field-0 span.lo c.in_ok-parse_table_integer.ensures.some
    (ap (λ (s : Ends). s.lo) is))
    (spelled_end last.now c.in_ok-parse_table_integer-2.field-0 span.hi c.in_ok-parse_table_integer-2.ensures.some
    (ap (λ (s : Ends). s.hi) is))
    within)

pub returns-clause-none : goal.returns-clause-none
returns-clause-none c =
    let cut = c.split_table_line_at_first_byte in
    let more = c.split_table_line_at_first_byte-2 in
    let rest = c.in-Some.rest in
    let last = c.in-Some-behind.last in
    let e = then_rest 46 c.args.ends.now cut.result.0.now cut.result.1 rest c.in-Some.is cut.ensures in
    let f = then_rest 46 rest.now more.result.0.now more.result.1 last c.in-Some-behind.is more.ensures in
    if_none c.build_table_span_within_limits.result _ _ c.build_table_span_within_limits.ensures.none
    (no_indices c.args.ends.now cut.result.0.now rest.now more.result.0.now last.now
    (to_z w64 (of_z w64 c.in_ok-parse_table_integer.field-0)) (to_z w64 (of_z w64 c.in_ok-parse_table_integer-2.field-0)) e f
    (spelled_end cut.result.0.now c.in_ok-parse_table_integer.field-0 _ c.in_ok-parse_table_integer.ensures.some refl)
    (spelled_end last.now c.in_ok-parse_table_integer-2.field-0 _ c.in_ok-parse_table_integer-2.ensures.some refl))
