use Rattle.std.proofs.Common.{◌≡◌, ◌∙◌, ◌++◌, [], ◌∷◌, ap, cond, inr, Some, Ok, Err, List, slice_get, sym, refl, subst, arith, rules}
use Rattle.std.proofs.lemmas.List.{length-map}
use Rattle.std.proofs.lemmas.Option.{same_Some}
use Rattle.domains.proofs.Places.{here_is}
use Rattle.domains.specs.Span.{Ends}
use Rattle.pipe_tree.specs.Tree.{declaration, declarations}
use Rattle.pipe_checks.specs.declared.symbol.Symbol.{Symbol}
use Rattle.pipe_checks.proofs.Places.{declaration_at}
use Rattle.pipe_checks.proofs.Unknown.{pushed}
use Rattle.pipe_bounds.specs.Tables.{IsTableSpan}
use Rattle.pipe_bounds.proofs.TableSpans.{span_here, spans_before}
use Rattle.pipe_bounds.proofs.table_spans.collect_table_bounds.Goals as goal

pub returns-in-Err : goal.returns-in-Err
returns-in-Err c =
    let ss = c.args.params.now in
    let ds = declarations c.args.items.now in
    let tables = c.args.tables.now in
    let k = c.loop-table.table in
    let s = c.index-tables-table.result in
    let there = here_is tables tables k s refl c.loop-table-test.true c.index-tables-table.is in
    let item =
    declaration_at c.args.items.now s.item c.index-items-declared.result
    (omega (arith, c.requires.declared k s there, length-map c.args.items.now declaration)) c.index-items-declared.is in
    inr (record {
      fault = c.in-Err.fault;
      number = k;
      told = c.table_span_fault.ensures;
      first = record {
        declared = s;
        there = there;
        faulty =
            span_here ss ds tables k s (declaration c.index-items-declared.result) (Err c.in-Err.fault) c.requires.tables there item
            c.in-Err.ensures;
        before = spans_before ss ds tables c.loop-table.spans.items k c.loop-table.invariant.each c.loop-table.invariant.span;
      };
    })

pub loop-table-preserved : goal.loop-table-preserved
loop-table-preserved c =
    let ss = c.args.params.now in
    let ds = declarations c.args.items.now in
    let tables = c.args.tables.now in
    let k = c.loop-table.table in
    let s = c.index-tables-table.result in
    let e = c.in-Ok.span in
    let spans = c.loop-table.spans.items in
    let there = here_is tables tables k s refl c.loop-table-test.true c.index-tables-table.is in
    let item =
    declaration_at c.args.items.now s.item c.index-items-declared.result
    (omega (arith, c.requires.declared k s there, length-map c.args.items.now declaration)) c.index-items-declared.is in
    let span = span_here ss ds tables k s (declaration c.index-items-declared.result) (Ok e) c.requires.tables there item c.in-Ok.ensures in
    let more = pushed (λ k (e : Ends). (s : Symbol) → slice_get tables k ≡ Some s → IsTableSpan ss ds s (Ok e)) spans k e
    c.loop-table.invariant.each (λ k e p s q. c.loop-table.invariant.span k s e q p)
    (λ t q. subst (λ (x : Symbol). IsTableSpan ss ds x (Ok e)) (same_Some s t (sym there ∙ q)) span) in
    let longer = c.push.ensures.items ∙ ap (λ t. cond t (spans ++ (e ∷ [])) spans) (sym c.in_ok-map_err-in-Ok.ensures.variant) in
    record { each = search rules; span = λ k s e q p. more k e (subst (λ (xs : List Ends). slice_get xs k ≡ Some e) longer p) s q }
