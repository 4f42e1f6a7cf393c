use Rattle.std.proofs.Common.{◌≡◌, ◌∷◌, [], ap, sym, ◌∙◌}
use Rattle.std.proofs.lemmas.Map.Iter.{rest_all, rest_more}
use Rattle.std.specs.Map.Iter.{deref_pair}
use Rattle.std.specs.Prelude.{slice_get}
use Rattle.fact_store.proofs.TableLaws.{first_table}
use Rattle.fact_store.proofs.TableWalks.{range_above, stand_above}
use Rattle.fact_store.specs.inside.Tables.{all_facts, tables_above}
use Rattle.fact_store.proofs.tables.TableFacts.find_least_fact_above_key.Goals as goal

pub returns-in-Some : goal.returns-in-Some
returns-in-Some c =
    let es = c.args.self.now.tables.entries in
    let above : c.range.result ≡ tables_above c.args.key.now es = c.range.ensures.between tt ∙ range_above c.args.key.now es in
    let step : c.range.result ≡ (c.in-Some.field-0-0.now, c.in-Some.table.now) ∷ c.next.new.self =
    rest_more deref_pair c.range.result c.next.new.self c.next.result (c.in-Some.field-0-0, c.in-Some.table) c.in-Some.is
    c.next.ensures.steps in
    c.get_sorted_fact_at_index.ensures ∙ ap (λ xs. slice_get xs 0) c.as_slice.ensures
    ∙ first_table (tables_above c.args.key.now es) c.in-Some.field-0-0.now c.in-Some.table.now
    (stand_above c.args.key.now es c.args.self.now.stand) (ap (λ ts. slice_get ts 0) (sym above ∙ step))

pub returns-in-None : goal.returns-in-None
returns-in-None c =
    let es = c.args.self.now.tables.entries in
    let above : c.range.result ≡ tables_above c.args.key.now es = c.range.ensures.between tt ∙ range_above c.args.key.now es in
    let none : c.range.result ≡ [] = rest_all deref_pair c.range.result c.next.new.self c.next.result c.in-None.is c.next.ensures.steps in
    ap (λ ts. slice_get (all_facts ts) 0) (sym none ∙ above)
