-- What holds of the items, the tables and the stages that a program has.
use Rattle.std.proofs.Common.{ℕ, ◌≡◌, ◌⊎◌, inl, inr, List, sym, subst}
use Rattle.domains.specs.Span.{Ends}
use Rattle.pipe_tree.specs.Tree.{Declaration}
use Rattle.pipe_checks.specs.declared.symbol.Symbol.{Symbol}
use Rattle.pipe_checks.specs.Names.{tables_of, stages_of}
use Rattle.pipe_bounds.specs.declared.domain.IntervalFault.{IntervalFault}
use Rattle.pipe_bounds.specs.declared.domain.IntervalFault.TheVariants.{Empty, TooWide}
use Rattle.pipe_bounds.specs.declared.fault.BoundFault.{BoundFault}
use Rattle.pipe_bounds.specs.declared.fault.BoundFault.TheVariants.{Memory}
use Rattle.pipe_bounds.specs.declared.params.Setting.{Setting}
use Rattle.pipe_bounds.specs.StageBounds.{StageBounds, domains_in, AreBoundsOf}
use Rattle.pipe_bounds.specs.Within.{AllSet, IsFirstFaultyDomain}
use Rattle.pipe_bounds.specs.Tables.{TablesStand, AreSpansOf, IsFirstFaultyTable}
use Rattle.pipe_bounds.specs.InBounds.{AreInBounds, IsBoundFault, IsFirstStage, IsInBounds}
use Rattle.pipe_bounds.specs.inside.Taken.{TellsDomain, TellsTable, stage_domain_fault, table_span_fault}
use Rattle.pipe_bounds.proofs.Stages.{found_domains}
use Rattle.pipe_bounds.proofs.TableSpans.{spans_stand}

on_program : (P : List Declaration → List Symbol → Type 0) {xs ys : List Symbol} (ds items : List Declaration) → items ≡ ds → xs ≡ ys
    → P items xs → P ds ys
on_program P {xs} {ys} ds items same is p = subst (P ds) is (subst (λ (es : List Declaration). P es xs) same p)

-- ---- the first fault of a table, and of a domain

module _ (ss : List Setting) (ds : List Declaration) (set : AllSet ss) where
  table_is : (fault : IntervalFault) (k : ℕ) → IsFirstFaultyTable ss ds (tables_of ds) fault k → IsBoundFault ss ds (table_span_fault fault k)
  table_is Empty k h = (set, h)
  table_is TooWide k h = (set, h)

  domain_is : TablesStand ss ds (tables_of ds) → (fault : IntervalFault) (k : ℕ) → IsFirstFaultyDomain ss ds (stages_of ds) fault k
      → IsBoundFault ss ds (stage_domain_fault fault k)
  domain_is stand Empty k h = (set, stand, h)
  domain_is stand TooWide k h = (set, stand, h)

module _ (ss : List Setting) (ds items : List Declaration) (tables : List Symbol) (same : items ≡ ds) (own : tables ≡ tables_of ds) where
  pub tells_table : (f : BoundFault) → AllSet ss → (f ≡ Memory) ⊎ TellsTable ss items tables f → IsBoundFault ss ds f
  tells_table f set (inl e) = subst (IsBoundFault ss ds) (sym e) tt
  tells_table f set (inr h) =
      let here = on_program (λ es xs. IsFirstFaultyTable ss es xs h.fault h.number) ds items same own h.first in
      subst (IsBoundFault ss ds) (sym h.told) (table_is ss ds set h.fault h.number here)

  module _ (spans : List Ends) (g : AreSpansOf ss items tables spans) where
    pub spans_are : AreSpansOf ss ds (tables_of ds) spans
    spans_are = on_program (λ es xs. AreSpansOf ss es xs spans) ds items same own g

    stand : TablesStand ss ds (tables_of ds)
    stand = spans_stand ss ds (tables_of ds) spans spans_are

    module _ (stages : List Symbol) (is : stages ≡ stages_of ds) where
      pub tells_domain : (f : BoundFault) → AllSet ss → (f ≡ Memory) ⊎ TellsDomain ss items stages f → IsBoundFault ss ds f
      tells_domain f set (inl e) = subst (IsBoundFault ss ds) (sym e) tt
      tells_domain f set (inr h) =
          let here = on_program (λ es xs. IsFirstFaultyDomain ss es xs h.fault h.stage) ds items same is h.first in
          subst (IsBoundFault ss ds) (sym h.told) (domain_is ss ds set stand h.fault h.stage here)

      module _ (found : List StageBounds) (h : AreBoundsOf ss items stages found) where
        pub found_is : AreBoundsOf ss ds (stages_of ds) found
        found_is = on_program (λ es xs. AreBoundsOf ss es xs found) ds items same is h

        -- ---- the whole program

        pub in_bounds : AllSet ss → AreInBounds ss items stages (domains_in found) → IsInBounds ss ds
        in_bounds set stays = record {
          set = set;
          tables = stand;
          areas = domains_in found;
          domains = found_domains ss ds (stages_of ds) found found_is;
          stays = on_program (λ es xs. AreInBounds ss es xs (domains_in found)) ds items same is stays;
        }

        pub departs : (f : BoundFault) → AllSet ss → (f ≡ Memory) ⊎ IsFirstStage ss items stages (domains_in found) f
            → IsBoundFault ss ds f
        departs f set (inl e) = subst (IsBoundFault ss ds) (sym e) tt
        departs f set (inr first) =
            let here = on_program (λ es xs. IsFirstStage ss es xs (domains_in found) f) ds items same is first in
            let told = here.case.read.tells.told in
            subst (IsBoundFault ss ds) (sym told) (
              set,
              stand,
              record {
                areas = domains_in found;
                domains = found_domains ss ds (stages_of ds) found found_is;
                stage = subst (IsFirstStage ss ds (stages_of ds) (domains_in found)) told here;
              },
            )
