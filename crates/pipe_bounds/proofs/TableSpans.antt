-- Each table is declared by an item that declares one; and the spans of tables, where a loop stops.
use Rattle.std.proofs.Common.{ℕ, suc, ◌+◌, ◌<◌, ◌≡◌, Bool, true, false, cond, Some, Result, Ok, List, [], ◌∷◌, filter}
use Rattle.std.proofs.Common.{length, slice_get, refl, sym, ◌∙◌, ap, subst, arith}
use Rattle.std.specs.List.{AllByRecursion}
use Rattle.std.proofs.lemmas.Bool.{false≢true}
use Rattle.std.proofs.lemmas.Option.{same_Some, slice_get_within}
use Rattle.domains.specs.Span.{Ends}
use Rattle.pipe_tree.specs.declared.tree.Names.{Names}
use Rattle.pipe_tree.specs.declared.tree.Names.TheVariants.{One, Three}
use Rattle.pipe_tree.specs.declared.tree.Table.{Table}
use Rattle.pipe_tree.specs.Tree.{Declaration, param, image, table, function, accumulator, output}
use Rattle.pipe_checks.specs.declared.symbol.Symbol.{Symbol}
use Rattle.pipe_checks.specs.Names.{is_table, names_of, item_names, names_from, symbols_declared_by_items, tables_of}
use Rattle.pipe_bounds.specs.declared.domain.IntervalFault.{IntervalFault}
use Rattle.pipe_bounds.specs.declared.params.Setting.{Setting}
use Rattle.pipe_bounds.specs.Tables.{IsTableSpan, TablesStand, AreSpansOf}
use Rattle.pipe_bounds.specs.inside.Taken.{AreDeclared, AreTables, IsItemSpan}
use Rattle.pipe_bounds.proofs.Sounding.{each_of, all_both}
use Rattle.pipe_bounds.proofs.Stages.{some_within}

-- ---- each table is declared by an item

-- what is known of all that pass is known of those that are kept
kept_pass : {X : Type 0} (P : X → Type 0) (p : X → Bool) (xs : List X) → AllByRecursion (λ x. p x ≡ true → P x) xs
    → AllByRecursion P (filter p xs)
kept_pass P p [] h = tt
kept_pass P p (x ∷ xs) h = by_test (p x) refl (kept_pass P p xs h.1)
  where
    by_test : (b : Bool) → p x ≡ b → AllByRecursion P (filter p xs) → AllByRecursion P (cond b (x ∷ filter p xs) (filter p xs))
    by_test true e rest = (h.0 e, rest)
    by_test false e rest = rest

abbrev IsDeclaredTable : List Declaration → Symbol → Type 0
IsDeclaredTable ds s = (t : Table) × (slice_get ds s.item ≡ Some (table t))

-- a name of an item that is a table's is that of a table
abbrev MayDeclare : List Declaration → Symbol → Type 0
MayDeclare ds s = is_table s.kind ≡ true → IsDeclaredTable ds s

named_by : (ds : List Declaration) (n : ℕ) (d : Declaration) → slice_get ds n ≡ Some d → AllByRecursion (MayDeclare ds) (item_names n d)
named_by ds n (param p) there = ((λ e. absurd (false≢true e)), tt)
named_by ds n (image i) there = by_names i.names
  where
    by_names : (names : Names) → AllByRecursion (MayDeclare ds) (names_of n names)
    by_names (One x) = ((λ e. absurd (false≢true e)), tt)
    by_names (Three x y z) =
        ((λ e. absurd (false≢true e)), ((λ e. absurd (false≢true e)), ((λ e. absurd (false≢true e)), tt)))
named_by ds n (table t) there = ((λ e. (t, there)), tt)
named_by ds n (function f) there = ((λ e. absurd (false≢true e)), tt)
named_by ds n (accumulator a) there = ((λ e. absurd (false≢true e)), tt)
named_by ds n (output o) there = tt

named_from : (ds : List Declaration) (n : ℕ) (rest : List Declaration)
    → ((k : ℕ) (d : Declaration) → slice_get rest k ≡ Some d → slice_get ds (n + k) ≡ Some d)
    → AllByRecursion (MayDeclare ds) (names_from n rest)
named_from ds n [] h = tt
named_from ds n (d ∷ rest) h =
    let here : n ≡ n + 0 = omega arith in
    all_both (MayDeclare ds) (item_names n d) (names_from (n + 1) rest) (named_by ds n d (ap (slice_get ds) here ∙ h 0 d refl))
    (named_from ds (n + 1) rest (λ k e there. let next : (n + 1) + k ≡ n + suc k = omega arith in ap (slice_get ds) next ∙ h (suc k) e there))

all_tables : (ds : List Declaration) → AreTables ds (tables_of ds)
all_tables ds =
    each_of (IsDeclaredTable ds) (tables_of ds)
    (kept_pass (IsDeclaredTable ds) (λ (s : Symbol). is_table s.kind) (symbols_declared_by_items ds)
    (named_from ds 0 ds (λ k d there. let same : 0 + k ≡ k = omega arith in ap (slice_get ds) same ∙ there)))

pub checked_tables : (ds items : List Declaration) (tables : List Symbol) → items ≡ ds → tables ≡ tables_of ds → AreTables items tables
checked_tables ds items tables same is =
    subst (λ xs. AreTables xs tables) (sym same) (subst (AreTables ds) (sym is) (all_tables ds))

pub tables_declared : (ds : List Declaration) (tables : List Symbol) → AreTables ds tables → AreDeclared ds tables
tables_declared ds tables h k s there = let t = h k s there in slice_get_within ds s.item (table t.0) t.1

-- ---- spans

-- the span of the table that a loop has before it
pub span_here : (ss : List Setting) (ds : List Declaration) (tables : List Symbol) (k : ℕ) (s : Symbol) (d : Declaration)
    (r : Result Ends IntervalFault) → AreTables ds tables → slice_get tables k ≡ Some s → slice_get ds s.item ≡ Some d → IsItemSpan ss d r
    → IsTableSpan ss ds s r
span_here ss ds tables k s d r h there item is =
    let t = h k s there in
    (t.0, t.1, subst (λ (e : Declaration). IsItemSpan ss e r) (same_Some d (table t.0) (sym item ∙ t.1)) is)

-- where the first tables have their spans in a list, each of them has one
pub spans_before : (ss : List Setting) (ds : List Declaration) (tables : List Symbol) (spans : List Ends) (k : ℕ) → length spans ≡ k
    → ((i : ℕ) (s : Symbol) (e : Ends) → slice_get tables i ≡ Some s → slice_get spans i ≡ Some e → IsTableSpan ss ds s (Ok e)) → (i : ℕ)
    (s : Symbol) → i < k → slice_get tables i ≡ Some s → (e : Ends) × IsTableSpan ss ds s (Ok e)
spans_before ss ds tables spans k each span i s less there =
    let e = some_within spans i (omega (arith, each, less)) in
    (e.0, span i s e.0 there e.1)

pub spans_stand : (ss : List Setting) (ds : List Declaration) (tables : List Symbol) (spans : List Ends) → AreSpansOf ss ds tables spans
    → TablesStand ss ds tables
spans_stand ss ds tables spans h = λ k s there.
    spans_before ss ds tables spans (length spans) refl h.span k s (omega (arith, h.each, slice_get_within tables k s there)) there
