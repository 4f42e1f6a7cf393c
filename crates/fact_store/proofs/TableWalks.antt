-- The least fact above a given one, in tables that stand.
use Rattle.std.specs.Prelude.{◌≡◌, ◌&&◌, Bool, true, false, cond, List, [], ◌∷◌, ◌++◌, Option, Some, None}
use Rattle.std.specs.Prelude.{refl, slice_get, filter, unwrap_or}
use Rattle.std.proofs.Common.{ap, sym, ◌∙◌}
use Rattle.std.specs.declared.cmp.Ordering.TheVariants.{Less, Equal, Greater}
use Rattle.std.specs.BTreeMap.{is_at}
use Rattle.std.specs.List.{find}
use Rattle.std.specs.Map.{lookup}
use Rattle.std.specs.Ordering.{is_lt, is_eq}
use Rattle.identity.proofs.KeyLaws as keys
use Rattle.identity.specs.declared.key.Key.{Key}
use Rattle.identity.specs.Keys.{key_cmp}
use Rattle.tile_fact.specs.declared.fact.Fact.{Fact}
use Rattle.tile_fact.specs.Order.{fact_cmp}
use Rattle.fact_store.proofs.KeyLaws.{one_key}
use Rattle.fact_store.proofs.SetLaws.{split}
use Rattle.fact_store.proofs.SortedLaws.{both, facts_in-set_of}
use Rattle.fact_store.proofs.TableLaws.{first, key_later, key_below_through, below_tables, none_at, all_rise}
use Rattle.fact_store.proofs.Walks.{first_above}
use Rattle.fact_store.specs.Facts.{same_key, least_above}
use Rattle.fact_store.specs.inside.Tables.{Tables, all_facts, set_in, table_at, tables_above, key_below, all_of, is_table, stand}

abbrev above : Fact → Fact → Bool
above f g = is_lt (fact_cmp f g)

-- the first answer, or else the second
abbrev or_next : Option Fact → Option Fact → Option Fact
or_next None next = next
or_next (Some f) next = Some f

find_both : (p : Fact → Bool) (xs ys : List Fact) → find p (xs ++ ys) ≡ or_next (find p xs) (find p ys)
find_both p [] ys = refl
find_both p (x ∷ xs) ys =
    elim (p x) as (λ b. cond b (Some x) (find p (xs ++ ys)) ≡ or_next (cond b (Some x) (find p xs)) (find p ys)) [
      | true ↦ refl
      | false ↦ find_both p xs ys
    ]

skip_lower : (f : Fact) (k : Key) (xs ys : List Fact) → key_cmp f.key k ≡ Greater → all_of k xs ≡ true
    → find (above f) (xs ++ ys) ≡ find (above f) ys
skip_lower f k [] ys gt h = refl
skip_lower f k (x ∷ xs) ys gt h =
    let parts = split (same_key k x.key) (all_of k xs) h in
    ap (λ o. cond (is_lt o) (Some x) (find (above f) (xs ++ ys)))
    (key_later f x (ap (key_cmp f.key) (sym (one_key k x.key parts.0)) ∙ gt))
    ∙ skip_lower f k xs ys gt parts.1

all_above : (k : Key) (es : Tables) → key_below k es ≡ true → tables_above k es ≡ es
all_above k [] low = refl
all_above k (e ∷ es) low =
    let parts = split (is_lt (key_cmp k e.0)) (key_below k es) low in
    ap (λ b. cond b (e ∷ tables_above k es) (tables_above k es)) parts.0 ∙ ap (λ ts. e ∷ ts) (all_above k es parts.1)

walk : (f : Fact) (es : Tables) → stand es ≡ true
    → find (above f) (all_facts es) ≡ or_next (find (above f) (table_at es f.key)) (slice_get (all_facts (tables_above f.key es)) 0)
walk f [] h = refl
walk f (e ∷ es) h =
    let s = first e es h in
    let later = tables_above f.key es in
    elim (key_cmp f.key e.0) as (λ o. key_cmp f.key e.0 ≡ o
    → find (above f) (e.1 ++ all_facts es)
    ≡ or_next (find (above f) (unwrap_or (cond (is_eq o) (Some e.1) (lookup (is_at (key_cmp f.key)) es)) []))
    (slice_get (all_facts (cond (is_lt o) (e ∷ later) later)) 0)) [
      | Less ↦ λ lt.
          let low : key_below f.key es ≡ true = key_below_through f.key e.0 es lt s.low in
          first_above f (e.1 ++ all_facts es)
          (below_tables f (e ∷ es) (both (is_lt (key_cmp f.key e.0)) (key_below f.key es) (ap is_lt lt) low) h)
          ∙ ap (λ ts. slice_get (e.1 ++ all_facts ts) 0) (sym (all_above f.key es low))
          ∙ ap (λ r. or_next (find (above f) (unwrap_or r [])) (slice_get (e.1 ++ all_facts later) 0)) (sym (none_at f.key es low))
      | Equal ↦ λ same.
          let low : key_below f.key es ≡ true = ap (λ q. key_below q es) (keys.same_key f.key e.0 same) ∙ s.low in
          find_both (above f) e.1 (all_facts es)
          ∙ ap (or_next (find (above f) e.1)) (first_above f (all_facts es) (below_tables f es low s.rest)
          ∙ ap (λ ts. slice_get (all_facts ts) 0) (sym (all_above f.key es low)))
      | Greater ↦ λ gt. skip_lower f e.0 e.1 (all_facts es) gt s.mine ∙ walk f es s.rest
    ] refl

least_above-tables : (es : Tables) (f : Fact) → stand es ≡ true
    → least_above (set_in es) f ≡ or_next (find (above f) (table_at es f.key)) (slice_get (all_facts (tables_above f.key es)) 0)
unfolding least_above
least_above-tables es f h = ap (find (above f)) (facts_in-set_of (all_facts es) (all_rise es h)) ∙ walk f es h

-- the answer is in the table of the fact's key
pub in_its_table : (es : Tables) (f : Fact) (r : Option Fact) (g : Fact) → stand es ≡ true → r ≡ find (above f) (table_at es f.key)
    → r ≡ Some g → Some g ≡ least_above (set_in es) f
in_its_table es f r g h is some =
    sym (least_above-tables es f h
    ∙ ap (λ o. or_next o (slice_get (all_facts (tables_above f.key es)) 0)) (sym is ∙ some))

-- the answer is behind this table
pub behind_its_table : (es : Tables) (f : Fact) (r : Option Fact) → stand es ≡ true → r ≡ find (above f) (table_at es f.key)
    → r ≡ None → slice_get (all_facts (tables_above f.key es)) 0 ≡ least_above (set_in es) f
behind_its_table es f r h is none =
    sym (least_above-tables es f h
    ∙ ap (λ o. or_next o (slice_get (all_facts (tables_above f.key es)) 0)) (sym is ∙ none))

-- ---- the tables above a key
below_some : (p : Key × List Fact → Bool) (k : Key) (es : Tables) → key_below k es ≡ true → key_below k (filter p es) ≡ true
below_some p k [] low = refl
below_some p k (e ∷ es) low =
    let parts = split (is_lt (key_cmp k e.0)) (key_below k es) low in
    elim (p e) as (λ b. key_below k (cond b (e ∷ filter p es) (filter p es)) ≡ true) [
      | true ↦ both (is_lt (key_cmp k e.0)) (key_below k (filter p es)) parts.0 (below_some p k es parts.1)
      | false ↦ below_some p k es parts.1
    ]

stand_some : (p : Key × List Fact → Bool) (es : Tables) → stand es ≡ true → stand (filter p es) ≡ true
stand_some p [] h = refl
stand_some p (e ∷ es) h =
    let s = first e es h in
    elim (p e) as (λ b. stand (cond b (e ∷ filter p es) (filter p es)) ≡ true) [
      | true ↦
          both (key_below e.0 (filter p es)) (is_table e.0 e.1 && stand (filter p es)) (below_some p e.0 es s.low)
          (both (is_table e.0 e.1) (stand (filter p es)) s.is_table (stand_some p es s.rest))
      | false ↦ stand_some p es s.rest
    ]

pub stand_above : (k : Key) (es : Tables) → stand es ≡ true → stand (tables_above k es) ≡ true
stand_above k es h = stand_some (λ e. is_lt (key_cmp k e.0)) es h

-- as a range of the map says it
and_true : (a : Bool) → (a && true) ≡ a
and_true true = refl
and_true false = refl

pub range_above : (k : Key) (es : Tables) → filter (λ e. is_lt (key_cmp k e.0) && true) es ≡ tables_above k es
range_above k [] = refl
range_above k (e ∷ es) =
    ap (λ b. cond b (e ∷ filter (λ d. is_lt (key_cmp k d.0) && true) es) (filter (λ d. is_lt (key_cmp k d.0) && true) es))
    (and_true (is_lt (key_cmp k e.0)))
    ∙ ap (λ ts. cond (is_lt (key_cmp k e.0)) (e ∷ ts) ts) (range_above k es)
