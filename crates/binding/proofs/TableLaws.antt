-- A name that is looked up is that of a table that is given, and this has an entry for each index.
use Rattle.std.proofs.Common.{ℕ, suc, arith, ◌+◌, ◌≤◌, ◌≡◌, ℤ, pos, ◌+ℤ◌, ◌-ℤ◌, Bool, true, false, cond, List, [], ◌∷◌, ◌++◌, length}
use Rattle.std.proofs.Common.{Option, Some, Ok, filter, slice_get, subst, ap, sym, ◌∙◌, refl}
use Rattle.std.specs.Prelude.{All, nat_le, slice_index_or}
use Rattle.std.specs.List.{flat_map, find, AllZip}
use Rattle.std.specs.Str.{bytes_eq}
use Rattle.std.proofs.lemmas.Int.{ints}
use Rattle.std.proofs.lemmas.Bool.{false≢true, and_parts}
use Rattle.std.proofs.lemmas.Bool.Decides.{nat_tests}
use Rattle.std.proofs.lemmas.Option.{none-some, same_Some, slice_get-get_or}
use Rattle.pipe_tokens.specs.Naming.{is_identifier, is_identifier_of_name_length}
use Rattle.job.specs.WellFormed.{IsTable}
use Rattle.std.proofs.lemmas.List.Elements.{filter-append}
use Rattle.domains.proofs.Places.{all_at}
use Rattle.domains.specs.Span.{Ends}
use Rattle.domains.proofs.Lengths.{len_is}
use Rattle.pipe_tree.specs.declared.tree.Names.{Names}
use Rattle.pipe_tree.specs.declared.tree.Names.TheVariants.{One, Three}
use Rattle.pipe_tree.specs.declared.tree.Table.{Table as TableText}
use Rattle.pipe_tree.specs.Tree as tree
use Rattle.pipe_tree.specs.Tree.{Declaration}
use Rattle.pipe_checks.specs.declared.symbol.Symbol.{Symbol}
use Rattle.pipe_checks.specs.declared.symbol.SymbolKind.{SymbolKind}
use Rattle.pipe_checks.specs.declared.symbol.SymbolKind.TheVariants.{Param, Table as TableKind, Plane, Func, Accum}
use Rattle.pipe_checks.specs.Names.{names_of, item_names, names_from, is_table, symbols_declared_by_items, tables_of}
use Rattle.pipe_checks.proofs.Accepted.{IsTableKind, IsNameOf}
use Rattle.pipe_bounds.specs.declared.params.Setting.{Setting}
use Rattle.pipe_bounds.specs.Settings.{affine_value}
use Rattle.pipe_bounds.specs.Domains.{IsBins}
use Rattle.pipe_bounds.specs.Tables.{TablesStand}
use Rattle.tables.specs.declared.table.Table.{Table}
use Rattle.tables.specs.Entries.{AreEntries, IsEntries, span_from}
use Rattle.binding.specs.Binding.{item_tables, IsTableFit, TablesFit, entries_of, table_named, IsSmallTable, AreSmallTables}
use Rattle.binding.specs.inside.Ranges.{HasEntries}
use Rattle.binding.proofs.NumberLaws.{declared_found, find-filter, find_place, found}
use Rattle.binding.proofs.StageLaws.{zip_append, zip_weaker, zip_right}

-- ---- what is found stands somewhere, and what is found in one of two lists is found in the other

find_at : {X : Type 0} (p : X → Bool) (xs : List X) (x : X) → find p xs ≡ Some x → (j : ℕ) × (slice_get xs j ≡ Some x)
find_at p xs x is =
    let place = find_place p xs x is in
    let r = found p xs place.0 place.1 in
    let same : Some r.0 ≡ Some x = sym r.3 ∙ is in
    (place.0, r.1 ∙ same)

module _ {X Y : Type 0} (R : X → Y → Type 0) (p : X → Bool) (q : Y → Bool) (same : (x : X) (y : Y) → R x y → p x ≡ q y) where
  find_zip : (xs : List X) (ys : List Y) (x : X) → AllZip R xs ys → find p xs ≡ Some x → (y : Y) × (find q ys ≡ Some y) × R x y
  find_zip [] ys x h is = absurd (none-some x is)
  find_zip (u ∷ xs) [] x h is = absurd h
  find_zip (u ∷ xs) (v ∷ ys) x h is = by (p u) refl (find_zip xs ys x h.1) is
    where
      by : (b : Bool) → p u ≡ b → (find p xs ≡ Some x → (y : Y) × (find q ys ≡ Some y) × R x y) → cond b (Some u) (find p xs) ≡ Some x
          → (y : Y) × (find q (v ∷ ys) ≡ Some y) × R x y
      by true e others here =
          (v, ap (λ b. cond b (Some v) (find q ys)) (sym (same u v h.0) ∙ e), subst (λ (z : X). R z v) (same_Some u x here) h.0)
      by false e others later =
          let r = others later in (r.0, ap (λ b. cond b (Some v) (find q ys)) (sym (same u v h.0) ∙ e) ∙ r.1, r.2)

-- ---- each table is declared by an item of its name

-- where the items begin with number n
pub record Declares (n : ℕ) (ds : List Declaration) (s : Symbol) (t : TableText) : Type 0 where
  pub place : ℕ
  pub number : s.item ≡ n + place
  pub there : slice_get ds place ≡ Some (tree.table t)
  pub name : s.name ≡ t.name

abbrev keeps : Symbol → Bool
keeps d = is_table d.kind

no_tables : (n : ℕ) (ns : Names) → filter keeps (names_of n ns) ≡ []
no_tables n (One x) = refl
no_tables n (Three x y z) = refl

declared_here : (n : ℕ) (d : Declaration) (ds : List Declaration)
    → AllZip (Declares n (d ∷ ds)) (filter keeps (item_names n d)) (item_tables d)
declared_here n (tree.param x) ds = tt
declared_here n (tree.image i) ds =
    subst (λ (xs : List Symbol). AllZip (Declares n (tree.image i ∷ ds)) xs []) (sym (no_tables n i.names)) tt
declared_here n (tree.table t) ds = (record { place = 0; number = omega arith; there = refl; name = refl }, tt)
declared_here n (tree.function f) ds = tt
declared_here n (tree.accumulator a) ds = tt
declared_here n (tree.output o) ds = tt

declared_later : (n : ℕ) (d : Declaration) (ds : List Declaration) (s : Symbol) (t : TableText) → Declares (n + 1) ds s t
    → Declares n (d ∷ ds) s t
declared_later n d ds s t h = record { place = suc h.place; number = h.number ∙ omega arith; there = h.there; name = h.name }

declared : (n : ℕ) (ds : List Declaration) → AllZip (Declares n ds) (filter keeps (names_from n ds)) (flat_map item_tables ds)
declared n [] = tt
declared n (d ∷ ds) =
    let here = filter keeps (item_names n d) in
    let others = filter keeps (names_from (n + 1) ds) in
    subst (λ (xs : List Symbol). AllZip (Declares n (d ∷ ds)) xs (item_tables d ++ flat_map item_tables ds))
    (sym (filter-append keeps (item_names n d) (names_from (n + 1) ds)))
    (zip_append (Declares n (d ∷ ds)) here others (item_tables d) (flat_map item_tables ds) (declared_here n d ds)
    (zip_weaker (Declares (n + 1) ds) (Declares n (d ∷ ds)) (declared_later n d ds) others (flat_map item_tables ds) (declared (n + 1) ds)))

-- ---- the entries of a table that fits

kept : (k : SymbolKind) → IsTableKind k → is_table k ≡ true
kept Param h = absurd h
kept TableKind h = refl
kept Plane h = absurd h
kept Func h = absurd h
kept Accum h = absurd h

entries_are : (first last lo : ℤ) (count : ℕ) (e : Ends) → IsBins first last (Ok e) → first ≡ lo → last ≡ (lo +ℤ pos count) -ℤ pos 1
    → AreEntries (span_from lo count) count
entries_are first last lo count e h starts ends =
    let ordered = h.0.ordered in let least = h.0.least in let most = h.0.most in let few = h.1 in
    let len = len_is (span_from lo count) (record { least = omega (arith, ints); ordered = omega (arith, ints); most = omega (arith, ints) }) in
    record {
      indices = record { least = omega (arith, ints); ordered = omega (arith, ints); most = omega (arith, ints) };
      size = omega (arith, ints);
      few = omega (arith, ints);
    }

module _ (ds : List Declaration) (ss : List Setting) (given : List Table) (stand : TablesStand ss ds (tables_of ds))
    (fit : TablesFit ss (flat_map item_tables ds) given) where
  -- of each table that is given
  pub shape_at : (k : ℕ) (g : Table) → slice_get given k ≡ Some g → AreEntries (span_from g.lo (length g.values)) (length g.values)
  shape_at k g there =
      let text = zip_right (IsTableFit ss) (flat_map item_tables ds) given k g fit there in
      let symbol = zip_right (Declares 0 ds) (tables_of ds) (flat_map item_tables ds) k text.0 (declared 0 ds) text.1 in
      let span = stand k symbol.0 symbol.1 in
      let same : tree.table span.1.0 ≡ tree.table text.0 =
      same_Some _ _ (sym span.1.1 ∙ ap (slice_get ds) (symbol.2.number ∙ omega arith) ∙ symbol.2.there) in
      let one : span.1.0 ≡ text.0 = cc in
      let bins = subst (λ (t : TableText). IsBins (affine_value ss t.span.first) (affine_value ss t.span.last) (Ok span.0)) one span.1.2 in
      entries_are _ _ g.lo (length g.values) span.0 bins text.2.first text.2.last

  pub entries_named_by : (x : List ℕ) → IsNameOf IsTableKind (symbols_declared_by_items ds) x → HasEntries given x
  entries_named_by x n =
      let first : find (λ e. bytes_eq e.name x) (tables_of ds) ≡ Some n.declared =
      find-filter (λ e. bytes_eq e.name x) keeps (symbols_declared_by_items ds) n.declared (declared_found (symbols_declared_by_items ds) x n.declared n.found)
      (kept n.declared.kind n.kind) in
      let text =
      find_zip (Declares 0 ds) (λ e. bytes_eq e.name x) (λ t. bytes_eq t.name x)
      (λ s t h. ap (λ (y : List ℕ). bytes_eq y x) h.name) (tables_of ds) (flat_map item_tables ds) n.declared (declared 0 ds) first in
      let table =
      find_zip (IsTableFit ss) (λ t. bytes_eq t.name x) (λ t. bytes_eq t.name x) (λ t g h. ap (λ (y : List ℕ). bytes_eq y x) (sym h.name))
      (flat_map item_tables ds) given text.0 fit text.1 in
      let at = find_at (λ t. bytes_eq t.name x) given table.0 table.1 in
      record { table = table.0; named = table.1; entries = shape_at at.0 table.0 at.1 }

-- ---- and its numbers

pub entries_fit : (given : List Table) (x : List ℕ) → AreSmallTables given → HasEntries given x → IsEntries (entries_of (table_named given x))
entries_fit given x small h =
    let at = find_at (λ t. bytes_eq t.name x) given h.table h.named in
    subst (λ (o : Option Table). IsEntries (entries_of o)) (sym h.named) (record {
      shape = h.entries;
      fit = (all_at IsSmallTable given at.0 h.table small at.1).fit;
    })

name_long : (x : List ℕ) → is_identifier_of_name_length x ≡ true → (1 ≤ length x) × (length x ≤ 32)
name_long [] h = absurd (false≢true h)
name_long (b ∷ x) h =
    let most = (and_parts (is_identifier (b ∷ x)) (nat_le (length (b ∷ x)) 32) h).1 in (omega arith, grind (arith, nat_tests, most))

-- each table that is given is one of a job
pub tables_are : (ds : List Declaration) (ss : List Setting) (given : List Table) → TablesStand ss ds (tables_of ds)
    → TablesFit ss (flat_map item_tables ds) given → AreSmallTables given → All IsTable given
tables_are ds ss given stand fit small = λ k d less.
    let g = small k d less in
    let long = name_long (slice_index_or given k d).name g.named in
    record {
      named = long.0;
      short = long.1;
      shape = shape_at ds ss given stand fit k (slice_index_or given k d) (slice_get-get_or given k d less);
      fit = g.fit;
    }
