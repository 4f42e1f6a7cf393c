-- How many tables items declare.
use Rattle.std.proofs.Common.{ℕ, suc, ◌+◌, ◌≡◌, refl, sym, ap, ◌∙◌, Bool, true, false, List, [], ◌∷◌, ◌++◌, length, filter}
use Rattle.pipe_tree.specs.Tree.{declarations}
use Rattle.pipe_tree.specs.declared.tree.Item.{Item}
use Rattle.pipe_tree.specs.declared.tree.Item.TheVariants as items
use Rattle.pipe_tree.specs.declared.tree.Names.{Names}
use Rattle.pipe_tree.specs.declared.tree.Names.TheVariants.{One, Three}
use Rattle.pipe_checks.specs.Names.{is_table, names_from, names_of, tables_of}
use Rattle.pipe_checks.specs.declared.symbol.Symbol.{Symbol}

abbrev pub is_table_item : Item → Bool
is_table_item (items.Param p) = false
is_table_item (items.Image i) = false
is_table_item (items.Table t) = true
is_table_item (items.Func f) = false
is_table_item (items.Accum a) = false
is_table_item (items.Output o) = false

abbrev tables_in : List Symbol → List Symbol
tables_in ds = filter (λ (d : Symbol). is_table d.kind) ds

no_plane : (n : ℕ) (ns : Names) (ds : List Symbol) → tables_in (names_of n ns ++ ds) ≡ tables_in ds
no_plane n (One x) ds = refl
no_plane n (Three x y z) ds = refl

counted : (n : ℕ) (is : List Item) → length (filter is_table_item is) ≡ length (tables_in (names_from n (declarations is)))
counted n [] = refl
counted n (items.Param p ∷ is) = counted (n + 1) is
counted n (items.Image i ∷ is) = counted (n + 1) is ∙ ap length (sym (no_plane n i.names (names_from (n + 1) (declarations is))))
counted n (items.Table t ∷ is) = ap suc (counted (n + 1) is)
counted n (items.Func f ∷ is) = counted (n + 1) is
counted n (items.Accum a ∷ is) = counted (n + 1) is
counted n (items.Output o ∷ is) = counted (n + 1) is

pub tables_counted : (is : List Item) → length (filter is_table_item is) ≡ length (tables_of (declarations is))
tables_counted is = counted 0 is
