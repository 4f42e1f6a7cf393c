-- What stood at a key, put back after a change there, leaves the tables as they were.
use Rattle.std.proofs.Common.{◌≡◌, ◌++◌, true, false, cond, List, [], ◌∷◌, Option, Some, None, refl, ap, ◌∙◌}
use Rattle.std.specs.BTreeMap.{insert_entry, is_at}
use Rattle.std.specs.Map.{lookup, set_value}
use Rattle.std.specs.Ordering.{is_eq, match_ordering}
use Rattle.std.specs.declared.cmp.Ordering.TheVariants.{Less, Equal, Greater}
use Rattle.std.proofs.lemmas.Cmp.{tied_itself}
use Rattle.identity.proofs.KeyLaws.{key_order}
use Rattle.identity.specs.declared.key.Key.{Key}
use Rattle.identity.specs.Keys.{key_cmp}
use Rattle.tile_fact.specs.declared.fact.Fact.{Fact}
use Rattle.fact_store.proofs.TableLaws.{first, key_below_through, none_at}
use Rattle.fact_store.specs.inside.Tables.{Former, Tables, stand, undo_one, undone}

-- one change more is undone first
pub undone_more : (us : List Former) (u : Former) (es : Tables) → undone (us ++ u ∷ []) es ≡ undone us (undo_one u es)
undone_more [] u es = refl
undone_more (v ∷ us) u es = ap (undo_one v) (undone_more us u es)

-- tables of other keys stay in front
undo_behind : (k : Key) (o : Option (List Fact)) (e : Key × List Fact) (es : Tables) → is_eq (key_cmp k e.0) ≡ false
    → undo_one (k, o) (e ∷ es) ≡ e ∷ undo_one (k, o) es
undo_behind k None e es other = ap (λ b. cond b es (e ∷ undo_one (k, None) es)) other
undo_behind k (Some xs) e es other = ap (λ b. cond b ((e.0, xs) ∷ es) (e ∷ undo_one (k, Some xs) es)) other

own : (k : Key) → is_eq (key_cmp k k) ≡ true
own k = ap is_eq (tied_itself key_order k)

pub undo_put : (es : Tables) (k : Key) (xs : List Fact) → stand es ≡ true
    → undo_one (k, lookup (is_at (key_cmp k)) es) (insert_entry key_cmp es k xs) ≡ es
undo_put [] k xs h = ap (λ b. cond b [] ((k, xs) ∷ [])) (own k)
undo_put (e ∷ es) k xs h =
    let s = first e es h in
    elim (key_cmp k e.0) as
    (λ o. key_cmp k e.0 ≡ o
    → undo_one (k, cond (is_eq o) (Some e.1) (lookup (is_at (key_cmp k)) es))
    (match_ordering o ((k, xs) ∷ e ∷ es) ((e.0, xs) ∷ es) (e ∷ insert_entry key_cmp es k xs)) ≡ e ∷ es) [
      | Less ↦ λ lt.
          ap (λ r. undo_one (k, r) ((k, xs) ∷ e ∷ es)) (none_at k es (key_below_through k e.0 es lt s.low))
          ∙ ap (λ b. cond b (e ∷ es) ((k, xs) ∷ undo_one (k, None) (e ∷ es))) (own k)
      | Equal ↦ λ same. ap (λ o. cond (is_eq o) ((e.0, e.1) ∷ es) ((e.0, xs) ∷ undo_one (k, Some e.1) es)) same
      | Greater ↦ λ gt.
          undo_behind k (lookup (is_at (key_cmp k)) es) e (insert_entry key_cmp es k xs) (ap is_eq gt)
          ∙ ap (λ ts. e ∷ ts) (undo_put es k xs s.rest)
    ] refl

-- where a key has no table, none is put back
pub set_missing : (k : Key) (es : Tables) (xs : List Fact) → lookup (is_at (key_cmp k)) es ≡ None
    → set_value (is_at (key_cmp k)) es xs ≡ es
set_missing k [] xs none = refl
set_missing k (e ∷ es) xs none =
    elim (key_cmp k e.0) as
    (λ o. cond (is_eq o) (Some e.1) (lookup (is_at (key_cmp k)) es) ≡ None
    → cond (is_eq o) ((e.0, xs) ∷ es) (e ∷ set_value (is_at (key_cmp k)) es xs) ≡ e ∷ es) [
      | Less ↦ λ rest. ap (λ ts. e ∷ ts) (set_missing k es xs rest)
      | Equal ↦ λ some. cc
      | Greater ↦ λ rest. ap (λ ts. e ∷ ts) (set_missing k es xs rest)
    ] none
