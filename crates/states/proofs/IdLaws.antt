-- Identities are totally ordered, and sets of the same ones are one.
use Rattle.std.proofs.Common.{◌≡◌, ap, refl, rules, sym, ◌∙◌}
use Rattle.std.specs.Prelude.{Bool, true, false, ◌||◌, cond, List, [], ◌∷◌, Option, None, Some}
use Rattle.std.specs.FinMap as map_
use Rattle.std.specs.FinMap.{contains_key-keys, get-empty, get-insert, same_map}
use Rattle.std.specs.List.{list_any}
use Rattle.std.specs.Option.{is_some}
use Rattle.std.specs.declared.cmp.Ordering.{Ordering}
use Rattle.std.specs.declared.cmp.Ordering.TheVariants.{Less, Equal, Greater}
use Rattle.std.specs.Cmp.{IsTotalOrder, on_total, then_total}
use Rattle.std.specs.Cmp.Lexicographic.{slice_cmp, nat_list_cmp_total}
use Rattle.std.specs.Ordering.{eq_by_cmp, nat_cmp, ordering_then}
use Rattle.std.proofs.lemmas.Map.Lookups.{exact_bytes}
use Rattle.states.specs.IdSets.{IdSet, has, ids_in_set, no_ids, union, with_all, with_ids}
use Rattle.identity.specs.declared.job_ids.JobId.{JobId}
use Rattle.identity.specs.Keys.{ids_cmp}

pub ids_order : IsTotalOrder ids_cmp
ids_order = then_total (on_total (λ i. i.program) nat_list_cmp_total) (on_total (λ i. i.input) nat_list_cmp_total)

tied : (a b : Ordering) → ordering_then a b ≡ Equal → (a ≡ Equal) × (b ≡ Equal)
tied Less b h = absurd (search rules)
tied Equal b h = (refl, h)
tied Greater b h = absurd (search rules)

one_pair : (a b : JobId) → a.program ≡ b.program → a.input ≡ b.input → a ≡ b
one_pair a b p q i = record { program = p i; input = q i }

pub same_ids : (a b : JobId) → ids_cmp a b ≡ Equal → a ≡ b
same_ids a b h =
    let parts = tied (slice_cmp nat_cmp a.program b.program) _ h in one_pair a b (exact_bytes _ _ parts.0) (exact_bytes _ _ parts.1)

-- ---- what is in a set
marked : (b : Bool) (x : Option (Unit {0})) → is_some (cond b (Some tt) x) ≡ (b || is_some x)
marked true x = refl
marked false x = refl

mark : (x y : Option (Unit {0})) → is_some x ≡ is_some y → x ≡ y
mark None None e = refl
mark None (Some u) e = cc
mark (Some u) None e = cc
mark (Some u) (Some v) e = refl

pub same_id_set : (s t : IdSet) → ((i : JobId) → has s i ≡ has t i) → s ≡ t
unfolding has
same_id_set s t h = same_map ids_order same_ids s t (λ i. mark (map_.get s i) (map_.get t i) (h i))

pub has-no_ids : (i : JobId) → has no_ids i ≡ false
unfolding has no_ids
has-no_ids i = ap is_some (get-empty ids_cmp i)

pub has-with_ids : (s : IdSet) (i j : JobId) → has (with_ids s i) j ≡ (eq_by_cmp ids_cmp j i || has s j)
unfolding has with_ids
has-with_ids s i j = ap is_some (get-insert ids_order s i tt j) ∙ marked (eq_by_cmp ids_cmp j i) (map_.get s j)

pub has-ids_in_set : (s : IdSet) (i : JobId) → has s i ≡ list_any (eq_by_cmp ids_cmp i) (ids_in_set s)
unfolding has ids_in_set
has-ids_in_set s i = contains_key-keys s i

or_false : (a : Bool) → (a || false) ≡ a
or_false true = refl
or_false false = refl

or_swap : (a b c : Bool) → (a || (b || c)) ≡ (b || (a || c))
or_swap true true c = refl
or_swap true false c = refl
or_swap false b c = refl

pub has-with_all : (s : IdSet) (is : List JobId) (j : JobId) → has (with_all s is) j ≡ (has s j || list_any (eq_by_cmp ids_cmp j) is)
unfolding with_all
has-with_all s [] j = sym (or_false (has s j))
has-with_all s (i ∷ is) j =
    has-with_ids (with_all s is) i j ∙ ap (λ b. eq_by_cmp ids_cmp j i || b) (has-with_all s is j)
    ∙ or_swap (eq_by_cmp ids_cmp j i) (has s j) (list_any (eq_by_cmp ids_cmp j) is)

pub has-union : (s t : IdSet) (i : JobId) → has (union s t) i ≡ (has s i || has t i)
unfolding union
has-union s t i = has-with_all s (ids_in_set t) i ∙ ap (λ b. has s i || b) (sym (has-ids_in_set t i))
