-- A list of identities that rises, and the set that it stands for.
use Rattle.std.specs.Prelude.{◌≡◌, ◌<◌, ◌+◌, ◌||◌, ℕ, Bool, true, false, cond, not, List, [], ◌∷◌, ◌++◌, refl, filter, length, map}
use Rattle.std.proofs.Common.{ap, sym, ◌∙◌, arith, get_or, take}
use Rattle.std.proofs.lemmas.Cmp.{tied_itself}
use Rattle.std.proofs.lemmas.List.Filters.{length-filter_more}
use Rattle.std.proofs.lemmas.List.Folds.{list_any-append, list_any-from_Any}
use Rattle.std.proofs.lemmas.Map.Views.{Contains-from_any}
use Rattle.std.specs.Cmp.{Equal-is}
use Rattle.std.specs.FinMap as map_
use Rattle.std.specs.FinMap.{entries-insert, len-empty, len-entries, put}
use Rattle.std.specs.FinMap.Entries.{by_order}
use Rattle.std.specs.List.{Any, Contains, list_any}
use Rattle.std.specs.List.Sorted.{IsStrictlySortedBy}
use Rattle.std.specs.Ordering.{eq_by_cmp, is_eq}
use Rattle.identity.specs.Keys.{ids_cmp}
use Rattle.identity.specs.declared.job_ids.JobId.{JobId}
use Rattle.states.proofs.IdLaws.{has-no_ids, has-union, has-with_all, has-with_ids, ids_order, same_id_set, same_ids}
use Rattle.states.specs.IdSets.{has, ids_in_set, no_ids, union, with_all, with_ids}
use Rattle.id_lists.specs.IdLists.{id_set, ids_lacked}

-- ---- the set of a list
pub none : id_set [] ≡ no_ids
unfolding with_all
none = refl

pub has-id_set : (ids : List JobId) (i : JobId) → has (id_set ids) i ≡ list_any (eq_by_cmp ids_cmp i) ids
has-id_set ids i = has-with_all no_ids ids i ∙ ap (λ b. b || list_any (eq_by_cmp ids_cmp i) ids) (has-no_ids i)

-- ---- the list of a set
abbrev pairs : List JobId → List (JobId × Unit {0})
pairs xs = map (λ (i : JobId). (i, tt)) xs

no_length : {A : Type 0} (es : List A) → length es ≡ 0 → es ≡ []
no_length [] e = refl
no_length (x ∷ es) e = absurd (omega arith)

put_first : (x : JobId) (xs : List JobId) → IsStrictlySortedBy ids_cmp (x ∷ xs) → put ids_cmp x tt (pairs xs) ≡ (x, tt) ∷ pairs xs
unfolding IsStrictlySortedBy
put_first x [] h = refl
put_first x (y ∷ ys) h =
    ap (λ o. by_order o ((x, tt) ∷ (y, tt) ∷ pairs ys) ((y, tt) ∷ pairs ys) ((y, tt) ∷ put ids_cmp x tt (pairs ys))) h.0.0

entries_of : (xs : List JobId) → IsStrictlySortedBy ids_cmp xs → map_.entries (id_set xs) ≡ pairs xs
unfolding IsStrictlySortedBy no_ids with_all with_ids
entries_of [] h = no_length (map_.entries map_.empty) (sym (len-entries map_.empty) ∙ len-empty ids_cmp (Unit {0}))
entries_of (x ∷ xs) h =
    entries-insert ids_order (id_set xs) x tt ∙ ap (put ids_cmp x tt) (entries_of xs h.1) ∙ put_first x xs h

firsts : (xs : List JobId) → map (λ (e : JobId × Unit {0}). e.0) (pairs xs) ≡ xs
firsts [] = refl
firsts (x ∷ xs) = ap (λ ys. x ∷ ys) (firsts xs)

pub listed : (xs : List JobId) → IsStrictlySortedBy ids_cmp xs → ids_in_set (id_set xs) ≡ xs
unfolding ids_in_set
listed xs h = ap (map (λ (e : JobId × Unit {0}). e.0)) (entries_of xs h) ∙ firsts xs

-- ---- lists of the same identities
both_ways : (a b : Bool) → (a ≡ true → b ≡ true) → (b ≡ true → a ≡ true) → a ≡ b
both_ways true true h k = refl
both_ways true false h k = sym (h refl)
both_ways false true h k = k refl
both_ways false false h k = refl

equal : (a b : JobId) → eq_by_cmp ids_cmp a b ≡ true → a ≡ b
equal a b e = same_ids a b ((Equal-is (ids_cmp a b)).0 e)

in_it : (xs : List JobId) (i : JobId) → list_any (eq_by_cmp ids_cmp i) xs ≡ true → Contains xs i
in_it xs i h = Contains-from_any {eq = eq_by_cmp ids_cmp} equal i xs h

among : (xs ys : List JobId) → ((x : JobId) → Contains xs x → Any (λ y. eq_by_cmp ids_cmp x y ≡ true) ys) → (i : JobId)
    → list_any (eq_by_cmp ids_cmp i) xs ≡ true → list_any (eq_by_cmp ids_cmp i) ys ≡ true
among xs ys each i h = list_any-from_Any (eq_by_cmp ids_cmp i) ys (each i (in_it xs i h))

found : (xs : List JobId) (i : JobId) → Contains xs i → list_any (eq_by_cmp ids_cmp i) xs ≡ true
found xs i h = list_any-from_Any (eq_by_cmp ids_cmp i) xs (h.0, i, h.1, h.2, ap is_eq (tied_itself ids_order i))

-- what is sorted once stands for the same set
pub once : (old new : List JobId) → ((x : JobId) → Contains old x → Any (λ y. eq_by_cmp ids_cmp x y ≡ true) new)
    → ((x : JobId) → Contains new x → Contains old x) → id_set new ≡ id_set old
once old new kept none_new =
    same_id_set (id_set new) (id_set old)
    (λ i. has-id_set new i
    ∙ both_ways (list_any (eq_by_cmp ids_cmp i) new) (list_any (eq_by_cmp ids_cmp i) old)
    (λ h. found old i (none_new i (in_it new i h))) (λ h. among old new kept i h)
    ∙ sym (has-id_set old i))

-- ---- more identities
pub two_lists : (xs ys : List JobId) → id_set (xs ++ ys) ≡ union (id_set xs) (id_set ys)
two_lists xs ys =
    same_id_set (id_set (xs ++ ys)) (union (id_set xs) (id_set ys))
    (λ i. has-id_set (xs ++ ys) i ∙ list_any-append (eq_by_cmp ids_cmp i) xs ys
    ∙ sym (has-union (id_set xs) (id_set ys) i ∙ (λ k. has-id_set xs i k || has-id_set ys i k)))

or_false : (a : Bool) → (a || false) ≡ a
or_false true = refl
or_false false = refl

or_comm : (a b : Bool) → (a || b) ≡ (b || a)
or_comm true true = refl
or_comm true false = refl
or_comm false true = refl
or_comm false false = refl

pub one_more : (xs : List JobId) (i : JobId) → id_set (xs ++ i ∷ []) ≡ with_ids (id_set xs) i
one_more xs i =
    same_id_set (id_set (xs ++ i ∷ [])) (with_ids (id_set xs) i)
    (λ j. has-id_set (xs ++ i ∷ []) j ∙ list_any-append (eq_by_cmp ids_cmp j) xs (i ∷ [])
    ∙ or_comm (list_any (eq_by_cmp ids_cmp j) xs) (eq_by_cmp ids_cmp j i || false)
    ∙ (λ k. or_false (eq_by_cmp ids_cmp j i) k || sym (has-id_set xs j) k)
    ∙ sym (has-with_ids (id_set xs) i j))

-- ---- identities that a list lacks
abbrev pub is_lacked : List JobId → JobId → Bool
is_lacked xs i = not (list_any (eq_by_cmp ids_cmp i) xs)

pub one_counted : (xs ys : List JobId) (k : ℕ) (i : JobId) (n m : ℕ) (b : Bool) → k < length ys → i ≡ get_or ys k i
    → list_any (eq_by_cmp ids_cmp i) xs ≡ b → n ≡ length (filter (is_lacked xs) (take k ys)) → m ≡ n + cond (not b) 1 0
    → m ≡ length (filter (is_lacked xs) (take (k + 1) ys))
one_counted xs ys k i n m b within at is count more =
    more ∙ (λ j. count j + cond (not (sym is j)) 1 0) ∙ ap (λ x. length (filter (is_lacked xs) (take k ys)) + cond (is_lacked xs x) 1 0) at
    ∙ sym (length-filter_more (is_lacked xs) ys k i within)

filter_alike : (p q : JobId → Bool) → ((i : JobId) → p i ≡ q i) → (xs : List JobId) → filter p xs ≡ filter q xs
filter_alike p q same xs = ap (λ (r : JobId → Bool). filter r xs) (λ j i. same i j)

pub all_counted : (xs ys : List JobId) → IsStrictlySortedBy ids_cmp ys
    → length (filter (is_lacked xs) ys) ≡ length (ids_lacked (id_set xs) (id_set ys))
unfolding ids_lacked
all_counted xs ys h =
    ap length (filter_alike (is_lacked xs) (λ i. not (has (id_set xs) i)) (λ i. ap not (sym (has-id_set xs i))) ys
    ∙ ap (filter (λ i. not (has (id_set xs) i))) (sym (listed ys h)))
