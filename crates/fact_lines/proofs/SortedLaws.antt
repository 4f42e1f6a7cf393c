-- Lists that rise, and what files hold together.
use Rattle.std.proofs.Common.{◌≡◌, ℕ, inl, inr, ◌⊎◌, Bool, true, false, not, cond, List, [], ◌∷◌, Some, None, refl, sym, subst}
use Rattle.std.proofs.Common.{ap, ◌∙◌, arith, filter, ◌↔◌}
use Rattle.std.proofs.lemmas.Cmp.{eq_by_cmp_equiv}
use Rattle.std.proofs.lemmas.List.Elements.{All-contains, All-contains_itself, All-filter, filter_passes, Contains-append_right}
use Rattle.std.proofs.lemmas.List.Elements.{Contains-append_cases, Contains-push_cases}
use Rattle.std.proofs.lemmas.List.Kept.{IsStrictlySortedBy-filter}
use Rattle.std.proofs.lemmas.Map.Lookups.{exact_bytes}
use Rattle.std.proofs.lemmas.Map.Views.{list_any-from_Contains, Contains-from_any}
use Rattle.std.specs.Cmp.Lexicographic.{slice_cmp}
use Rattle.std.specs.declared.cmp.Ordering.{Ordering}
use Rattle.std.specs.declared.cmp.Ordering.TheVariants.{Less, Equal, Greater}
use Rattle.std.specs.List.{Any, AllByRecursion, Contains}
use Rattle.std.specs.List.Sorted.{IsStrictlySortedBy}
use Rattle.std.specs.Ordering.{eq_by_cmp, is_eq, nat_cmp, ordering_then}
use Rattle.identity.specs.declared.job_ids.JobId.{JobId}
use Rattle.identity.specs.Keys.{ids_in, ids_cmp}
use Rattle.tile_fact.specs.declared.fact.Fact.{Fact}
use Rattle.tile_fact.specs.FactFile.{is_retired}
use Rattle.tile_fact.specs.Order.{fact_cmp, RisesBehind}
use Rattle.tile_fact.proofs.OrderLaws.{same_fact}
use Rattle.tile_fact.proofs.PairLaws.{ids_order}
use Rattle.fact_lines.specs.inside.Gathering.{Gathers}
use Rattle.fact_lines.specs.Texts.{IsJoin, AreRetiredOn, IsFactOn, lines}

is_equal : (o : Ordering) → is_eq o ≡ true → o ≡ Equal
is_equal Less h = cc
is_equal Equal h = refl
is_equal Greater h = cc

-- ---- identities

tied : (a b : Ordering) → ordering_then a b ≡ Equal → (a ≡ Equal) × (b ≡ Equal)
tied Less b h = cc
tied Equal b h = (refl, h)
tied Greater b h = cc

one_pair : (a b : JobId) → a.program ≡ b.program → a.input ≡ b.input → a ≡ b
one_pair a b p q i = record { program = p i; input = q i }

same_ids : (a b : JobId) → ids_cmp a b ≡ Equal → a ≡ b
same_ids a b h =
    let parts = tied (slice_cmp nat_cmp a.program b.program) _ h in one_pair a b (exact_bytes _ _ parts.0) (exact_bytes _ _ parts.1)

-- ---- a sorted list

module _ {X : Type 0} (cmp : X → X → Ordering) where
  rises_after : (before : X) (xs : List X) → AllByRecursion (λ y. cmp before y ≡ Less) xs → IsStrictlySortedBy cmp xs
      → RisesBehind cmp (Some before) xs
  unfolding IsStrictlySortedBy
  rises_after before [] below strict = tt
  rises_after before (x ∷ xs) below strict = (below.0, rises_after x xs strict.0 strict.1)

  rises_all : (xs : List X) → IsStrictlySortedBy cmp xs → RisesBehind cmp None xs
  unfolding IsStrictlySortedBy
  rises_all [] strict = tt
  rises_all (x ∷ xs) strict = (tt, rises_after x xs strict.0 strict.1)

  -- a list in order and without repeats
  pub record IsSortedOnce (old new : List X) : Type 0 where
    pub strict : IsStrictlySortedBy cmp new
    pub kept : (x : X) → Contains old x → Any (λ y. eq_by_cmp cmp x y ≡ true) new
    pub none_new : (x : X) → Contains new x → Contains old x

  has_it : ((a b : X) → cmp a b ≡ Equal → a ≡ b) → (xs : List X) (x : X) → Any (λ y. eq_by_cmp cmp x y ≡ true) xs → Contains xs x
  has_it one xs x (k, y, within, at, same) =
      let own : x ≡ y = one x y (is_equal (cmp x y) same) in
      subst (λ (z : X). Contains xs z) (sym own) (k, within, at)

pub sorted_as : {X : Type 0} (cmp wanted : X → X → Ordering) → ((a b : X) → cmp a b ≡ wanted a b) → (old new : List X)
    → IsStrictlySortedBy cmp new → ((x : X) → Contains old x → Any (λ y. eq_by_cmp cmp x y ≡ true) new)
    → ((x : X) → Contains new x → Contains old x) → IsSortedOnce wanted old new
sorted_as {X = X} cmp wanted same old new strict kept none_new =
    let whole : cmp ≡ wanted = λ i a b. same a b i in
    record {
      strict = subst (λ (c : X → X → Ordering). IsStrictlySortedBy c new) whole strict;
      kept = λ x h. subst (λ (c : X → X → Ordering). Any (λ y. eq_by_cmp c x y ≡ true) new) whole (kept x h);
      none_new = none_new;
    }

-- ---- a part of a list

here_or_behind : {X : Type 0} (y : X) (ys : List X) (x : X) → Contains (y ∷ ys) x → (y ≡ x) ⊎ Contains ys x
here_or_behind y ys x h = elim (Contains-append_cases (y ∷ []) ys x h) [
  | inl k ↦ elim (Contains-push_cases [] y x k) [ inl n ↦ absurd (omega (arith, n.1)) | inr e ↦ inl e ]
  | inr k ↦ inr k
]

kept_in : {X : Type 0} (p : X → Bool) (y : X) (ys : List X) (x : X) → p x ≡ true → (y ≡ x) ⊎ Contains ys x
    → (Contains ys x → Contains (filter p ys) x) → (b : Bool) → p y ≡ b → Contains (cond b (y ∷ filter p ys) (filter p ys)) x
kept_in {X = X} p y ys x t (inl s) rest true e = subst (λ (z : X). Contains (y ∷ filter p ys) z) s (0, omega arith, refl)
kept_in p y ys x t (inl s) rest false e = let clash : true ≡ false = sym t ∙ sym (ap p s) ∙ e in cc
kept_in p y ys x t (inr k) rest true e = Contains-append_right (y ∷ []) (filter p ys) x (rest k)
kept_in p y ys x t (inr k) rest false e = rest k

Contains-filter : {X : Type 0} (p : X → Bool) (xs : List X) (x : X) → Contains xs x → p x ≡ true → Contains (filter p xs) x
Contains-filter p [] x h t = h
Contains-filter p (y ∷ ys) x h t = kept_in p y ys x t (here_or_behind y ys x h) (λ k. Contains-filter p ys x k t) (p y) refl

-- ---- what files hold together

not_true : (b : Bool) → b ≡ false → not b ≡ true
not_true true h = cc
not_true false h = refl

only_one : (b : Bool) → not b ≡ true → b ≡ true → ⊥
only_one true h k = cc
only_one false h k = cc

module _
    (text : List ℕ) (old_jobs jobs : List JobId) (old sorted facts : List Fact) (gathered : Gathers (lines text) old_jobs old)
    (ids : IsSortedOnce ids_cmp old_jobs jobs) (all : IsSortedOnce fact_cmp old sorted)
    (left : facts ≡ filter (λ fact. not (is_retired jobs fact)) sorted)
  where
    live : Fact → Bool
    live fact = not (is_retired jobs fact)

    retired_here : (i : JobId) → Contains jobs i ↔ AreRetiredOn (lines text) i
    retired_here i = (
      (λ has. (gathered.same_ids i).0 (ids.none_new i has)),
      λ on. has_it ids_cmp same_ids jobs i (ids.kept i ((gathered.same_ids i).1 on)),
    )

    is_gone : (fact : Fact) → AreRetiredOn (lines text) (ids_in fact.key) → is_retired jobs fact ≡ true
    is_gone fact on = list_any-from_Contains (eq_by_cmp_equiv ids_order) (ids_in fact.key) jobs ((retired_here (ids_in fact.key)).1 on)

    is_live : (fact : Fact) → ¬ AreRetiredOn (lines text) (ids_in fact.key) → (b : Bool) → is_retired jobs fact ≡ b → b ≡ false
    is_live fact none true is =
        let has =
        Contains-from_any (λ x y same. same_ids x y (is_equal (ids_cmp x y) same)) (ids_in fact.key) jobs is in
        absurd (none ((retired_here (ids_in fact.key)).0 has))
    is_live fact none false is = refl

    there : (fact : Fact) → Contains (filter (λ f. not (is_retired jobs f)) sorted) fact
        → IsFactOn (lines text) fact × ¬ AreRetiredOn (lines text) (ids_in fact.key)
    there fact has =
        let p : Fact → Bool = λ f. not (is_retired jobs f) in
        let inside = All-contains (Contains sorted) (filter p sorted) fact (All-filter p (Contains sorted) sorted (All-contains_itself sorted)) has in
        let passes = All-contains (λ f. p f ≡ true) (filter p sorted) fact (filter_passes p sorted) has in (
          (gathered.same fact).0 (all.none_new fact inside),
          λ on. only_one (is_retired jobs fact) passes (is_gone fact on),
        )

    back : (fact : Fact) → IsFactOn (lines text) fact × ¬ AreRetiredOn (lines text) (ids_in fact.key)
        → Contains (filter (λ f. not (is_retired jobs f)) sorted) fact
    back fact on =
        let inside = has_it fact_cmp same_fact sorted fact (all.kept fact ((gathered.same fact).1 on.0)) in
        Contains-filter (λ f. not (is_retired jobs f)) sorted fact inside
        (not_true (is_retired jobs fact) (is_live fact on.1 (is_retired jobs fact) refl))

    pub is_join : IsJoin text jobs facts
    is_join = record {
      good = gathered.good;
      ids_rise = rises_all ids_cmp jobs ids.strict;
      rise =
          subst (λ (l : List Fact). RisesBehind fact_cmp None l) (sym left)
          (rises_all fact_cmp (filter (λ f. not (is_retired jobs f)) sorted)
          (IsStrictlySortedBy-filter fact_cmp (λ f. not (is_retired jobs f)) sorted all.strict));
      same_ids = retired_here;
      same = λ fact. (
        (λ has. there fact (subst (λ (l : List Fact). Contains l fact) left has)),
        λ on. subst (λ (l : List Fact). Contains l fact) (sym left) (back fact on),
      );
    }
