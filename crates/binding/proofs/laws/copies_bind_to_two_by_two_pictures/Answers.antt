-- The job, computed, its ranks, and the names of its program.
use Rattle.std.proofs.Common.{ℕ, zero, suc, arith, ◌<◌, ◌≡◌, ℤ, pos, List, [], ◌∷◌, false, Option, Some, None, inl, inr, subst, refl}
use Rattle.std.specs.Prelude.{true, IsTrue, is_some, slice_get, slice_index, take}
use Rattle.std.proofs.lemmas.Bool.{false≢true}
use Rattle.pipe_tree.specs.Tree.{Declaration}
use Rattle.pipe_checks.specs.declared.symbol.Symbol.{Symbol}
use Rattle.pipe_checks.specs.Graph.{links_at}
use Rattle.pipe_checks.specs.inside.Search.{rank_over}
use Rattle.pipe_checks.proofs.Numbering.{ranking-from_recurrence}
use Rattle.pipe_checks.specs.Names.{symbols_declared_by_items, number_of}
use Rattle.pipe_checks.specs.Accesses.{graph_of}
use Rattle.pipe_bounds.specs.Within.{AllSet}
use Rattle.pipe_checks.specs.Uses.{index_places}
use Rattle.pipe_checks.specs.Checking.{DeclaresAgain, IsTwice, IsNamed, is_good}
use Rattle.pipe_checks.specs.Twice.{item_variables, has_variable_with_name_used_twice}
use Rattle.binding.specs.Binding.{settings_for}
use Rattle.binding.specs.Texts.{planes, copying, unset, two_by_two}
use Rattle.binding.proofs.laws.copies_bind_to_two_by_two_pictures.Goals as goal

each_rank : (s : ℕ) → s < 2 → slice_index (0 ∷ 1 ∷ []) s ≡ rank_over (slice_index (0 ∷ 1 ∷ [])) (links_at (graph_of copying) s)
each_rank zero low = refl
each_rank (suc zero) low = refl
each_rank (suc (suc s)) low = absurd (omega arith)

-- ---- lists

-- P holds of each element
abbrev Each : {X : Type 0} → (X → Type 0) → List X → Type 0
Each P [] = Unit {0}
Each P (x ∷ xs) = P x × Each P xs

each_at : {X : Type 0} (P : X → Type 0) (xs : List X) → Each P xs → (k : ℕ) (x : X) → slice_get xs k ≡ Some x → P x
each_at P [] each k x is = absurd (cc)
each_at P (y ∷ ys) each zero x is = let same : y ≡ x = cc in subst P same each.0
each_at P (y ∷ ys) each (suc k) x is = each_at P ys each.1 k x is

-- ---- names

at_some : {X : Type 0} (P : X → Type 0) (x y : X) → Some x ≡ Some y → P x → P y
at_some P x y is p = let same : x ≡ y = cc in subst P same p

new_at : (place : ℕ) (d : Symbol) → slice_get (symbols_declared_by_items copying) place ≡ Some d
    → number_of (take place (symbols_declared_by_items copying)) d.name ≡ None
new_at zero = λ d is. refl
new_at (suc zero) = λ d is. at_some (λ (e : Symbol). number_of (take 1 (symbols_declared_by_items copying)) e.name ≡ None) _ d is refl
new_at (suc (suc zero)) = λ d is. at_some (λ (e : Symbol). number_of (take 2 (symbols_declared_by_items copying)) e.name ≡ None) _ d is refl
new_at (suc (suc (suc zero))) = λ d is. at_some (λ (e : Symbol). number_of (take 3 (symbols_declared_by_items copying)) e.name ≡ None) _ d is refl
new_at (suc (suc (suc (suc place)))) = λ d is. absurd (cc)

declared_once : (k : ℕ) → DeclaresAgain (symbols_declared_by_items copying) k → ⊥
declared_once k x = false≢true (subst (λ (o : Option ℕ). IsTrue (is_some o)) (new_at x.place x.again x.there) x.before)

variables_are_new : (k : ℕ) (d : Declaration) → slice_get copying k ≡ Some d → has_variable_with_name_used_twice (symbols_declared_by_items copying) (item_variables d) ≡ false
variables_are_new =
    each_at (λ d. has_variable_with_name_used_twice (symbols_declared_by_items copying) (item_variables d) ≡ false) copying (refl, (refl, (refl, (refl, (refl, tt)))))

twice_is_none : (k : ℕ) (d : Declaration) → has_variable_with_name_used_twice (symbols_declared_by_items copying) (item_variables d) ≡ false
    → IsTwice (symbols_declared_by_items copying) k d → ⊥
twice_is_none k d new (inl again) = declared_once k again
twice_is_none k d new (inr varies) = false≢true (subst IsTrue new varies)

named : IsNamed copying
unfolding index_places
named = record {
  once = λ k d is. twice_is_none k d (variables_are_new k d is);
  good = each_at (λ d. is_good (symbols_declared_by_items copying) d ≡ true) copying (refl, (refl, (refl, (refl, (refl, tt)))));
}

all_set : AllSet (settings_for planes two_by_two unset)
all_set = each_at (λ s. (v : ℤ) × (s.value ≡ Some v)) (settings_for planes two_by_two unset) ((pos 2, refl), ((pos 2, refl), tt))

pub returns-clause-binds : goal.returns-clause-binds
returns-clause-binds c = record {
  named = named;
  params = refl;
  image = planes;
  declared = refl;
  set = all_set;
  fit = tt;
  ranks = 0 ∷ 1 ∷ [];
  ranking = ranking-from_recurrence (graph_of copying) (0 ∷ 1 ∷ []) (record { each = refl; rank = each_rank });
  is = refl;
}
