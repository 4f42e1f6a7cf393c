-- Places in lists.
use Rattle.std.proofs.Common.{ℕ, ◌+◌, ◌<◌, ◌≤◌, ◌≡◌, Bool, List, ◌∷◌, Some, ◌||◌, refl, length, drop, get_or, slice_get, position}
use Rattle.std.proofs.Common.{sym, ◌∙◌, ap, subst, arith, nat_lt}
use Rattle.std.specs.List.{position_or_len, list_any}
use Rattle.std.specs.Option.{option_map}
use Rattle.std.proofs.lemmas.List.{length-map}
use Rattle.std.proofs.lemmas.Option.{cond_some, slice_get_within, slice_get-get_or, slice_get-map}
use Rattle.pipe_tree.specs.declared.tree.Item.{Item}
use Rattle.pipe_tree.specs.Tree.{Declaration, declaration, declarations}
use Rattle.pipe_checks.specs.declared.symbol.Symbol.{Symbol}
use Rattle.pipe_checks.specs.Checking.{IsTwice, IsFirstTwice}
use Rattle.domains.proofs.Places.{next_of}
use borrow.Author.Tests.{ltb-true}

pub position_within : {X : Type 0} (p : X → Bool) (xs : List X) (i : ℕ) → position p xs ≡ Some i → i < length xs
position_within p xs i e =
    let f = cond_some (nat_lt (position_or_len p xs) (length xs)) (position_or_len p xs) i e in
    subst (λ n. n < length xs) f.1 (ltb-true _ _ f.0)

-- all places, once the loop is past the end
pub all_of_them : {X : Type 0} (P : ℕ → X → Type 0) (xs : List X) (i : ℕ) → length xs ≤ i
    → ((k : ℕ) (y : X) → k < i → slice_get xs k ≡ Some y → P k y) → (k : ℕ) (y : X) → slice_get xs k ≡ Some y → P k y
all_of_them P xs i end before k y at = before k y (omega (arith, end, slice_get_within xs k y at)) at

-- the declaration of the item that a loop has before it
pub declaration_at : (items : List Item) (i : ℕ) (x : Item) → i < length items → x ≡ get_or items i x
    → slice_get (declarations items) i ≡ Some (declaration x)
declaration_at items i x h e =
    slice_get-map declaration items i ∙ ap (option_map declaration) (slice_get-get_or items i x h ∙ ap Some (sym e))

pub declarations_end : (items : List Item) (i : ℕ) → length items ≤ i → length (declarations items) ≤ i
declarations_end items i h = omega (arith, h, length-map items declaration)

-- item i is the first with a name that stands for two things
pub first_twice_is : (names : List Symbol) (items : List Item) (i : ℕ) (x : Item) → i < length items → x ≡ get_or items i x
    → IsTwice names i (declaration x)
    → ((k : ℕ) (d : Declaration) → k < i → slice_get (declarations items) k ≡ Some d → IsTwice names k d → ⊥)
    → IsFirstTwice names (declarations items) i
first_twice_is names items i x h e twice before =
    record { item = declaration x; there = declaration_at items i x h e; twice = twice; first = before }

pub any_turn : (p : Declaration → Bool) (items : List Item) (i : ℕ) (x : Item) → i < length items → x ≡ get_or items i x
    → list_any p (declarations (drop i items)) ≡ (p (declaration x) || list_any p (declarations (drop (i + 1) items)))
any_turn p items i x h e = ap (λ ys. list_any p (declarations ys)) (next_of items i x h e)
