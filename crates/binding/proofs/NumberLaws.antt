-- The numbers of names, in lists where no name stands twice.
use Rattle.std.proofs.Common.{ℕ, zero, suc, arith, ◌+◌, ◌<◌, ◌≡◌, inl, Bool, true, false, cond, List, [], ◌∷◌, length, Option}
use Rattle.std.proofs.Common.{Some, None, is_some, position, filter, take, slice_get, get_or, subst, ap, sym, ◌∙◌, refl}
use Rattle.std.specs.List.{position_from, find, AllPairs}
use Rattle.std.specs.Str.{bytes_eq}
use Rattle.std.proofs.lemmas.Bool.{false≢true}
use Rattle.std.proofs.lemmas.Option.{slice_get_within, slice_get-get_or, get_or_from_slice_get, same_Some, none-some}
use Rattle.std.proofs.lemmas.List.Kept.{AllPairs-filter}
use Rattle.std.proofs.lemmas.Iterator.Adapters.{position_from-zero}
use Rattle.std.proofs.lemmas.Slice.Eq.{bytes_eq-Decides}
use Rattle.pipe_tree.specs.Tree.{Declaration}
use Rattle.pipe_checks.specs.declared.symbol.Symbol.{Symbol}
use Rattle.pipe_checks.specs.Names.{is_stage, symbols_declared_by_items, stages_of, number_of, place_of, declared_at}
use Rattle.pipe_checks.specs.Checking.{NoneTwice}
use Rattle.domains.proofs.Places.{all_at}
use Rattle.pipe_checks.proofs.Declaring.{Comes, names_come}

-- ---- the first that passes

either : (b : Bool) (o q : Option ℕ) → is_some o ≡ true → is_some q ≡ true → is_some (cond b o q) ≡ true
either true o q first second = first
either false o q first second = second

module _ {X : Type 0} (p : X → Bool) where
  first_at : (n : ℕ) (xs : List X) (i : ℕ) (x : X) → slice_get xs i ≡ Some x → p x ≡ true
      → ((k : ℕ) (y : X) → k < i → slice_get xs k ≡ Some y → p y ≡ false) → position_from p n xs ≡ Some (n + i)
  first_at n [] i x is pass none = absurd (none-some x is)
  first_at n (y ∷ ys) zero x is pass none =
      ap (λ b. cond b (Some n) (position_from p (n + 1) ys)) (ap p (same_Some y x is) ∙ pass) ∙ ap (λ (m : ℕ). Some m) (omega arith)
  first_at n (y ∷ ys) (suc i) x is pass none =
      ap (λ b. cond b (Some n) (position_from p (n + 1) ys)) (none 0 y (omega arith) refl)
      ∙ first_at (n + 1) ys i x is pass (λ k z l at. none (suc k) z (omega arith) at)
      ∙ ap (λ (m : ℕ). Some m) (omega arith)

  some_at : (n : ℕ) (xs : List X) (k : ℕ) (x : X) → slice_get xs k ≡ Some x → p x ≡ true → is_some (position_from p n xs) ≡ true
  some_at n [] k x is pass = absurd (none-some x is)
  some_at n (y ∷ ys) zero x is pass = ap (λ b. is_some (cond b (Some n) (position_from p (n + 1) ys))) (ap p (same_Some y x is) ∙ pass)
  some_at n (y ∷ ys) (suc k) x is pass = either (p y) (Some n) (position_from p (n + 1) ys) refl (some_at (n + 1) ys k x is pass)

  pub position_at : (xs : List X) (i : ℕ) (x : X) → slice_get xs i ≡ Some x → p x ≡ true
      → ((k : ℕ) (y : X) → k < i → slice_get xs k ≡ Some y → p y ≡ false) → position p xs ≡ Some i
  position_at xs i x is pass none = position_from-zero p xs ∙ first_at 0 xs i x is pass none ∙ ap (λ (m : ℕ). Some m) (omega arith)

  position_some : (xs : List X) (k : ℕ) (x : X) → slice_get xs k ≡ Some x → p x ≡ true → is_some (position p xs) ≡ true
  position_some xs k x is pass = ap is_some (position_from-zero p xs) ∙ some_at 0 xs k x is pass

  -- where a place was found, its element is the first that passes
  found_from : (n : ℕ) (xs : List X) (j : ℕ) → position_from p n xs ≡ Some j
      → (i : ℕ) × (x : X) × (j ≡ n + i) × (slice_get xs i ≡ Some x) × (p x ≡ true) × (find p xs ≡ Some x)
  found_from n [] j is = absurd (none-some j is)
  found_from n (y ∷ ys) j is = by (p y) refl (λ later. found_from (n + 1) ys j later) is
    where
      by : (b : Bool) → p y ≡ b
          → (position_from p (n + 1) ys ≡ Some j
          → (i : ℕ) × (x : X) × (j ≡ n + 1 + i) × (slice_get ys i ≡ Some x) × (p x ≡ true) × (find p ys ≡ Some x))
          → cond b (Some n) (position_from p (n + 1) ys) ≡ Some j
          → (i : ℕ) × (x : X) × (j ≡ n + i) × (slice_get (y ∷ ys) i ≡ Some x) × (p x ≡ true) × (find p (y ∷ ys) ≡ Some x)
      by true e others found = (0, y, sym (same_Some n j found) ∙ omega arith, refl, e, ap (λ b. cond b (Some y) (find p ys)) e)
      by false e others found =
          let r = others found in
          (suc r.0, r.1, r.2 ∙ omega arith, r.3, r.4, ap (λ b. cond b (Some y) (find p ys)) e ∙ r.5)

  pub found : (xs : List X) (j : ℕ) → position p xs ≡ Some j → (x : X) × (slice_get xs j ≡ Some x) × (p x ≡ true) × (find p xs ≡ Some x)
  found xs j is =
      let r = found_from 0 xs j (sym (position_from-zero p xs) ∙ is) in
      (r.1, ap (slice_get xs) (r.2 ∙ omega arith) ∙ r.3, r.4, r.5)

  -- a filter that keeps the first that passes leaves it the first
  pub find-filter : (q : X → Bool) (xs : List X) (x : X) → find p xs ≡ Some x → q x ≡ true → find p (filter q xs) ≡ Some x
  find-filter q [] x is kept = absurd (none-some x is)
  find-filter q (y ∷ ys) x is kept = by (p y) refl (λ first. find-filter q ys x first kept) is
    where
      at_head : (b : Bool) → b ≡ true → p y ≡ true → find p (cond b (y ∷ filter q ys) (filter q ys)) ≡ Some y
      at_head true k e = ap (λ b. cond b (Some y) (find p (filter q ys))) e
      at_head false k e = absurd (false≢true k)

      later : (b : Bool) → p y ≡ false → find p (filter q ys) ≡ Some x → find p (cond b (y ∷ filter q ys) (filter q ys)) ≡ Some x
      later true e rest = ap (λ b. cond b (Some y) (find p (filter q ys))) e ∙ rest
      later false e rest = rest

      by : (b : Bool) → p y ≡ b → (find p ys ≡ Some x → find p (filter q ys) ≡ Some x) → cond b (Some y) (find p ys) ≡ Some x
          → find p (filter q (y ∷ ys)) ≡ Some x
      by true e others first =
          let same : y ≡ x = same_Some y x first in
          subst (λ (z : X). find p (filter q (y ∷ ys)) ≡ Some z) same (at_head (q y) (ap q same ∙ kept) e)
      by false e others first = later (q y) e (others first)

  find_some : (n : ℕ) (xs : List X) (x : X) → find p xs ≡ Some x → (j : ℕ) × (position_from p n xs ≡ Some j)
  find_some n [] x is = absurd (none-some x is)
  find_some n (y ∷ ys) x is = by (p y) (λ first. find_some (n + 1) ys x first) is
    where
      by : (b : Bool) → (find p ys ≡ Some x → (j : ℕ) × (position_from p (n + 1) ys ≡ Some j)) → cond b (Some y) (find p ys) ≡ Some x
          → (j : ℕ) × (cond b (Some n) (position_from p (n + 1) ys) ≡ Some j)
      by true others first = (n, refl)
      by false others first = others first

  pub find_place : (xs : List X) (x : X) → find p xs ≡ Some x → (j : ℕ) × (position p xs ≡ Some j)
  find_place xs x is = let r = find_some 0 xs x is in (r.0, position_from-zero p xs ∙ r.1)

-- ---- names that stand once

abbrev AreApart : Symbol → Symbol → Type 0
AreApart d e = bytes_eq d.name e.name ≡ false

taken_at : {X : Type 0} (xs : List X) (n k : ℕ) (x : X) → k < n → k < length xs → slice_get xs k ≡ Some x → slice_get (take n xs) k ≡ Some x
taken_at [] n k x l w is = absurd (none-some x is)
taken_at (y ∷ ys) zero k x l w is = absurd (omega arith)
taken_at (y ∷ ys) (suc n) zero x l w is = is
taken_at (y ∷ ys) (suc n) (suc k) x l w is = taken_at ys n k x (omega arith) (omega arith) is

is_false : (b : Bool) → (b ≡ true → ⊥) → b ≡ false
is_false true h = absurd (h refl)
is_false false h = refl

module _ (ds : List Declaration) (once : NoneTwice (symbols_declared_by_items ds) ds) where
  not_again : (i j : ℕ) (x y : Symbol) → i < j → slice_get (symbols_declared_by_items ds) i ≡ Some y → slice_get (symbols_declared_by_items ds) j ≡ Some x
      → bytes_eq y.name x.name ≡ true → ⊥
  not_again i j x y l first later same =
      let c : Comes 0 ds x = all_at (Comes 0 ds) (symbols_declared_by_items ds) j x (names_come 0 ds) later in
      once c.0 c.2 c.3 (inl (record {
        place = j;
        again = x;
        there = later;
        item = c.1 ∙ omega arith;
        before =
            position_some (λ d. bytes_eq d.name x.name) (take j (symbols_declared_by_items ds)) i y
            (taken_at (symbols_declared_by_items ds) j i y l (slice_get_within (symbols_declared_by_items ds) i y first) first) same;
      }))

  names_apart : AllPairs AreApart (symbols_declared_by_items ds)
  names_apart = λ i j d l w.
      let first = slice_get-get_or (symbols_declared_by_items ds) i d (omega (arith, l, w)) in
      let later = slice_get-get_or (symbols_declared_by_items ds) j d w in
      is_false _ (not_again i j (get_or (symbols_declared_by_items ds) j d) (get_or (symbols_declared_by_items ds) i d) l first later)

  stages_apart : AllPairs AreApart (stages_of ds)
  stages_apart = AllPairs-filter AreApart (λ d. is_stage d.kind) (symbols_declared_by_items ds) names_apart

  -- the number of a stage's name is its place
  pub number_at : (g : ℕ) (x : Symbol) → slice_get (stages_of ds) g ≡ Some x → number_of (stages_of ds) x.name ≡ Some g
  number_at g x there =
      position_at (λ d. bytes_eq d.name x.name) (stages_of ds) g x there ((bytes_eq-Decides x.name x.name).1 refl) (λ k y l at.
      subst (λ (z : Symbol). bytes_eq y.name z.name ≡ false) (get_or_from_slice_get (stages_of ds) g x x there)
      (subst (λ (z : Symbol). bytes_eq z.name (get_or (stages_of ds) g x).name ≡ false) (get_or_from_slice_get (stages_of ds) k y x at)
      (stages_apart k g x l (slice_get_within (stages_of ds) g x there))))

pub declared_found : (names : List Symbol) (x : List ℕ) (d : Symbol) → declared_at names x ≡ Some d
    → find (λ e. bytes_eq e.name x) names ≡ Some d
declared_found names x d = by (number_of names x) refl
  where
    by : (o : Option ℕ) → number_of names x ≡ o → place_of names o ≡ Some d → find (λ e. bytes_eq e.name x) names ≡ Some d
    by None e there = absurd (none-some d there)
    by (Some j) e there = let r = found (λ e. bytes_eq e.name x) names j e in r.3 ∙ sym r.1 ∙ there

-- a name that is declared as a stage is the name of this stage
pub stage_named : (ds : List Declaration) (x : List ℕ) (d : Symbol) → declared_at (symbols_declared_by_items ds) x ≡ Some d
    → is_stage d.kind ≡ true → (h : ℕ) × (number_of (stages_of ds) x ≡ Some h) × (slice_get (stages_of ds) h ≡ Some d)
stage_named ds x d there kept =
    let first : find (λ e. bytes_eq e.name x) (stages_of ds) ≡ Some d =
    find-filter (λ e. bytes_eq e.name x) (λ e. is_stage e.kind) (symbols_declared_by_items ds) d
    (declared_found (symbols_declared_by_items ds) x d there) kept in
    let place = find_place (λ e. bytes_eq e.name x) (stages_of ds) d first in
    let r = found (λ e. bytes_eq e.name x) (stages_of ds) place.0 place.1 in
    (place.0, place.1, r.1 ∙ sym r.3 ∙ first)
