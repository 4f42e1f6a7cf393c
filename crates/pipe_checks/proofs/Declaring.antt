-- One more declaration in a table of names.
use Rattle.std.proofs.Common.{◌≡◌, ℕ, zero, suc, ◌+◌, ◌<◌, ◌≤◌, ◌⊎◌, inl, inr, min, ◌++◌, arith, Bool, true, false, cond, ◌||◌}
use Rattle.std.proofs.Common.{List, [], ◌∷◌, Option, None, Some, is_some, IsTrue, if◌then◌else◌, length, take, slice_get, get_or}
use Rattle.std.proofs.Common.{position, refl, sym, ap, subst, ◌∙◌}
use Rattle.std.specs.List.{position_from, list_any}
use Rattle.std.specs.Str.{bytes_eq}
use Rattle.std.proofs.lemmas.Bool.{false≢true, cases_lt}
use Rattle.std.proofs.lemmas.Option.{none-some, same_Some, slice_get_within}
use Rattle.std.specs.Prelude.{All}
use Rattle.std.proofs.lemmas.List.{take_more}
use Rattle.std.proofs.lemmas.List.Elements.{All-nil, All-append, All-weaker, All-from_recursion}
use Rattle.pipe_tree.specs.declared.tree.Names.{Names}
use Rattle.pipe_tree.specs.declared.tree.Names.TheVariants.{One, Three}
use Rattle.pipe_tree.specs.Tree as tree
use Rattle.pipe_tree.specs.Tree.{Declaration}
use Rattle.std.proofs.lemmas.List.Folds.{list_any-append}
use Rattle.std.proofs.lemmas.Slice.Eq.{bytes_eq-Decides}
use Rattle.std.proofs.lemmas.Iterator.Adapters.{position_from-zero}
use Rattle.std.proofs.Math.Seq.{take-append_seam}
use Rattle.domains.proofs.Places.{all_at, slice_get-end}
use Rattle.std.proofs.lemmas.Bool.Decides.{Decides-eqb}
use Rattle.pipe_checks.specs.declared.uses.ItemVariables.{ItemVariables}
use Rattle.pipe_checks.specs.Twice.{are_same_variables, is_variable_with_declared_name, has_variable_with_name_used_twice}
use Rattle.pipe_checks.specs.declared.symbol.Symbol.{Symbol}
use Rattle.pipe_checks.specs.declared.table.DeclaredNames.{DeclaredNames}
use Rattle.pipe_checks.specs.Names.{number_of, names_of, item_names, names_from, symbols_declared_by_items}
use Rattle.pipe_checks.specs.Checking.{DeclaresAgain}
use Rattle.pipe_checks.specs.inside.Tables.{put, earlier, is_first_redeclaring_item, IsFirstAgain, IsTableOf}

-- ---- which names are there

is_here : List ℕ → Symbol → Bool
is_here x d = bytes_eq d.name x

some_any : {X : Type 0} (p : X → Bool) (n : ℕ) (xs : List X) → is_some (position_from p n xs) ≡ list_any p xs
some_any p n [] = refl
some_any p n (x ∷ xs) = by (p x) (some_any p (n + 1) xs)
  where
    by : (b : Bool) → is_some (position_from p (n + 1) xs) ≡ list_any p xs
        → is_some (cond b (Some n) (position_from p (n + 1) xs)) ≡ (b || list_any p xs)
    by true later = refl
    by false later = later

known_any : (ds : List Symbol) (x : List ℕ) → is_some (number_of ds x) ≡ list_any (is_here x) ds
unfolding is_here
known_any ds x = ap is_some (position_from-zero (λ (d : Symbol). bytes_eq d.name x) ds) ∙ some_any (λ (d : Symbol). bytes_eq d.name x) 0 ds

or_three : (b c : Bool) → (b || c) ≡ (b || (c || (b || false)))
or_three true c = refl
or_three false true = refl
or_three false false = refl

put_any : (ds : List Symbol) (s : Symbol) (x : List ℕ) → list_any (is_here x) (put ds s) ≡ list_any (is_here x) (ds ++ s ∷ [])
unfolding is_here
put_any [] s x = refl
put_any (d ∷ ds) s x = by (bytes_eq d.name s.name) ((bytes_eq-Decides d.name s.name).0) (put_any ds s x)
  where
    by : (b : Bool) → (b ≡ true → d.name ≡ s.name) → list_any (is_here x) (put ds s) ≡ list_any (is_here x) (ds ++ s ∷ [])
        → list_any (is_here x) (if b then s ∷ ds else d ∷ put ds s) ≡ (is_here x d || list_any (is_here x) (ds ++ s ∷ []))
    by true same later =
        ap (λ (n : List ℕ). bytes_eq n x || list_any (is_here x) ds) (sym (same refl)) ∙ or_three (is_here x d) (list_any (is_here x) ds)
        ∙ ap (λ (n : List ℕ). is_here x d || (list_any (is_here x) ds || (bytes_eq n x || false))) (same refl)
        ∙ ap (λ b. is_here x d || b) (sym (list_any-append (is_here x) ds (s ∷ [])))
    by false same later = ap (λ b. is_here x d || b) later

known_put : (ds : List Symbol) (s : Symbol) (x : List ℕ) → is_some (number_of (put ds s) x) ≡ is_some (number_of (ds ++ s ∷ []) x)
known_put ds s x = known_any (put ds s) x ∙ put_any ds s x ∙ sym (known_any (ds ++ s ∷ []) x)

known_append : (ds es : List Symbol) (s : Symbol) (x : List ℕ) → is_some (number_of ds x) ≡ is_some (number_of es x)
    → is_some (number_of (ds ++ s ∷ []) x) ≡ is_some (number_of (es ++ s ∷ []) x)
known_append ds es s x e =
    known_any (ds ++ s ∷ []) x ∙ list_any-append (is_here x) ds (s ∷ [])
    ∙ ap (λ b. b || list_any (is_here x) (s ∷ [])) (sym (known_any ds x) ∙ e ∙ known_any es x)
    ∙ sym (list_any-append (is_here x) es (s ∷ [])) ∙ sym (known_any (es ++ s ∷ []) x)

put_new : (ds : List Symbol) (s : Symbol) → list_any (is_here s.name) ds ≡ false → put ds s ≡ ds ++ s ∷ []
unfolding is_here
put_new [] s h = refl
put_new (d ∷ ds) s h = by (bytes_eq d.name s.name) h (put_new ds s)
  where
    by : (b : Bool) → (b || list_any (λ (e : Symbol). bytes_eq e.name s.name) ds) ≡ false
        → (list_any (λ (e : Symbol). bytes_eq e.name s.name) ds ≡ false → put ds s ≡ ds ++ s ∷ [])
        → (if b then s ∷ ds else d ∷ put ds s) ≡ d ∷ (ds ++ s ∷ [])
    by true none later = absurd (false≢true (sym none))
    by false none later = ap (λ l. d ∷ l) (later none)

-- ---- which are there again

get_more : {X : Type 0} (xs ys : List X) (k : ℕ) (x : X) → slice_get xs k ≡ Some x
    → (slice_get (xs ++ ys) k ≡ Some x) × (take k (xs ++ ys) ≡ take k xs)
get_more [] ys k x e = absurd (none-some x e)
get_more (z ∷ xs) ys zero x e = (e, refl)
get_more (z ∷ xs) ys (suc k) x e = let later = get_more xs ys k x e in (later.0, ap (λ l. z ∷ l) later.1)

get_split : {X : Type 0} (xs : List X) (y : X) (k : ℕ) (x : X) → slice_get (xs ++ y ∷ []) k ≡ Some x
    → ((slice_get xs k ≡ Some x) × (take k (xs ++ y ∷ []) ≡ take k xs)) ⊎ ((y ≡ x) × (take k (xs ++ y ∷ []) ≡ xs))
get_split [] y zero x e = inr (same_Some y x e, refl)
get_split [] y (suc k) x e = absurd (none-some x e)
get_split (z ∷ xs) y zero x e = inl (e, refl)
get_split (z ∷ xs) y (suc k) x e = elim (get_split xs y k x e) [
  | inl h ↦ inl (h.0, ap (λ l. z ∷ l) h.1)
  | inr h ↦ inr (h.0, ap (λ l. z ∷ l) h.1)
]

module _ (names : List Symbol) (s : Symbol) where
  more_again : (n : ℕ) → DeclaresAgain names n → DeclaresAgain (names ++ s ∷ []) n
  more_again n h =
      let m = get_more names (s ∷ []) h.place h.again h.there in
      record {
        place =
            h.place;
        again =
            h.again;
        there = m.0;
        item = h.item;
        before = subst (λ l. IsTrue (is_some (number_of l h.again.name))) (sym m.1) h.before;
      }

  here_again : is_some (number_of names s.name) ≡ true → DeclaresAgain (names ++ s ∷ []) s.item
  here_again h = record {
    place = length names;
    again = s;
    there = slice_get-end names s;
    item = refl;
    before = subst (λ l. IsTrue (is_some (number_of l s.name))) (sym (take-append_seam names (s ∷ []))) h;
  }

  split_again : (n : ℕ) → DeclaresAgain (names ++ s ∷ []) n
      → DeclaresAgain names n ⊎ ((s.item ≡ n) × (is_some (number_of names s.name) ≡ true))
  split_again n h = elim (get_split names s h.place h.again h.there) [
    | inl a ↦ inl (record {
      place =
          h.place;
      again =
          h.again;
      there = a.0;
      item = h.item;
      before = subst (λ l. IsTrue (is_some (number_of l h.again.name))) a.1 h.before;
    })
    | inr b ↦ inr (
      ap (λ (d : Symbol). d.item) b.0 ∙ h.item,
      ap (λ (d : Symbol). is_some (number_of names d.name)) b.0 ∙ subst (λ l. IsTrue (is_some (number_of l h.again.name))) b.1 h.before,
    )
  ]

  first_here : (a : Option ℕ) → IsFirstAgain names a → is_some (number_of names s.name) ≡ true
      → IsFirstAgain (names ++ s ∷ []) (Some (earlier a s.item))
  first_here None h known =
      (here_again known, λ k l again. elim (split_again k again) [ inl old ↦ h k old | inr new ↦ absurd (omega (arith, new.0, l)) ])
  first_here (Some m) h known = (
    elim (cases_lt m s.item) [
      | inl l ↦ subst (DeclaresAgain (names ++ s ∷ [])) (omega (arith, l)) (more_again m h.0)
      | inr l ↦ subst (DeclaresAgain (names ++ s ∷ [])) (omega (arith, l)) (here_again known)
    ],
    λ k l again. elim (split_again k again) [ inl old ↦ h.1 k (omega (arith, l)) old | inr new ↦ absurd (omega (arith, new.0, l)) ],
  )

  first_later : (a : Option ℕ) → IsFirstAgain names a → is_some (number_of names s.name) ≡ false → IsFirstAgain (names ++ s ∷ []) a
  first_later None h new = λ n again. elim (split_again n again) [ inl old ↦ h n old | inr known ↦ false≢true (sym new ∙ known.1) ]
  first_later (Some m) h new =
      (more_again m h.0, λ k l again. elim (split_again k again) [ inl old ↦ h.1 k l old | inr known ↦ false≢true (sym new ∙ known.1) ])

-- ---- one more

module _ (names : List Symbol) (d : DeclaredNames) (s : Symbol) (h : IsTableOf names d) (known : Bool)
    (is : known ≡ is_some (number_of d.table s.name)) where
  known_more : (x : List ℕ) → is_some (number_of (put d.table s) x) ≡ is_some (number_of (names ++ s ∷ []) x)
  known_more x = known_put d.table s x ∙ known_append d.table names s x (h.known x)

  pub table_here : known ≡ true → IsTableOf (names ++ s ∷ []) (record { table = put d.table s; again = Some (earlier d.again s.item) })
  table_here holds =
      record {
        known =
            known_more;
        whole =
            λ e. absurd (none-some (earlier d.again s.item) (sym e));
        first =
            first_here names s d.again h.first (sym (h.known s.name) ∙ sym is ∙ holds);
      }

  pub table_later : known ≡ false → IsTableOf (names ++ s ∷ []) (record { table = put d.table s; again = d.again })
  table_later fails = record {
    known = known_more;
    whole = λ e. put_new d.table s (sym (known_any d.table s.name) ∙ sym is ∙ fails) ∙ ap (λ l. l ++ s ∷ []) (h.whole e);
    first = first_later names s d.again h.first (sym (h.known s.name) ∙ sym is ∙ fails);
  }

pub table_none : IsTableOf [] (record { table = []; again = None })
table_none = record { known = λ x. refl; whole = λ e. refl; first = λ n again. none-some again.again again.there }

pub table_turn : (names : List Symbol) (i : ℕ) (s : Symbol) → i < length names → s ≡ get_or names i s → (d next : DeclaredNames)
    → IsTableOf (take i names) d → (known : Bool) → known ≡ is_some (number_of d.table s.name)
    → next.table ≡ put d.table s → next.again ≡ (if known then Some (earlier d.again s.item) else d.again)
    → IsTableOf (take (i + 1) names) next
table_turn names i s l at d next h known is table again =
    let more : take (i + 1) names ≡ take i names ++ s ∷ [] = take_more names i s l ∙ ap (λ (x : Symbol). take i names ++ x ∷ []) (sym at) in
    let whole : record { table = put d.table s; again = if known then Some (earlier d.again s.item) else d.again } ≡ next =
    λ j. record { table = sym table j; again = sym again j } in
    subst (λ ns. IsTableOf ns next) (sym more) (subst (IsTableOf (take i names ++ s ∷ [])) whole (by known is refl))
  where
    by : (b : Bool) → b ≡ is_some (number_of d.table s.name) → b ≡ known
        → IsTableOf (take i names ++ s ∷ [])
        (record { table = put d.table s; again = if b then Some (earlier d.again s.item) else d.again })
    by true e same = table_here (take i names) d s h true e refl
    by false e same = table_later (take i names) d s h false e refl

-- ---- the item of a declaration

-- where the items begin with number n, the name comes from one of them
abbrev pub Comes : ℕ → List Declaration → Symbol → Type 0
Comes n ds x = (k : ℕ) × (x.item ≡ n + k) × (d : Declaration) × (slice_get ds k ≡ Some d)

planes_come : (n : ℕ) (ns : Names) → All (λ x. x.item ≡ n) (names_of n ns)
planes_come n (One x) = All-from_recursion (λ d. d.item ≡ n) (names_of n (One x)) (refl, tt)
planes_come n (Three x y z) = All-from_recursion (λ d. d.item ≡ n) (names_of n (Three x y z)) (refl, (refl, (refl, tt)))

item_comes : (n : ℕ) (d : Declaration) → All (λ x. x.item ≡ n) (item_names n d)
item_comes n (tree.param x) = All-from_recursion (λ d. d.item ≡ n) (item_names n (tree.param x)) (refl, tt)
item_comes n (tree.image i) = planes_come n i.names
item_comes n (tree.table x) = All-from_recursion (λ d. d.item ≡ n) (item_names n (tree.table x)) (refl, tt)
item_comes n (tree.function f) = All-from_recursion (λ d. d.item ≡ n) (item_names n (tree.function f)) (refl, tt)
item_comes n (tree.accumulator a) = All-from_recursion (λ d. d.item ≡ n) (item_names n (tree.accumulator a)) (refl, tt)
item_comes n (tree.output o) = All-nil (λ d. d.item ≡ n)

pub names_come : (n : ℕ) (ds : List Declaration) → All (Comes n ds) (names_from n ds)
names_come n [] = All-nil (Comes n [])
names_come n (d ∷ ds) =
    All-append (Comes n (d ∷ ds)) (item_names n d) (names_from (n + 1) ds)
    (All-weaker (λ x. x.item ≡ n) (Comes n (d ∷ ds)) (λ x e. (0, e ∙ omega arith, d, refl)) (item_names n d) (item_comes n d))
    (All-weaker (Comes (n + 1) ds) (Comes n (d ∷ ds)) (λ x c. (suc c.0, c.1 ∙ omega arith, c.2, c.3)) (names_from (n + 1) ds)
    (names_come (n + 1) ds))

-- the first item that declares a name again is an item
pub again_there : (ds : List Declaration) (n : ℕ) → DeclaresAgain (symbols_declared_by_items ds) n → (d : Declaration) × (slice_get ds n ≡ Some d)
again_there ds n h =
    let c : Comes 0 ds h.again = all_at (Comes 0 ds) (symbols_declared_by_items ds) h.place h.again (names_come 0 ds) h.there in
    (c.2, subst (λ k. slice_get ds k ≡ Some c.2) (omega (arith, c.1, h.item)) c.3)

-- an item that is passed declares no name again
pub passed_again : (names : List Symbol) (a : Option ℕ) (n : ℕ) → IsFirstAgain names a → ((k : ℕ) → k < n → a ≡ Some k → ⊥)
    → is_first_redeclaring_item a n ≡ false → ¬ (DeclaresAgain names n)
passed_again names None n first before not_here again = first n again
passed_again names (Some m) n first before not_here again = elim (cases_lt m n) [
  | inl less ↦ before m less refl
  | inr l ↦ elim (cases_lt n m) [
    | inl more ↦ first.1 n more again
    | inr k ↦ false≢true (sym not_here ∙ (Decides-eqb m n).1 (omega (arith, l, k)))
  ]
]

pub is_again : (names : List Symbol) (a : Option ℕ) (n : ℕ) → IsFirstAgain names a → is_first_redeclaring_item a n ≡ true → DeclaresAgain names n
is_again names None n first here = absurd (false≢true here)
is_again names (Some m) n first here = subst (DeclaresAgain names) ((Decides-eqb m n).0 here) first.0

pub not_number : (a : Option ℕ) (n k : ℕ) → k < n + 1 → is_first_redeclaring_item a n ≡ false → ((i : ℕ) → i < n → a ≡ Some i → ⊥) → a ≡ Some k → ⊥
not_number None n k l none before e = none-some k e
not_number (Some m) n k l none before e = elim (cases_lt k n) [
  | inl less ↦ before k less e
  | inr more ↦ false≢true (sym none ∙ (Decides-eqb m n).1 (same_Some m k e ∙ omega (arith, l, more)))
]

-- where all items are passed, no name is declared again
pub none_again : (ds : List Declaration) (a : Option ℕ) → IsFirstAgain (symbols_declared_by_items ds) a → ((k : ℕ) → k < length ds → a ≡ Some k → ⊥)
    → a ≡ None
none_again ds None first passed = refl
none_again ds (Some n) first passed = let t = again_there ds n first.0 in absurd (passed n (slice_get_within ds n t.0 t.1) refl)

-- a variable is a name of the table where it is a declared one
pub varies_same : (names table : List Symbol) (locals : ItemVariables) → ((x : List ℕ) → is_some (number_of table x) ≡ is_some (number_of names x))
    → has_variable_with_name_used_twice table locals ≡ has_variable_with_name_used_twice names locals
varies_same names table locals same =
    ap (λ b. are_same_variables locals.row locals.column || b || is_variable_with_declared_name table locals.column) (by locals.row)
    ∙ ap (λ b. are_same_variables locals.row locals.column || is_variable_with_declared_name names locals.row || b) (by locals.column)
  where
    by : (o : Option (List ℕ)) → is_variable_with_declared_name table o ≡ is_variable_with_declared_name names o
    by None = refl
    by (Some x) = same x
