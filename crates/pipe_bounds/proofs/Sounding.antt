-- What `check` accepts can be taken: indices lie in their ranges, and each read is of a stage.
use Rattle.std.proofs.Common.{ℕ, zero, suc, ◌+◌, ◌<◌, ◌≤◌, ℤ, pos, ◌≤ℤ◌, ◌≡◌, Bool, true, false, cond, Option, Some, None, List}
use Rattle.std.proofs.Common.{[], ◌∷◌, ◌++◌, map, filter, length, slice_get, refl, sym, subst, arith}
use Rattle.std.specs.Prelude.{All}
use Rattle.std.specs.List.{AllByRecursion}
use Rattle.std.specs.Option.{ForSome}
use Rattle.std.specs.Str.{bytes_eq}
use Rattle.std.proofs.lemmas.List.Elements.{All-head, All-tail}
use Rattle.std.proofs.lemmas.Int.{ints}
use Rattle.std.proofs.lemmas.Option.{same_Some, none-some}
use Rattle.domains.specs.Index.{IsIndex}
use Rattle.pipe_tree.specs.declared.tree.Index.{Index}
use Rattle.pipe_tree.specs.Tree.{Node, number, variable, read, lookup, unary, binary, ternary, literal, select, stencil, Branch}
use Rattle.pipe_tree.specs.Tree.{Declaration, param, image, table, function, accumulator, output}
use Rattle.pipe_tree.specs.declared.tree.Names.{Names}
use Rattle.pipe_tree.specs.declared.tree.Names.TheVariants.{One, Three}
use Rattle.pipe_checks.specs.declared.symbol.Symbol.{Symbol}
use Rattle.pipe_checks.specs.declared.access.Access.{Access}
use Rattle.pipe_checks.specs.Checking.{AllGood}
use Rattle.pipe_checks.specs.Names.{names_of, item_names, names_from, symbols_declared_by_items, stages_of, number_of}
use Rattle.pipe_checks.specs.Accesses.{accesses_of, read_at, stencil_at, width_of}
use Rattle.pipe_checks.proofs.Accepted as accepted
use Rattle.pipe_checks.proofs.Accepted.{IsSoundIndex, IsSoundBranch, IsSoundItem, sound_item}
use Rattle.pipe_bounds.specs.InBounds.{ReadCase, branch_case, otherwise_cases, item_cases, scale_of}
use Rattle.pipe_bounds.specs.inside.Taken.{IsSound, AreSoundItems, AreDeclared}
use Rattle.pipe_checks.proofs.Places.{position_within}

-- ---- lists

pub each_of : {X : Type 0} (P : X → Type 0) (xs : List X) → AllByRecursion P xs → (i : ℕ) (x : X) → slice_get xs i ≡ Some x → P x
each_of P [] h i x there = absurd (none-some x there)
each_of P (y ∷ ys) h zero x there = subst P (same_Some y x there) h.0
each_of P (y ∷ ys) h (suc i) x there = each_of P ys h.1 i x there

pub all_both : {X : Type 0} (P : X → Type 0) (xs ys : List X) → AllByRecursion P xs → AllByRecursion P ys → AllByRecursion P (xs ++ ys)
all_both P [] ys h g = g
all_both P (x ∷ xs) ys h g = (h.0, all_both P xs ys h.1 g)

all_kept : {X : Type 0} (P : X → Type 0) (p : X → Bool) (xs : List X) → AllByRecursion P xs → AllByRecursion P (filter p xs)
all_kept P p [] h = tt
all_kept P p (x ∷ xs) h = by_test (p x) (all_kept P p xs h.1)
  where
    by_test : (b : Bool) → AllByRecursion P (filter p xs) → AllByRecursion P (cond b (x ∷ filter p xs) (filter p xs))
    by_test true rest = (h.0, rest)
    by_test false rest = rest

-- ---- each stage is declared by an item

named_by : (m n : ℕ) (d : Declaration) → n < m → AllByRecursion (λ s. s.item < m) (item_names n d)
named_by m n (param p) h = (h, tt)
named_by m n (image i) h = by_names i.names
  where
    by_names : (names : Names) → AllByRecursion (λ s. s.item < m) (names_of n names)
    by_names (One x) = (h, tt)
    by_names (Three x y z) = (h, (h, (h, tt)))
named_by m n (table t) h = (h, tt)
named_by m n (function f) h = (h, tt)
named_by m n (accumulator a) h = (h, tt)
named_by m n (output o) h = tt

named_from : (m n : ℕ) (ds : List Declaration) → n + length ds ≤ m → AllByRecursion (λ s. s.item < m) (names_from n ds)
named_from m n [] h = tt
named_from m n (d ∷ ds) h =
    all_both (λ (s : Symbol). s.item < m) (item_names n d) (names_from (n + 1) ds) (named_by m n d (omega (arith, h)))
    (named_from m (n + 1) ds (omega (arith, h)))

all_declared : (ds : List Declaration) → AreDeclared ds (stages_of ds)
all_declared ds =
    each_of (λ (s : Symbol). s.item < length ds) (stages_of ds)
    (all_kept (λ (s : Symbol). s.item < length ds) _ (symbols_declared_by_items ds) (named_from (length ds) 0 ds (omega arith)))

-- ---- indices

up : (n : ℕ) → 1 ≤ n → pos 1 ≤ℤ pos n
up n h = omega (arith, ints)

down : (n : ℕ) → n ≤ 16 → pos n ≤ℤ pos 16
down n h = omega (arith, ints)

-- the factor, the summand and the divisor of an accepted index are those of an index
pub index_is : (i : Index) → IsSoundIndex i → IsIndex (scale_of i)
index_is i h = record {
  mul_least = up i.mul h.mul.0;
  mul_most = down i.mul h.mul.1;
  add_least = h.add.0;
  add_most = h.add.1;
  div_least = up i.div h.div.0;
  div_most = down i.div h.div.1;
}

-- ---- reads

abbrev Sound : List Symbol → List Access → Type 0
Sound stages accesses = AllByRecursion (IsSound (length stages)) accesses

read_sound : (stages : List Symbol) (x : List ℕ) (i j : Index) → IsIndex (scale_of i) → IsIndex (scale_of j)
    → Sound stages (read_at (number_of stages x) i j)
read_sound stages x i j first second = by_number (number_of stages x) refl
  where
    by_number : (o : Option ℕ) → number_of stages x ≡ o → Sound stages (read_at o i j)
    by_number None e = tt
    by_number (Some g) e = ((position_within (λ (d : Symbol). bytes_eq d.name x) stages g e, first, second), tt)

stencil_sound : (stages : List Symbol) (x : List ℕ) (k : List (List ℤ)) → length k ≤ 15 → width_of k ≤ 15
    → Sound stages (stencil_at (number_of stages x) k)
stencil_sound stages x k rows columns = by_number (number_of stages x) refl
  where
    by_number : (o : Option ℕ) → number_of stages x ≡ o → Sound stages (stencil_at o k)
    by_number None e = tt
    by_number (Some g) e = ((position_within (λ (d : Symbol). bytes_eq d.name x) stages g e, rows, columns), tt)

both_sound : (stages : List Symbol) (xs ys : List Access) → Sound stages xs → Sound stages ys → Sound stages (xs ++ ys)
both_sound stages xs ys h g = all_both (IsSound (length stages)) xs ys h g

node_sound : (names stages : List Symbol) (a : Node) → accepted.IsSound names a → Sound stages (accesses_of stages a)
node_sound names stages (number n) h = tt
node_sound names stages (variable x) h = tt
node_sound names stages (read x i j) h = read_sound stages x i j (index_is i h.1) (index_is j h.2)
node_sound names stages (lookup x a) h = node_sound names stages a h.1
node_sound names stages (unary op a) h = node_sound names stages a h
node_sound names stages (binary op a b) h =
    both_sound stages (accesses_of stages a) (accesses_of stages b) (node_sound names stages a h.0) (node_sound names stages b h.1)
node_sound names stages (ternary op a b c) h =
    let first =
    both_sound stages (accesses_of stages a) (accesses_of stages b) (node_sound names stages a h.0) (node_sound names stages b h.1) in
    both_sound stages (accesses_of stages a ++ accesses_of stages b) (accesses_of stages c) first (node_sound names stages c h.2)
node_sound names stages (literal op a n) h = node_sound names stages a h.0
node_sound names stages (select a r b c d) h =
    let first =
    both_sound stages (accesses_of stages a) (accesses_of stages b) (node_sound names stages a h.0) (node_sound names stages b h.1) in
    let then =
    both_sound stages (accesses_of stages a ++ accesses_of stages b) (accesses_of stages c) first (node_sound names stages c h.2) in
    both_sound stages (accesses_of stages a ++ accesses_of stages b ++ accesses_of stages c) (accesses_of stages d)
    then (node_sound names stages d h.3)
node_sound names stages (stencil x d k) h = stencil_sound stages x k h.2.height.1 h.2.width.1

-- ---- items

abbrev SoundCase : List Symbol → ReadCase → Type 0
SoundCase stages x = Sound stages x.accesses

branches_sound : (names stages : List Symbol) (row : List ℕ) (bs : List Branch) → All (IsSoundBranch names) bs
    → AllByRecursion (SoundCase stages) (map (branch_case stages row) bs)
branches_sound names stages row [] h = tt
branches_sound names stages row (b ∷ bs) h = (
  node_sound names stages b.value (All-head (IsSoundBranch names) b bs h).value,
  branches_sound names stages row bs (All-tail (IsSoundBranch names) b bs h),
)

otherwise_sound : (names stages : List Symbol) (row : List ℕ) (o : Option Node) → ForSome o (accepted.IsSound names)
    → AllByRecursion (SoundCase stages) (otherwise_cases stages row o)
otherwise_sound names stages row None h = tt
otherwise_sound names stages row (Some a) h = (node_sound names stages a (h a refl), tt)

item_sound : (names stages : List Symbol) (d : Declaration) → IsSoundItem names d → AllByRecursion (SoundCase stages) (item_cases stages d)
item_sound names stages (param p) h = tt
item_sound names stages (image i) h = tt
item_sound names stages (table t) h = tt
item_sound names stages (function f) h =
    all_both (SoundCase stages) (map (branch_case stages f.row.name) f.cases) (otherwise_cases stages f.row.name f.otherwise)
    (branches_sound names stages f.row.name f.cases h.0) (otherwise_sound names stages f.row.name f.otherwise h.1)
item_sound names stages (accumulator a) h = (
  both_sound stages (accesses_of stages a.value) (accesses_of stages a.bin) (node_sound names stages a.value h.0)
      (node_sound names stages a.bin h.1),
  tt,
)
item_sound names stages (output o) h = tt

-- each read of an accepted program can be taken
all_sound : (names stages : List Symbol) (ds : List Declaration) → AllGood names ds → AreSoundItems stages ds
all_sound names stages ds good k d there n x at m access here =
    let cases = item_sound names stages d (sound_item names d (good k d there)) in
    each_of (IsSound (length stages)) x.accesses (each_of (SoundCase stages) (item_cases stages d) cases n x at) m access here

-- ---- the items and the stages of a checked program

pub checked_declared : (ds items : List Declaration) (stages : List Symbol) → items ≡ ds → stages ≡ stages_of ds → AreDeclared items stages
checked_declared ds items stages same is =
    subst (λ xs. AreDeclared xs stages) (sym same) (subst (AreDeclared ds) (sym is) (all_declared ds))

pub checked_sound : (ds items : List Declaration) (stages : List Symbol) → items ≡ ds → AllGood (symbols_declared_by_items ds) ds
    → AreSoundItems stages items
checked_sound ds items stages same good =
    subst (AreSoundItems stages) (sym same) (all_sound (symbols_declared_by_items ds) stages ds good)
