-- What is known of an item whose places hold what they want.
use Rattle.std.proofs.Common.{ℕ, arith, ◌<◌, ◌≤◌, ◌%◌, ◌≡◌, ℤ, pos, negsuc, ◌≤ℤ◌, Bool, true, false, List, [], ◌∷◌, length, ◌++◌}
use Rattle.std.proofs.Common.{Option, Some, None, is_none, refl, sym, ◌∙◌}
use Rattle.std.specs.Prelude.{All, if◌then◌else◌, ◌&&◌, ◌==◌, nat_le, nat_lt, int_le}
use Rattle.std.specs.List.{list_all}
use Rattle.std.specs.Option.{ForSome}
use Rattle.std.proofs.lemmas.Bool.{false≢true, and_parts, and_from}
use Rattle.std.proofs.lemmas.Bool.Decides.{nat_tests}
use Rattle.std.proofs.lemmas.Int.{ints}
use Rattle.std.proofs.lemmas.List.Elements.{All-nil, All-cons, All-weaker}
use Rattle.std.proofs.lemmas.List.Sums.{AllPass-from_list_all}
use Rattle.operators.specs.declared.operator.LiteralOp.{LiteralOp}
use Rattle.operators.specs.declared.operator.LiteralOp.TheVariants.{Div, Rem, Shl, Shr}
use Rattle.pipe_tree.specs.declared.tree.Names.{Names}
use Rattle.pipe_tree.specs.declared.tree.Names.TheVariants.{One, Three}
use Rattle.pipe_tree.specs.declared.tree.Index.{Index}
use Rattle.pipe_tree.specs.declared.tree.Test.{Test}
use Rattle.pipe_tree.specs.declared.tree.Test.TheVariants.{Compare, Remainder}
use Rattle.pipe_tree.specs.Tree as tree
use Rattle.pipe_tree.specs.Tree.{Node, Branch, Declaration}
use Rattle.pipe_checks.specs.declared.symbol.Symbol.{Symbol}
use Rattle.pipe_checks.specs.declared.symbol.SymbolKind.{SymbolKind}
use Rattle.pipe_checks.specs.declared.symbol.SymbolKind.TheVariants.{Param, Table, Plane, Func, Accum}
use Rattle.pipe_checks.specs.declared.fault.Violation.{Violation}
use Rattle.pipe_checks.specs.declared.fault.Violation.TheVariants.{Kind, BadKernel, BadLiteral}
use Rattle.pipe_checks.specs.declared.uses.ItemVariables.{ItemVariables}
use Rattle.pipe_checks.specs.declared.uses.NameRole.TheVariants as role
use Rattle.pipe_checks.specs.declared.uses.ExpectedNameRole.{ExpectedNameRole}
use Rattle.pipe_checks.specs.declared.uses.ExpectedNameRole.TheVariants as expected
use Rattle.pipe_checks.specs.Names.{declared_at}
use Rattle.pipe_checks.specs.Accesses.{width_of}
use Rattle.pipe_checks.specs.Twice.{item_variables}
use Rattle.pipe_checks.specs.Checking.{is_good}
use Rattle.pipe_checks.specs.Uses.{Place, name, ranged, remainder, shift, kernel, is_variable_named, role_of, declared_role, allows}
use Rattle.pipe_checks.specs.Uses.{wrong_name, greatest_number, wrong_range, wrong_remainder, wrong_shift, is_odd_kernel_side_within_limit, wrong_kernel}
use Rattle.pipe_checks.specs.Uses.{role_at, wrong_at, is_served, are_served, span_places, index_places, least_literal}
use Rattle.pipe_checks.specs.Uses.{greatest_literal, read_places, stencil_places, expr_places, test_places, tests_places}
use Rattle.pipe_checks.specs.Uses.{branch_places, branches_places, otherwise_places, output_places, places_of}

-- ---- what is known

abbrev pub IsReadableKind : SymbolKind → Type 0
IsReadableKind Param = ⊥
IsReadableKind Table = ⊥
IsReadableKind Plane = Unit {0}
IsReadableKind Func = Unit {0}
IsReadableKind Accum = ⊥

abbrev pub IsFuncKind : SymbolKind → Type 0
IsFuncKind Param = ⊥
IsFuncKind Table = ⊥
IsFuncKind Plane = ⊥
IsFuncKind Func = Unit {0}
IsFuncKind Accum = ⊥

abbrev pub IsTableKind : SymbolKind → Type 0
IsTableKind Param = ⊥
IsTableKind Table = Unit {0}
IsTableKind Plane = ⊥
IsTableKind Func = ⊥
IsTableKind Accum = ⊥

-- the name is declared, for something of this kind
pub record IsNameOf (IsKind : SymbolKind → Type 0) (names : List Symbol) (x : List ℕ) : Type 0 where
  pub declared : Symbol
  pub found : declared_at names x ≡ Some declared
  pub kind : IsKind declared.kind

abbrev pub IsWithin : ℕ → ℕ → ℕ → Type 0
IsWithin least most n = (least ≤ n) × (n ≤ most)

pub record IsSoundIndex (i : Index) : Type 0 where
  pub mul : IsWithin 1 16 i.mul
  pub add : (negsuc 4095 ≤ℤ i.add) × (i.add ≤ℤ pos 4096)
  pub div : IsWithin 1 16 i.div

pub record IsSoundKernel (k : List (List ℤ)) : Type 0 where
  pub height : (length k % 2 ≡ 1) × (length k ≤ 15)
  pub width : (width_of k % 2 ≡ 1) × (width_of k ≤ 15)
  pub one_width : All (λ row. length row ≡ width_of k) k

abbrev pub IsSoundLiteral : LiteralOp → ℕ → Type 0
IsSoundLiteral Div n = IsWithin 1 greatest_number n
IsSoundLiteral Rem n = IsWithin 1 greatest_number n
IsSoundLiteral Shl n = n ≤ 31
IsSoundLiteral Shr n = n ≤ 31

abbrev pub IsSound : List Symbol → Node → Type 0
IsSound names (tree.number n) = n ≤ greatest_number
IsSound names (tree.variable x) = Unit {0}
IsSound names (tree.read x i j) = IsNameOf IsReadableKind names x × IsSoundIndex i × IsSoundIndex j
IsSound names (tree.lookup x a) = IsNameOf IsTableKind names x × IsSound names a
IsSound names (tree.unary op a) = IsSound names a
IsSound names (tree.binary op a b) = IsSound names a × IsSound names b
IsSound names (tree.ternary op a b c) = IsSound names a × IsSound names b × IsSound names c
IsSound names (tree.literal op a n) = IsSound names a × IsSoundLiteral op n
IsSound names (tree.select a r b c d) = IsSound names a × IsSound names b × IsSound names c × IsSound names d
IsSound names (tree.stencil x d k) = IsNameOf IsReadableKind names x × IsWithin 1 greatest_number d × IsSoundKernel k

abbrev pub IsSoundTest : Test → Type 0
IsSoundTest (Compare x relation bound) = Unit {0}
IsSoundTest (Remainder x m r) = IsWithin 1 greatest_number m × (r < m)

pub record IsSoundBranch (names : List Symbol) (b : Branch) : Type 0 where
  pub tests : All IsSoundTest b.condition
  pub value : IsSound names b.value

abbrev pub AreFuncs : List Symbol → Names → Type 0
AreFuncs names (One x) = IsNameOf IsFuncKind names x
AreFuncs names (Three x y z) = IsNameOf IsFuncKind names x × IsNameOf IsFuncKind names y × IsNameOf IsFuncKind names z

abbrev pub IsSoundItem : List Symbol → Declaration → Type 0
IsSoundItem names (tree.param p) = Unit {0}
IsSoundItem names (tree.image i) = Unit {0}
IsSoundItem names (tree.table t) = Unit {0}
IsSoundItem names (tree.function f) = All (IsSoundBranch names) f.cases × ForSome f.otherwise (IsSound names)
IsSoundItem names (tree.accumulator a) = IsSound names a.value × IsSound names a.bin
IsSoundItem names (tree.output o) = AreFuncs names o.names × IsWithin 1 65535 o.max

-- ---- places that are served

parted : (names : List Symbol) (locals : ItemVariables) (xs ys : List Place) → are_served names locals (xs ++ ys) ≡ true
    → (are_served names locals xs ≡ true) × (are_served names locals ys ≡ true)
parted names locals [] ys h = (refl, h)
parted names locals (x ∷ xs) ys h =
    let both = and_parts (is_served names locals x) (are_served names locals (xs ++ ys)) h in
    let rest = parted names locals xs ys both.1 in
    (and_from (is_served names locals x) (are_served names locals xs) both.0 rest.0, rest.1)

first_of : (names : List Symbol) (locals : ItemVariables) (x : Place) (xs : List Place) → are_served names locals (x ∷ xs) ≡ true
    → (is_served names locals x ≡ true) × (are_served names locals xs ≡ true)
first_of names locals x xs h = and_parts (is_served names locals x) (are_served names locals xs) h

if_served : (b : Bool) (e : Violation) → is_none (if b then None else Some e) ≡ true → b ≡ true
if_served true e h = refl
if_served false e h = absurd (false≢true h)

at_most : (a b : ℕ) → nat_le a b ≡ true → a ≤ b
at_most a b h = grind (arith, nat_tests)

is_below : (a b : ℕ) → nat_lt a b ≡ true → a < b
is_below a b h = grind (arith, nat_tests)

at_most_int : (a b : ℤ) → int_le a b ≡ true → a ≤ℤ b
at_most_int a b h = omega (arith, ints)

same_number : (a b : ℕ) → (a == b) ≡ true → a ≡ b
same_number a b h = grind (arith, nat_tests)

range_ok : (n least most : ℕ) → is_none (wrong_range n least most) ≡ true → IsWithin least most n
range_ok n least most h =
    let both = and_parts (nat_le least n) (nat_le n most) (if_served _ BadLiteral h) in
    (at_most least n both.0, at_most n most both.1)

add_ok : (k : ℤ) → is_none (wrong_shift k) ≡ true → (negsuc 4095 ≤ℤ k) × (k ≤ℤ pos 4096)
add_ok k h =
    let both = and_parts (int_le (negsuc 4095) k) (int_le k (pos 4096)) (if_served _ BadLiteral h) in
    (at_most_int (negsuc 4095) k both.0, at_most_int k (pos 4096) both.1)

literal_ok : (op : LiteralOp) (n : ℕ) → is_none (wrong_range n (least_literal op) (greatest_literal op)) ≡ true → IsSoundLiteral op n
literal_ok Div n h = range_ok n 1 greatest_number h
literal_ok Rem n h = range_ok n 1 greatest_number h
literal_ok Shl n h = (range_ok n 0 31 h).1
literal_ok Shr n h = (range_ok n 0 31 h).1

side_ok : (n : ℕ) → is_odd_kernel_side_within_limit n ≡ true → (n % 2 ≡ 1) × (n ≤ 15)
side_ok n h = let both = and_parts (n % 2 == 1) (nat_le n 15) h in (same_number (n % 2) 1 both.0, at_most n 15 both.1)

kernel_ok : (k : List (List ℤ)) → is_none (wrong_kernel k) ≡ true → IsSoundKernel k
kernel_ok k h =
    let parts =
    and_parts (is_odd_kernel_side_within_limit (length k)) (is_odd_kernel_side_within_limit (width_of k) && list_all (λ row. length row == width_of k) k) (if_served _ BadKernel h) in
    let rest = and_parts (is_odd_kernel_side_within_limit (width_of k)) (list_all (λ row. length row == width_of k) k) parts.1 in
    record {
      height = side_ok (length k) parts.0;
      width = side_ok (width_of k) rest.0;
      one_width =
          All-weaker (λ row. (length row == width_of k) ≡ true) (λ row. length row ≡ width_of k)
          (λ row same. same_number (length row) (width_of k) same) k (AllPass-from_list_all (λ row. length row == width_of k) k rest.1);
    }

-- ---- names

-- what a place allows that takes no variable
by_kind : (w : ExpectedNameRole) (IsKind : SymbolKind → Type 0) → ((k : SymbolKind) → allows w (role_of k) ≡ true → IsKind k)
    → allows w role.Row ≡ false → allows w role.Column ≡ false → (names : List Symbol) (locals : ItemVariables) (x : List ℕ)
    → is_none (wrong_name w (role_at names locals x)) ≡ true → IsNameOf IsKind names x
by_kind w IsKind kinds no_row no_column names locals x = by (is_variable_named locals.row x) (is_variable_named locals.column x) (declared_at names x) refl
  where
    declared_by : (d : Symbol) → declared_at names x ≡ Some d → is_none (wrong_name w (Some (role_of d.kind))) ≡ true
        → IsNameOf IsKind names x
    declared_by d found h = record { declared = d; found = found; kind = kinds d.kind (if_served (allows w (role_of d.kind)) Kind h) }

    by : (b c : Bool) (o : Option Symbol) → declared_at names x ≡ o
        → is_none (wrong_name w (if b then Some role.Row else (if c then Some role.Column else declared_role o))) ≡ true
        → IsNameOf IsKind names x
    by true c o found h = absurd (false≢true (sym no_row ∙ if_served (allows w role.Row) Kind h))
    by false true o found h = absurd (false≢true (sym no_column ∙ if_served (allows w role.Column) Kind h))
    by false false None found h = absurd (false≢true h)
    by false false (Some d) found h = declared_by d found h

readable_kind : (k : SymbolKind) → allows expected.Readable (role_of k) ≡ true → IsReadableKind k
readable_kind Param h = absurd (false≢true h)
readable_kind Table h = absurd (false≢true h)
readable_kind Plane h = tt
readable_kind Func h = tt
readable_kind Accum h = absurd (false≢true h)

func_kind : (k : SymbolKind) → allows expected.Func (role_of k) ≡ true → IsFuncKind k
func_kind Param h = absurd (false≢true h)
func_kind Table h = absurd (false≢true h)
func_kind Plane h = absurd (false≢true h)
func_kind Func h = tt
func_kind Accum h = absurd (false≢true h)

table_kind : (k : SymbolKind) → allows expected.Table (role_of k) ≡ true → IsTableKind k
table_kind Param h = absurd (false≢true h)
table_kind Table h = tt
table_kind Plane h = absurd (false≢true h)
table_kind Func h = absurd (false≢true h)
table_kind Accum h = absurd (false≢true h)

module _ (names : List Symbol) (locals : ItemVariables) where
  readable_name : (x : List ℕ) → is_served names locals (name x expected.Readable) ≡ true → IsNameOf IsReadableKind names x
  readable_name = by_kind expected.Readable IsReadableKind readable_kind refl refl names locals

  func_name : (x : List ℕ) → is_served names locals (name x expected.Func) ≡ true → IsNameOf IsFuncKind names x
  func_name = by_kind expected.Func IsFuncKind func_kind refl refl names locals

  table_name : (x : List ℕ) → is_served names locals (name x expected.Table) ≡ true → IsNameOf IsTableKind names x
  table_name = by_kind expected.Table IsTableKind table_kind refl refl names locals

  index_ok : (i : Index) (w : ExpectedNameRole) → are_served names locals (index_places i w) ≡ true → IsSoundIndex i
  unfolding index_places
  index_ok i w h =
      let mul = first_of names locals (ranged i.mul 1 16) (name i.name w ∷ shift i.add ∷ ranged i.div 1 16 ∷ []) h in
      let variable = first_of names locals (name i.name w) (shift i.add ∷ ranged i.div 1 16 ∷ []) mul.1 in
      let add = first_of names locals (shift i.add) (ranged i.div 1 16 ∷ []) variable.1 in
      let div = first_of names locals (ranged i.div 1 16) [] add.1 in
      record { mul = range_ok i.mul 1 16 mul.0; add = add_ok i.add add.0; div = range_ok i.div 1 16 div.0 }

  both_of : (xs ys : List Place) → are_served names locals (xs ++ ys) ≡ true
      → (are_served names locals xs ≡ true) × (are_served names locals ys ≡ true)
  both_of = parted names locals

  only_of : (x : Place) → are_served names locals (x ∷ []) ≡ true → is_served names locals x ≡ true
  only_of x h = (first_of names locals x [] h).0

  -- ---- expressions

  sound : (a : Node) → are_served names locals (expr_places a) ≡ true → IsSound names a
  sound (tree.number n) h = (range_ok n 0 greatest_number (only_of (ranged n 0 greatest_number) h)).1
  sound (tree.variable x) h = tt
  sound (tree.read x i j) h =
      let first = first_of names locals (name x expected.Readable) (index_places i expected.Row ++ index_places j expected.Column) h in
      let second = both_of (index_places i expected.Row) (index_places j expected.Column) first.1 in
      (readable_name x first.0, index_ok i expected.Row second.0, index_ok j expected.Column second.1)
  sound (tree.lookup x a) h =
      let first = first_of names locals (name x expected.Table) (expr_places a) h in
      (table_name x first.0, sound a first.1)
  sound (tree.unary op a) h = sound a h
  sound (tree.binary op a b) h = let both = both_of (expr_places a) (expr_places b) h in (sound a both.0, sound b both.1)
  sound (tree.ternary op a b c) h =
      let first = both_of (expr_places a) (expr_places b ++ expr_places c) h in
      let second = both_of (expr_places b) (expr_places c) first.1 in
      (sound a first.0, sound b second.0, sound c second.1)
  sound (tree.literal op a n) h =
      let place = ranged n (least_literal op) (greatest_literal op) in
      let both = both_of (expr_places a) (place ∷ []) h in
      (sound a both.0, literal_ok op n (only_of place both.1))
  sound (tree.select a r b c d) h =
      let first = both_of (expr_places a) (expr_places b ++ (expr_places c ++ expr_places d)) h in
      let second = both_of (expr_places b) (expr_places c ++ expr_places d) first.1 in
      let third = both_of (expr_places c) (expr_places d) second.1 in
      (sound a first.0, sound b second.0, sound c third.0, sound d third.1)
  sound (tree.stencil x d k) h =
      let first = first_of names locals (name x expected.Readable) (ranged d 1 greatest_number ∷ kernel k ∷ []) h in
      let second = first_of names locals (ranged d 1 greatest_number) (kernel k ∷ []) first.1 in
      (readable_name x first.0, range_ok d 1 greatest_number second.0, kernel_ok k (only_of (kernel k) second.1))

  sound_test : (t : Test) → are_served names locals (test_places t) ≡ true → IsSoundTest t
  unfolding test_places
  sound_test (Compare x relation bound) h = tt
  sound_test (Remainder x m r) h =
      let first = first_of names locals (name x expected.Variable) (ranged m 1 greatest_number ∷ remainder r m ∷ []) h in
      let second = first_of names locals (ranged m 1 greatest_number) (remainder r m ∷ []) first.1 in
      (range_ok m 1 greatest_number second.0, is_below r m (if_served (nat_lt r m) BadLiteral (only_of (remainder r m) second.1)))

  sound_tests : (ts : List Test) → are_served names locals (tests_places ts) ≡ true → All IsSoundTest ts
  sound_tests [] h = All-nil IsSoundTest
  sound_tests (t ∷ ts) h =
      let both = both_of (test_places t) (tests_places ts) h in
      All-cons IsSoundTest t ts (sound_test t both.0) (sound_tests ts both.1)

  sound_branches : (bs : List Branch) → are_served names locals (branches_places bs) ≡ true → All (IsSoundBranch names) bs
  sound_branches [] h = All-nil (IsSoundBranch names)
  sound_branches (b ∷ bs) h =
      let both = both_of (branch_places b) (branches_places bs) h in
      let parts = both_of (tests_places b.condition) (expr_places b.value) both.0 in
      All-cons (IsSoundBranch names) b bs (record { tests = sound_tests b.condition parts.0; value = sound b.value parts.1 })
      (sound_branches bs both.1)

  sound_otherwise : (o : Option Node) → are_served names locals (otherwise_places o) ≡ true → ForSome o (IsSound names)
  sound_otherwise None h = λ a is. absurd (cc)
  sound_otherwise (Some a) h = λ b is. subst_sound a b (cc) (sound a h)
    where
      subst_sound : (a b : Node) → a ≡ b → IsSound names a → IsSound names b
      subst_sound a b e s = rw (← e) s

  outputs_ok : (ns : Names) → are_served names locals (output_places ns) ≡ true → AreFuncs names ns
  outputs_ok (One x) h = func_name x (only_of (name x expected.Func) h)
  outputs_ok (Three x y z) h =
      let first = first_of names locals (name x expected.Func) (name y expected.Func ∷ name z expected.Func ∷ []) h in
      let second = first_of names locals (name y expected.Func) (name z expected.Func ∷ []) first.1 in
      (func_name x first.0, func_name y second.0, func_name z (only_of (name z expected.Func) second.1))

-- ---- items

pub sound_item : (names : List Symbol) (d : Declaration) → is_good names d ≡ true → IsSoundItem names d
sound_item names (tree.param p) h = tt
sound_item names (tree.image i) h = tt
sound_item names (tree.table t) h = tt
sound_item names (tree.function f) h =
    let locals = item_variables (tree.function f) in
    let values = branches_places f.cases ++ otherwise_places f.otherwise in
    let first = parted names locals (span_places f.row.span) (span_places f.column.span ++ values) h in
    let second = parted names locals (span_places f.column.span) values first.1 in
    let third = parted names locals (branches_places f.cases) (otherwise_places f.otherwise) second.1 in
    (sound_branches names locals f.cases third.0, sound_otherwise names locals f.otherwise third.1)
sound_item names (tree.accumulator a) h =
    let locals = item_variables (tree.accumulator a) in
    let values = expr_places a.value ++ expr_places a.bin in
    let first = parted names locals (span_places a.bins) (span_places a.row.span ++ (span_places a.column.span ++ values)) h in
    let second = parted names locals (span_places a.row.span) (span_places a.column.span ++ values) first.1 in
    let third = parted names locals (span_places a.column.span) values second.1 in
    let last = parted names locals (expr_places a.value) (expr_places a.bin) third.1 in
    (sound names locals a.value last.0, sound names locals a.bin last.1)
sound_item names (tree.output o) h =
    let locals = item_variables (tree.output o) in
    let both = parted names locals (output_places o.names) (ranged o.max 1 65535 ∷ []) h in
    (outputs_ok names locals o.names both.0, range_ok o.max 1 65535 (first_of names locals (ranged o.max 1 65535) [] both.1).0)
