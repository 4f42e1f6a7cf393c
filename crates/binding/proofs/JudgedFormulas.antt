-- What an accepted item says is a formula, and its tests are tests.
use Rattle.std.proofs.Common.{ℕ, arith, ◌≤◌, ◌≡◌, ℤ, pos, FitsSigned, w32, Bool, true, false, List, [], ◌∷◌, length, Option, Some}
use Rattle.std.proofs.Common.{None, slice_get, subst, ◌∙◌, refl}
use Rattle.std.specs.Prelude.{All, if◌then◌else◌, map, unwrap_or}
use Rattle.std.specs.Str.{bytes_eq}
use Rattle.std.proofs.lemmas.Int.{ints}
use Rattle.std.proofs.lemmas.List.Elements.{All-nil, All-cons, All-head, All-tail, All-weaker}
use Rattle.operators.specs.declared.operator.LiteralOp.{LiteralOp}
use Rattle.operators.specs.declared.operator.LiteralOp.TheVariants.{Div, Rem, Shl, Shr}
use Rattle.pipe_tree.specs.declared.tree.Test.{Test}
use Rattle.pipe_tree.specs.declared.tree.Test.TheVariants.{Compare, Remainder}
use Rattle.pipe_tree.specs.Tree as tree
use Rattle.pipe_tree.specs.Tree.{Node}
use Rattle.pipe_checks.specs.declared.symbol.Symbol.{Symbol}
use Rattle.pipe_bounds.specs.declared.params.Setting.{Setting}
use Rattle.pipe_bounds.specs.Settings.{place_in, value_at, value_in, param_value}
use Rattle.pipe_checks.specs.Accesses.{width_of}
use Rattle.pipe_checks.proofs.Accepted.{IsWithin, IsTableKind, IsNameOf, IsSoundKernel, IsSoundLiteral, IsSound, IsSoundTest}
use Rattle.tables.specs.Entries.{IsEntries}
use Rattle.job.specs.Formula.{row, column, number, coordinate}
use Rattle.job.specs.Values.{factors}
use Rattle.binding.specs.Binding.{Program, Variables, entries_named, name_formula, formula_of, test_of, AreSmall}
use Rattle.pipe_bounds.proofs.Sounding.{index_is}
use Rattle.job.specs.WellFormed.{IsDivisor, IsLiteral, IsKernelSide, IsKernel, IsFormula, IsTest}
use Rattle.job.proofs.Fitting.{from_bounds}

-- ---- numbers

number_fits : (n : ℕ) → n ≤ 2147483647 → FitsSigned w32 (pos n)
number_fits n h = from_bounds (pos n) (omega (arith, ints)) (omega (arith, ints))

divisor_is : (n : ℕ) → IsWithin 1 2147483647 n → IsDivisor n
divisor_is n h = let least = h.0 in let most = h.1 in (least, omega arith)

literal_is : (op : LiteralOp) (n : ℕ) → IsSoundLiteral op n → IsLiteral op n
literal_is Div n h = divisor_is n h
literal_is Rem n h = divisor_is n h
literal_is Shl n h = h
literal_is Shr n h = h

pub width_is : (kernel : List (List ℤ)) → width_of kernel ≡ length (factors kernel 0)
width_is [] = refl
width_is (first ∷ rows) = refl

pub kernel_is : (kernel : List (List ℤ)) → IsSoundKernel kernel → IsKernel kernel
kernel_is kernel h = record {
  height = h.height;
  width = subst IsKernelSide (width_is kernel) h.width;
  one_width =
      All-weaker (λ r. length r ≡ width_of kernel) (λ r. length r ≡ length (factors kernel 0)) (λ r same. same ∙ width_is kernel) kernel
      h.one_width;
}

-- ---- the values of parameters

pub zero_fits : FitsSigned w32 (pos 0)
zero_fits = from_bounds (pos 0) (omega (arith, ints)) (omega (arith, ints))

module _ (ss : List Setting) (small : AreSmall ss) where
  by_value : (k : ℕ) (s : Setting) (o : Option ℤ) → slice_get ss k ≡ Some s → s.value ≡ o → FitsSigned w32 (unwrap_or o (pos 0))
  by_value k s None there is = zero_fits
  by_value k s (Some v) there is = small k s v there is

  by_setting : (k : ℕ) (o : Option Setting) → slice_get ss k ≡ o → FitsSigned w32 (unwrap_or (value_at o) (pos 0))
  by_setting k None there = zero_fits
  by_setting k (Some s) there = by_value k s s.value there refl

  by_place : (o : Option ℕ) → FitsSigned w32 (value_in ss o)
  by_place None = zero_fits
  by_place (Some k) = by_setting k (slice_get ss k) refl

  param_fits : (x : List ℕ) → FitsSigned w32 (param_value ss x)
  param_fits x = by_place (place_in ss x)

-- ---- formulas

module _ (p : Program) (vars : Variables) where
  name_is : AreSmall p.settings → (x : List ℕ) → IsFormula (name_formula p vars x)
  name_is small x = by (bytes_eq x vars.row_name) (bytes_eq x vars.column_name)
    where
      by : (b c : Bool) → IsFormula (if b then coordinate row else (if c then coordinate column else number (param_value p.settings x)))
      by true c = tt
      by false true = tt
      by false false = param_fits p.settings small x

  module _ (small : AreSmall p.settings) (names : List Symbol)
      (handed : (x : List ℕ) → IsNameOf IsTableKind names x → IsEntries (entries_named p x)) where
    pub formula_is : (a : Node) → IsSound names a → IsFormula (formula_of p vars a)
    formula_is (tree.number n) h = number_fits n h
    formula_is (tree.variable x) h = name_is small x
    formula_is (tree.read x i j) h = (index_is i h.1, index_is j h.2)
    formula_is (tree.lookup x a) h = (handed x h.0, formula_is a h.1)
    formula_is (tree.unary op a) h = formula_is a h
    formula_is (tree.binary op a b) h = (formula_is a h.0, formula_is b h.1)
    formula_is (tree.ternary op a b c) h = (formula_is a h.0, formula_is b h.1, formula_is c h.2)
    formula_is (tree.literal op a n) h = (literal_is op n h.1, formula_is a h.0)
    formula_is (tree.select a relation b c d) h =
        (formula_is a h.0, formula_is b h.1, formula_is c h.2, formula_is d h.3)
    formula_is (tree.stencil x d k) h = (divisor_is d h.1, kernel_is k h.2)

  test_is : (t : Test) → IsSoundTest t → IsTest (test_of p vars t)
  test_is (Compare x relation bound) h = tt
  test_is (Remainder x m r) h = (divisor_is m h.0, h.1)

  pub tests_are : (ts : List Test) → All IsSoundTest ts → All IsTest (map (test_of p vars) ts)
  tests_are [] h = All-nil IsTest
  tests_are (t ∷ ts) h =
      All-cons IsTest (test_of p vars t) (map (test_of p vars) ts) (test_is t (All-head IsSoundTest t ts h))
      (tests_are ts (All-tail IsSoundTest t ts h))
