-- Functions at every P-th column. A function that alternates along a row with period P is, at the columns P * j + p of a phase p, a plain
-- function of j: tests of the column's remainder are decided, and each index of a column goes by whole steps.
use Rattle.std.specs.Prelude.{ℕ, ℤ, pos, negsuc, ◌≡◌, ◌≤ℤ◌, ◌+ℤ◌, ◌-ℤ◌, ◌*ℤ◌, int_le, Bool, false, not, ◌||◌, if◌then◌else◌}
use Rattle.std.specs.Prelude.{Option, Some, None, List, [], ◌∷◌, All, filter_map, length, map, slice_get}
use Rattle.std.specs.Option.{option_map, ForSome}
use Rattle.std.specs.Ordering.{int_eq}
use Rattle.domains.specs.Arithmetic.{floor_div, floor_rem}
use Rattle.domains.specs.Index.{Scale, IsIndex, index_at}
use Rattle.domains.specs.Span.{Ends}
use Rattle.domains.specs.declared.area.Area.{Area}
use Rattle.operators.specs.declared.operator.Relation.TheVariants.{AtMost, AtLeast, Equals}
use Rattle.job.specs.Formula.{row, column, Test, compare, remainder}
use Rattle.job.specs.Formula.{Formula, number, coordinate, read, unary, binary, ternary, literal, lookup, select, stencil}
use Rattle.job.specs.Pipeline.{JobCase}
use Rattle.job.specs.Views.{case_view, formula_view}
use Rattle.job.specs.declared.stage.Function.{Function}

-- ---- columns

-- column number j of phase p
abbrev pub column_of : ℕ → ℕ → ℤ → ℤ
column_of P p j = pos P *ℤ j +ℤ pos p

-- the greatest number whose column is at most v, and the least whose column is at least v
abbrev pub last_to : ℕ → ℕ → ℤ → ℤ
last_to P p v = floor_div (v -ℤ pos p) (pos P)

abbrev pub first_from : ℕ → ℕ → ℤ → ℤ
first_from P p v = last_to P p (v +ℤ pos P -ℤ pos 1)

-- the numbers of the columns that lie in a span, in an area and in a box
abbrev pub phase_ends : ℕ → ℕ → Ends → Ends
phase_ends P p s = record { lo = first_from P p s.lo; hi = last_to P p s.hi }

abbrev pub phase_area : ℕ → ℕ → Area → Area
phase_area P p a = record { rows = a.rows; cols = phase_ends P p a.cols }

abbrev pub phase_box : ℕ → ℕ → Option Area → Option Area
phase_box P p None = None
phase_box P p (Some a) = if int_le (phase_ends P p a.cols).lo (phase_ends P p a.cols).hi then Some (phase_area P p a) else None

-- ---- tests

-- the period decides a test of the column's remainder. A bound of the column is a number that a program can have
abbrev pub IsDecided : ℕ → Test → Type 0
IsDecided P (compare row relation bound) = Unit {0}
IsDecided P (compare column relation bound) = (negsuc 1048575 ≤ℤ bound) × (bound ≤ℤ pos 1048576)
IsDecided P (remainder row modulus rest) = Unit {0}
IsDecided P (remainder column modulus rest) = floor_rem (pos P) (pos modulus) ≡ pos 0

-- whether a test fails at each column of the phase
abbrev pub fails : ℕ → ℕ → Test → Bool
fails P p (compare row relation bound) = false
fails P p (compare column AtMost bound) = false
fails P p (compare column AtLeast bound) = false
fails P p (compare column Equals bound) = not (int_eq (floor_rem (bound -ℤ pos p) (pos P)) (pos 0))
fails P p (remainder row modulus rest) = false
fails P p (remainder column modulus rest) = not (int_eq (floor_rem (pos p) (pos modulus)) (pos rest))

abbrev pub fails_any : ℕ → ℕ → List Test → Bool
fails_any P p [] = false
fails_any P p (t ∷ ts) = fails P p t || fails_any P p ts

-- else what is left of it, as a test of the columns' numbers
abbrev pub left : ℕ → ℕ → Test → Option Test
left P p (compare row relation bound) = Some (compare row relation bound)
left P p (compare column AtMost bound) = Some (compare column AtMost (last_to P p bound))
left P p (compare column AtLeast bound) = Some (compare column AtLeast (first_from P p bound))
left P p (compare column Equals bound) = Some (compare column Equals (last_to P p bound))
left P p (remainder row modulus rest) = Some (remainder row modulus rest)
left P p (remainder column modulus rest) = None

-- ---- formulas

-- an index goes by whole steps along the phase, within the limits of indices
abbrev pub phase_index : ℕ → ℕ → Scale → Scale
phase_index P p x = record { mul = floor_div (x.mul *ℤ pos P) x.div; add = index_at x (pos p); div = pos 1 }

pub record HasSteps (P p : ℕ) (x : Scale) : Type 0 where
  pub whole : floor_rem (x.mul *ℤ pos P) x.div ≡ pos 0
  pub within : IsIndex (phase_index P p x)

-- a formula whose indices of columns do so. Neither a column itself nor a kernel does
abbrev pub Steps : ℕ → ℕ → Formula → Type 0
Steps P p (number n) = Unit {0}
Steps P p (coordinate row) = Unit {0}
Steps P p (coordinate column) = ⊥
Steps P p (read g i j) = HasSteps P p j
Steps P p (unary op a) = Steps P p a
Steps P p (binary op a b) = Steps P p a × Steps P p b
Steps P p (ternary op a b c) = Steps P p a × Steps P p b × Steps P p c
Steps P p (literal op a n) = Steps P p a
Steps P p (lookup t a) = Steps P p a
Steps P p (select a relation b first second) = Steps P p a × Steps P p b × Steps P p first × Steps P p second
Steps P p (stencil g divisor kernel) = ⊥

-- the formula of the columns' numbers
abbrev pub phase_formula : ℕ → ℕ → Formula → Formula
phase_formula P p (number n) = number n
phase_formula P p (coordinate x) = coordinate x
phase_formula P p (read g i j) = read g i (phase_index P p j)
phase_formula P p (unary op a) = unary op (phase_formula P p a)
phase_formula P p (binary op a b) = binary op (phase_formula P p a) (phase_formula P p b)
phase_formula P p (ternary op a b c) = ternary op (phase_formula P p a) (phase_formula P p b) (phase_formula P p c)
phase_formula P p (literal op a n) = literal op (phase_formula P p a) n
phase_formula P p (lookup t a) = lookup t (phase_formula P p a)
phase_formula P p (select a relation b first second) =
    select (phase_formula P p a) relation (phase_formula P p b) (phase_formula P p first) (phase_formula P p second)
phase_formula P p (stencil g divisor kernel) = stencil g divisor kernel

-- ---- functions

abbrev pub phase_case : ℕ → ℕ → JobCase → JobCase
phase_case P p q = record { box = phase_box P p q.box; tests = filter_map (left P p) q.tests; formula = phase_formula P p q.formula }

-- a case of which no test fails
abbrev pub phase_case_if : ℕ → ℕ → JobCase → Option JobCase
phase_case_if P p q = if fails_any P p q.tests then None else Some (phase_case P p q)

abbrev pub phase_cases : ℕ → ℕ → List JobCase → List JobCase
phase_cases P p qs = filter_map (phase_case_if P p) qs

-- all tests are decided, and all formulas have steps
pub record Alternates (P p : ℕ) (qs : List JobCase) (o : Option Formula) : Type 0 where
  pub tests : All (λ q. All (IsDecided P) q.tests) qs
  pub formulas : All (λ q. Steps P p q.formula) qs
  pub other : ForSome o (Steps P p)

-- a function is phase p of another one
pub record IsPhaseOf (P p : ℕ) (f : Function) (qs : List JobCase) (o : Option Formula) : Type 0 where
  pub alternates : Alternates P p qs o
  pub same : ∥ (map case_view f.cases.items ≡ phase_cases P p qs) × (option_map formula_view f.otherwise ≡ option_map (phase_formula P p) o) ∥₁

-- functions are its phases in turn
abbrev pub ArePhasesOf : List Function → List JobCase → Option Formula → Type 0
ArePhasesOf phases qs o = (p : ℕ) (f : Function) → slice_get phases p ≡ Some f → IsPhaseOf (length phases) p f qs o
