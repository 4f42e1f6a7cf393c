-- Laws of formulas at the columns of a phase.
use Rattle.std.proofs.Common.{ℕ, ℤ, ◌≡◌, List, [], ◌++◌, ap, sym, refl, subst}
use Rattle.std.specs.Prelude.{All, if◌then◌else◌}
use Rattle.domains.specs.Index.{index_at}
use Rattle.job.specs.Formula.{row, column}
use Rattle.job.specs.Formula.{Formula, number, coordinate, read, unary, binary, ternary, literal, lookup, select, stencil}
use Rattle.job.specs.Reads.{Read, reads_in, EachTaken, EachRead, point}
use Rattle.job.specs.Values.{Valuation, formula_value, unary_value, binary_value, ternary_value, literal_value, is_related}
use Rattle.job.specs.WellFormed.{IsFormula}
use Rattle.std.proofs.lemmas.List.Elements.{All-nil, All-head, All-cons, All-append}
use Rattle.job.proofs.Agreeing.{All-left, All-right}
use Rattle.tables.specs.Entries.{entry_at}
use Rattle.tile_eval.specs.Reading.{HasRoom}
use Rattle.value_ranges.specs.Narrow.{Fits16, IsNarrow}
use Rattle.column_phases.specs.Phases.{column_of, phase_index, Steps, phase_formula}
use Rattle.column_phases.proofs.Columns.{index_phase}

module _ (P p : ℕ) where
  -- it has at the number of a column what the formula has at the column
  pub value_phase : (env : Valuation) (f : Formula) (r j : ℤ) → IsFormula f → Steps P p f
      → formula_value env (phase_formula P p f) r j ≡ formula_value env f r (column_of P p j)
  value_phase env (number n) r j is steps = refl
  value_phase env (coordinate row) r j is steps = refl
  value_phase env (coordinate column) r j is steps = absurd steps
  value_phase env (read g x y) r j is steps = ap (env g (index_at x r)) (index_phase P p y is.1 steps j)
  value_phase env (unary op a) r j is steps = ap (unary_value op) (value_phase env a r j is steps)
  value_phase env (binary op a b) r j is steps =
      λ i. binary_value op (value_phase env a r j is.0 steps.0 i) (value_phase env b r j is.1 steps.1 i)
  value_phase env (ternary op a b c) r j is steps =
      λ i. ternary_value op (value_phase env a r j is.0 steps.0 i) (value_phase env b r j is.1 steps.1 i) (value_phase env c r j is.2 steps.2 i)
  value_phase env (literal op a n) r j is steps = ap (λ (z : ℤ). literal_value op z n) (value_phase env a r j is.1 steps)
  value_phase env (lookup t a) r j is steps = ap (entry_at t) (value_phase env a r j is.1 steps)
  value_phase env (select a relation b x y) r j is steps =
      λ i. if is_related relation (value_phase env a r j is.0 steps.0 i) (value_phase env b r j is.1 steps.1 i)
      then value_phase env x r j is.2 steps.2 i
      else value_phase env y r j is.3 steps.3 i
  value_phase env (stencil g divisor kernel) r j is steps = absurd steps

  pub formula_phase : (f : Formula) → IsFormula f → Steps P p f → IsFormula (phase_formula P p f)
  formula_phase (number n) is steps = is
  formula_phase (coordinate x) is steps = is
  formula_phase (read g x y) is steps = (is.0, steps.within)
  formula_phase (unary op a) is steps = formula_phase a is steps
  formula_phase (binary op a b) is steps = (formula_phase a is.0 steps.0, formula_phase b is.1 steps.1)
  formula_phase (ternary op a b c) is steps = (formula_phase a is.0 steps.0, formula_phase b is.1 steps.1, formula_phase c is.2 steps.2)
  formula_phase (literal op a n) is steps = (is.0, formula_phase a is.1 steps)
  formula_phase (lookup t a) is steps = (is.0, formula_phase a is.1 steps)
  formula_phase (select a relation b x y) is steps = (
    formula_phase a is.0 steps.0,
    formula_phase b is.1 steps.1,
    formula_phase x is.2 steps.2,
    formula_phase y is.3 steps.3,
  )
  formula_phase (stencil g divisor kernel) is steps = is

  -- it reads nothing else
  module _ (has : ℕ → ℤ → ℤ → Type 0) (r j : ℤ) where
    abbrev Before : List Read → Type 0
    Before xs = All (λ x. EachTaken has x r (column_of P p j)) xs

    abbrev After : List Read → Type 0
    After xs = All (λ x. EachTaken has x r j) xs

    joined : (xs us ys vs : List Read) → (Before xs → After us) → (Before ys → After vs) → Before (xs ++ ys) → After (us ++ vs)
    joined xs us ys vs one other h =
        All-append (λ x. EachTaken has x r j) us vs (one (All-left (λ x. EachTaken has x r (column_of P p j)) xs ys h))
        (other (All-right (λ x. EachTaken has x r (column_of P p j)) xs ys h))

    abbrev new : Formula → List Read
    new f = reads_in (phase_formula P p f)

    pub reads_phase : (f : Formula) → IsFormula f → Steps P p f → EachRead has f r (column_of P p j) → EachRead has (phase_formula P p f) r j
    reads_phase (number n) is steps h = All-nil (λ x. EachTaken has x r j)
    reads_phase (coordinate x) is steps h = All-nil (λ x. EachTaken has x r j)
    reads_phase (read g x y) is steps h =
        let there = All-head (λ x. EachTaken has x r (column_of P p j)) (point g x y) [] h in
        All-cons (λ x. EachTaken has x r j) (point g x (phase_index P p y)) []
        (subst (has g (index_at x r)) (sym (index_phase P p y is.1 steps j)) there) (All-nil (λ x. EachTaken has x r j))
    reads_phase (unary op a) is steps h = reads_phase a is steps h
    reads_phase (binary op a b) is steps h =
        joined (reads_in a) (new a) (reads_in b) (new b) (reads_phase a is.0 steps.0) (reads_phase b is.1 steps.1) h
    reads_phase (ternary op a b c) is steps h =
        joined (reads_in a ++ reads_in b) (new a ++ new b) (reads_in c) (new c)
        (joined (reads_in a) (new a) (reads_in b) (new b) (reads_phase a is.0 steps.0) (reads_phase b is.1 steps.1)) (reads_phase c is.2 steps.2) h
    reads_phase (literal op a n) is steps h = reads_phase a is.1 steps h
    reads_phase (lookup t a) is steps h = reads_phase a is.1 steps h
    reads_phase (select a relation b x y) is steps h =
        joined (reads_in a ++ reads_in b ++ reads_in x) (new a ++ new b ++ new x) (reads_in y) (new y)
        (joined (reads_in a ++ reads_in b) (new a ++ new b) (reads_in x) (new x)
        (joined (reads_in a) (new a) (reads_in b) (new b) (reads_phase a is.0 steps.0) (reads_phase b is.1 steps.1)) (reads_phase x is.2 steps.2))
        (reads_phase y is.3 steps.3) h
    reads_phase (stencil g divisor kernel) is steps h = absurd steps

  -- it is narrow where the formula is
  pub narrow_phase : (env : Valuation) (f : Formula) (r j : ℤ) → IsFormula f → Steps P p f → IsNarrow env f r (column_of P p j)
      → IsNarrow env (phase_formula P p f) r j
  narrow_phase env (number n) r j is steps h = h
  narrow_phase env (coordinate x) r j is steps h = absurd h
  narrow_phase env (read g x y) r j is steps h = subst Fits16 (sym (value_phase env (read g x y) r j is steps)) h
  narrow_phase env (unary op a) r j is steps h = (
    narrow_phase env a r j is steps h.0,
    subst Fits16 (sym (value_phase env (unary op a) r j is steps)) h.1,
  )
  narrow_phase env (binary op a b) r j is steps h = (
    narrow_phase env a r j is.0 steps.0 h.0,
    narrow_phase env b r j is.1 steps.1 h.1,
    subst Fits16 (sym (value_phase env (binary op a b) r j is steps)) h.2,
  )
  narrow_phase env (ternary op a b c) r j is steps h = (
    narrow_phase env a r j is.0 steps.0 h.0,
    narrow_phase env b r j is.1 steps.1 h.1,
    narrow_phase env c r j is.2 steps.2 h.2,
    subst Fits16 (sym (value_phase env (ternary op a b c) r j is steps)) h.3,
  )
  narrow_phase env (literal op a n) r j is steps h = (
    narrow_phase env a r j is.1 steps h.0,
    subst Fits16 (sym (value_phase env (literal op a n) r j is steps)) h.1,
  )
  narrow_phase env (lookup t a) r j is steps h = absurd h
  narrow_phase env (select a relation b x y) r j is steps h = (
    narrow_phase env a r j is.0 steps.0 h.0,
    narrow_phase env b r j is.1 steps.1 h.1,
    narrow_phase env x r j is.2 steps.2 h.2,
    narrow_phase env y r j is.3 steps.3 h.3,
  )
  narrow_phase env (stencil g divisor kernel) r j is steps h = absurd steps

  -- it needs the same capacity
  pub room_phase : (f : Formula) (n room : ℕ) → HasRoom f n room → HasRoom (phase_formula P p f) n room
  room_phase (number m) n room h = h
  room_phase (coordinate x) n room h = h
  room_phase (read g x y) n room h = h
  room_phase (unary op a) n room h = room_phase a n room h
  room_phase (binary op a b) n room h = (room_phase a n room h.0, h.1, room_phase b n _ h.2)
  room_phase (ternary op a b c) n room h = (room_phase a n room h.0, h.1, room_phase b n _ h.2, room_phase c n _ h.3)
  room_phase (literal op a m) n room h = room_phase a n room h
  room_phase (lookup t a) n room h = room_phase a n room h
  room_phase (select a relation b x y) n room h = (
    room_phase x n room h.0,
    h.1,
    room_phase a n _ h.2,
    room_phase b n _ h.3,
    room_phase y n _ h.4,
  )
  room_phase (stencil g divisor kernel) n room h = h
