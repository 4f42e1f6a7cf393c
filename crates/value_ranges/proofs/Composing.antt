-- What is found of formulas from what is found of their operands.
use Rattle.std.proofs.Common.{ℕ, ℤ, pos, negsuc, ◌≡◌, ◌≤ℤ◌, List, [], ◌++◌, FitsSigned, w32, Bool, true, false, true≢false, arith, sym, subst, ◌∙◌, ap, refl, ◌&&◌, Option, Some, None}
use Rattle.std.specs.Prelude.{All, if◌then◌else◌}
use Rattle.std.proofs.lemmas.Int.{ints}
use Rattle.std.proofs.lemmas.Option.{none-some}
use Rattle.std.proofs.lemmas.List.Elements.{All-head, All-weaker}
use Rattle.domains.specs.Arithmetic.{wrapped, floor_div}
use Rattle.domains.specs.Index.{Scale}
use Rattle.operators.specs.declared.operator.UnaryOp.{UnaryOp}
use Rattle.operators.specs.declared.operator.BinaryOp.{BinaryOp}
use Rattle.operators.specs.declared.operator.TernaryOp.{TernaryOp}
use Rattle.operators.specs.declared.operator.LiteralOp.{LiteralOp}
use Rattle.operators.specs.declared.operator.Relation.{Relation}
use Rattle.std.specs.Ordering.{int_eq}
use Rattle.job.specs.Pipeline.{JobCase}
use Rattle.job.specs.declared.formula.Formula.{Formula as KeptFormula}
use Rattle.job.specs.declared.formula.Formula.TheVariants.{Read}
use Rattle.job.specs.Views.{formula_view}
use Rattle.job.specs.Formula.{Formula, number, read, unary, binary, ternary, literal, lookup, select, stencil}
use Rattle.job.specs.Values.{Valuation, unary_value, ternary_value, literal_value, is_related, weighted_sum, formula_value}
use Rattle.job.specs.Reads.{Read as PlaceRead, point, window, reads_in, EachTaken}
use Rattle.job.specs.WellFormed.{IsFormula, IsDivisor, IsLiteral}
use Rattle.job.proofs.Agreeing.{All-left, All-right}
use Rattle.job.proofs.Fitting.{formula_fits}
use Rattle.tables.specs.Entries.{Entries, entry_at}
use Rattle.value_ranges.specs.declared.value_range.ValueRange.{ValueRange}
use Rattle.value_ranges.specs.declared.formulas.FoundRange.{FoundRange}
use Rattle.value_ranges.specs.Narrow.{Fits16, IsNarrow, IsNarrowStencil}
use Rattle.value_ranges.specs.Ranges.{InRange, IsNarrowRange, full_range, range_at}
use Rattle.value_ranges.specs.inside.Found.{AreUnderKernel, IsRanged, IsRangedAt, IsFound, IsWider, IsFoundCase, IsFoundElsewhere}
use Rattle.value_ranges.proofs.Ends.{in_full}

-- ---- 16 bits

to_bounds : (z : ℤ) → Fits16 z → (negsuc 32767 ≤ℤ z) × (z ≤ℤ pos 32767)
to_bounds (pos n) fits = (omega (arith, ints), omega (arith, ints))
to_bounds (negsuc n) fits = (omega (arith, ints), omega (arith, ints))

from_bounds : (z : ℤ) → negsuc 32767 ≤ℤ z → z ≤ℤ pos 32767 → Fits16 z
from_bounds (pos n) low high = omega (arith, ints)
from_bounds (negsuc n) low high = omega (arith, ints)

-- a number between ends that fit in 16 bits does, too
pub narrow_fits : (range : ValueRange) (v : ℤ) → IsNarrowRange range → InRange range v → Fits16 v
narrow_fits range v narrow is =
    let a = to_bounds range.lo narrow.low in let b = to_bounds range.hi narrow.high in
    let lo = a.0 in let hi = b.1 in let low = is.low in let high = is.high in
    from_bounds v (omega (arith, ints)) (omega (arith, ints))

-- a range that is equal to another holds the same numbers
pub in_same : (range other : ValueRange) (v : ℤ) → other ≡ range → InRange range v → InRange other v
in_same range other v same is = subst (λ (x : ValueRange). InRange x v) (sym same) is

-- ---- equal reads

and_both : (a b : Bool) → a && b ≡ true → (a ≡ true) × (b ≡ true)
and_both true b e = (refl, e)
and_both false b e = absurd (true≢false (sym e))

same_int : (a b : ℤ) → int_eq a b ≡ true → a ≡ b
same_int a b e = grind (arith, ints)

-- an index is its three numbers
pub same_index : (x y : Scale) → int_eq x.mul y.mul && (int_eq x.add y.add && int_eq x.div y.div) ≡ true → x ≡ y
same_index x y e =
    let first = and_both (int_eq x.mul y.mul) (int_eq x.add y.add && int_eq x.div y.div) e in
    let rest = and_both (int_eq x.add y.add) (int_eq x.div y.div) first.1 in
    let mul = same_int x.mul y.mul first.0 in
    let add = same_int x.add y.add rest.0 in
    let div = same_int x.div y.div rest.1 in
    λ k. record { mul = mul k; add = add k; div = div k }

pub same_read : (g h : ℕ) (i i' j j' : Scale) (a b : KeptFormula) → a ≡ Read g i j → b ≡ Read h i' j' → g ≡ h → i ≡ i' → j ≡ j'
    → (env : Valuation) (r c : ℤ) → formula_value env (formula_view a) r c ≡ formula_value env (formula_view b) r c
same_read g h i i' j j' a b first second p q s env r c =
    let middle : Read g i j ≡ Read h i' j' = λ k. Read (p k) (q k) (s k) in
    ap (λ (x : KeptFormula). formula_value env (formula_view x) r c) (first ∙ middle ∙ sym second)

-- the values of an operator on two formulas in memory lie in a range, where those of both do
abbrev pub BinaryValues : BinaryOp → ValueRange → ValueRange → ValueRange → KeptFormula → KeptFormula → Type 0
BinaryValues op left right range a b =
    (env : Valuation) (r c : ℤ) → InRange left (formula_value env (formula_view a) r c) → InRange right (formula_value env (formula_view b) r c)
    → InRange range (formula_value env (binary op (formula_view a) (formula_view b)) r c)

pub binary_values_same : (op : BinaryOp) (left right range : ValueRange) (a a' b b' : KeptFormula) → a ≡ a' → b ≡ b'
    → BinaryValues op left right range a b → BinaryValues op left right range a' b'
binary_values_same op left right range a a' b b' p q values =
    subst (λ (f : KeptFormula). BinaryValues op left right range a' f) q (subst (λ (f : KeptFormula). BinaryValues op left right range f b) p values)

-- ---- wider ranges

pub found_wider : (ranges : List ValueRange) (f : Formula) (one other : FoundRange) → IsFound ranges f one → IsWider one other
    → IsFound ranges f other
found_wider ranges f one other is wider = record {
  value = λ env r c h. wider.range (formula_value env f r c) (is.value env r c h);
  narrow = λ e env r c h. is.narrow (wider.narrow e) env r c h;
}

pub case_wider : (ranges : List ValueRange) (p : JobCase) (one other : FoundRange) → IsWider one other → IsFoundCase ranges p one
    → IsFoundCase ranges p other
case_wider ranges p one other wider is = record { formula = found_wider ranges p.formula one other is.formula wider }

pub elsewhere_wider : (ranges : List ValueRange) (o : Option Formula) (one other : FoundRange) → IsWider one other
    → IsFoundElsewhere ranges o one → IsFoundElsewhere ranges o other
elsewhere_wider ranges None one other wider is = record { formula = λ f e. absurd (none-some f e); none = wider.range (pos 0) is.none }
elsewhere_wider ranges (Some g) one other wider is = record {
  formula = λ f e. found_wider ranges f one other (is.formula f e) wider;
  none = tt;
}

pub wider_through : (one two three : FoundRange) → IsWider one two → IsWider two three → IsWider one three
wider_through one two three p q = record { range = λ v h. q.range v (p.range v h); narrow = λ e. p.narrow (q.narrow e) }

pub wider_same : (one : FoundRange) → IsWider one one
wider_same one = record { range = λ v h. h; narrow = λ e. e }

-- ---- formulas

module _ (ranges : List ValueRange) where
  -- what a formula reads at a point lies in the ranges
  abbrev pub Taken : Valuation → ℤ → ℤ → PlaceRead → Type 0
  Taken env r c x = EachTaken (IsRanged ranges env) x r c

  taken_fits : (env : Valuation) (r c : ℤ) (x : PlaceRead) → Taken env r c x → EachTaken (λ g i j. FitsSigned w32 (env g i j)) x r c
  taken_fits env r c (point g i j) is = is.fits
  taken_fits env r c (window g kernel) is = λ a b la lb. (is a b la lb).fits

  pub value_fits : (env : Valuation) (r c : ℤ) (f : Formula) → IsRangedAt ranges env f r c → FitsSigned w32 (formula_value env f r c)
  value_fits env r c f h =
      formula_fits env r c h.row h.column f h.formula
      (All-weaker (Taken env r c) (λ x. EachTaken (λ g i j. FitsSigned w32 (env g i j)) x r c) (taken_fits env r c) (reads_in f) h.reads)

  part : (env : Valuation) (r c : ℤ) (f a : Formula) → IsRangedAt ranges env f r c → IsFormula a → All (Taken env r c) (reads_in a)
      → IsRangedAt ranges env a r c
  part env r c f a h is reads = record { formula = is; row = h.row; column = h.column; reads = reads }

  pub full_found : (f : Formula) (found : FoundRange) → found.range ≡ full_range → found.narrow ≡ false → IsFound ranges f found
  full_found f found full none = record {
    value = λ env r c h. in_full found.range (formula_value env f r c) full (value_fits env r c f h);
    narrow = λ e. absurd (true≢false (sym e ∙ none));
  }

  pub number_found : (n : ℤ) (found : FoundRange) → InRange found.range n → (found.narrow ≡ true → IsNarrowRange found.range)
      → IsFound ranges (number n) found
  number_found n found is narrow = record { value = λ env r c h. is; narrow = λ e env r c h. narrow_fits found.range n (narrow e) is }

  pub read_found : (g : ℕ) (i j : Scale) (found : FoundRange) → found.range ≡ range_at ranges g
      → (found.narrow ≡ true → IsNarrowRange found.range) → IsFound ranges (read g i j) found
  read_found g i j found is narrow = record { value = here; narrow = λ e env r c h. narrow_fits found.range _ (narrow e) (here env r c h) }
    where
      here : (env : Valuation) (r c : ℤ) → IsRangedAt ranges env (read g i j) r c → InRange found.range (formula_value env (read g i j) r c)
      here env r c h =
          subst (λ (x : ValueRange). InRange x (formula_value env (read g i j) r c)) (sym is)
          (All-head (Taken env r c) (point g i j) [] h.reads).ranged

  -- the value of a formula lies in the range that was found, and what is found of its operands makes it narrow
  found_by : (f : Formula) (found : FoundRange)
      → ((env : Valuation) (r c : ℤ) → IsRangedAt ranges env f r c → InRange found.range (formula_value env f r c))
      → (found.narrow ≡ true → (env : Valuation) (r c : ℤ) → IsRangedAt ranges env f r c → Fits16 (formula_value env f r c)
      → IsNarrow env f r c)
      → (found.narrow ≡ true → IsNarrowRange found.range) → IsFound ranges f found
  found_by f found value rest narrow = record {
    value = value;
    narrow = λ e env r c h. rest e env r c h (narrow_fits found.range (formula_value env f r c) (narrow e) (value env r c h));
  }

  pub unary_found : (op : UnaryOp) (a : Formula) (one found : FoundRange) → IsFound ranges a one
      → ((v : ℤ) → InRange one.range v → InRange found.range (unary_value op v)) → (found.narrow ≡ true → one.narrow ≡ true)
      → (found.narrow ≡ true → IsNarrowRange found.range) → IsFound ranges (unary op a) found
  unary_found op a one found x values first =
      found_by (unary op a) found (λ env r c h. values _ (x.value env r c (part env r c (unary op a) a h h.formula h.reads)))
      (λ e env r c h fits. (x.narrow (first e) env r c (part env r c (unary op a) a h h.formula h.reads), fits))

  pub literal_found : (op : LiteralOp) (a : Formula) (n : ℕ) (one found : FoundRange) → IsFound ranges a one
      → ((v : ℤ) → IsLiteral op n → FitsSigned w32 v → InRange one.range v → InRange found.range (literal_value op v n))
      → (found.narrow ≡ true → one.narrow ≡ true) → (found.narrow ≡ true → IsNarrowRange found.range)
      → IsFound ranges (literal op a n) found
  literal_found op a n one found x values first =
      found_by (literal op a n) found
      (λ env r c h. values _ h.formula.0 (value_fits env r c a (inner env r c h)) (x.value env r c (inner env r c h)))
      (λ e env r c h fits. (x.narrow (first e) env r c (inner env r c h), fits))
    where
      inner : (env : Valuation) (r c : ℤ) → IsRangedAt ranges env (literal op a n) r c → IsRangedAt ranges env a r c
      inner env r c h = part env r c (literal op a n) a h h.formula.1 h.reads

  -- (a look-up is not computed in 16 bits)
  pub lookup_found : (t : Entries) (a : Formula) (found : FoundRange) → ((v : ℤ) → InRange found.range (entry_at t v))
      → (found.narrow ≡ true → false ≡ true) → IsFound ranges (lookup t a) found
  lookup_found t a found values none = record {
    value = λ env r c h. values (formula_value env a r c);
    narrow = λ e. absurd (true≢false (sym (none e)));
  }

  pub binary_found : (op : BinaryOp) (a b : Formula) (one two found : FoundRange) → IsFound ranges a one → IsFound ranges b two
      → ((env : Valuation) (r c : ℤ) → InRange one.range (formula_value env a r c) → InRange two.range (formula_value env b r c)
      → InRange found.range (formula_value env (binary op a b) r c))
      → (found.narrow ≡ true → (one.narrow ≡ true) × (two.narrow ≡ true)) → (found.narrow ≡ true → IsNarrowRange found.range)
      → IsFound ranges (binary op a b) found
  binary_found op a b one two found x y values both =
      found_by (binary op a b) found
      (λ env r c h. values env r c (x.value env r c (left env r c h)) (y.value env r c (right env r c h)))
      (λ e env r c h fits. (x.narrow (both e).0 env r c (left env r c h), y.narrow (both e).1 env r c (right env r c h), fits))
    where
      left : (env : Valuation) (r c : ℤ) → IsRangedAt ranges env (binary op a b) r c → IsRangedAt ranges env a r c
      left env r c h = part env r c (binary op a b) a h h.formula.0 (All-left (Taken env r c) (reads_in a) (reads_in b) h.reads)

      right : (env : Valuation) (r c : ℤ) → IsRangedAt ranges env (binary op a b) r c → IsRangedAt ranges env b r c
      right env r c h = part env r c (binary op a b) b h h.formula.1 (All-right (Taken env r c) (reads_in a) (reads_in b) h.reads)

  pub ternary_found : (op : TernaryOp) (a b d : Formula) (one two three found : FoundRange) → IsFound ranges a one → IsFound ranges b two
      → IsFound ranges d three
      → ((v l h : ℤ) → InRange one.range v → InRange two.range l → InRange three.range h → InRange found.range (ternary_value op v l h))
      → (found.narrow ≡ true → ((one.narrow ≡ true) × (two.narrow ≡ true)) × (three.narrow ≡ true))
      → (found.narrow ≡ true → IsNarrowRange found.range) → IsFound ranges (ternary op a b d) found
  ternary_found op a b d one two three found x y z values all =
      found_by (ternary op a b d) found
      (λ env r c h. values _ _ _ (x.value env r c (first env r c h)) (y.value env r c (second env r c h)) (z.value env r c (third env r c h)))
      (λ e env r c h fits. (
        x.narrow (all e).0.0 env r c (first env r c h),
        y.narrow (all e).0.1 env r c (second env r c h),
        z.narrow (all e).1 env r c (third env r c h),
        fits,
      ))
    where
      front : (env : Valuation) (r c : ℤ) → IsRangedAt ranges env (ternary op a b d) r c → All (Taken env r c) (reads_in a ++ reads_in b)
      front env r c h = All-left (Taken env r c) (reads_in a ++ reads_in b) (reads_in d) h.reads

      first : (env : Valuation) (r c : ℤ) → IsRangedAt ranges env (ternary op a b d) r c → IsRangedAt ranges env a r c
      first env r c h =
          part env r c (ternary op a b d) a h h.formula.0 (All-left (Taken env r c) (reads_in a) (reads_in b) (front env r c h))

      second : (env : Valuation) (r c : ℤ) → IsRangedAt ranges env (ternary op a b d) r c → IsRangedAt ranges env b r c
      second env r c h =
          part env r c (ternary op a b d) b h h.formula.1 (All-right (Taken env r c) (reads_in a) (reads_in b) (front env r c h))

      third : (env : Valuation) (r c : ℤ) → IsRangedAt ranges env (ternary op a b d) r c → IsRangedAt ranges env d r c
      third env r c h =
          part env r c (ternary op a b d) d h h.formula.2 (All-right (Taken env r c) (reads_in a ++ reads_in b) (reads_in d) h.reads)

  one_of : (range : ValueRange) (b : Bool) (v w : ℤ) → InRange range v → InRange range w → InRange range (if b then v else w)
  one_of range true v w x y = x
  one_of range false v w x y = y

  pub select_found : (a : Formula) (relation : Relation) (b p q : Formula) (one two three four found : FoundRange) → IsFound ranges a one
      → IsFound ranges b two → IsFound ranges p three → IsFound ranges q four
      → ((v : ℤ) → InRange three.range v → InRange found.range v) → ((v : ℤ) → InRange four.range v → InRange found.range v)
      → (found.narrow ≡ true → ((one.narrow ≡ true) × (two.narrow ≡ true)) × ((three.narrow ≡ true) × (four.narrow ≡ true)))
      → IsFound ranges (select a relation b p q) found
  select_found a relation b p q one two three four found x y z w first second all = record {
    value = λ env r c h.
        one_of found.range (is_related relation (formula_value env a r c) (formula_value env b r c)) (formula_value env p r c)
        (formula_value env q r c) (first _ (z.value env r c (third env r c h))) (second _ (w.value env r c (fourth env r c h)));
    narrow = λ e env r c h. (
      x.narrow (all e).0.0 env r c (left env r c h),
      y.narrow (all e).0.1 env r c (right env r c h),
      z.narrow (all e).1.0 env r c (third env r c h),
      w.narrow (all e).1.1 env r c (fourth env r c h),
    );
  }
    where
      front : (env : Valuation) (r c : ℤ) → IsRangedAt ranges env (select a relation b p q) r c
          → All (Taken env r c) (reads_in a ++ reads_in b ++ reads_in p)
      front env r c h = All-left (Taken env r c) (reads_in a ++ reads_in b ++ reads_in p) (reads_in q) h.reads

      pair : (env : Valuation) (r c : ℤ) → IsRangedAt ranges env (select a relation b p q) r c → All (Taken env r c) (reads_in a ++ reads_in b)
      pair env r c h = All-left (Taken env r c) (reads_in a ++ reads_in b) (reads_in p) (front env r c h)

      left : (env : Valuation) (r c : ℤ) → IsRangedAt ranges env (select a relation b p q) r c → IsRangedAt ranges env a r c
      left env r c h = part env r c (select a relation b p q) a h h.formula.0 (All-left (Taken env r c) (reads_in a) (reads_in b) (pair env r c h))

      right : (env : Valuation) (r c : ℤ) → IsRangedAt ranges env (select a relation b p q) r c → IsRangedAt ranges env b r c
      right env r c h = part env r c (select a relation b p q) b h h.formula.1 (All-right (Taken env r c) (reads_in a) (reads_in b) (pair env r c h))

      third : (env : Valuation) (r c : ℤ) → IsRangedAt ranges env (select a relation b p q) r c → IsRangedAt ranges env p r c
      third env r c h =
          part env r c (select a relation b p q) p h h.formula.2 (All-right (Taken env r c) (reads_in a ++ reads_in b) (reads_in p) (front env r c h))

      fourth : (env : Valuation) (r c : ℤ) → IsRangedAt ranges env (select a relation b p q) r c → IsRangedAt ranges env q r c
      fourth env r c h =
          part env r c (select a relation b p q) q h h.formula.3
          (All-right (Taken env r c) (reads_in a ++ reads_in b ++ reads_in p) (reads_in q) h.reads)

  pub stencil_found : (g divisor : ℕ) (kernel : List (List ℤ)) (found : FoundRange)
      → ((f : ℤ → ℤ → ℤ) (r c : ℤ) → IsDivisor divisor → AreUnderKernel (range_at ranges g) kernel f r c
      → InRange found.range (floor_div (wrapped (weighted_sum kernel f r c)) (pos divisor)))
      → (found.narrow ≡ true → (f : ℤ → ℤ → ℤ) (r c : ℤ) → AreUnderKernel (range_at ranges g) kernel f r c
      → IsNarrowStencil f divisor kernel r c)
      → IsFound ranges (stencil g divisor kernel) found
  stencil_found g divisor kernel found values narrow = record {
    value = λ env r c h. values (env g) r c h.formula.0 (under env r c h);
    narrow = λ e env r c h. narrow e (env g) r c (under env r c h);
  }
    where
      under : (env : Valuation) (r c : ℤ) → IsRangedAt ranges env (stencil g divisor kernel) r c
          → AreUnderKernel (range_at ranges g) kernel (env g) r c
      under env r c h = λ a b la lb. (All-head (Taken env r c) (window g kernel) [] h.reads a b la lb).ranged
