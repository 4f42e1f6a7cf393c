-- What holds of cases and another formula holds of the same ones, where it is only known that they are the same.
use Rattle.std.proofs.Common.{ℕ, ℤ, ◌≡◌, pos, ◌+ℤ◌, List, Option, Some, None, map, ap, sym, refl, subst}
use Rattle.std.specs.Prelude.{All}
use Rattle.std.specs.Option.{ForSome, option_map}
use Rattle.std.proofs.Math.Logic.{∥∥₁_elim}
use Rattle.std.proofs.Props.{props}
use Rattle.std.proofs.lemmas.List.Elements.{All-map}
use Rattle.std.proofs.lemmas.Option.{none-some, same_Some}
use Rattle.domains.specs.Area.{HoldsPoint}
use Rattle.domains.specs.declared.area.Area.{Area}
use Rattle.operators.specs.declared.operator.LiteralOp.{LiteralOp}
use Rattle.operators.specs.declared.operator.LiteralOp.TheVariants.{Div, Rem, Shl, Shr}
use Rattle.operators.specs.Limits.{IsLiteral}
use Rattle.job.specs.Formula.{Test, compare, remainder}
use Rattle.job.specs.Formula.{Formula, number, coordinate, read, unary, binary, ternary, literal, lookup, select, stencil}
use Rattle.job.specs.Boxes.{AreBoxed}
use Rattle.job.specs.Pipeline.{JobCase, function}
use Rattle.job.specs.Reads.{Read, reads_in, EachTaken, EachRead, BodyReads, formulas_of}
use Rattle.job.specs.Values.{Valuation}
use Rattle.job.specs.WellFormed.{IsFormula, IsTest}
use Rattle.job.proofs.Steps.{All-from_map}
use Rattle.narrow_eval.specs.NarrowCases.{IsNarrowComputable}
use Rattle.tile_eval.specs.Cases.{function_value, IsComputable}
use Rattle.tile_eval.specs.Reading.{HasRoom, HasFunctionRoom}
use Rattle.value_ranges.specs.Narrow.{IsNarrow, IsNarrowFunction}

IsNarrow-prop : (env : Valuation) (f : Formula) (r c : ℤ) → IsProp (IsNarrow env f r c)
IsNarrow-prop env (number n) r c = hlevel props
IsNarrow-prop env (coordinate x) r c = hlevel props
IsNarrow-prop env (read g i j) r c = hlevel props
IsNarrow-prop env (unary op a) r c = hlevel (IsNarrow-prop env a, props)
IsNarrow-prop env (binary op a b) r c = hlevel (IsNarrow-prop env a, IsNarrow-prop env b, props)
IsNarrow-prop env (ternary op a b d) r c = hlevel (IsNarrow-prop env a, IsNarrow-prop env b, IsNarrow-prop env d, props)
IsNarrow-prop env (literal op a n) r c = hlevel (IsNarrow-prop env a, props)
IsNarrow-prop env (lookup t a) r c = hlevel props
IsNarrow-prop env (select a relation b x y) r c =
    hlevel (IsNarrow-prop env a, IsNarrow-prop env b, IsNarrow-prop env x, IsNarrow-prop env y, props)
IsNarrow-prop env (stencil g divisor kernel) r c = hlevel props

HasRoom-prop : (f : Formula) (n room : ℕ) → IsProp (HasRoom f n room)
HasRoom-prop (number m) n room = hlevel props
HasRoom-prop (coordinate x) n room = hlevel props
HasRoom-prop (read g i j) n room = hlevel props
HasRoom-prop (unary op a) n room = HasRoom-prop a n room
HasRoom-prop (binary op a b) n room = hlevel (HasRoom-prop a, HasRoom-prop b, props)
HasRoom-prop (ternary op a b c) n room = hlevel (HasRoom-prop a, HasRoom-prop b, HasRoom-prop c, props)
HasRoom-prop (literal op a m) n room = HasRoom-prop a n room
HasRoom-prop (lookup t a) n room = HasRoom-prop a n room
HasRoom-prop (select a relation b x y) n room = hlevel (HasRoom-prop a, HasRoom-prop b, HasRoom-prop x, HasRoom-prop y, props)
HasRoom-prop (stencil g divisor kernel) n room = hlevel props

IsLiteral-prop : (op : LiteralOp) (n : ℕ) → IsProp (IsLiteral op n)
IsLiteral-prop Div n = hlevel props
IsLiteral-prop Rem n = hlevel props
IsLiteral-prop Shl n = hlevel props
IsLiteral-prop Shr n = hlevel props

IsTest-prop : (t : Test) → IsProp (IsTest t)
IsTest-prop (compare x relation bound) = hlevel props
IsTest-prop (remainder x modulus rest) = hlevel props

IsFormula-prop : (f : Formula) → IsProp (IsFormula f)
IsFormula-prop (number n) = hlevel props
IsFormula-prop (coordinate x) = hlevel props
IsFormula-prop (read g i j) = hlevel props
IsFormula-prop (unary op a) = IsFormula-prop a
IsFormula-prop (binary op a b) = hlevel (IsFormula-prop a, IsFormula-prop b, props)
IsFormula-prop (ternary op a b c) = hlevel (IsFormula-prop a, IsFormula-prop b, IsFormula-prop c, props)
IsFormula-prop (literal op a n) = hlevel (IsLiteral-prop op n, IsFormula-prop a, props)
IsFormula-prop (lookup t a) = hlevel (IsFormula-prop a, props)
IsFormula-prop (select a relation b x y) = hlevel (IsFormula-prop a, IsFormula-prop b, IsFormula-prop x, IsFormula-prop y, props)
IsFormula-prop (stencil g divisor kernel) = hlevel props

-- what a case reads, and where
abbrev BoxedReads : Type 0
BoxedReads = Option Area × List Read

abbrev view : JobCase → BoxedReads
view q = (q.box, reads_in q.formula)

same_views-prop : (xs ys : List BoxedReads) → IsProp (xs ≡ ys)
same_views-prop xs ys = hlevel props

same_others-prop : (x y : Option (List Read)) → IsProp (x ≡ y)
same_others-prop x y = hlevel props

module _ (ps us : List JobCase) (o w : Option Formula) (same : ∥ (ps ≡ us) × (o ≡ w) ∥₁) where
  abbrev BoxReads : (ℕ → ℤ → ℤ → Type 0) → ℤ → ℤ → BoxedReads → Type 0
  BoxReads has r c v = ForSome v.0 (λ box. HoldsPoint box r c → All (λ x. EachTaken has x r c) v.1)

  other_reads : (has : ℕ → ℤ → ℤ → Type 0) (r c : ℤ) (x : Option Formula) → ForSome x (λ f. EachRead has f r c)
      → ForSome (option_map reads_in x) (λ xs. All (λ x. EachTaken has x r c) xs)
  other_reads has r c None h = λ xs e. absurd (none-some xs e)
  other_reads has r c (Some f) h = λ xs e. subst (λ ys. All (λ x. EachTaken has x r c) ys) (same_Some (reads_in f) xs e) (h f refl)

  reads_same : (has : ℕ → ℤ → ℤ → Type 0) (r c : ℤ) → BodyReads has (function us w) r c → BodyReads has (function ps o) r c
  reads_same has r c h = (
    All-from_map (BoxReads has r c) view ps
        (subst (All (BoxReads has r c)) (sym (∥∥₁_elim same (same_views-prop (map view ps) (map view us)) (λ e. ap (map view) e.0)))
        (All-map (BoxReads has r c) view us h.0)),
    λ f e.
        subst (λ (x : Option (List Read)). ForSome x (λ xs. All (λ x. EachTaken has x r c) xs))
        (sym (∥∥₁_elim same (same_others-prop (option_map reads_in o) (option_map reads_in w)) (λ e. ap (option_map reads_in) e.1)))
        (other_reads has r c w h.1) (reads_in f) (ap (option_map reads_in) e),
  )

  tests_same : All (λ p. All IsTest p.tests) us → All (λ p. All IsTest p.tests) ps
  tests_same h = ∥∥₁_elim same (hlevel (IsTest-prop, props)) (λ e. subst (All (λ p. All IsTest p.tests)) (sym e.0) h)

  formulas_same : All IsFormula (formulas_of (function us w)) → All IsFormula (formulas_of (function ps o))
  formulas_same h = ∥∥₁_elim same (hlevel (IsFormula-prop, props)) (λ e. subst (λ xs. All IsFormula (formulas_of (function xs o))) (sym e.0)
      (subst (λ x. All IsFormula (formulas_of (function us x))) (sym e.1) h))

  boxes_same : (domain : Area) → AreBoxed domain (function us w) → AreBoxed domain (function ps o)
  boxes_same domain h = ∥∥₁_elim same (hlevel props) (λ e. subst (λ xs. AreBoxed domain (function xs o)) (sym e.0) h)

  narrow_same : (env : Valuation) (r c : ℤ) → IsNarrowFunction env us w r c → IsNarrowFunction env ps o r c
  narrow_same env r c h = ∥∥₁_elim same (hlevel (IsNarrow-prop, props)) (λ e. subst (λ xs. IsNarrowFunction env xs o r c) (sym e.0)
      (subst (λ x. IsNarrowFunction env us x r c) (sym e.1) h))

  pub room_same : (n room : ℕ) → HasFunctionRoom n room us w → HasFunctionRoom n room ps o
  room_same n room h = ∥∥₁_elim same (hlevel (HasRoom-prop, props)) (λ e. subst (λ xs. HasFunctionRoom n room xs o) (sym e.0)
      (subst (λ x. HasFunctionRoom n room us x) (sym e.1) h))

  pub value_same : (env : Valuation) (r c : ℤ) → function_value env ps o r c ≡ function_value env us w r c
  value_same env r c = ∥∥₁_elim same (hlevel props) (λ e i. function_value env (e.0 i) (e.1 i) r c)

  pub narrow_computable_same : (has : ℕ → ℤ → ℤ → Type 0) (env : Valuation) (r c : ℤ) (n room : ℕ)
      → IsNarrowComputable has env r c n room us w → IsNarrowComputable has env r c n room ps o
  narrow_computable_same has env r c n room is = record {
    tests = tests_same is.tests;
    formulas = formulas_same is.formulas;
    domain = is.domain;
    inside = is.inside;
    boxes = boxes_same is.domain is.boxes;
    reads = λ k h. reads_same has r (c +ℤ pos k) (is.reads k h);
    narrow = λ k h. narrow_same env r (c +ℤ pos k) (is.narrow k h);
    capacity = room_same n room is.capacity;
  }

  pub computable_same : (has : ℕ → ℤ → ℤ → Type 0) (area : Area) → IsComputable has area us w → IsComputable has area ps o
  computable_same has area is = record {
    rows = is.rows;
    cols = is.cols;
    tests = tests_same is.tests;
    formulas = formulas_same is.formulas;
    boxes = (is.boxes.0, is.boxes.1, boxes_same is.boxes.0 is.boxes.2);
    reads = λ r c h. reads_same has r c (is.reads r c h);
  }
