-- A job is well formed in one way: any two proofs of `IsJob` are equal.
use Rattle.std.specs.Prelude.{ℕ, ◌≡◌, ◌⊎◌, ℤ, Option, Some, None, List, slice_get}
use Rattle.std.specs.Option.{is_some}
use Rattle.std.proofs.Common.{refl, sym, ap, ◌∙◌, inl, inr, true≢false, arith}
use mathlib.Core.Path.{path_j}
use Rattle.std.proofs.Props.{props}
use mathlib.Core.HLevel.{Σ_prop}
use native.Mathlib.Nat.{ℕ_set}
use Rattle.domains.specs.Span.{len_of}
use Rattle.operators.specs.declared.operator.LiteralOp.{LiteralOp}
use Rattle.operators.specs.declared.operator.LiteralOp.TheVariants.{Div, Rem, Shl, Shr}
use Rattle.domains.specs.Area.{HoldsPoint}
use Rattle.domains.specs.declared.area.Area.{Area}
use Rattle.netpbm.specs.Image.{Image, IsImage}
use Rattle.job.specs.Boxes.{AreBoxed}
use Rattle.job.specs.Formula.{Formula, number, coordinate, read, unary, binary, ternary, literal, lookup, select, stencil}
use Rattle.job.specs.Formula.{Test, compare, remainder}
use Rattle.job.specs.Pipeline.{Body, plane, function, accumulator, Stage, Output, Pipeline}
use Rattle.job.specs.Reads.{Read, point, window, EachTaken, BodyReads}
use Rattle.job.specs.WellFormed.{IsLiteral, IsFormula, IsTest, IsValued}
use Rattle.job.specs.WellFormed.{IsFunction, IsReadable, IsBody, IsStage, IsOutputPlane, IsOutput, IsJob}

-- ---- what a place holds

-- the value that is held, and the proof that it is
abbrev Held : {T : Type 0} → Option T → Type 0
Held {T} o = (x : T) × (o ≡ Some x)

abbrev IsFirst : {T : Type 0} (t : T) (o : Option T) → Some t ≡ o → Type 0
IsFirst t None there = Unit {0}
IsFirst t (Some x) there = Path (Held (Some t)) (t, refl) (x, there)

first_held : {T : Type 0} (t x : T) (there : Some t ≡ Some x) → Path (Held (Some t)) (t, refl) (x, there)
first_held t x there = path_j (IsFirst t) refl there

no_value : {T A : Type 0} {x : T} → None ≡ Some x → A
no_value e = absurd (true≢false (sym (ap is_some e)))

Held-prop : {T : Type 0} (o : Option T) → IsProp (Held o)
Held-prop None a b = no_value a.1
Held-prop (Some t) a b = sym (first_held t a.0 a.1) ∙ first_held t b.0 b.1

-- ---- numbers of the text

one_or_three-prop : (n : ℕ) → IsProp ((n ≡ 1) ⊎ (n ≡ 3))
one_or_three-prop n (inl a) (inl b) = ap inl (ℕ_set n 1 a b)
one_or_three-prop n (inl a) (inr b) = absurd (omega arith)
one_or_three-prop n (inr a) (inl b) = absurd (omega arith)
one_or_three-prop n (inr a) (inr b) = ap inr (ℕ_set n 3 a b)

IsLiteral-prop : (op : LiteralOp) (n : ℕ) → IsProp (IsLiteral op n)
IsLiteral-prop Div n = hlevel props
IsLiteral-prop Rem n = hlevel props
IsLiteral-prop Shl n = hlevel props
IsLiteral-prop Shr n = hlevel props

IsFormula-prop : (f : Formula) → IsProp (IsFormula f)
IsFormula-prop (number n) = hlevel props
IsFormula-prop (coordinate x) = hlevel props
IsFormula-prop (read g i j) = hlevel props
IsFormula-prop (unary op a) = IsFormula-prop a
IsFormula-prop (binary op a b) = hlevel (IsFormula-prop a, IsFormula-prop b, props)
IsFormula-prop (ternary op a b c) = hlevel (IsFormula-prop a, IsFormula-prop b, IsFormula-prop c, props)
IsFormula-prop (literal op a n) = hlevel (IsLiteral-prop, IsFormula-prop a, props)
IsFormula-prop (lookup t a) = hlevel (IsFormula-prop a, props)
IsFormula-prop (select a relation b first second) =
    hlevel (IsFormula-prop a, IsFormula-prop b, IsFormula-prop first, IsFormula-prop second, props)
IsFormula-prop (stencil g divisor kernel) = hlevel props

IsTest-prop : (t : Test) → IsProp (IsTest t)
IsTest-prop (compare x relation bound) = hlevel props
IsTest-prop (remainder x modulus rest) = hlevel props

-- ---- stages

IsValued-prop : (body : Body) → IsProp (IsValued body)
IsValued-prop (plane n) = hlevel props
IsValued-prop (function cases otherwise) = hlevel props
IsValued-prop (accumulator fold bins value bin) = hlevel props

IsFunction-prop : (body : Body) → IsProp (IsFunction body)
IsFunction-prop (plane n) = hlevel props
IsFunction-prop (function cases otherwise) = hlevel props
IsFunction-prop (accumulator fold bins value bin) = hlevel props

valued_there-prop : (s : Stage) (r c : ℤ) → IsProp (IsValued s.body × HoldsPoint s.domain r c)
valued_there-prop s r c = hlevel (IsValued-prop, props)

IsReadable-prop : (stages : List Stage) (g : ℕ) (r c : ℤ) → IsProp (IsReadable stages g r c)
IsReadable-prop stages g r c x y =
    let e = Σ_prop (Held-prop (slice_get stages g)) (λ h. valued_there-prop h.0 r c)
    ((x.stage, x.there), (x.valued, x.within)) ((y.stage, y.there), (y.valued, y.within)) in
    λ i. record { stage = (e i).0.0; there = (e i).0.1; valued = (e i).1.0; within = (e i).1.1 }

EachTaken-prop : (stages : List Stage) (x : Read) (r c : ℤ) → IsProp (EachTaken (IsReadable stages) x r c)
EachTaken-prop stages (point g i j) r c = hlevel (IsReadable-prop, props)
EachTaken-prop stages (window g kernel) r c = hlevel (IsReadable-prop, props)

BodyReads-prop : (stages : List Stage) (body : Body) (r c : ℤ) → IsProp (BodyReads (IsReadable stages) body r c)
BodyReads-prop stages (plane n) r c = hlevel props
BodyReads-prop stages (function cases otherwise) r c = hlevel (EachTaken-prop, props)
BodyReads-prop stages (accumulator fold bins value bin) r c = hlevel (EachTaken-prop, props)

IsBody-prop : (picture : Image) (domain : Area) (body : Body) → IsProp (IsBody picture domain body)
IsBody-prop picture domain (plane n) = hlevel props
IsBody-prop picture domain (function cases otherwise) = hlevel (IsTest-prop, props)
IsBody-prop picture domain (accumulator fold bins value bin) = hlevel props

AreBoxed-prop : (domain : Area) (body : Body) → IsProp (AreBoxed domain body)
AreBoxed-prop domain (plane n) = hlevel props
AreBoxed-prop domain (function cases otherwise) = hlevel props
AreBoxed-prop domain (accumulator fold bins value bin) = hlevel props

IsStage-prop : (job : Pipeline) (s : Stage) → IsProp (IsStage job s)
IsStage-prop job s = hlevel (IsBody-prop, AreBoxed-prop, IsFormula-prop, BodyReads-prop, props)

-- ---- the whole

function_there-prop : (height width : ℕ) (s : Stage)
    → IsProp (IsFunction s.body × (len_of s.domain.rows ≡ height) × (len_of s.domain.cols ≡ width))
function_there-prop height width s = hlevel (IsFunction-prop, props)

IsOutputPlane-prop : (job : Pipeline) (height width g : ℕ) → IsProp (IsOutputPlane job height width g)
IsOutputPlane-prop job height width g x y =
    let e = Σ_prop (Held-prop (slice_get job.stages g)) (λ h. function_there-prop height width h.0)
    ((x.stage, x.there), (x.function, x.rows, x.cols)) ((y.stage, y.there), (y.function, y.rows, y.cols)) in
    λ i. record { stage = (e i).0.0; there = (e i).0.1; function = (e i).1.0; rows = (e i).1.1; cols = (e i).1.2 }

IsOutput-prop : (job : Pipeline) (o : Output) → IsProp (IsOutput job o)
IsOutput-prop job o = hlevel (one_or_three-prop, IsOutputPlane-prop, props)

IsImage-prop : (p : Image) → IsProp (IsImage p)
IsImage-prop p = hlevel (one_or_three-prop, props)

pub IsJob-prop : (job : Pipeline) → IsProp (IsJob job)
IsJob-prop job = hlevel (IsStage-prop, IsOutput-prop, IsImage-prop, props)
