-- A plan can be run in one way, and an output is well formed in one way: any two proofs are equal.
use Rattle.std.specs.Prelude.{ℕ, ◌<◌, ◌≤◌, ◌≡◌, ◌⊎◌, ◌≢◌, ℤ, pos, ◌+ℤ◌, ◌+◌, Option, Some, None, List, [], ◌∷◌, slice_get}
use Rattle.std.specs.Option.{is_some}
use Rattle.std.proofs.Common.{refl, sym, ap, ◌∙◌, inl, inr, true≢false, arith}
use Rattle.std.proofs.Props.{props}
use mathlib.Core.Path.{path_j}
use mathlib.Core.HLevel.{Σ_prop}
use native.Mathlib.Nat.{ℕ_set}
use Rattle.job.specs.Pipeline.{Body, plane, function, accumulator, Stage, Output, Pipeline}
use Rattle.job.specs.Reads.{Read, point, window, EachTaken, BodyReads}
use Rattle.job.specs.WellFormed.{IsFunction, IsOutputPlane, IsOutput, IsValued}
use Rattle.domains.specs.Span.{len_of}
use Rattle.row_plans.specs.Plans.{states_after, AreReadsKept, CanMake, IsOutputKept, IsRunnable}
use Rattle.row_plans.specs.Rows.{next_row, IsKeptAt, IsKeptRow}
use Rattle.row_plans.specs.declared.plan.PlanStep.{PlanStep}
use Rattle.row_plans.specs.declared.plan.PlanStep.TheVariants as steps
use Rattle.row_plans.specs.declared.row_state.RowState.{RowState}

-- ---- what a place holds

-- the value that is held, and the proof that it is
abbrev Held : {T : Type 0} → Option T → Type 0
Held {T} o = (x : T) × (o ≡ Some x)

abbrev IsFirst : {T : Type 0} (t : T) (o : Option T) → Some t ≡ o → Type 0
IsFirst t None there = Unit {0}
IsFirst t (Some x) there = Path (Held (Some t)) (t, refl) (x, there)

first_held : {T : Type 0} (t x : T) (there : Some t ≡ Some x) → Path (Held (Some t)) (t, refl) (x, there)
first_held t x there = path_j (IsFirst t) refl there

no_value : {T A : Type 0} {x : T} → None ≡ Some x → A
no_value e = absurd (true≢false (sym (ap is_some e)))

Held-prop : {T : Type 0} (o : Option T) → IsProp (Held o)
Held-prop None a b = no_value a.1
Held-prop (Some t) a b = sym (first_held t a.0 a.1) ∙ first_held t b.0 b.1

-- ---- an output

one_or_three-prop : (n : ℕ) → IsProp ((n ≡ 1) ⊎ (n ≡ 3))
one_or_three-prop n (inl a) (inl b) = ap inl (ℕ_set n 1 a b)
one_or_three-prop n (inl a) (inr b) = absurd (omega arith)
one_or_three-prop n (inr a) (inl b) = absurd (omega arith)
one_or_three-prop n (inr a) (inr b) = ap inr (ℕ_set n 3 a b)

IsFunction-prop : (body : Body) → IsProp (IsFunction body)
IsFunction-prop (plane n) = hlevel props
IsFunction-prop (function cases otherwise) = hlevel props
IsFunction-prop (accumulator fold bins value bin) = hlevel props

function_there-prop : (height width : ℕ) (s : Stage)
    → IsProp (IsFunction s.body × (len_of s.domain.rows ≡ height) × (len_of s.domain.cols ≡ width))
function_there-prop height width s = hlevel (IsFunction-prop, props)

IsOutputPlane-prop : (job : Pipeline) (height width g : ℕ) → IsProp (IsOutputPlane job height width g)
IsOutputPlane-prop job height width g x y =
    let e = Σ_prop (Held-prop (slice_get job.stages g)) (λ h. function_there-prop height width h.0)
    ((x.stage, x.there), (x.function, x.rows, x.cols)) ((y.stage, y.there), (y.function, y.rows, y.cols)) in
    λ i. record { stage = (e i).0.0; there = (e i).0.1; function = (e i).1.0; rows = (e i).1.1; cols = (e i).1.2 }

pub IsOutput-prop : (job : Pipeline) (o : Output) → IsProp (IsOutput job o)
IsOutput-prop job o = hlevel (one_or_three-prop, IsOutputPlane-prop, props)

-- ---- a plan

IsValued-prop : (body : Body) → IsProp (IsValued body)
IsValued-prop (plane n) = hlevel props
IsValued-prop (function cases otherwise) = hlevel props
IsValued-prop (accumulator fold bins value bin) = hlevel props

-- another stage is read where it is kept
abbrev IsOtherKept : List RowState → ℕ → ℕ → ℤ → ℤ → Type 0
IsOtherKept states g h q d = (h ≢ g) × IsKeptAt states h q

IsKeptRow-prop : (s : RowState) (q : ℤ) → IsProp (IsKeptRow s q)
IsKeptRow-prop s q = hlevel props

IsKeptAt-prop : (states : List RowState) (h : ℕ) (q : ℤ) → IsProp (IsKeptAt states h q)
IsKeptAt-prop states h q x y =
    let e = Σ_prop (Held-prop (slice_get states h)) (λ k. IsKeptRow-prop k.0 q) ((x.0, x.1), x.2) ((y.0, y.1), y.2) in
    λ i. ((e i).0.0, (e i).0.1, (e i).1)

IsOtherKept-prop : (states : List RowState) (g h : ℕ) (q d : ℤ) → IsProp (IsOtherKept states g h q d)
IsOtherKept-prop states g h q d = hlevel (IsKeptAt-prop, props)

EachTaken-prop : (states : List RowState) (g : ℕ) (x : Read) (r c : ℤ) → IsProp (EachTaken (IsOtherKept states g) x r c)
EachTaken-prop states g (point h i j) r c = hlevel (IsOtherKept-prop, props)
EachTaken-prop states g (window h kernel) r c = hlevel (IsOtherKept-prop, props)

BodyReads-prop : (states : List RowState) (g : ℕ) (body : Body) (r c : ℤ) → IsProp (BodyReads (IsOtherKept states g) body r c)
BodyReads-prop states g (plane n) r c = hlevel props
BodyReads-prop states g (function cases otherwise) r c = hlevel (EachTaken-prop, props)
BodyReads-prop states g (accumulator fold bins value bin) r c = hlevel (EachTaken-prop, props)

AreReadsKept-prop : (states : List RowState) (g : ℕ) (s : Stage) (r : ℤ) → IsProp (AreReadsKept states g s r)
AreReadsKept-prop states g s r = hlevel (BodyReads-prop, props)

-- a stage, and its state
abbrev HeldPair : Option Stage → Option RowState → Type 0
HeldPair s t = Held s × Held t

HeldPair-prop : (s : Option Stage) (t : Option RowState) → IsProp (HeldPair s t)
HeldPair-prop s t = hlevel (Held-prop s, Held-prop t, props)

abbrev IsMakeable : List RowState → ℕ → Stage → RowState → Type 0
IsMakeable states g s t =
    IsValued s.body × (t.area ≡ s.domain) × (t.first ≤ t.next) × (t.next < len_of t.area.rows) × (0 < t.kept)
    × AreReadsKept states g s (next_row t)

IsMakeable-prop : (states : List RowState) (g : ℕ) (s : Stage) (t : RowState) → IsProp (IsMakeable states g s t)
IsMakeable-prop states g s t = hlevel (IsValued-prop, AreReadsKept-prop, props)

CanMake-prop : (job : Pipeline) (states : List RowState) (g : ℕ) → IsProp (CanMake job states g)
CanMake-prop job states g x y =
    let e = Σ_prop (HeldPair-prop (slice_get job.stages g) (slice_get states g)) (λ h. IsMakeable-prop states g h.0.0 h.1.0)
    (((x.stage, x.there), (x.state, x.own)), (x.valued, x.area, x.begun, x.left, x.some, x.reads))
    (((y.stage, y.there), (y.state, y.own)), (y.valued, y.area, y.begun, y.left, y.some, y.reads)) in λ i. record {
      stage = (e i).0.0.0;
      there = (e i).0.0.1;
      valued = (e i).1.0;
      state = (e i).0.1.0;
      own = (e i).0.1.1;
      area = (e i).1.1;
      begun = (e i).1.2;
      left = (e i).1.3;
      some = (e i).1.4;
      reads = (e i).1.5;
    }

-- a stage whose row is kept
abbrev IsKeptOf : ℕ → Stage → RowState → Type 0
IsKeptOf y s t = (t.area ≡ s.domain) × IsKeptRow t (t.area.rows.lo +ℤ pos y)

IsKeptOf-prop : (y : ℕ) (s : Stage) (t : RowState) → IsProp (IsKeptOf y s t)
IsKeptOf-prop y s t = hlevel (IsKeptRow-prop, props)

IsOutputKept-prop : (job : Pipeline) (states : List RowState) (y g : ℕ) → IsProp (IsOutputKept job states y g)
IsOutputKept-prop job states y g a b =
    let e = Σ_prop (HeldPair-prop (slice_get job.stages g) (slice_get states g)) (λ h. IsKeptOf-prop y h.0.0 h.1.0)
    (((a.stage, a.there), (a.state, a.own)), (a.area, a.kept)) (((b.stage, b.there), (b.state, b.own)), (b.area, b.kept)) in λ i. record {
      stage = (e i).0.0.0;
      there = (e i).0.0.1;
      state = (e i).0.1.0;
      own = (e i).0.1.1;
      area = (e i).1.0;
      kept = (e i).1.1;
    }

pub IsRunnable-prop : (job : Pipeline) (outputs : List ℕ) (end y : ℕ) (states : List RowState) (steps : List PlanStep)
    → IsProp (IsRunnable job outputs end y states steps)
IsRunnable-prop job outputs end y states [] = hlevel props
IsRunnable-prop job outputs end y states (steps.Make g ∷ rest) =
    hlevel (CanMake-prop job states g, IsRunnable-prop job outputs end y (states_after states g) rest, props)
IsRunnable-prop job outputs end y states (steps.Output ∷ rest) =
    hlevel (IsOutputKept-prop, IsRunnable-prop job outputs end (y + 1) states rest, props)
