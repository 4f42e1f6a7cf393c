-- A stage has one domain, or one fault of its intervals; and a table one span.
use Rattle.std.proofs.Common.{ℤ, pos, negsuc, ◌+ℤ◌, ◌≤ℤ◌, ◌<ℤ◌, ◌≡◌, ◌⊎◌, inl, inr, Result, Ok, Err, List, refl, sym, ◌∙◌, ap, subst, arith}
use Rattle.std.proofs.lemmas.Int.{ints}
use Rattle.std.proofs.lemmas.Option.{same_Some}
use Rattle.domains.specs.Span.{Ends}
use Rattle.domains.specs.declared.area.Area.{Area}
use Rattle.pipe_tree.specs.declared.tree.Table.{Table}
use Rattle.pipe_tree.specs.Tree.{Declaration, param, image, table, function, accumulator, output}
use Rattle.pipe_checks.specs.declared.symbol.Symbol.{Symbol}
use Rattle.pipe_bounds.specs.declared.domain.IntervalFault.{IntervalFault}
use Rattle.pipe_bounds.specs.declared.domain.IntervalFault.TheVariants.{Empty, TooWide}
use Rattle.pipe_bounds.specs.declared.params.Setting.{Setting}
use Rattle.pipe_bounds.specs.Settings.{affine_value}
use Rattle.pipe_bounds.specs.Domains.{IsSpanFrom, IsInterval, IsExtent, IsBins, IsSpanOf, IsArea, IsAfter, IsDomain}
use Rattle.pipe_bounds.specs.Within.{IsStageDomain}
use Rattle.pipe_bounds.specs.Tables.{IsTableSpan}

-- at most one answer meets P
abbrev IsFunctional : {X : Type 0} → (Result X IntervalFault → Type 0) → Type 0
IsFunctional {X} P = (r q : Result X IntervalFault) → P r → P q → r ≡ q

same_ends : (first last : ℤ) (e d : Ends) → IsSpanFrom first last e → IsSpanFrom first last d → e ≡ d
same_ends first last e d h g = λ i. record { lo = (h.lo ∙ sym g.lo) i; hi = (h.hi ∙ sym g.hi) i }

reaches_no_further : (first last : ℤ) (e : Ends) → IsSpanFrom first last e → (first <ℤ negsuc 16383) ⊎ (pos 16384 <ℤ last) → ⊥
reaches_no_further first last e h (inl low) = omega (arith, ints, h.least, low)
reaches_no_further first last e h (inr high) = omega (arith, ints, h.most, high)

one_interval : (first last : ℤ) → IsFunctional (IsInterval first last)
one_interval first last (Ok e) (Ok d) h g = ap Ok (same_ends first last e d h g)
one_interval first last (Ok e) (Err Empty) h g = absurd (omega (arith, ints, h.ordered, g))
one_interval first last (Ok e) (Err TooWide) h g = absurd (reaches_no_further first last e h g.1)
one_interval first last (Err Empty) (Ok d) h g = absurd (omega (arith, ints, g.ordered, h))
one_interval first last (Err Empty) (Err Empty) h g = refl
one_interval first last (Err Empty) (Err TooWide) h g = absurd (omega (arith, ints, h, g.0))
one_interval first last (Err TooWide) (Ok d) h g = absurd (reaches_no_further first last d g h.1)
one_interval first last (Err TooWide) (Err Empty) h g = absurd (omega (arith, ints, g, h.0))
one_interval first last (Err TooWide) (Err TooWide) h g = refl

one_extent : (side : ℤ) → IsFunctional (IsExtent side)
one_extent side (Ok e) (Ok d) h g =
    let hi : e.hi ≡ d.hi = omega (arith, ints, h.hi, g.hi) in
    ap Ok (λ i. record { lo = (h.lo ∙ sym g.lo) i; hi = hi i })
one_extent side (Ok e) (Err Empty) h g = absurd (omega (arith, ints, h.least, g))
one_extent side (Ok e) (Err TooWide) h g = absurd (omega (arith, ints, h.most, g))
one_extent side (Err Empty) (Ok d) h g = absurd (omega (arith, ints, g.least, h))
one_extent side (Err Empty) (Err Empty) h g = refl
one_extent side (Err Empty) (Err TooWide) h g = absurd (omega (arith, ints, h, g))
one_extent side (Err TooWide) (Ok d) h g = absurd (omega (arith, ints, g.most, h))
one_extent side (Err TooWide) (Err Empty) h g = absurd (omega (arith, ints, h, g))
one_extent side (Err TooWide) (Err TooWide) h g = refl

no_more_bins : (first last : ℤ) (e : Ends) → IsSpanFrom first last e → last <ℤ (first +ℤ pos 4096)
    → ((first <ℤ negsuc 16383) ⊎ (pos 16384 <ℤ last)) ⊎ ((first +ℤ pos 4096) ≤ℤ last) → ⊥
no_more_bins first last e h few (inl far) = reaches_no_further first last e h far
no_more_bins first last e h few (inr many) = omega (arith, ints, few, many)

one_bins : (first last : ℤ) → IsFunctional (IsBins first last)
one_bins first last (Ok e) (Ok d) h g = ap Ok (same_ends first last e d h.0 g.0)
one_bins first last (Ok e) (Err Empty) h g = absurd (omega (arith, ints, h.0.ordered, g))
one_bins first last (Ok e) (Err TooWide) h g = absurd (no_more_bins first last e h.0 h.1 g.1)
one_bins first last (Err Empty) (Ok d) h g = absurd (omega (arith, ints, g.0.ordered, h))
one_bins first last (Err Empty) (Err Empty) h g = refl
one_bins first last (Err Empty) (Err TooWide) h g = absurd (omega (arith, ints, h, g.0))
one_bins first last (Err TooWide) (Ok d) h g = absurd (no_more_bins first last d g.0 g.1 h.1)
one_bins first last (Err TooWide) (Err Empty) h g = absurd (omega (arith, ints, g, h.0))
one_bins first last (Err TooWide) (Err TooWide) h g = refl

not_both : {X : Type 0} (P : Result X IntervalFault → Type 0) (x : X) (f : IntervalFault) → IsFunctional P → P (Ok x) → P (Err f) → ⊥
not_both P x f one ok err = let same : Ok x ≡ Err f = one (Ok x) (Err f) ok err in cc

same_ok : {X : Type 0} (P : Result X IntervalFault → Type 0) (x y : X) → IsFunctional P → P (Ok x) → P (Ok y) → x ≡ y
same_ok P x y one h g = let same : ◌≡◌ {A = Result _ IntervalFault} (Ok x) (Ok y) = one (Ok x) (Ok y) h g in cc

same_err : {X : Type 0} (P : Result X IntervalFault → Type 0) (f g : IntervalFault) → IsFunctional P → P (Err f) → P (Err g) → f ≡ g
same_err P f g one h k = let same : ◌≡◌ {A = Result _ IntervalFault} (Err f) (Err g) = one (Err f) (Err g) h k in cc

one_area : (R C : Result Ends IntervalFault → Type 0) → IsFunctional R → IsFunctional C → IsFunctional (IsArea R C)
one_area R C r c (Ok a) (Ok b) h g =
    ap Ok (λ i. record { rows = same_ok R a.rows b.rows r h.0 g.0 i; cols = same_ok C a.cols b.cols c h.1 g.1 i })
one_area R C r c (Ok a) (Err f) h (inl g) = absurd (not_both R a.rows f r h.0 g)
one_area R C r c (Ok a) (Err f) h (inr g) = absurd (not_both C a.cols f c h.1 g.2)
one_area R C r c (Err f) (Ok b) (inl h) g = absurd (not_both R b.rows f r g.0 h)
one_area R C r c (Err f) (Ok b) (inr h) g = absurd (not_both C b.cols f c g.1 h.2)
one_area R C r c (Err f) (Err e) (inl h) (inl g) = ap Err (same_err R f e r h g)
one_area R C r c (Err f) (Err e) (inl h) (inr g) = absurd (not_both R g.0 f r g.1 h)
one_area R C r c (Err f) (Err e) (inr h) (inl g) = absurd (not_both R h.0 e r h.1 g)
one_area R C r c (Err f) (Err e) (inr h) (inr g) = ap Err (same_err C f e c h.2 g.2)

one_after : (B : Result Ends IntervalFault → Type 0) (T : Result Area IntervalFault → Type 0) → IsFunctional B → IsFunctional T
    → IsFunctional (IsAfter B T)
one_after B T b t (Ok x) (Ok y) h g = t (Ok x) (Ok y) h.2 g.2
one_after B T b t (Ok x) (Err f) h (inl g) = absurd (not_both B h.0 f b h.1 g)
one_after B T b t (Ok x) (Err f) h (inr g) = absurd (not_both T x f t h.2 g.2)
one_after B T b t (Err f) (Ok y) (inl h) g = absurd (not_both B g.0 f b g.1 h)
one_after B T b t (Err f) (Ok y) (inr h) g = absurd (not_both T y f t g.2 h.2)
one_after B T b t (Err f) (Err e) (inl h) (inl g) = ap Err (same_err B f e b h g)
one_after B T b t (Err f) (Err e) (inl h) (inr g) = absurd (not_both B g.0 f b g.1 h)
one_after B T b t (Err f) (Err e) (inr h) (inl g) = absurd (not_both B h.0 e b h.1 g)
one_after B T b t (Err f) (Err e) (inr h) (inr g) = ap Err (same_err T f e t h.2 g.2)

one_domain : (ss : List Setting) (d : Declaration) → IsFunctional (IsDomain ss d)
one_domain ss (param p) r q h g = h ∙ sym g
one_domain ss (image i) r q h g = one_area _ _ (one_extent (affine_value ss i.rows)) (one_extent (affine_value ss i.columns)) r q h g
one_domain ss (table t) r q h g = h ∙ sym g
one_domain ss (function f) r q h g =
    one_area (IsSpanOf ss f.row.span) (IsSpanOf ss f.column.span) (one_interval _ _) (one_interval _ _) r q h g
one_domain ss (accumulator a) r q h g =
    one_after _ (IsArea (IsSpanOf ss a.row.span) (IsSpanOf ss a.column.span))
    (one_bins (affine_value ss a.bins.first) (affine_value ss a.bins.last))
    (one_area (IsSpanOf ss a.row.span) (IsSpanOf ss a.column.span) (one_interval _ _) (one_interval _ _)) r q h g
one_domain ss (output o) r q h g = h ∙ sym g

pub one_stage_domain : (ss : List Setting) (ds : List Declaration) (s : Symbol) (r q : Result Area IntervalFault) → IsStageDomain ss ds s r
    → IsStageDomain ss ds s q → r ≡ q
one_stage_domain ss ds s r q h g =
    one_domain ss h.0 r q h.2 (subst (λ (d : Declaration). IsDomain ss d q) (same_Some g.0 h.0 (sym g.1 ∙ h.1)) g.2)

pub not_ok_and_err : (ss : List Setting) (ds : List Declaration) (s : Symbol) (a : Area) (f : IntervalFault) → IsStageDomain ss ds s (Ok a)
    → IsStageDomain ss ds s (Err f) → ⊥
not_ok_and_err ss ds s a f ok err = not_both (IsStageDomain ss ds s) a f (one_stage_domain ss ds s) ok err

pub same_area : (ss : List Setting) (ds : List Declaration) (s : Symbol) (a b : Area) → IsStageDomain ss ds s (Ok a)
    → IsStageDomain ss ds s (Ok b) → a ≡ b
same_area ss ds s a b h g = same_ok (IsStageDomain ss ds s) a b (one_stage_domain ss ds s) h g

pub same_fault : (ss : List Setting) (ds : List Declaration) (s : Symbol) (f e : IntervalFault) → IsStageDomain ss ds s (Err f)
    → IsStageDomain ss ds s (Err e) → f ≡ e
same_fault ss ds s f e h g = same_err (IsStageDomain ss ds s) f e (one_stage_domain ss ds s) h g

-- ---- tables

one_span : (ss : List Setting) (ds : List Declaration) (s : Symbol) → IsFunctional (IsTableSpan ss ds s)
one_span ss ds s r q h g =
    let same : h.0 ≡ g.0 = same_table (same_Some (table h.0) (table g.0) (sym h.1 ∙ g.1)) in
    one_bins (affine_value ss h.0.span.first) (affine_value ss h.0.span.last) r q h.2
    (subst (λ (t : Table). IsBins (affine_value ss t.span.first) (affine_value ss t.span.last) q) (sym same) g.2)
  where
    same_table : {t u : Table} → ◌≡◌ {A = Declaration} (table t) (table u) → t ≡ u
    same_table e = cc

pub not_span_and_fault : (ss : List Setting) (ds : List Declaration) (s : Symbol) (e : Ends) (f : IntervalFault) → IsTableSpan ss ds s (Ok e)
    → IsTableSpan ss ds s (Err f) → ⊥
not_span_and_fault ss ds s e f ok err = not_both (IsTableSpan ss ds s) e f (one_span ss ds s) ok err

pub same_table_fault : (ss : List Setting) (ds : List Declaration) (s : Symbol) (f e : IntervalFault) → IsTableSpan ss ds s (Err f)
    → IsTableSpan ss ds s (Err e) → f ≡ e
same_table_fault ss ds s f e h g = same_err (IsTableSpan ss ds s) f e (one_span ss ds s) h g
