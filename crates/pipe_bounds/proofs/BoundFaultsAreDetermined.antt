-- At the values of its parameters a program has one fault, but for memory, or none.
use Rattle.std.proofs.Common.{ℕ, suc, ℤ, ◌<◌, ◌≤◌, ◌≡◌, ◌≢◌, ◌⊎◌, inl, inr, Ok, Err, List, [], ◌∷◌, Some, None, length, get_or}
use Rattle.std.proofs.Common.{slice_get, refl, sym, ◌∙◌, ap, subst, arith}
use Rattle.std.proofs.lemmas.Bool.{cases_lt}
use Rattle.std.proofs.lemmas.Int.{ints}
use Rattle.std.proofs.lemmas.Option.{same_Some, none-some, slice_get_within, slice_get_cases}
use Rattle.domains.specs.Span.{Holds}
use Rattle.domains.specs.Index.{index_at}
use Rattle.domains.specs.declared.area.Area.{Area}
use Rattle.pipe_tree.specs.Tree.{Declaration}
use Rattle.pipe_checks.specs.declared.symbol.Symbol.{Symbol}
use Rattle.pipe_bounds.specs.declared.domain.IntervalFault.{IntervalFault}
use Rattle.pipe_bounds.specs.declared.domain.IntervalFault.TheVariants.{Empty, TooWide}
use Rattle.pipe_bounds.specs.declared.fault.Axis.{Axis}
use Rattle.pipe_bounds.specs.declared.fault.Axis.TheVariants.{Rows, Columns}
use Rattle.pipe_bounds.specs.declared.fault.BoundFault.{BoundFault}
use Rattle.pipe_bounds.specs.declared.fault.BoundFault.TheVariants.{ParamUnset, EmptyDomain, DomainTooWide, OutOfBounds, Memory}
use Rattle.pipe_bounds.specs.declared.fault.BoundFault.TheVariants.{EmptyTable, TableTooWide}
use Rattle.pipe_bounds.specs.declared.params.Setting.{Setting}
use Rattle.pipe_checks.specs.declared.access.Access.{Access}
use Rattle.pipe_checks.specs.declared.access.Access.TheVariants.{Read, Stencil}
use Rattle.domains.specs.Span.{Ends}
use Rattle.pipe_checks.specs.Names.{tables_of, stages_of}
use Rattle.pipe_checks.specs.Accesses.{stage_read}
use Rattle.pipe_bounds.specs.Within.{AllSet, IsFirstUnset, IsStageDomain, HaveDomains, IsFirstFaultyDomain}
use Rattle.pipe_bounds.specs.Tables.{IsTableSpan, TablesStand, IsFirstFaultyTable}
use Rattle.pipe_bounds.specs.InBounds.{ReadCase, IsInBox, TakesRow, TakesColumn, Stays, AllStay, StageStays, StaysAt, AreInBounds}
use Rattle.pipe_bounds.specs.InBounds.{StaysAlong, AreExtremes, Leaves, TellsRead, IsFirstRead, IsFirstCase, IsFirstStage}
use Rattle.pipe_bounds.specs.InBounds.{IsFirstDeparture, IsBoundFault, IsInBounds, stage_cases, scale_of}
use Rattle.pipe_bounds.specs.inside.Taken.{TellsDomain, stage_domain_fault, TellsTable, table_span_fault}
use Rattle.pipe_bounds.proofs.OneDomain.{not_ok_and_err, same_area, same_fault, not_span_and_fault, same_table_fault}

-- ---- lists

-- the first place that is not good is one
one_first : {X : Type 0} (Good : ℕ → X → Type 0) (xs : List X) (m n : ℕ) (x y : X) → slice_get xs m ≡ Some x → slice_get xs n ≡ Some y
    → ((k : ℕ) (z : X) → k < m → slice_get xs k ≡ Some z → Good k z) → ((k : ℕ) (z : X) → k < n → slice_get xs k ≡ Some z → Good k z)
    → (Good m x → ⊥) → (Good n y → ⊥) → m ≡ n
one_first Good xs m n x y at_m at_n before_m before_n bad_m bad_n = by_place (cases_lt m n) (cases_lt n m)
  where
    by_place : (m < n) ⊎ (n ≤ m) → (n < m) ⊎ (m ≤ n) → m ≡ n
    by_place (inl less) q = absurd (bad_m (before_n m x less at_m))
    by_place (inr l) (inl less) = absurd (bad_n (before_m n y less at_n))
    by_place (inr l) (inr k) = omega arith

same_place : {X : Type 0} (xs : List X) (m n : ℕ) (x y : X) → slice_get xs m ≡ Some x → slice_get xs n ≡ Some y → m ≡ n → x ≡ y
same_place xs m n x y at_m at_n e = same_Some x y (sym at_m ∙ ap (slice_get xs) e ∙ at_n)

pub same_list : {X : Type 0} (xs ys : List X) → length xs ≡ length ys
    → ((i : ℕ) (x y : X) → slice_get xs i ≡ Some x → slice_get ys i ≡ Some y → x ≡ y) → xs ≡ ys
same_list [] [] e h = refl
same_list [] (y ∷ ys) e h = absurd (omega (arith, e))
same_list (x ∷ xs) [] e h = absurd (omega (arith, e))
same_list (x ∷ xs) (y ∷ ys) e h = λ i. h 0 x y refl refl i ∷ same_list xs ys (omega (arith, e)) (λ k. h (suc k)) i

-- ---- domains

same_areas : (ss : List Setting) (ds : List Declaration) (stages : List Symbol) (xs ys : List Area) → HaveDomains ss ds stages xs
    → HaveDomains ss ds stages ys → xs ≡ ys
same_areas ss ds stages xs ys h g = same_list xs ys (h.each ∙ sym g.each) each
  where
    each : (i : ℕ) (x y : Area) → slice_get xs i ≡ Some x → slice_get ys i ≡ Some y → x ≡ y
    each i x y at_x at_y = by_stage (slice_get_cases stages i).1
      where
        by_stage : ((s : Symbol) × (i < length stages) × (slice_get stages i ≡ Some s) × (get_or stages i s ≡ s))
            ⊎ ((length stages ≤ i) × (slice_get stages i ≡ None)) → x ≡ y
        by_stage (inl s) = same_area ss ds s.0 x y (h.domain i s.0 x s.2 at_x) (g.domain i s.0 y s.2 at_y)
        by_stage (inr past) = absurd (omega (arith, past.0, slice_get_within xs i x at_x, h.each))

-- a faulty stage has no domain
no_domains : (ss : List Setting) (ds : List Declaration) (stages : List Symbol) (areas : List Area) (fault : IntervalFault) (k : ℕ)
    → HaveDomains ss ds stages areas → IsFirstFaultyDomain ss ds stages fault k → ⊥
no_domains ss ds stages areas fault k h first = by_area (slice_get_cases areas k).1
  where
    by_area : ((a : Area) × (k < length areas) × (slice_get areas k ≡ Some a) × (get_or areas k a ≡ a))
        ⊎ ((length areas ≤ k) × (slice_get areas k ≡ None)) → ⊥
    by_area (inl a) = not_ok_and_err ss ds first.stage a.0 fault (h.domain k first.stage a.0 first.there a.2) first.faulty
    by_area (inr past) = omega (arith, past.0, slice_get_within stages k first.stage first.there, h.each)

-- ---- tables

-- a faulty table has no span
no_spans : (ss : List Setting) (ds : List Declaration) (tables : List Symbol) (fault : IntervalFault) (k : ℕ) → TablesStand ss ds tables
    → IsFirstFaultyTable ss ds tables fault k → ⊥
no_spans ss ds tables fault k h first =
    let e = h k first.declared first.there in
    not_span_and_fault ss ds first.declared e.0 fault e.1 first.faulty

-- ---- reads

some_row : (access : Access) (r : ℤ) → (x : ℤ) × TakesRow access r x
some_row (Read g i j) r = (index_at (scale_of i) r, refl)
some_row (Stencil g m n) r = (r, (omega (arith, ints), omega (arith, ints)))

some_column : (access : Access) (c : ℤ) → (y : ℤ) × TakesColumn access c y
some_column (Read g i j) c = (index_at (scale_of j) c, refl)
some_column (Stencil g m n) c = (c, (omega (arith, ints), omega (arith, ints)))

stays_along : (areas : List Area) (Box : ℤ → ℤ → Type 0) (access : Access) (domain : Area) (axis : Axis)
    → slice_get areas (stage_read access) ≡ Some domain → Stays areas Box access → StaysAlong Box access domain axis
stays_along areas Box access domain Rows there stays v taken =
    let column = some_column access taken.1 in
    let within = stays taken.0 taken.1 taken.2 v column.0 taken.3 column.1 in
    subst (λ (a : Area). Holds a.rows v) (same_Some within.domain domain (sym within.there ∙ there)) within.holds.0
stays_along areas Box access domain Columns there stays v taken =
    let row = some_row access taken.0 in
    let within = stays taken.0 taken.1 taken.2 row.0 v row.1 taken.3 in
    subst (λ (a : Area). Holds a.cols v) (same_Some within.domain domain (sym within.there ∙ there)) within.holds.1

read_not_stays : (areas : List Area) (Box : ℤ → ℤ → Type 0) (access : Access) (k n m : ℕ) (f : BoundFault)
    → TellsRead areas Box access k n m f → Stays areas Box access → ⊥
read_not_stays areas Box access k n m f h stays = h.leaves.leaves (stays_along areas Box access h.leaves.domain h.axis h.leaves.there stays)

same_extremes : (Is : ℤ → Type 0) (a b c d : ℤ) → AreExtremes Is a b → AreExtremes Is c d → (a ≡ c) × (b ≡ d)
same_extremes Is a b c d h g =
    let first = h.between c g.first in
    let last = h.between d g.last in
    let first_too = g.between a h.first in
    let last_too = g.between b h.last in
    (omega (arith, ints), omega (arith, ints))

same_leaving : (areas : List Area) (Box : ℤ → ℤ → Type 0) (access : Access) (k n m : ℕ) (axis other : Axis) (a b c d : ℤ)
    → Leaves areas Box access axis a b → Leaves areas Box access other c d → OutOfBounds k n m axis a b ≡ OutOfBounds k n m other c d
same_leaving areas Box access k n m Rows Rows a b c d h g =
    let e = same_extremes _ a b c d h.extremes g.extremes in λ i. OutOfBounds k n m Rows (e.0 i) (e.1 i)
same_leaving areas Box access k n m Columns Columns a b c d h g =
    let e = same_extremes _ a b c d h.extremes g.extremes in λ i. OutOfBounds k n m Columns (e.0 i) (e.1 i)
same_leaving areas Box access k n m Rows Columns a b c d h g =
    absurd
    (h.leaves (subst (λ (x : Area). StaysAlong Box access x Rows) (same_Some g.domain h.domain (sym g.there ∙ h.there)) (g.rows refl)))
same_leaving areas Box access k n m Columns Rows a b c d h g =
    absurd
    (g.leaves (subst (λ (x : Area). StaysAlong Box access x Rows) (same_Some h.domain g.domain (sym h.there ∙ g.there)) (h.rows refl)))

same_tells : (areas : List Area) (Box : ℤ → ℤ → Type 0) (access : Access) (k n m : ℕ) (f g : BoundFault)
    → TellsRead areas Box access k n m f → TellsRead areas Box access k n m g → f ≡ g
same_tells areas Box access k n m f g h e =
    h.told ∙ same_leaving areas Box access k n m h.axis e.axis h.least h.greatest e.least e.greatest h.leaves e.leaves ∙ sym e.told

one_read : (areas : List Area) (Box : ℤ → ℤ → Type 0) (accesses : List Access) (k n : ℕ) (f g : BoundFault)
    → IsFirstRead areas Box accesses k n f → IsFirstRead areas Box accesses k n g → f ≡ g
one_read areas Box accesses k n f g h e =
    let number =
    one_first (λ m x. Stays areas Box x) accesses h.number e.number h.access e.access h.there e.there h.before e.before
    (read_not_stays areas Box h.access k n h.number f h.tells) (read_not_stays areas Box e.access k n e.number g e.tells) in
    let access = same_place accesses h.number e.number h.access e.access h.there e.there number in
    same_tells areas Box h.access k n h.number f g h.tells
    (subst (λ (x : Access). TellsRead areas Box x k n h.number g) (sym access)
    (subst (λ m. TellsRead areas Box e.access k n m g) (sym number) e.tells))

-- ---- cases

case_not_stays : (areas : List Area) (Box : ℤ → ℤ → Type 0) (accesses : List Access) (k n : ℕ) (f : BoundFault)
    → IsFirstRead areas Box accesses k n f → AllStay areas Box accesses → ⊥
case_not_stays areas Box accesses k n f h all = read_not_stays areas Box h.access k n h.number f h.tells (all h.number h.access h.there)

one_case : (ss : List Setting) (areas : List Area) (domain : Area) (cases : List ReadCase) (k : ℕ) (f g : BoundFault)
    → IsFirstCase ss areas domain cases k f → IsFirstCase ss areas domain cases k g → f ≡ g
one_case ss areas domain cases k f g h e =
    let number =
    one_first (λ n (x : ReadCase). AllStay areas (IsInBox ss domain x) x.accesses) cases h.number e.number h.place e.place h.there
    e.there h.before e.before (case_not_stays areas (IsInBox ss domain h.place) h.place.accesses k h.number f h.read)
    (case_not_stays areas (IsInBox ss domain e.place) e.place.accesses k e.number g e.read) in
    let place = same_place cases h.number e.number h.place e.place h.there e.there number in
    let read =
    subst (λ (x : ReadCase). IsFirstRead areas (IsInBox ss domain x) x.accesses k h.number g) (sym place)
    (subst (λ n. IsFirstRead areas (IsInBox ss domain e.place) e.place.accesses k n g) (sym number) e.read) in
    one_read areas (IsInBox ss domain h.place) h.place.accesses k h.number f g h.read read

-- ---- stages

stage_not_stays : (ss : List Setting) (areas : List Area) (domain : Area) (cases : List ReadCase) (k : ℕ) (f : BoundFault)
    → IsFirstCase ss areas domain cases k f → StageStays ss areas domain cases → ⊥
stage_not_stays ss areas domain cases k f h all =
    case_not_stays areas (IsInBox ss domain h.place) h.place.accesses k h.number f h.read (all h.number h.place h.there)

at_not_stays : (ss : List Setting) (ds : List Declaration) (stages : List Symbol) (areas : List Area) (f : BoundFault)
    (h : IsFirstStage ss ds stages areas f) → StaysAt ss ds stages areas h.number h.stage → ⊥
at_not_stays ss ds stages areas f h all =
    stage_not_stays ss areas h.domain (stage_cases ds stages h.stage) h.number f h.case (all h.domain h.has)

not_in_bounds : (ss : List Setting) (ds : List Declaration) (stages : List Symbol) (areas : List Area) (f : BoundFault)
    → IsFirstStage ss ds stages areas f → AreInBounds ss ds stages areas → ⊥
not_in_bounds ss ds stages areas f h all = at_not_stays ss ds stages areas f h (all h.number h.stage h.there)

one_stage : (ss : List Setting) (ds : List Declaration) (stages : List Symbol) (areas : List Area) (f g : BoundFault)
    → IsFirstStage ss ds stages areas f → IsFirstStage ss ds stages areas g → f ≡ g
one_stage ss ds stages areas f g h e =
    let number =
    one_first (λ k s. StaysAt ss ds stages areas k s) stages h.number e.number h.stage e.stage h.there e.there h.before e.before
    (at_not_stays ss ds stages areas f h) (at_not_stays ss ds stages areas g e) in
    let stage = same_place stages h.number e.number h.stage e.stage h.there e.there number in
    let domain = same_place areas h.number e.number h.domain e.domain h.has e.has number in
    let at_number = subst (λ k. IsFirstCase ss areas e.domain (stage_cases ds stages e.stage) k g) (sym number) e.case in
    let at_stage = subst (λ (s : Symbol). IsFirstCase ss areas e.domain (stage_cases ds stages s) h.number g) (sym stage) at_number in
    let case = subst (λ (a : Area). IsFirstCase ss areas a (stage_cases ds stages h.stage) h.number g) (sym domain) at_stage in
    one_case ss areas h.domain (stage_cases ds stages h.stage) h.number f g h.case case

one_departure : (ss : List Setting) (ds : List Declaration) (f g : BoundFault) → IsFirstDeparture ss ds f → IsFirstDeparture ss ds g → f ≡ g
one_departure ss ds f g h e =
    let areas = same_areas ss ds (stages_of ds) e.areas h.areas e.domains h.domains in
    one_stage ss ds (stages_of ds) h.areas f g h.stage (subst (λ xs. IsFirstStage ss ds (stages_of ds) xs g) areas e.stage)

-- ---- the others

unset_not_set : (ss : List Setting) (n : ℕ) → IsFirstUnset ss n → AllSet ss → ⊥
unset_not_set ss n first all = let v = all n first.setting first.there in none-some v.0 (sym first.unset ∙ v.1)

one_unset : (ss : List Setting) (m n : ℕ) → IsFirstUnset ss m → IsFirstUnset ss n → m ≡ n
one_unset ss m n h g =
    one_first (λ k (s : Setting). (v : ℤ) × (s.value ≡ Some v)) ss m n h.setting g.setting h.there g.there h.first g.first
    (λ v. none-some v.0 (sym h.unset ∙ v.1)) (λ v. none-some v.0 (sym g.unset ∙ v.1))

one_faulty : (ss : List Setting) (ds : List Declaration) (stages : List Symbol) (f g : BoundFault) → TellsDomain ss ds stages f
    → TellsDomain ss ds stages g → f ≡ g
one_faulty ss ds stages f g h e =
    let number = one_first (λ k (s : Symbol). (a : Area) × IsStageDomain ss ds s (Ok a)) stages h.stage e.stage h.first.stage e.first.stage
    h.first.there e.first.there h.first.before e.first.before
    (λ a. not_ok_and_err ss ds h.first.stage a.0 h.fault a.1 h.first.faulty)
    (λ a. not_ok_and_err ss ds e.first.stage a.0 e.fault a.1 e.first.faulty) in
    let stage = same_place stages h.stage e.stage h.first.stage e.first.stage h.first.there e.first.there number in
    let fault =
    same_fault ss ds h.first.stage h.fault e.fault h.first.faulty
    (subst (λ (s : Symbol). IsStageDomain ss ds s (Err e.fault)) (sym stage) e.first.faulty) in
    h.told ∙ (λ i. stage_domain_fault (fault i) (number i)) ∙ sym e.told

one_faulty_table : (ss : List Setting) (ds : List Declaration) (tables : List Symbol) (f g : BoundFault) → TellsTable ss ds tables f
    → TellsTable ss ds tables g → f ≡ g
one_faulty_table ss ds tables f g h e =
    let number = one_first (λ k (s : Symbol). (a : Ends) × IsTableSpan ss ds s (Ok a)) tables h.number e.number h.first.declared
    e.first.declared h.first.there e.first.there h.first.before e.first.before
    (λ a. not_span_and_fault ss ds h.first.declared a.0 h.fault a.1 h.first.faulty)
    (λ a. not_span_and_fault ss ds e.first.declared a.0 e.fault a.1 e.first.faulty) in
    let table = same_place tables h.number e.number h.first.declared e.first.declared h.first.there e.first.there number in
    let fault =
    same_table_fault ss ds h.first.declared h.fault e.fault h.first.faulty
    (subst (λ (s : Symbol). IsTableSpan ss ds s (Err e.fault)) (sym table) e.first.faulty) in
    h.told ∙ (λ i. table_span_fault (fault i) (number i)) ∙ sym e.told

-- ---- the whole

data Phase (ss : List Setting) (ds : List Declaration) (f : BoundFault) : Type 0 where
  memory : f ≡ Memory → Phase ss ds f
  unset : (n : ℕ) → f ≡ ParamUnset n → IsFirstUnset ss n → Phase ss ds f
  faulty_table : AllSet ss → TellsTable ss ds (tables_of ds) f → Phase ss ds f
  faulty : AllSet ss → TablesStand ss ds (tables_of ds) → TellsDomain ss ds (stages_of ds) f → Phase ss ds f
  departs : AllSet ss → TablesStand ss ds (tables_of ds) → IsFirstDeparture ss ds f → Phase ss ds f

phase_of : (ss : List Setting) (ds : List Declaration) (f : BoundFault) → IsBoundFault ss ds f → Phase ss ds f
phase_of ss ds (ParamUnset n) h = unset n refl h
phase_of ss ds (EmptyTable k) h = faulty_table h.0 (record { fault = Empty; number = k; told = refl; first = h.1 })
phase_of ss ds (TableTooWide k) h = faulty_table h.0 (record { fault = TooWide; number = k; told = refl; first = h.1 })
phase_of ss ds (EmptyDomain k) h = faulty h.0 h.1 (record { fault = Empty; stage = k; told = refl; first = h.2 })
phase_of ss ds (DomainTooWide k) h = faulty h.0 h.1 (record { fault = TooWide; stage = k; told = refl; first = h.2 })
phase_of ss ds (OutOfBounds k n m axis least greatest) h = departs h.0 h.1 h.2
phase_of ss ds Memory h = memory refl

one_phase : (ss : List Setting) (ds : List Declaration) (f g : BoundFault) → f ≢ Memory → g ≢ Memory → Phase ss ds f → Phase ss ds g → f ≡ g
one_phase ss ds f g nf ng (memory e) p = absurd (nf e)
one_phase ss ds f g nf ng p (memory e) = absurd (ng e)
one_phase ss ds f g nf ng (unset m e first) (unset n d other) = e ∙ ap ParamUnset (one_unset ss m n first other) ∙ sym d
one_phase ss ds f g nf ng (unset m e first) (faulty_table set other) = absurd (unset_not_set ss m first set)
one_phase ss ds f g nf ng (unset m e first) (faulty set stand other) = absurd (unset_not_set ss m first set)
one_phase ss ds f g nf ng (unset m e first) (departs set stand other) = absurd (unset_not_set ss m first set)
one_phase ss ds f g nf ng (faulty_table set h) (unset n e first) = absurd (unset_not_set ss n first set)
one_phase ss ds f g nf ng (faulty_table set h) (faulty_table also other) = one_faulty_table ss ds (tables_of ds) f g h other
one_phase ss ds f g nf ng (faulty_table set h) (faulty also stand other) =
    absurd (no_spans ss ds (tables_of ds) h.fault h.number stand h.first)
one_phase ss ds f g nf ng (faulty_table set h) (departs also stand other) =
    absurd (no_spans ss ds (tables_of ds) h.fault h.number stand h.first)
one_phase ss ds f g nf ng (faulty set stand h) (unset n e first) = absurd (unset_not_set ss n first set)
one_phase ss ds f g nf ng (faulty set stand h) (faulty_table also other) =
    absurd (no_spans ss ds (tables_of ds) other.fault other.number stand other.first)
one_phase ss ds f g nf ng (faulty set stand h) (faulty also too other) = one_faulty ss ds (stages_of ds) f g h other
one_phase ss ds f g nf ng (faulty set stand h) (departs also too other) =
    absurd (no_domains ss ds (stages_of ds) other.areas h.fault h.stage other.domains h.first)
one_phase ss ds f g nf ng (departs set stand h) (unset n e first) = absurd (unset_not_set ss n first set)
one_phase ss ds f g nf ng (departs set stand h) (faulty_table also other) =
    absurd (no_spans ss ds (tables_of ds) other.fault other.number stand other.first)
one_phase ss ds f g nf ng (departs set stand h) (faulty also too other) =
    absurd (no_domains ss ds (stages_of ds) h.areas other.fault other.stage h.domains other.first)
one_phase ss ds f g nf ng (departs set stand h) (departs also too other) = one_departure ss ds f g h other

pub one_fault : (ss : List Setting) (ds : List Declaration) (f g : BoundFault) → IsBoundFault ss ds f → IsBoundFault ss ds g → f ≢ Memory
    → g ≢ Memory → f ≡ g
one_fault ss ds f g h e nf ng = one_phase ss ds f g nf ng (phase_of ss ds f h) (phase_of ss ds g e)

no_phase : (ss : List Setting) (ds : List Declaration) (f : BoundFault) → IsInBounds ss ds → Phase ss ds f → f ≡ Memory
no_phase ss ds f ok (memory e) = e
no_phase ss ds f ok (unset n e first) = absurd (unset_not_set ss n first ok.set)
no_phase ss ds f ok (faulty_table set h) = absurd (no_spans ss ds (tables_of ds) h.fault h.number ok.tables h.first)
no_phase ss ds f ok (faulty set stand h) = absurd (no_domains ss ds (stages_of ds) ok.areas h.fault h.stage ok.domains h.first)
no_phase ss ds f ok (departs set stand h) =
    let areas = same_areas ss ds (stages_of ds) h.areas ok.areas h.domains ok.domains in
    absurd (not_in_bounds ss ds (stages_of ds) ok.areas f (subst (λ xs. IsFirstStage ss ds (stages_of ds) xs f) areas h.stage) ok.stays)

pub no_fault : (ss : List Setting) (ds : List Declaration) (f : BoundFault) → IsInBounds ss ds → IsBoundFault ss ds f → f ≡ Memory
no_fault ss ds f ok h = no_phase ss ds f ok (phase_of ss ds f h)
