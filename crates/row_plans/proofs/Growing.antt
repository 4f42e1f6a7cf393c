-- Lists of row reads that grow.
use Rattle.std.proofs.Common.{ℕ, zero, suc, ◌+◌, ◌<◌, ◌≡◌, ℤ, sym, ap, ◌∙◌, List, [], ◌∷◌, ◌++◌, length, get_or, take, map, slice_get, slice_set, Option, Some, None, All, ◌≢◌, IfOk, IfSome, Result, Ok, Err, subst}
use Rattle.std.specs.List.{flat_map}
use Rattle.std.specs.Option.{option_map, ForSome}
use Rattle.std.proofs.lemmas.List.{append-nil, map-append, map_more}
use Rattle.std.proofs.lemmas.List.Elements.{All-nil, All-cons, All-head, All-tail, All-more, All-map, All-push}
use Rattle.std.proofs.lemmas.Option.{same_Some}
use Rattle.domains.specs.Span.{Ends, Holds}
use Rattle.domains.specs.declared.area.Area.{Area}
use Rattle.job.specs.CaseViews.{case_view}
use Rattle.job.specs.FormulaViews.{formula_view}
use Rattle.job.specs.Pipeline.{function}
use Rattle.job.specs.Reads.{reads_in, other_formula, BodyReads, CaseReads, EachRead}
use Rattle.job.specs.ReadViews.{read_view}
use Rattle.job.specs.Views.{body_view, stage_view}
use Rattle.job.specs.WellFormed.{IsValued}
use Rattle.job.specs.declared.stage.Body.TheVariants.{Accumulator, Function}
use Rattle.job.specs.declared.stage.Accumulator.{Accumulator as KeptAccumulator}
use Rattle.job.specs.declared.stage.Function.{Function as KeptFunction}
use Rattle.job.specs.declared.stage.Stage.{Stage as KeptStage}
use Rattle.job.specs.declared.formula.Formula.{Formula as KeptFormula}
use Rattle.job.specs.declared.reads.Read.{Read as KeptRead}
use Rattle.job.specs.declared.stage.JobCase.{JobCase as KeptCase}
use Rattle.row_plans.specs.Rows.{IsKeptAt}
use Rattle.row_plans.specs.Taken.{AreRowsReadOf, AreTakenKept, IsReadKept, AddsCases, AddsReads, IsJoined, IsWider}
use Rattle.row_plans.specs.declared.row_state.RowState.{RowState}
use Rattle.row_plans.specs.declared.rows_read.RowsRead.{RowsRead}
use Rattle.row_plans.specs.declared.stage_rows_read.StageRowsRead.{StageRowsRead}

-- what holds of each after a write held of each before it, if it holds of what was there where it holds of what is written
all_before_set : {X : Type 0} (P : X → Type 0) (xs : List X) (i : ℕ) (a y : X) → slice_get xs i ≡ Some y → (P a → P y) → All P (slice_set xs i a) → All P xs
all_before_set P [] i a y there back all = All-nil P
all_before_set P (x ∷ xs) zero a y there back all =
    let here : P x = rw (same_Some x y there) (back (All-head P a xs all)) in
    All-cons P x xs here (All-tail P a xs all)
all_before_set P (x ∷ xs) (suc i) a y there back all =
    All-cons P x xs (All-head P x (slice_set xs i a) all) (all_before_set P xs i a y there back (All-tail P x (slice_set xs i a) all))

-- it holds of what is written
all_at_set : {X : Type 0} (P : X → Type 0) (xs : List X) (i : ℕ) (a y : X) → slice_get xs i ≡ Some y → All P (slice_set xs i a) → P a
all_at_set P [] i a y there all = cc
all_at_set P (x ∷ xs) zero a y there all = All-head P a xs all
all_at_set P (x ∷ xs) (suc i) a y there all = all_at_set P xs i a y there (All-tail P x (slice_set xs i a) all)

-- where a joined read is written, the list is wider
pub joined_is_wider : (found : List RowsRead) (y : RowsRead) (place : ℕ) (x : RowsRead) → IsJoined found y place x → IsWider found (slice_set found place x)
joined_is_wider found y place x h = λ states g r all.
    all_before_set (AreTakenKept states g r) found place x h.known h.there (λ p. (h.takes states g r p).0) all

pub joined_takes : (found : List RowsRead) (y : RowsRead) (place : ℕ) (x : RowsRead) → IsJoined found y place x
    → (states : List RowState) (g : ℕ) (r : ℤ) → All (AreTakenKept states g r) (slice_set found place x) → AreTakenKept states g r y
joined_takes found y place x h states g r all = (h.takes states g r (all_at_set (AreTakenKept states g r) found place x h.known h.there all)).1

-- what holds of each holds of what was pushed
all_at_push : {X : Type 0} (P : X → Type 0) (xs : List X) (x : X) → All P (xs ++ x ∷ []) → P x
all_at_push P [] x all = All-head P x [] all
all_at_push P (y ∷ ys) x all = all_at_push P ys x (All-tail P y (ys ++ x ∷ []) all)

pub pushed_takes : (found new : List RowsRead) (y : RowsRead) → new ≡ found ++ y ∷ []
    → (states : List RowState) (g : ℕ) (r : ℤ) → All (AreTakenKept states g r) new → AreTakenKept states g r y
pushed_takes found new y is states g r all = all_at_push (AreTakenKept states g r) found y (rw is at all)

-- what holds of each before an item, and of the item
pub all_more_at : {X : Type 0} (P : X → Type 0) (xs : List X) (i : ℕ) (y : X) → i < length xs → y ≡ get_or xs i y → All P (take i xs) → P y
    → All P (take (i + 1) xs)
all_more_at P xs i y within is before here = All-more P xs i y within before (rw (← is) here)

-- one read more
pub reads_more : (a b c : List RowsRead) (rows : Ends) (reads : List KeptRead) (i : ℕ) (y : KeptRead) (x : RowsRead)
    → AddsReads a b rows (take i reads) → i < length reads → y ≡ get_or reads i y → IsWider b c
    → ((states : List RowState) (g : ℕ) (r : ℤ) → All (AreTakenKept states g r) c → AreTakenKept states g r x)
    → ((states : List RowState) (g : ℕ) (r col : ℤ) → Holds rows r → AreTakenKept states g r x → IsReadKept states g r col (read_view y))
    → AddsReads a c rows (take (i + 1) reads)
reads_more a b c rows reads i y x h within is wider takes kept = record {
  wider = λ states g r all. h.wider states g r (wider states g r all);
  taken = λ states g r col held all.
      All-more (λ z. IsReadKept states g r col (read_view z)) reads i y within (h.taken states g r col held (wider states g r all))
      (rw (← is) (kept states g r col held (takes states g r all)));
}

-- one case more
pub cases_more : (a b c : List RowsRead) (cases : List KeptCase) (i : ℕ) (y : KeptCase)
    → AddsCases a b (take i cases) → i < length cases → y ≡ get_or cases i y → AddsCases b c (y ∷ []) → AddsCases a c (take (i + 1) cases)
cases_more a b c cases i y h within is more = record {
  wider = λ states g r all. h.wider states g r (more.wider states g r all);
  taken = λ states g r col all.
      All-more (λ p. CaseReads (λ h q d. (h ≢ g) × IsKeptAt states h q) (case_view p) r col) cases i y within (h.taken states g r col (more.wider states g r all))
      (rw (← is) (All-head (λ p. CaseReads (λ h q d. (h ≢ g) × IsKeptAt states h q) (case_view p) r col) y [] (more.taken states g r col all)));
}

-- the reads of one case
pub one_case : (a b : List RowsRead) (p : KeptCase) (area : Area) (reads : List KeptRead) → p.area ≡ Some area
    → map read_view reads ≡ reads_in (formula_view p.formula) → AddsReads a b area.rows reads → AddsCases a b (p ∷ [])
one_case a b p area reads is same h = record {
  wider = h.wider;
  taken = λ states g r col all.
      All-cons (λ p. CaseReads (λ h q d. (h ≢ g) × IsKeptAt states h q) (case_view p) r col) p []
      (λ box there held. rw (← same) (All-map (IsReadKept states g r col) read_view reads
      (h.taken states g r col (rw (same_Some area box (sym is ∙ there)) held.0) all))) (All-nil _);
}

-- the reads where no case holds
other_reads : (states : List RowState) (g : ℕ) (r col : ℤ) (other : Option KeptFormula) (reads : List KeptRead)
    → map read_view reads ≡ flat_map reads_in (other_formula (option_map formula_view other))
    → All (λ x. IsReadKept states g r col (read_view x)) reads
    → ForSome (option_map formula_view other) (λ f. EachRead (λ h q d. (h ≢ g) × IsKeptAt states h q) f r col)
other_reads states g r col None reads same all = λ f is. cc
other_reads states g r col (Some f) reads same all = λ e is.
    let each : All (IsReadKept states g r col) (map read_view reads) = All-map (IsReadKept states g r col) read_view reads all in
    rw (← same_Some (formula_view f) e is) (rw append-nil at (rw same at each))

-- what a function reads
pub function_reads : (states : List RowState) (g : ℕ) (r col : ℤ) (cases : List KeptCase) (other : Option KeptFormula) (reads : List KeptRead)
    → map read_view reads ≡ flat_map reads_in (other_formula (option_map formula_view other))
    → All (λ p. CaseReads (λ h q d. (h ≢ g) × IsKeptAt states h q) (case_view p) r col) cases
    → All (λ x. IsReadKept states g r col (read_view x)) reads
    → BodyReads (λ h q d. (h ≢ g) × IsKeptAt states h q) (function (map case_view cases) (option_map formula_view other)) r col
function_reads states g r col cases other reads same of_cases elsewhere = (
  All-map (λ p. CaseReads (λ h q d. (h ≢ g) × IsKeptAt states h q) p r col) case_view cases of_cases,
  other_reads states g r col other reads same elsewhere,
)

-- what a stage reads that is a function
pub stage_reads : (stage : KeptStage) (formulas : KeptFunction) (reads : List RowsRead) → stage.body ≡ Function formulas
    → ((states : List RowState) (g : ℕ) (r col : ℤ) → Holds stage.domain.rows r → All (AreTakenKept states g r) reads
    → BodyReads (λ h q d. (h ≢ g) × IsKeptAt states h q) (function (map case_view formulas.cases.items) (option_map formula_view formulas.otherwise)) r col)
    → AreRowsReadOf (stage_view stage) reads
stage_reads stage formulas reads is taken = record {
  covered = λ _ states g r all col held. rw is (taken states g r col held.0 all);
}

-- of an accumulator no row is made
pub no_rows : (stage : KeptStage) (a : KeptAccumulator) (reads : List RowsRead) → stage.body ≡ Accumulator a → AreRowsReadOf (stage_view stage) reads
no_rows stage a reads is = record {
  covered = λ valued. absurd (subst (λ body. IsValued (body_view body)) is valued);
}

-- what holds of all holds of what is found
pub any_ok : {A E : Type 0} {P : A → Type 0} (r : Result (Option A) E) → ((a : A) → P a) → IfOk r (λ found. IfSome found P)
any_ok (Ok None) each = tt
any_ok (Ok (Some a)) each = each a
any_ok (Err e) each = tt

-- one stage more
pub stages_more : (list new : List StageRowsRead) (x : StageRowsRead) (stages : List KeptStage) (i : ℕ) (y : KeptStage) → new ≡ list ++ x ∷ []
    → map (λ x. stage_view x.stage.now) list ≡ map stage_view (take i stages) → i < length stages → y ≡ get_or stages i y → x.stage.now ≡ y
    → map (λ x. stage_view x.stage.now) new ≡ map stage_view (take (i + 1) stages)
stages_more list new x stages i y is before within at same =
    rw is (map-append (λ x. stage_view x.stage.now) list (x ∷ []) ∙ ap (λ l. l ++ stage_view x.stage.now ∷ []) before
    ∙ ap (λ s. map stage_view (take i stages) ++ stage_view s ∷ []) (same ∙ at) ∙ sym (map_more stage_view stages i y within))

pub covered_more : (list new : List StageRowsRead) (x : StageRowsRead) → new ≡ list ++ x ∷ []
    → All (λ x. AreRowsReadOf (stage_view x.stage.now) x.reads.items) list → AreRowsReadOf (stage_view x.stage.now) x.reads.items
    → All (λ x. AreRowsReadOf (stage_view x.stage.now) x.reads.items) new
covered_more list new x is before here = rw is (All-push (λ x. AreRowsReadOf (stage_view x.stage.now) x.reads.items) list x before here)
