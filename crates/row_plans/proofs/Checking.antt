-- What a check finds is what a plan needs.
use Rattle.std.proofs.Common.{ℕ, zero, suc, ◌≡◌, pos, ◌+ℤ◌, ◌≤ℤ◌, refl, sym, ap, ◌∙◌, subst, List, [], ◌∷◌, slice_get, slice_set, All, Some}
use Rattle.std.specs.Option.{option_map}
use Rattle.std.proofs.lemmas.Option.{same_Some, slice_get-map, slice_get_within, get_or_from_slice_get}
use Rattle.std.proofs.lemmas.List.Elements.{All-get_or}
use Rattle.domains.specs.declared.area.Area.{Area}
use Rattle.job.specs.Pipeline.{Pipeline}
use Rattle.job.specs.Views.{stage_view}
use Rattle.job.specs.WellFormed.{IsValued}
use Rattle.row_plans.specs.Checks.{AreStagesRead, AreStatesOf}
use Rattle.row_plans.specs.Leads.{CanMakeRow}
use Rattle.row_plans.specs.Plans.{CanMake, IsOutputKept, states_after}
use Rattle.row_plans.specs.Rows.{IsKeptRow, next_row, one_row_more}
use Rattle.row_plans.specs.Taken.{AreRowsReadOf, AreTakenKept}
use Rattle.row_plans.specs.Windows.{IsWindowOf, AreWindowsOf}
use Rattle.row_plans.specs.declared.row_state.RowState.{RowState}
use Rattle.row_plans.specs.declared.stage_rows_read.StageRowsRead.{StageRowsRead}
use Rattle.row_plans.specs.declared.row_state_window.RowStateWindow.{RowStateWindow}
use Rattle.row_plans.proofs.Windows.{window_left, windows_more}

-- two areas with the same rows and columns are equal
pub same_area : (a b : Area) → a.rows ≡ b.rows → a.cols ≡ b.cols → a ≡ b
same_area a b e f =
    let rows : a ≡ record { rows = b.rows; cols = a.cols } = ap (λ s. record a { rows = s }) e in
    rows ∙ ap (λ s. record b { cols = s }) f

-- an item of the list is the stage of its number
read_stage_there : (job : Pipeline) (list : List StageRowsRead) (g : ℕ) (x : StageRowsRead) → AreStagesRead job list → slice_get list g ≡ Some x
    → slice_get job.stages g ≡ Some (stage_view x.stage.now)
read_stage_there job list g x all is =
    rw (← all.stages) (slice_get-map (λ x. stage_view x.stage.now) list g ∙ ap (option_map (λ x. stage_view x.stage.now)) is)

-- and has what its rows are made of
read_stage_covered : (job : Pipeline) (list : List StageRowsRead) (g : ℕ) (x : StageRowsRead) → AreStagesRead job list → slice_get list g ≡ Some x
    → AreRowsReadOf (stage_view x.stage.now) x.reads.items
read_stage_covered job list g x all is =
    rw (get_or_from_slice_get list g x x is) at (All-get_or (λ x. AreRowsReadOf (stage_view x.stage.now) x.reads.items) list g x (slice_get_within list g x is) all.covered)

-- a row can be made whose window leaves one more, if all is kept that it is made of, and these are the windows then
pub window_made : (list : List StageRowsRead) (states : List RowState) (windows : List RowStateWindow) (g : ℕ) (x : StageRowsRead)
    (w new : RowStateWindow) → AreWindowsOf states windows → slice_get list g ≡ Some x → IsValued (stage_view x.stage.now).body
    → slice_get windows g ≡ Some w → w.next ≤ℤ w.last → All (AreTakenKept states g w.next) x.reads.items
    → ((s : RowState) → IsWindowOf s w → IsWindowOf (one_row_more s) new)
    → CanMakeRow list states g × AreWindowsOf (states_after states g) (slice_set windows g new)
window_made list states windows g x w new are is valued there more reads step =
    let window = are g w there in
    let state = window.0 in
    let own = window.1 in (
      record {
        read = x;
        there = is;
        valued = valued;
        state = state;
        own = own;
        begun = window.2.begun;
        left = window_left state w window.2 more;
        some = window.2.some more;
        reads = subst (λ r. All (AreTakenKept states g r) x.reads.items) window.2.next reads;
      },
      rw own (windows_more states windows g state new are own (step state window.2)),
    )

-- and so it can be made by the plan's definition
pub row_can_be_made : (job : Pipeline) (list : List StageRowsRead) (states : List RowState) (g : ℕ) → AreStagesRead job list → AreStatesOf list states
    → CanMakeRow list states g → CanMake job states g
row_can_be_made job list states g all areas can =
    let covered = read_stage_covered job list g can.read all can.there in
    let has = areas.each g can.state can.own in
    record {
      stage = stage_view can.read.stage.now;
      there = read_stage_there job list g can.read all can.there;
      valued = can.valued;
      state = can.state;
      own = can.own;
      area = rw (same_Some has.read can.read (sym has.there ∙ can.there)) at has.area;
      begun = can.begun;
      left = can.left;
      some = can.some;
      reads = covered.covered can.valued states g (next_row can.state) can.reads;
    }

-- a state after a row is made has the area of the one before it
same_area_after : (states : List RowState) (g k : ℕ) (y s : RowState) → slice_get states g ≡ Some y → slice_get (slice_set states g (one_row_more y)) k ≡ Some s
    → (t : RowState) × (slice_get states k ≡ Some t) × (s.area ≡ t.area)
same_area_after [] g k y s own there = cc
same_area_after (x ∷ xs) zero zero y s own there = (y, own, ap (λ t. t.area) (sym (same_Some (one_row_more y) s there)))
same_area_after (x ∷ xs) zero (suc k) y s own there = (s, there, refl)
same_area_after (x ∷ xs) (suc g) zero y s own there = (s, there, refl)
same_area_after (x ∷ xs) (suc g) (suc k) y s own there = same_area_after xs g k y s own there

-- the states keep the areas of their stages
pub areas_after : (list : List StageRowsRead) (states : List RowState) (g : ℕ) (y : RowState) → AreStatesOf list states → slice_get states g ≡ Some y
    → AreStatesOf list (states_after states g)
areas_after list states g y areas own = rw own (record {
  each = λ k s there.
      let before = same_area_after states g k y s own there in
      let has = areas.each k before.0 before.1 in
      record { read = has.read; there = has.there; area = before.2 ∙ has.area };
})

-- a row can be output that is kept
pub kept_can_be_output : (job : Pipeline) (list : List StageRowsRead) (states : List RowState) (y g : ℕ) (state : RowState)
    → AreStagesRead job list → AreStatesOf list states → slice_get states g ≡ Some state → IsKeptRow state (state.area.rows.lo +ℤ pos y)
    → IsOutputKept job states y g
kept_can_be_output job list states y g state all areas own kept =
    let has = areas.each g state own in
    record {
      stage = stage_view has.read.stage.now;
      there = read_stage_there job list g has.read all has.there;
      state = state;
      own = own;
      area = has.area;
      kept = kept;
    }
