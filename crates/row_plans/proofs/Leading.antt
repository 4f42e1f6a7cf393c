-- Steps that lead from some states to others.
use Rattle.std.proofs.Common.{ℕ, zero, suc, ◌+◌, ◌*◌, ◌<◌, ◌≤◌, ◌≡◌, arith, refl, sym, ap, ◌∙◌, subst, List, [], ◌∷◌, ◌++◌, append_assoc, length, slice_get, All, Some}
use Rattle.std.specs.Prelude.{slice_index_or}
use Rattle.std.proofs.lemmas.List.Elements.{All-weaker}
use Rattle.domains.specs.Span.{len_of}
use Rattle.job.specs.Pipeline.{Pipeline}
use Rattle.row_plans.specs.Checks.{AreStagesRead, AreStatesOf}
use Rattle.row_plans.specs.Leads.{IsOutputRowKept, Leads, copies_of}
use Rattle.row_plans.specs.Moved.{rows_more, states_moved, times_of, AreReadsMoved, CanRepeat, IsLeft}
use Rattle.row_plans.specs.Plans.{IsOutputKept, IsRunnable, states_after}
use Rattle.row_plans.specs.declared.plan.PlanStep.{PlanStep}
use Rattle.row_plans.specs.declared.plan.PlanStep.TheVariants.{Make, Output}
use Rattle.row_plans.specs.declared.row_state.RowState.{RowState}
use Rattle.row_plans.specs.declared.stage_rows_read.StageRowsRead.{StageRowsRead}
use Rattle.row_plans.proofs.Checking.{areas_after, kept_can_be_output, row_can_be_made}
use Rattle.row_plans.proofs.Moved.{moved_get, moved_from, moved_length, moved_same, moved_none, moved_moved, bump, after_moved, moved_after, after_as_moved, output_moved, reads_moved_on, row_moved}

-- how many rows of stage g the steps make
abbrev pub made_in : List PlanStep → ℕ → ℕ
made_in [] g = zero
made_in (Make h ∷ steps) g = bump h (made_in steps) g
made_in (Output ∷ steps) g = made_in steps g

-- the steps lead to states of which as many rows are made
pub leads_to_moved : (list : List StageRowsRead) (outputs : List ℕ) (states : List RowState) (y : ℕ) (steps : List PlanStep) (after : List RowState) (z : ℕ)
    → Leads list outputs states y steps after z → after ≡ states_moved (made_in steps) states
leads_to_moved list outputs states y [] after z h = sym h.0 ∙ sym (moved_none states)
leads_to_moved list outputs states y (Make g ∷ steps) after z h =
    leads_to_moved list outputs (states_after states g) y steps after z h.1 ∙ after_moved (made_in steps) states g h.0.state h.0.own
leads_to_moved list outputs states y (Output ∷ steps) after z h = leads_to_moved list outputs states (y + 1) steps after z h.1

-- as many as before
pub leads_length : (list : List StageRowsRead) (outputs : List ℕ) (states : List RowState) (y : ℕ) (steps : List PlanStep) (after : List RowState) (z : ℕ)
    → Leads list outputs states y steps after z → length after ≡ length states
leads_length list outputs states y steps after z h =
    ap length (leads_to_moved list outputs states y steps after z h) ∙ moved_length (made_in steps) states

-- and to a later row of the picture
pub leads_on : (list : List StageRowsRead) (outputs : List ℕ) (states : List RowState) (y : ℕ) (steps : List PlanStep) (after : List RowState) (z : ℕ)
    → Leads list outputs states y steps after z → y ≤ z
leads_on list outputs states y [] after z h = let same = h.1 in omega arith
leads_on list outputs states y (Make g ∷ steps) after z h = leads_on list outputs (states_after states g) y steps after z h.1
leads_on list outputs states y (Output ∷ steps) after z h = let more = leads_on list outputs states (y + 1) steps after z h.1 in omega arith

-- steps, and then others
pub leads_then : (list : List StageRowsRead) (outputs : List ℕ) (a : List RowState) (y : ℕ) (steps : List PlanStep) (b : List RowState) (z : ℕ)
    (others : List PlanStep) (c : List RowState) (w : ℕ) → Leads list outputs a y steps b z → Leads list outputs b z others c w
    → Leads list outputs a y (steps ++ others) c w
leads_then list outputs a y [] b z others c w h k =
    subst (λ s. Leads list outputs s y others c w) (sym h.0) (subst (λ x. Leads list outputs b x others c w) (sym h.1) k)
leads_then list outputs a y (Make g ∷ steps) b z others c w h k = (h.0, leads_then list outputs (states_after a g) y steps b z others c w h.1 k)
leads_then list outputs a y (Output ∷ steps) b z others c w h k = (h.0, leads_then list outputs a (y + 1) steps b z others c w h.1 k)

-- steps that lead to row z can be run up to row z
pub leads_run : (job : Pipeline) (list : List StageRowsRead) (outputs : List ℕ) (states : List RowState) (y : ℕ) (steps : List PlanStep)
    (after : List RowState) (z : ℕ) → AreStagesRead job list → AreStatesOf list states → Leads list outputs states y steps after z
    → IsRunnable job outputs z y states steps
leads_run job list outputs states y [] after z all areas h = h.1
leads_run job list outputs states y (Make g ∷ steps) after z all areas h = (
  row_can_be_made job list states g all areas h.0,
  leads_run job list outputs (states_after states g) y steps after z all (areas_after list states g h.0.state areas h.0.own) h.1,
)
leads_run job list outputs states y (Output ∷ steps) after z all areas h =
    let more = leads_on list outputs states (y + 1) steps after z h.1 in (
      omega arith,
      All-weaker (IsOutputRowKept states y) (IsOutputKept job states y)
          (λ g k. kept_can_be_output job list states y g k.0 all areas k.1 k.2) outputs h.0,
      leads_run job list outputs states (y + 1) steps after z all areas h.1,
    )

-- what is left after the steps was left before them
left_before : (list : List StageRowsRead) (outputs : List ℕ) (d : ℕ → ℕ) (states : List RowState) (y : ℕ) (steps : List PlanStep) (after : List RowState) (z : ℕ)
    → Leads list outputs states y steps after z → IsLeft after d → IsLeft states d
left_before list outputs d states y steps after z h left = record {
  left = λ g s own some.
      let there : slice_get after g ≡ Some (rows_more (made_in steps g) s) =
      subst (λ l. slice_get l g ≡ Some (rows_more (made_in steps g) s)) (sym (leads_to_moved list outputs states y steps after z h))
      (moved_get (made_in steps) states g s own) in
      let most = left.left g (rows_more (made_in steps g) s) there some in omega arith;
}

-- steps that can be taken can be taken once more, if all that is read moves with the rows that are made
pub leads_moved : (list : List StageRowsRead) (outputs : List ℕ) (d : ℕ → ℕ) (r : ℕ) (states : List RowState) (y : ℕ) (steps : List PlanStep)
    (after : List RowState) (z : ℕ) → Leads list outputs states y steps after z → IsLeft after d → AreReadsMoved list d states
    → All (λ o. d o ≡ r) outputs → Leads list outputs (states_moved d states) (y + r) steps (states_moved d after) (z + r)
leads_moved list outputs d r states y [] after z h left reads same = (ap (states_moved d) h.0, ap (λ n. n + r) h.1)
leads_moved list outputs d r states y (Make g ∷ steps) after z h left reads same =
    let can = h.0 in
    let here = left_before list outputs d states y (Make g ∷ steps) after z h left in
    let next = left_before list outputs d (states_after states g) y steps after z h.1 left in
    let on = subst (AreReadsMoved list d) (sym (after_as_moved states g can.state can.own)) (reads_moved_on list d (bump g (λ k. zero)) states reads) in (
      row_moved list d states g here next reads can,
      subst (λ s. Leads list outputs s (y + r) steps (states_moved d after) (z + r)) (sym (moved_after d states g can.state can.own))
          (leads_moved list outputs d r (states_after states g) y steps after z h.1 left on same),
    )
leads_moved list outputs d r states y (Output ∷ steps) after z h left reads same =
    let here = left_before list outputs d states y (Output ∷ steps) after z h left in
    let row : y + 1 + r ≡ y + r + 1 = omega arith in (
      λ k e within. output_moved d states y r (slice_index_or outputs k e) here (same k e within) (h.0 k e within),
      subst (λ n. Leads list outputs (states_moved d states) n steps (states_moved d after) (z + r)) row
          (leads_moved list outputs d r states (y + 1) steps after z h.1 left reads same),
    )

once_more : (n k : ℕ) → suc n * k ≡ k + n * k
once_more n k = omega arith

some_more : (n k : ℕ) → 0 < k → 0 < k + n * k
some_more n k h = omega arith

left_once : (n : ℕ) (d : ℕ → ℕ) (states : List RowState) → IsLeft states (times_of (suc n) d) → IsLeft states d
left_once n d states left = record {
  left = λ g s own some.
      let more = once_more n (d g) in
      let above = some_more n (d g) some in
      let most = left.left g s own (omega (arith, more, above)) in omega (arith, more, most);
}

left_then : (n : ℕ) (d : ℕ → ℕ) (states : List RowState) → IsLeft states (times_of (suc n) d) → IsLeft (states_moved d states) (times_of n d)
left_then n d states left = record {
  left = λ g t own some.
      let b = moved_from d states g t own in
      let next : t.next ≡ b.0.next + d g = ap (λ k. k.next) b.2 in
      let rows : t.area.rows ≡ b.0.area.rows = ap (λ k. k.area.rows) b.2 in
      let more = once_more n (d g) in
      let most = left.left g b.0 b.1 (omega (arith, more, some)) in
      subst (λ a. t.next + n * d g ≤ len_of a) (sym rows) (omega (arith, more, most, next));
}

-- and so n times
pub leads_repeated : (n : ℕ) (list : List StageRowsRead) (outputs : List ℕ) (d : ℕ → ℕ) (r : ℕ) (states : List RowState) (y : ℕ) (steps : List PlanStep)
    → Leads list outputs states y steps (states_moved d states) (y + r) → IsLeft (states_moved d states) (times_of n d) → AreReadsMoved list d states
    → All (λ o. d o ≡ r) outputs
    → Leads list outputs (states_moved d states) (y + r) (copies_of n steps) (states_moved (times_of n d) (states_moved d states)) (y + r + n * r)
leads_repeated zero list outputs d r states y steps h left reads same =
    let none : (g : ℕ) → zero ≡ times_of zero d g = λ g. omega arith in
    (sym (moved_none (states_moved d states)) ∙ moved_same (λ g. zero) (times_of zero d) (states_moved d states) none, omega arith)
leads_repeated (suc n) list outputs d r states y steps h left reads same =
    let a = states_moved d states in
    let once = leads_moved list outputs d r states y steps a (y + r) h (left_once n d a left) reads same in
    let rest = leads_repeated n list outputs d r a (y + r) steps once (left_then n d a left) (reads_moved_on list d d states reads) same in
    let all = leads_then list outputs a (y + r) steps (states_moved d a) (y + r + r) (copies_of n steps) (states_moved (times_of n d) (states_moved d a))
    (y + r + r + n * r) once rest in
    let more : (g : ℕ) → d g + times_of n d g ≡ times_of (suc n) d g = λ g. sym (once_more n (d g)) in
    let states_are = moved_moved d (times_of n d) a ∙ moved_same (λ g. d g + times_of n d g) (times_of (suc n) d) a more in
    let rows : y + r + r + n * r ≡ y + r + suc n * r = omega (arith, once_more n r) in
    subst (λ s. Leads list outputs a (y + r) (steps ++ copies_of n steps) s (y + r + suc n * r)) states_are
    (subst (λ w. Leads list outputs a (y + r) (steps ++ copies_of n steps) (states_moved (times_of n d) (states_moved d a)) w) rows all)

-- one copy more of steps, behind the others
pub copies_more : (n : ℕ) (steps rest : List PlanStep) → copies_of n steps ++ (steps ++ rest) ≡ copies_of (suc n) steps ++ rest
copies_more zero steps rest = ap (λ l. l ++ rest) (sym (append_nil_of steps))
  where
    append_nil_of : (l : List PlanStep) → l ++ [] ≡ l
    append_nil_of [] = refl
    append_nil_of (x ∷ xs) = ap (λ l. x ∷ l) (append_nil_of xs)
copies_more (suc n) steps rest =
    append_assoc steps (copies_of n steps) (steps ++ rest) ∙ ap (λ l. steps ++ l) (copies_more n steps rest)
    ∙ sym (append_assoc steps (copies_of (suc n) steps) rest)

-- a period, its copies, and what is left after them
pub leads_with_repeats : (list : List StageRowsRead) (outputs : List ℕ) (states : List RowState) (y : ℕ) (period : List PlanStep) (a : List RowState)
    (z h n : ℕ) (left : List PlanStep) (b : List RowState) (w : ℕ) → Leads list outputs states y period a z → z ≡ y + h
    → CanRepeat list outputs (made_in period) states h n
    → Leads list outputs (states_moved (times_of n (made_in period)) (states_moved (made_in period) states)) (z + n * h) left b w
    → Leads list outputs states y (period ++ (copies_of n period ++ left)) b w
leads_with_repeats list outputs states y period a z h n left b w lead rows can rest =
    let d = made_in period in
    let all = states_moved d states in
    let once = subst (λ s. Leads list outputs states y period s (y + h)) (leads_to_moved list outputs states y period a z lead)
    (subst (λ k. Leads list outputs states y period a k) rows lead) in
    let copies = leads_repeated n list outputs d h states y period once can.left can.reads can.outputs_moved in
    let last = subst (λ k. Leads list outputs (states_moved (times_of n d) all) (k + n * h) left b w) rows rest in
    leads_then list outputs states y period all (y + h) (copies_of n period ++ left) b w once
    (leads_then list outputs all (y + h) (copies_of n period) (states_moved (times_of n d) all) (y + h + n * h) left b w copies last)
