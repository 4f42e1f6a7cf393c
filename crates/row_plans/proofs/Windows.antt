-- Windows and the states that they are of.
use Rattle.std.proofs.Common.{ℕ, zero, suc, ◌+◌, ◌<◌, ◌≡◌, ℤ, pos, negsuc, w32, to_z, of_z, ◌+ℤ◌, ◌-ℤ◌, ◌≤ℤ◌, arith, refl, ap, ◌∙◌, subst, List, [], ◌∷◌, ◌++◌, length, take, drop, slice_get, slice_set, Some}
use Rattle.std.specs.Prelude.{slice_index_or}
use Rattle.std.proofs.Math.Seq.{drop-cons}
use Rattle.std.proofs.lemmas.Int.{ints}
use Rattle.std.proofs.lemmas.Option.{same_Some}
use Rattle.domains.proofs.Lengths.{gap_is}
use Rattle.domains.specs.Span.{len_of}
use Rattle.row_plans.specs.Moved.{rows_more}
use Rattle.row_plans.specs.Rows.{IsKeptRow, one_row_more}
use Rattle.row_plans.specs.Windows.{IsWindowOf, AreWindowsOf}
use Rattle.row_plans.specs.declared.plan.PlanStep.{PlanStep}
use Rattle.row_plans.specs.declared.row_state.RowState.{RowState}
use Rattle.row_plans.specs.declared.row_state_window.RowStateWindow.{RowStateWindow}

-- the rows of a window are kept
pub window_keeps : (s : RowState) (w : RowStateWindow) → IsWindowOf s w → (q : ℤ) → w.first ≤ℤ q → (q +ℤ pos 1) ≤ℤ w.next → IsKeptRow s q
window_keeps s w is q above below =
    let low = is.low in let next = is.next in let oldest = is.oldest in let high = is.high in
    let gap = gap_is s.area.rows.lo q (omega (arith, ints)) in
    record { within = (omega (arith, ints), omega (arith, ints)); begun = omega (arith, ints); made = omega (arith, ints); kept = omega (arith, ints) }

-- a row is left
pub window_left : (s : RowState) (w : RowStateWindow) → IsWindowOf s w → w.next ≤ℤ w.last → s.next < len_of s.area.rows
window_left s w is more =
    let next = is.next in let last = is.last in
    let gap = gap_is s.area.rows.lo (s.area.rows.hi +ℤ pos 1) (omega (arith, ints)) in omega (arith, ints)

-- the windows once a row is made
pub windows_more : (states : List RowState) (windows : List RowStateWindow) (g : ℕ) (s : RowState) (w : RowStateWindow) → AreWindowsOf states windows
    → slice_get states g ≡ Some s → IsWindowOf (one_row_more s) w → AreWindowsOf (slice_set states g (one_row_more s)) (slice_set windows g w)
windows_more [] windows g s w are own is k x there = cc
windows_more (y ∷ ys) [] g s w are own is k x there = cc
windows_more (y ∷ ys) (z ∷ zs) zero s w are own is zero x there = (one_row_more s, refl, subst (IsWindowOf (one_row_more s)) (same_Some w x there) is)
windows_more (y ∷ ys) (z ∷ zs) zero s w are own is (suc k) x there = are (suc k) x there
windows_more (y ∷ ys) (z ∷ zs) (suc g) s w are own is zero x there = are zero x there
windows_more (y ∷ ys) (z ∷ zs) (suc g) s w are own is (suc k) x there = windows_more ys zs g s w (λ m. are (suc m)) own is k x there

-- one window more
pub windows_pushed : (states : List RowState) (windows : List RowStateWindow) (s : RowState) (w : RowStateWindow) → AreWindowsOf states windows
    → slice_get states (length windows) ≡ Some s → IsWindowOf s w → AreWindowsOf states (windows ++ w ∷ [])
windows_pushed [] windows s w are own is k x there = cc
windows_pushed (y ∷ ys) [] s w are own is zero x there = (s, own, subst (IsWindowOf s) (same_Some w x there) is)
windows_pushed (y ∷ ys) [] s w are own is (suc k) x there = cc
windows_pushed (y ∷ ys) (z ∷ zs) s w are own is zero x there = are zero x there
windows_pushed (y ∷ ys) (z ∷ zs) s w are own is (suc k) x there = windows_pushed ys zs s w (λ m. are (suc m)) own is k x there

-- a list in the place of another one of the same length
pub windows_written : (new old : List RowStateWindow) (n : ℕ) → length new ≡ n → length old ≡ n → take n (new ++ drop (length new) old) ≡ new
windows_written [] [] n e f = rw (← e) refl
windows_written [] (y ∷ ys) n e f = absurd (omega arith)
windows_written (x ∷ xs) [] n e f = absurd (omega arith)
windows_written (x ∷ xs) (y ∷ ys) zero e f = absurd (omega arith)
windows_written (x ∷ xs) (y ∷ ys) (suc n) e f = ap (λ ws. x ∷ ws) (windows_written xs ys n (omega arith) (omega arith))

-- the steps from one on
pub steps_from : (steps : List PlanStep) (j : ℕ) (d : PlanStep) → j < length steps → drop j steps ≡ slice_index_or steps j d ∷ drop (j + 1) steps
steps_from steps j d h =
    let next : suc j ≡ j + 1 = omega arith in drop-cons steps j d h ∙ ap (λ n. slice_index_or steps j d ∷ drop n steps) next

-- the number at a place of a domain, as it is computed
pub place_number : (lo : ℤ) (place : ℕ) → negsuc 1048575 ≤ℤ lo → (lo +ℤ pos place) ≤ℤ pos 1048576
    → to_z w32 (of_z w32 (to_z w32 (of_z w32 lo) +ℤ to_z w32 place)) ≡ lo +ℤ pos place
place_number lo place least most =
    let first : to_z w32 (of_z w32 lo) ≡ lo = omega (arith, ints) in
    let far : to_z w32 place ≡ pos place = omega (arith, ints) in
    let whole : to_z w32 (of_z w32 (lo +ℤ pos place)) ≡ lo +ℤ pos place = omega (arith, ints) in
    rw (first, far) whole

-- a gap that is taken from one side is given to the other
pub gap_taken : (a k m : ℤ) → (a -ℤ k) ≤ℤ m → a ≤ℤ (m +ℤ k)
gap_taken a k m h = omega (arith, ints)

-- the window once n rows more are made
pub window_moved : (n : ℕ) (s : RowState) (w new : RowStateWindow) → IsWindowOf s w → new.lo ≡ w.lo → new.next ≡ w.next +ℤ pos n → new.last ≡ w.last
    → new.kept ≡ w.kept → w.first ≤ℤ new.first → new.next ≤ℤ (new.first +ℤ w.kept) → (w.next +ℤ pos n) ≤ℤ (w.last +ℤ pos 1)
    → IsWindowOf (rows_more n s) new
window_moved n s w new is e f g h above late most =
    let lo = is.lo in let next = is.next in let kept = is.kept in let begun = is.begun in let low = is.low in let last = is.last in record {
      lo = e ∙ lo;
      next = omega (arith, ints);
      kept = h ∙ kept;
      begun = omega arith;
      low = omega (arith, ints);
      oldest = omega (arith, ints);
      high = omega (arith, ints);
      last = omega (arith, ints);
      some = λ more. is.some (omega (arith, ints));
    }
