-- States of which more rows are made.
use Rattle.std.proofs.Common.{ℕ, zero, suc, ◌+◌, ◌<◌, ◌≤◌, ◌≡◌, ℤ, pos, ◌+ℤ◌, ◌-ℤ◌, arith, refl, sym, ap, ◌∙◌, subst, List, [], ◌∷◌, length, slice_get, slice_set, Some}
use Rattle.std.specs.Prelude.{slice_index_or}
use Rattle.std.proofs.lemmas.Int.{ints}
use Rattle.std.proofs.lemmas.List.Elements.{All-weaker}
use Rattle.std.proofs.lemmas.Option.{same_Some}
use Rattle.domains.proofs.Lengths.{gap_is}
use Rattle.domains.specs.Span.{Holds, len_of}
use Rattle.row_plans.specs.Leads.{CanMakeRow, IsOutputRowKept}
use Rattle.row_plans.specs.Moved.{rows_more, states_moved, AreWindowsMoved, IsReadMoved, AreReadsMoved, IsLeft}
use Rattle.row_plans.specs.Plans.{states_after}
use Rattle.row_plans.specs.Rows.{IsKeptRow, next_row, one_row_more}
use Rattle.row_plans.specs.Taken.{AreTakenKept, middle_row}
use Rattle.row_plans.specs.declared.row_state_window.RowStateWindow.{RowStateWindow}
use Rattle.row_plans.specs.declared.row_state.RowState.{RowState}
use Rattle.row_plans.specs.declared.rows_read.RowsRead.{RowsRead}
use Rattle.row_plans.specs.declared.stage_rows_read.StageRowsRead.{StageRowsRead}

-- a state whose next row has another number
abbrev with_next : RowState → ℕ → RowState
with_next s n = record { area = s.area; kept = s.kept; first = s.first; next = n }

next_is : (s : RowState) (n m : ℕ) → n ≡ m → with_next s n ≡ with_next s m
next_is s n m e = ap (with_next s) e

-- the state of a stage once more rows are made
pub moved_get : (d : ℕ → ℕ) (states : List RowState) (g : ℕ) (s : RowState) → slice_get states g ≡ Some s
    → slice_get (states_moved d states) g ≡ Some (rows_more (d g) s)
moved_get d [] g s own = cc
moved_get d (x ∷ xs) zero s own = ap (λ t. Some (rows_more (d zero) t)) (same_Some x s own)
moved_get d (x ∷ xs) (suc g) s own = moved_get (λ k. d (suc k)) xs g s own

-- and the state that it was
pub moved_from : (d : ℕ → ℕ) (states : List RowState) (g : ℕ) (t : RowState) → slice_get (states_moved d states) g ≡ Some t
    → (s : RowState) × (slice_get states g ≡ Some s) × (t ≡ rows_more (d g) s)
moved_from d [] g t own = cc
moved_from d (x ∷ xs) zero t own = (x, refl, sym (same_Some (rows_more (d zero) x) t own))
moved_from d (x ∷ xs) (suc g) t own = moved_from (λ k. d (suc k)) xs g t own

pub moved_length : (d : ℕ → ℕ) (states : List RowState) → length (states_moved d states) ≡ length states
moved_length d [] = refl
moved_length d (x ∷ xs) = ap suc (moved_length (λ k. d (suc k)) xs)

-- as many rows more of each
pub moved_same : (d e : ℕ → ℕ) (states : List RowState) → ((g : ℕ) → d g ≡ e g) → states_moved d states ≡ states_moved e states
moved_same d e [] same = refl
moved_same d e (x ∷ xs) same =
    ap (λ n. rows_more n x ∷ states_moved (λ g. d (suc g)) xs) (same zero)
    ∙ ap (λ l. rows_more (e zero) x ∷ l) (moved_same (λ g. d (suc g)) (λ g. e (suc g)) xs (λ g. same (suc g)))

-- no rows more
pub moved_none : (states : List RowState) → states_moved (λ g. zero) states ≡ states
moved_none [] = refl
moved_none (x ∷ xs) =
    ap (λ s. s ∷ states_moved (λ g. zero) xs) (next_is x (x.next + zero) x.next (omega arith)) ∙ ap (λ l. x ∷ l) (moved_none xs)

-- rows more, and then more again
pub moved_moved : (d e : ℕ → ℕ) (states : List RowState) → states_moved e (states_moved d states) ≡ states_moved (λ g. d g + e g) states
moved_moved d e [] = refl
moved_moved d e (x ∷ xs) =
    ap (λ s. s ∷ states_moved (λ g. e (suc g)) (states_moved (λ g. d (suc g)) xs)) (next_is x (x.next + d zero + e zero) (x.next + (d zero + e zero)) (omega arith))
    ∙ ap (λ l. rows_more (d zero + e zero) x ∷ l) (moved_moved (λ g. d (suc g)) (λ g. e (suc g)) xs)

-- one row more of stage g
abbrev pub bump : ℕ → (ℕ → ℕ) → ℕ → ℕ
bump zero d zero = d zero + 1
bump zero d (suc k) = d (suc k)
bump (suc g) d zero = d zero
bump (suc g) d (suc k) = bump g (λ j. d (suc j)) k

pub bump_own : (g : ℕ) (d : ℕ → ℕ) → bump g d g ≡ d g + 1
bump_own zero d = refl
bump_own (suc g) d = bump_own g (λ j. d (suc j))

set_moved : (d : ℕ → ℕ) (states : List RowState) (g : ℕ) (s : RowState) → slice_get states g ≡ Some s
    → states_moved d (slice_set states g (one_row_more s)) ≡ states_moved (bump g d) states
set_moved d [] g s own = cc
set_moved d (x ∷ xs) zero s own =
    ap (λ t. rows_more (d zero) (one_row_more t) ∷ states_moved (λ k. d (suc k)) xs) (sym (same_Some x s own))
    ∙ ap (λ t. t ∷ states_moved (λ k. d (suc k)) xs) (next_is x (x.next + 1 + d zero) (x.next + (d zero + 1)) (omega arith))
set_moved d (x ∷ xs) (suc g) s own = ap (λ l. rows_more (d zero) x ∷ l) (set_moved (λ k. d (suc k)) xs g s own)

moved_set : (d : ℕ → ℕ) (states : List RowState) (g : ℕ) (s : RowState) → slice_get states g ≡ Some s
    → slice_set (states_moved d states) g (one_row_more (rows_more (d g) s)) ≡ states_moved d (slice_set states g (one_row_more s))
moved_set d [] g s own = cc
moved_set d (x ∷ xs) zero s own =
    ap (λ t. t ∷ states_moved (λ k. d (suc k)) xs) (next_is s (s.next + d zero + 1) (s.next + 1 + d zero) (omega arith))
moved_set d (x ∷ xs) (suc g) s own = ap (λ l. rows_more (d zero) x ∷ l) (moved_set (λ k. d (suc k)) xs g s own)

after_is : (states : List RowState) (g : ℕ) (s : RowState) → slice_get states g ≡ Some s → states_after states g ≡ slice_set states g (one_row_more s)
after_is states g s own = rw own refl

-- one row of a stage more, and then more of all
pub after_moved : (d : ℕ → ℕ) (states : List RowState) (g : ℕ) (s : RowState) → slice_get states g ≡ Some s
    → states_moved d (states_after states g) ≡ states_moved (bump g d) states
after_moved d states g s own = ap (states_moved d) (after_is states g s own) ∙ set_moved d states g s own

-- and the other way round
pub moved_after : (d : ℕ → ℕ) (states : List RowState) (g : ℕ) (s : RowState) → slice_get states g ≡ Some s
    → states_after (states_moved d states) g ≡ states_moved d (states_after states g)
moved_after d states g s own =
    after_is (states_moved d states) g (rows_more (d g) s) (moved_get d states g s own) ∙ moved_set d states g s own
    ∙ ap (states_moved d) (sym (after_is states g s own))

-- one row more of stage g, as rows more of all
pub after_as_moved : (states : List RowState) (g : ℕ) (s : RowState) → slice_get states g ≡ Some s
    → states_after states g ≡ states_moved (bump g (λ k. zero)) states
after_as_moved states g s own = sym (moved_none (states_after states g)) ∙ after_moved (λ k. zero) states g s own

-- a row that is kept has moved
pub kept_moved : (n : ℕ) (s : RowState) (q : ℤ) → (0 < n → s.next + n ≤ len_of s.area.rows) → IsKeptRow s q → IsKeptRow (rows_more n s) (q +ℤ pos n)
kept_moved zero s q left kept =
    let here : q +ℤ pos zero ≡ q = omega (arith, ints) in
    subst (IsKeptRow (rows_more zero s)) (sym here)
    (record { within = kept.within; begun = kept.begun; made = subst (λ k. k) refl (omega (arith, kept.made)); kept = omega (arith, kept.kept) })
kept_moved (suc n) s q left kept =
    let most = left (omega arith) in
    let low = kept.within.0 in let high = kept.within.1 in let begun = kept.begun in let made = kept.made in let last = kept.kept in
    let gap = gap_is s.area.rows.lo q (omega (arith, ints)) in
    let end = gap_is s.area.rows.lo (s.area.rows.hi +ℤ pos 1) (omega (arith, ints)) in
    let now = gap_is s.area.rows.lo (q +ℤ pos (suc n)) (omega (arith, ints)) in
    record { within = (omega (arith, ints), omega (arith, ints)); begun = omega (arith, ints); made = omega (arith, ints); kept = omega (arith, ints) }

-- rows that are taken have moved
pub taken_moved : (d : ℕ → ℕ) (states : List RowState) (g : ℕ) (r : ℤ) (x : RowsRead) → IsLeft states d
    → (Holds x.rows (r +ℤ pos (d g)) → Holds x.rows r × (middle_row x (r +ℤ pos (d g)) ≡ middle_row x r +ℤ pos (d x.stage)))
    → AreTakenKept states g r x → AreTakenKept (states_moved d states) g (r +ℤ pos (d g)) x
taken_moved d states g r x left moves h = record {
  kept = λ held q above below.
      let m = moves held in
      let middle = m.1 in
      let n = d x.stage in
      let old = h.kept m.0 (q -ℤ pos n) (omega (arith, ints, middle)) (omega (arith, ints, middle)) in
      let s = old.1.0 in
      let back : q -ℤ pos n +ℤ pos n ≡ q = omega (arith, ints) in (
        old.0,
        (
          rows_more n s,
          moved_get d states x.stage s old.1.1,
          subst (IsKeptRow (rows_more n s)) back (kept_moved n s (q -ℤ pos n) (left.left x.stage s old.1.1) old.1.2),
        ),
      );
}

-- a row of the picture is kept that has moved
pub output_moved : (d : ℕ → ℕ) (states : List RowState) (y r g : ℕ) → IsLeft states d → d g ≡ r → IsOutputRowKept states y g
    → IsOutputRowKept (states_moved d states) (y + r) g
output_moved d states y r g left is h =
    let s = h.0 in
    let row : s.area.rows.lo +ℤ pos y +ℤ pos (d g) ≡ s.area.rows.lo +ℤ pos (y + r) = omega (arith, ints, is) in
    (rows_more (d g) s, moved_get d states g s h.1, subst (IsKeptRow (rows_more (d g) s)) row (kept_moved (d g) s (s.area.rows.lo +ℤ pos y) (left.left g s h.1) h.2))

-- what moves with the rows of states does with those of states of which more rows are made
pub reads_moved_on : (list : List StageRowsRead) (d e : ℕ → ℕ) (states : List RowState) → AreReadsMoved list d states
    → AreReadsMoved list d (states_moved e states)
reads_moved_on list d e states h = record {
  each = λ g x there. All-weaker (IsReadMoved d states g) (IsReadMoved d (states_moved e states) g)
      (λ y m. record {
        moved = λ t own r low held.
            let b = moved_from e states g t own in
            let next : t.next ≡ b.0.next + e g = ap (λ k. k.next) b.2 in
            let lo : t.area.rows.lo ≡ b.0.area.rows.lo = ap (λ k. k.area.rows.lo) b.2 in
            m.moved b.0 b.1 r (omega (arith, ints, next, lo)) held;
      }) x.reads.items (h.each g x there);
}

left_more : (n m k l : ℕ) → n < l → (0 < m → n + k + m ≤ l) → 0 < k → n + m < l
left_more n zero k l now then some = omega arith
left_more n (suc m) k l now then some = let most = then (omega arith) in omega arith

-- the next row of a stage can be made that has moved
pub row_moved : (list : List StageRowsRead) (d : ℕ → ℕ) (states : List RowState) (g : ℕ) → IsLeft states d → IsLeft (states_after states g) d
    → AreReadsMoved list d states → CanMakeRow list states g → CanMakeRow list (states_moved d states) g
row_moved list d states g left left_then reads can =
    let s = can.state in
    let own = can.own in
    let begun = can.begun in
    let there : slice_get (states_after states g) g ≡ Some (one_row_more s) =
    subst (λ l. slice_get l g ≡ Some (rows_more 1 s)) (sym (after_as_moved states g s own))
    (subst (λ n. slice_get (states_moved (bump g (λ k. zero)) states) g ≡ Some (rows_more n s)) (bump_own g (λ k. zero))
    (moved_get (bump g (λ k. zero)) states g s own)) in
    let next : next_row s +ℤ pos (d g) ≡ next_row (rows_more (d g) s) = omega (arith, ints) in
    let moves = reads.each g can.read can.there in
    record {
      read = can.read;
      there = can.there;
      valued = can.valued;
      state = rows_more (d g) s;
      own = moved_get d states g s own;
      begun = omega (arith, begun);
      left = left_more s.next (d g) 1 (len_of s.area.rows) can.left (left_then.left g (one_row_more s) there) (omega arith);
      some = can.some;
      reads = λ k e within.
          let x = slice_index_or can.read.reads.items k e in
          subst (λ r. AreTakenKept (states_moved d states) g r x) next
          (taken_moved d states g (next_row s) x left ((moves k e within).moved s own (next_row s) (omega (arith, ints))) (can.reads k e within));
    }

-- between two windows of a stage are as many rows as are made
pub windows_apart : (d : ℕ → ℕ) (states : List RowState) (begun ended : List RowStateWindow) (g : ℕ) (first last : RowStateWindow)
    → AreWindowsMoved d states begun ended → slice_get begun g ≡ Some first → slice_get ended g ≡ Some last
    → last.next ≡ first.next +ℤ pos (d g)
windows_apart d states begun ended g first last moved before after =
    let a = moved.before g first before in
    let b = moved.after g last after in
    let from = moved_from d states g b.0 b.1 in
    let same : from.0 ≡ a.0 = same_Some from.0 a.0 (sym from.1 ∙ a.1) in
    let next : b.0.next ≡ a.0.next + d g = ap (λ s. s.next) from.2 ∙ ap (λ s. s.next + d g) same in
    let lo : b.0.area.rows.lo ≡ a.0.area.rows.lo = ap (λ s. s.area.rows.lo) from.2 ∙ ap (λ s. s.area.rows.lo) same in
    let first_is = a.2.next in
    let last_is = b.2.next in
    omega (arith, ints, next, lo, first_is, last_is)
