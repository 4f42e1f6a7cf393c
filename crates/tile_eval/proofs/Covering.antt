-- Where the tests of a case hold along a row of points.
use Rattle.std.proofs.Common.{arith, ℕ, ℤ, ◌≡◌, ◌+◌, ◌-◌, ◌<◌, ◌≤◌, ◌⊎◌, inl, inr, pos, ◌+ℤ◌, ◌-ℤ◌, ◌≤ℤ◌, ◌↔◌}
use Rattle.std.proofs.Common.{List, Bool, true, false, Option, length, take, drop, subst, sym, ap, ◌∙◌, refl}
use Rattle.std.specs.Prelude.{if◌then◌else◌, slice_index_or}
use Rattle.std.proofs.lemmas.Int.{ints}
use Rattle.std.proofs.lemmas.Bool.{cases_lt}
use Rattle.std.proofs.lemmas.List.Elements.{All-take, All-drop}
use Rattle.std.proofs.lemmas.Grind.{common_steps}
use borrow.Rule.Slice.PartMut.{put_mid}
use Rattle.domains.specs.Span.{Ends, Holds, IsMeet}
use Rattle.job.specs.Pipeline.{JobCase}
use Rattle.row_loops.specs.Rows.{EachPlace, at}
use Rattle.tile_eval.specs.inside.Cases.{IsReady, IsRoomy, AreReady}
use Rattle.job.specs.Reads.{EachRead}
use Rattle.job.specs.Views.{case_view}
use Rattle.job.specs.declared.stage.JobCase.{JobCase as KeptCase}
use Rattle.job.specs.declared.formula.Formula.{Formula as KeptFormula}
use Rattle.tile_eval.proofs.Gathering.{room_less}

-- ---- a part of a row

put_before : (a b k : ℕ) (xs ys : List ℤ) → k < a → a ≤ length xs → at (put_mid a (b - a) xs ys) k ≡ at xs k
put_before a b k xs ys h le = grind (arith, common_steps)

put_within : (a b k : ℕ) (xs ys : List ℤ) → a ≤ k → k < b → b ≤ length xs → length ys ≡ b - a
    → at (put_mid a (b - a) xs ys) k ≡ at ys (k - a)
put_within a b k xs ys h l le len = grind (arith, common_steps)

put_after : (a b k : ℕ) (xs ys : List ℤ) → a ≤ b → b ≤ k → b ≤ length xs → length ys ≡ b - a → at (put_mid a (b - a) xs ys) k ≡ at xs k
put_after a b k xs ys o h le len = grind (arith, common_steps)

pub no_test : (passed : Bool) (x y : ℤ) → (passed ≡ true → ⊥) → y ≡ if passed then x else y
no_test true x y never = absurd (never refl)
no_test false x y _ = refl

-- a row whose part is taken where tests hold, and where elsewhere none does
pub part_taken : (a b k : ℕ) (xs ys : List ℤ) (passed : Bool) (x : ℤ) → a < b → b ≤ length xs → length ys ≡ b - a
    → (a ≤ k → k < b → at ys (k - a) ≡ if passed then x else at xs k)
    → ((a ≤ k → k < b → ⊥) → passed ≡ true → ⊥)
    → at (put_mid a (b - a) xs ys) k ≡ if passed then x else at xs k
part_taken a b k xs ys passed x o le len inside outside = by (cases_lt k a) (cases_lt k b)
  where
    by : (k < a) ⊎ (a ≤ k) → (k < b) ⊎ (b ≤ k) → at (put_mid a (b - a) xs ys) k ≡ if passed then x else at xs k
    by (inl h) l = put_before a b k xs ys h (omega arith) ∙ no_test passed x (at xs k) (outside (λ m n. omega arith))
    by (inr h) (inl l) = put_within a b k xs ys h l le len ∙ inside h l
    by (inr h) (inr l) = put_after a b k xs ys (omega arith) l le len ∙ no_test passed x (at xs k) (outside (λ m n. omega arith))

-- ---- the part of a row that lies in an area

pub overlap_some : (col lo hi : ℤ) (n a b : ℕ) → (col +ℤ pos a) ≡ lo → (col +ℤ pos b) ≡ hi → lo ≤ℤ hi → hi ≤ℤ (col +ℤ pos n -ℤ pos 1)
    → (a < b + 1) × (b + 1 ≤ n)
overlap_some col lo hi n a b e f o h = (omega (arith, ints), omega (arith, ints))

pub overlap_inside : (cols points m : Ends) (col : ℤ) (n a b k : ℕ) → IsMeet cols points m
    → points ≡ record { lo = col; hi = col +ℤ pos n -ℤ pos 1 } → (col +ℤ pos a) ≡ m.lo → (col +ℤ pos b) ≡ m.hi → k < n
    → Holds cols (col +ℤ pos k) ↔ ((a ≤ k) × (k < b + 1))
overlap_inside cols points m col n a b k meet is e f l = (
  (λ h. let lo : points.lo ≡ col = ap (λ (s : Ends). s.lo) is in
      let hi : points.hi ≡ col +ℤ pos n -ℤ pos 1 = ap (λ (s : Ends). s.hi) is in
      let both = (meet (col +ℤ pos k)).1 (h, (omega (arith, ints), omega (arith, ints))) in
      let low = both.0 in let high = both.1 in (omega (arith, ints), omega (arith, ints))),
  (λ h. let low = h.0 in let high = h.1 in ((meet (col +ℤ pos k)).0 (omega (arith, ints), omega (arith, ints))).0),
)

-- ---- a row that begins further on

pub cut_len : (a b : ℕ) (xs : List ℤ) → a < b → b ≤ length xs → length (take (b - a) (drop a xs)) ≡ b - a
cut_len a b xs o le = grind (arith, common_steps)

pub cut_at : (a b k : ℕ) (xs : List ℤ) → a ≤ k → k < b → b ≤ length xs → at (take (b - a) (drop a xs)) (k - a) ≡ at xs k
cut_at a b k xs h l le = grind (arith, common_steps)

column_is : (c col : ℤ) (a j k : ℕ) → c ≡ col +ℤ pos a → a + j ≡ k → c +ℤ pos j ≡ col +ℤ pos k
column_is c col a j k e f = omega (arith, ints)

-- what holds at a point holds of the same point, counted from further on, and back
pub to_after : (P : ℤ → ℤ → Type 0) (row col r c : ℤ) (a j k : ℕ) → r ≡ row → c ≡ col +ℤ pos a → a + j ≡ k → P row (col +ℤ pos k)
    → P r (c +ℤ pos j)
to_after P row col r c a j k e f s h =
    subst (λ (z : ℤ). P z (c +ℤ pos j)) (sym e) (subst (λ (z : ℤ). P row z) (sym (column_is c col a j k f s)) h)

pub from_after : (P : ℤ → ℤ → Type 0) (row col r c : ℤ) (a j k : ℕ) → r ≡ row → c ≡ col +ℤ pos a → a + j ≡ k → P r (c +ℤ pos j)
    → P row (col +ℤ pos k)
from_after P row col r c a j k e f s h = subst (λ (z : ℤ). P row z) (column_is c col a j k f s) (subst (λ (z : ℤ). P z (c +ℤ pos j)) e h)

-- what holds at the points of a part holds along it
pub part_each : (P : ℤ → ℤ → Type 0) (row col r c : ℤ) (a b : ℕ) (xs : List ℤ) → a < b → b ≤ length xs → r ≡ row → c ≡ col +ℤ pos a
    → ((k : ℕ) → k < length xs → a ≤ k → k < b → P row (col +ℤ pos k)) → EachPlace (length (take (b - a) (drop a xs))) (λ j. P r (c +ℤ pos j))
part_each P row col r c a b xs o le e f h j l =
    let short : j < b - a = subst (λ (n : ℕ). j < n) (cut_len a b xs o le) l in
    to_after P row col r c a j (a + j) e f refl (h (a + j) (omega arith) (omega arith) (omega arith))

-- what a part is given stands in the row
pub part_values : (v : ℤ → ℤ → ℤ) (row col r c : ℤ) (a b k : ℕ) (xs ys : List ℤ) → a < b → b ≤ length xs → length ys ≡ length (take (b - a) (drop a xs))
    → r ≡ row → c ≡ col +ℤ pos a → EachPlace (length (take (b - a) (drop a xs))) (λ j. at ys j ≡ v r (c +ℤ pos j))
    → a ≤ k → k < b → at (put_mid a (b - a) xs ys) k ≡ v row (col +ℤ pos k)
part_values v row col r c a b k xs ys o le len e f h low high =
    let cut = cut_len a b xs o le in
    let short : k - a < length (take (b - a) (drop a xs)) = rw cut (omega arith) in
    put_within a b k xs ys low high le (len ∙ cut)
    ∙ from_after (λ x y. at ys (k - a) ≡ v x y) row col r c a (k - a) k e f (omega arith) (h (k - a) short)

pub roomy_less : (n m room : ℕ) (p : JobCase) → m ≤ n → IsRoomy n room p → IsRoomy m room p
roomy_less n m room p le is =
    let row = is.row in
    record {
      formula =
          is.formula;
      tests =
          is.tests;
      row = omega arith;
      operands = room_less p.formula n m (room - n) (room - m) le (omega arith) is.operands;
    }

cut_less : (a b : ℕ) (xs : List ℤ) → a < b → b ≤ length xs → length (take (b - a) (drop a xs)) ≤ length xs
cut_less a b xs o le = rw (cut_len a b xs o le) (omega arith)

-- what is ready along a row is so along a part
pub part_ready : (has : ℕ → ℤ → ℤ → Type 0) (row col r c : ℤ) (a b room : ℕ) (xs : List ℤ) (ps : List KeptCase) (o : Option KeptFormula)
    → a < b → b ≤ length xs → r ≡ row → c ≡ col +ℤ pos a
    → AreReady has row col (length xs) room ps o → AreReady has r c (length (take (b - a) (drop a xs))) room ps o
part_ready has row col r c a b room xs ps o l le e f h = record {
  cases = λ i d m. (
    part_each (IsReady has (case_view (slice_index_or ps i d))) row col r c a b xs l le e f (λ k n low high. (h.cases i d m).0 k n),
    roomy_less (length xs) _ room (case_view (slice_index_or ps i d)) (cut_less a b xs l le) (h.cases i d m).1,
  );
  other = λ g is.
      let it = h.other g is in
      let same : room ≤ room = omega arith in (
        part_each (EachRead has g) row col r c a b xs l le e f (λ k n low high. it.0 k n),
        it.1,
        room_less g (length xs) _ room room (cut_less a b xs l le) same it.2,
      );
}

-- ---- the cases behind the first

pub fewer_cases : (ps : List KeptCase) → 1 ≤ length ps → length (take (length ps - 1) (drop 1 ps)) + 1 ≡ length ps
fewer_cases ps some = grind (arith, common_steps)

pub ready_behind : (has : ℕ → ℤ → ℤ → Type 0) (row col : ℤ) (n room : ℕ) (ps : List KeptCase) (o : Option KeptFormula)
    → AreReady has row col n room ps o → AreReady has row col n room (take (length ps - 1) (drop 1 ps)) o
ready_behind has row col n room ps o h = record {
  cases = All-take P (length ps - 1) (drop 1 ps) (All-drop P 1 ps h.cases);
  other = h.other;
}
  where
    P : KeptCase → Type 0
    P p = EachPlace n (λ k. IsReady has (case_view p) row (col +ℤ pos k)) × IsRoomy n room (case_view p)
