-- A ring whose oldest row is written anew and put last.
use Rattle.std.proofs.Common.{arith, ℕ, zero, suc, ℤ, ◌≡◌, ◌+◌, ◌-◌, ◌<◌, List, [], ◌∷◌, ◌++◌, Option, Some, length, take, drop, set, slice_get}
use Rattle.std.proofs.Common.{refl, sym, ap, ◌∙◌, subst}
use Rattle.std.specs.Global.{Vec}
use Rattle.std.specs.Option.{option_map_or}
use Rattle.domains.proofs.Places.{slice_get-end}
use Rattle.domains.specs.Span.{len_of}
use Rattle.job.specs.Pipeline.{Pipeline}
use Rattle.row_loops.specs.Rows.{EachPlace, at}
use Rattle.row_plans.specs.Rows.{next_row, one_row_more}
use Rattle.row_plans.specs.declared.row_state.RowState.{RowState}
use Rattle.row_rings.specs.RingRows.{row_at}
use Rattle.row_rings.specs.inside.Converting.{HasRowMore}
use Rattle.row_rings.specs.inside.Making.{IsValueRow, HasOneRowMore}
use Rattle.row_rings.specs.declared.ring.RowRing.{RowRing}

-- the rows, the oldest written anew and put last
abbrev pub turned : {X : Type 0} → List X → X → List X
turned rows w = drop 1 (set rows 0 w) ++ take 1 (set rows 0 w)

before_end : {X : Type 0} (xs ys : List X) (k : ℕ) → k < length xs → slice_get (xs ++ ys) k ≡ slice_get xs k
before_end [] ys k h = absurd (omega arith)
before_end (x ∷ xs) ys zero h = refl
before_end (x ∷ xs) ys (suc k) h = before_end xs ys k (omega arith)

older_stays : {X : Type 0} (rows : List X) (w : X) (k : ℕ) → suc k < length rows → slice_get (turned rows w) k ≡ slice_get rows (suc k)
older_stays [] w k h = absurd (omega arith)
older_stays (x ∷ xs) w k h = before_end xs (w ∷ []) k (omega arith)

newest_last : {X : Type 0} (rows : List X) (w : X) (k : ℕ) → suc k ≡ length rows → slice_get (turned rows w) k ≡ Some w
newest_last [] w k h = absurd (omega arith)
newest_last (x ∷ xs) w k h =
    let last : k ≡ length xs = omega arith in ap (slice_get (xs ++ w ∷ [])) last ∙ slice_get-end xs w

module _ (old new : RowRing ℤ) (w : Vec ℤ) (state : new.state ≡ one_row_more old.state) (rows : new.rows.items ≡ turned old.rows.items w)
    (some : 0 < old.state.kept) where
  place : (y : ℕ) → row_at new y
      ≡ option_map_or (λ row. row.items) (slice_get (turned old.rows.items w) (y + old.state.kept - (old.state.next + 1))) []
  place y =
      ap (λ (s : RowState). option_map_or (λ row. row.items) (slice_get new.rows.items (y + s.kept - s.next)) []) state
      ∙ ap (λ (xs : List (Vec ℤ)). option_map_or (λ row. row.items) (slice_get xs (y + old.state.kept - (old.state.next + 1))) []) rows

  older_rows : (y : ℕ) → y < old.state.next → old.state.next < y + old.state.kept → row_at new y ≡ row_at old y
  older_rows y before kept =
      let k : ℕ = y + old.state.kept - (old.state.next + 1) in
      let here : y + old.state.kept - old.state.next ≡ suc k = omega arith in
      let within : suc k < length old.rows.items = omega (arith, old.count) in
      place y ∙ ap (λ (o : Option (Vec ℤ)). option_map_or (λ row. row.items) o [])
      (older_stays old.rows.items w k within ∙ ap (slice_get old.rows.items) (sym here))

  newest_row : row_at new old.state.next ≡ w.items
  newest_row =
      let k : ℕ = old.state.next + old.state.kept - (old.state.next + 1) in
      let last : suc k ≡ length old.rows.items = omega (arith, old.count) in
      place old.state.next ∙ ap (λ (o : Option (Vec ℤ)). option_map_or (λ row. row.items) o []) (newest_last old.rows.items w k last)

  pub one_row_made : (job : Pipeline) (g : ℕ) → IsValueRow job g old.state.area (next_row old.state) w.items → HasOneRowMore job g old new
  one_row_made job g made = record {
    state = state;
    older = older_rows;
    made = subst (IsValueRow job g old.state.area (next_row old.state)) (sym newest_row) made;
  }

  pub one_row_taken : (line : List ℤ) → EachPlace (len_of old.state.area.cols) (λ k. at w.items k ≡ at line k) → HasRowMore line old new
  one_row_taken line made = record {
    state = state;
    older = older_rows;
    made = λ k h. ap (λ (xs : List ℤ). at xs k) newest_row ∙ made k h;
  }
