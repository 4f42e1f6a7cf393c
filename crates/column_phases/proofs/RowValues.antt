-- Laws of the rows of a function's phases.
use Rattle.std.proofs.Common.{arith, ℕ, ℤ, ◌≡◌, ◌+◌, ◌-◌, ◌*◌, ◌/◌, ◌%◌, ◌<◌, ◌≤◌, pos, ◌+ℤ◌, ◌-ℤ◌, List, Option, length, map, take, drop, ap, sym, subst, ◌∙◌}
use Rattle.std.specs.Prelude.{All}
use Rattle.std.specs.Option.{option_map}
use Rattle.std.proofs.lemmas.Int.{ints}
use Rattle.std.proofs.lemmas.Grind.{common_steps}
use borrow.Rule.Slice.PartMut.{put_mid}
use Rattle.std.specs.Int.{int_gap}
use Rattle.domains.specs.Area.{HoldsPoint, point_count}
use Rattle.domains.specs.Span.{Holds, len_of}
use Rattle.domains.proofs.Lengths.{gap_is, len_is}
use Rattle.tile_eval.specs.Raster.{raster, place_of}
use Rattle.tile_eval.proofs.Rasters.{nth_held, raster_at}
use Rattle.domains.specs.Arithmetic.{floor_div}
use Rattle.domains.specs.declared.area.Area.{Area}
use Rattle.job.specs.Formula.{Formula}
use Rattle.job.specs.Pipeline.{JobCase, function}
use Rattle.job.specs.Reads.{formulas_of}
use Rattle.job.specs.Values.{Valuation}
use Rattle.job.specs.Views.{case_view, formula_view}
use Rattle.job.specs.WellFormed.{IsFormula, IsTest, InDomainRange}
use Rattle.job.specs.declared.stage.Function.{Function}
use Rattle.narrow_eval.specs.NarrowCases.{IsNarrowComputable}
use Rattle.row_loops.specs.Rows.{EachPlace, at}
use Rattle.tile_eval.specs.Cases.{function_value, IsComputable}
use Rattle.tile_eval.specs.Reading.{HasFunctionRoom}
use Rattle.tile_eval.proofs.Covering.{cut_len}
use Rattle.column_phases.specs.Phases.{column_of, phase_cases, phase_formula, ArePhasesOf}
use Rattle.row_kernels.specs.declared.row_span.RowSpan.{RowSpan}
use Rattle.column_phases.specs.inside.Rows.{places_from, IsPart}
use Rattle.column_phases.proofs.FunctionLaws.{known, function_phase, narrow_of_phase, computable_of_phase, room_made}
use Rattle.column_phases.proofs.Merely.{narrow_computable_same, computable_same, room_same, value_same}
use Rattle.column_phases.proofs.RowLaws.{row_column, place_of_row, row_short, place_split}

module _ (phases : List Function) (qs : List JobCase) (o : Option Formula) (are : ArePhasesOf phases qs o) (least : 2 ≤ length phases)
    (most : length phases ≤ 4) where
  abbrev P : ℕ
  P = length phases

  -- a part of n points
  module _ (points : RowSpan) (place : ℕ) (f : Function) (part : RowSpan) (is : IsPart phases points place f part) (n : ℕ) (count : points.len ≡ n)
      (enough : P ≤ n) (short : place < P) where
    abbrev first : ℤ
    first = floor_div (points.col +ℤ pos place) (pos P)

    pub part_len : part.len ≡ places_from P n place
    part_len = is.len ∙ ap (λ m. places_from P m place) count

    own : (q : ℕ) → q < places_from P n place → (i : ℕ) × (i < n) × (points.col +ℤ pos i ≡ column_of P is.rest (first +ℤ pos q))
    own q h = (
      place + q * P,
      place_of_row P least most n place q short h,
      sym (row_column P is.rest place q points.col (omega (arith, least)) is.column),
    )

    pub narrow_ready : (has : ℕ → ℤ → ℤ → Type 0) (env : Valuation) (room : ℕ) → IsNarrowComputable has env points.row points.col n room qs o
        → (m : ℕ) → m ≡ part.len
        → IsNarrowComputable has env part.row part.col m room (map case_view f.cases.items) (option_map formula_view f.otherwise)
    narrow_ready has env room all m e =
        let mine = are is.rest f is.there in
        let here =
        narrow_of_phase P is.rest (omega (arith, least)) has env points.row points.col n room qs o all mine.alternates first (places_from P n place)
        (row_short P least most n place enough short) own in
        narrow_computable_same (map case_view f.cases.items) (phase_cases P is.rest qs) (option_map formula_view f.otherwise)
        (option_map (phase_formula P is.rest) o) mine.same has env part.row part.col m room
        (subst (λ (x : ℤ). IsNarrowComputable has env x part.col m room (phase_cases P is.rest qs) (option_map (phase_formula P is.rest) o)) (sym is.row)
        (subst (λ (x : ℤ). IsNarrowComputable has env points.row x m room (phase_cases P is.rest qs) (option_map (phase_formula P is.rest) o)) (sym is.col)
        (subst (λ (x : ℕ). IsNarrowComputable has env points.row first x room (phase_cases P is.rest qs) (option_map (phase_formula P is.rest) o))
        (sym (e ∙ part_len)) here)))

    -- and its values are those of the function
    pub row_value : (env : Valuation) → All (λ q. All IsTest q.tests) qs → All IsFormula (formulas_of (function qs o)) → (k : ℕ) → k % P ≡ place
        → (r : ℤ) → function_value env (map case_view f.cases.items) (option_map formula_view f.otherwise) r (part.col +ℤ pos (k / P))
        ≡ function_value env qs o r (points.col +ℤ pos k)
    row_value env tests formulas k e r =
        let mine = are is.rest f is.there in
        let column : column_of P is.rest (first +ℤ pos (k / P)) ≡ points.col +ℤ pos k =
        row_column P is.rest place (k / P) points.col (omega (arith, least)) is.column
        ∙ ap (λ (x : ℕ). points.col +ℤ pos x) (ap (λ (x : ℕ). x + k / P * P) (sym e) ∙ place_split P k) in
        ap (λ (z : ℤ). function_value env (map case_view f.cases.items) (option_map formula_view f.otherwise) r (z +ℤ pos (k / P))) is.col
        ∙ value_same (map case_view f.cases.items) (phase_cases P is.rest qs) (option_map formula_view f.otherwise)
        (option_map (phase_formula P is.rest) o) mine.same env r (first +ℤ pos (k / P))
        ∙ function_phase P is.rest (omega (arith, least)) env r (first +ℤ pos (k / P)) qs o (known P is.rest qs o tests formulas mine.alternates)
        ∙ ap (function_value env qs o r) column

    pub wide_room : (room : ℕ) → HasFunctionRoom n room qs o → All (λ q. All IsTest q.tests) qs → All IsFormula (formulas_of (function qs o))
        → HasFunctionRoom part.len room (map case_view f.cases.items) (option_map formula_view f.otherwise)
    wide_room room all tests formulas =
        let mine = are is.rest f is.there in
        subst (λ (m : ℕ). HasFunctionRoom m room (map case_view f.cases.items) (option_map formula_view f.otherwise)) (sym part_len)
        (room_same (map case_view f.cases.items) (phase_cases P is.rest qs) (option_map formula_view f.otherwise)
        (option_map (phase_formula P is.rest) o) mine.same (places_from P n place) room
        (room_made P is.rest (omega (arith, least)) qs o (known P is.rest qs o tests formulas mine.alternates) n (places_from P n place) room
        (row_short P least most n place enough short) all))

    -- on an area of one row it is computable at its columns
    pub wide_ready : (has : ℕ → ℤ → ℤ → Type 0) (area : Area) → IsComputable has area qs o → points.col ≡ area.cols.lo → n ≡ len_of area.cols
        → IsComputable has (record { rows = area.rows; cols = record { lo = part.col; hi = part.col +ℤ pos part.len -ℤ pos 1 } })
        (map case_view f.cases.items) (option_map formula_view f.otherwise)
    wide_ready has area all left width =
        let mine = are is.rest f is.there in
        let some = is.some in
        let low = part.col_least in
        let high = part.within in
        let len = part_len in
        let own_area : Area = record { rows = area.rows; cols = record { lo = part.col; hi = part.col +ℤ pos part.len -ℤ pos 1 } } in
        let cols : InDomainRange own_area.cols = record {
          span = record { least = omega (arith, ints, low); ordered = omega (arith, ints, some); most = omega (arith, ints, high) };
          least = low;
          most = omega (arith, ints, high);
        } in
        let inside : (r j : ℤ) → HoldsPoint own_area r j → HoldsPoint area r (column_of P is.rest j) = λ r j held.
        let q = int_gap part.col j in
        let at_q : part.col +ℤ pos q ≡ j = gap_is part.col j held.1.0 in
        let below : q < part.len = let end = held.1.1 in omega (arith, ints, at_q, end) in
        let it = own q (omega (arith, below, len)) in
        let column : area.cols.lo +ℤ pos it.0 ≡ column_of P is.rest j =
        ap (λ (z : ℤ). z +ℤ pos it.0) (sym left) ∙ it.2 ∙ ap (column_of P is.rest) (ap (λ (z : ℤ). z +ℤ pos q) (sym is.col) ∙ at_q) in
        let within : it.0 < len_of area.cols = omega (arith, it.1, width) in
        (held.0, subst (Holds area.cols) column (nth_held area.cols it.0 within)) in
        computable_same (map case_view f.cases.items) (phase_cases P is.rest qs) (option_map formula_view f.otherwise)
        (option_map (phase_formula P is.rest) o) mine.same has own_area
        (computable_of_phase P is.rest (omega (arith, least)) has area own_area qs o all mine.alternates all.rows cols inside)

-- ---- areas of one row

pub columns_len : (c : ℤ) (m : ℕ) → len_of (record { lo = c; hi = c +ℤ pos m -ℤ pos 1 }) ≡ m
columns_len c m = let gap = gap_is c (c +ℤ pos m -ℤ pos 1 +ℤ pos 1) (omega (arith, ints)) in omega (arith, ints, gap)

module _ (area : Area) (one : area.rows.hi ≡ area.rows.lo) (rows : InDomainRange area.rows) where
  one_row : len_of area.rows ≡ 1
  one_row = let len = len_is area.rows rows.span in omega (arith, ints, len, one)

  -- the area has as many points as columns
  pub row_count : point_count area ≡ len_of area.cols
  row_count = ap (λ n. n * len_of area.cols) one_row ∙ omega arith

  -- the values of the row, place by place
  pub row_values : (v : ℤ → ℤ → ℤ) (line : List ℤ) → line ≡ raster area v
      → EachPlace (len_of area.cols) (λ k. at line k ≡ v area.rows.lo (area.cols.lo +ℤ pos k))
  row_values v line is k l =
      let c : ℤ = area.cols.lo +ℤ pos k in
      let top : Holds area.rows area.rows.lo = (omega (arith, ints), omega (arith, ints, one)) in
      let held : Holds area.cols c = nth_held area.cols k l in
      let above = gap_is area.rows.lo area.rows.lo top.0 in
      let before = gap_is area.cols.lo c held.0 in
      let none : int_gap area.rows.lo area.rows.lo * len_of area.cols ≡ 0 * len_of area.cols =
      ap (λ n. n * len_of area.cols) (omega (arith, ints, above)) in
      let along : int_gap area.cols.lo c ≡ k = omega (arith, ints, before) in
      let place : k ≡ place_of area area.rows.lo c = omega (arith, none, along) in
      ap (λ (xs : List ℤ). at xs k) is ∙ ap (at (raster area v)) place ∙ raster_at area v area.rows.lo c (top, held)

-- ---- what a part of a row is given

module _ (a b : ℕ) (xs ys : List ℤ) (ordered : a < b) (le : b ≤ length xs) (len : length ys ≡ length (take (b - a) (drop a xs))) where
  own_len : length ys ≡ b - a
  own_len = len ∙ cut_len a b xs ordered le

  pub part_at : (q : ℕ) → a + q < b → at (put_mid a (b - a) xs ys) (a + q) ≡ at ys q
  part_at q h = let n = own_len in grind (arith, common_steps)

  pub part_before : (i : ℕ) → i < a → at (put_mid a (b - a) xs ys) i ≡ at xs i
  part_before i h = let n = own_len in grind (arith, common_steps)
