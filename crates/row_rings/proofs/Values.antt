-- The next row of a ring has the values of its stage.
use Rattle.std.proofs.Common.{arith, ℕ, ℤ, pos, ◌≡◌, ◌<◌, ◌+ℤ◌, List, Option, Some, false, slice_get, subst, refl, sym, ap, ◌∙◌}
use Rattle.std.specs.Prelude.{All}
use Rattle.std.proofs.Math.IntN.{+ℤ_idl}
use Rattle.std.proofs.lemmas.Int.{ints}
use Rattle.std.proofs.lemmas.Option.{same_Some}
use Rattle.domains.proofs.Lengths.{len_is}
use Rattle.domains.specs.Area.{HoldsPoint, IsSubarea}
use Rattle.domains.specs.Span.{Ends, Holds, IsSpan, len_of}
use Rattle.domains.specs.declared.area.Area.{Area}
use Rattle.netpbm.specs.Image.{Image}
use Rattle.job.specs.Boxes.{AreBoxed}
use Rattle.job.specs.Formula.{Formula}
use Rattle.job.specs.Pipeline.{Body, JobCase, Stage, Pipeline, plane, function}
use Rattle.job.specs.Reads.{SameAt, BodyReads, formulas_of}
use Rattle.job.specs.Values.{body_value, sample_at, value}
use Rattle.job.specs.WellFormed.{InDomainRange, IsBody, IsFormula, IsFunction, IsJob, IsStage, picture_area}
use Rattle.job.proofs.Solving.{body_value-agrees_there, ranked_is, value_solves}
use Rattle.row_loops.specs.Rows.{EachPlace, at}
use Rattle.row_plans.specs.Rows.{next_row}
use Rattle.row_plans.specs.declared.row_state.RowState.{RowState}
use Rattle.narrow_eval.specs.NarrowCases.{IsNarrowComputable}
use Rattle.tile_eval.specs.Reading.{HasFunctionRoom}
use Rattle.value_ranges.specs.Narrow.{Fits16}
use Rattle.value_ranges.specs.Ranges.{IsNarrowBody}
use Rattle.tile_eval.specs.Cases.{function_value, IsComputable}
use Rattle.tile_eval.proofs.Rasters.{nth_held}
use Rattle.row_rings.specs.RingRows.{sample_in, IsKeptPoint}
use Rattle.row_rings.specs.NarrowRings.{IsFittingStage, is_linear_shape, IsNarrowlyMade}
use Rattle.row_rings.specs.declared.ring_shapes.RingShape.{RingShape}
use Rattle.row_rings.specs.TrueRings.{AreTrueRings, HasBodyRoom, HasStageRoom}
use Rattle.row_rings.specs.inside.Making.{row_area, AreFittingValues, IsFittingRow, IsPictureRow, IsMakeable, IsValueRow}
use Rattle.row_rings.specs.declared.ring.RowRing.{RowRing}
use Rattle.row_rings.proofs.Areas.{span_short, side}
use Rattle.row_rings.proofs.Taking.{reads_both}

-- ---- a row alone

alone_range : (s : Ends) (v : ℤ) → InDomainRange s → Holds s v → InDomainRange (record { lo = v; hi = v })
alone_range s v is holds =
    let low = holds.0 in let high = holds.1 in let least = is.least in let most = is.most in
    let first = is.span.least in let last = is.span.most in record {
      span = record { least = omega (arith, ints); ordered = omega (arith, ints); most = omega (arith, ints) };
      least = omega (arith, ints);
      most = omega (arith, ints);
    }

alone_is : (v r : ℤ) → Holds (record { lo = v; hi = v }) r → r ≡ v
alone_is v r holds = let low = holds.0 in let high = holds.1 in omega (arith, ints)

module _ (job : Pipeline) (h : IsJob job) (rings : List (RowRing ℤ)) (g : ℕ) (state : RowState) (can : IsMakeable job rings g state) where
  own : IsStage job can.stage
  own = h.stages g can.stage can.there

  next_held : Holds state.area.rows (next_row state)
  next_held = nth_held state.area.rows state.next can.left

  row_in : (k : ℕ) → k < len_of state.area.cols → HoldsPoint can.stage.domain (next_row state) (state.area.cols.lo +ℤ pos k)
  row_in k l =
      subst (λ (a : Area). HoldsPoint a (next_row state) (state.area.cols.lo +ℤ pos k)) can.area (next_held, nth_held state.area.cols k l)

  pub next_small : state.next < 2097153
  next_small =
      let left = can.left in
      omega (arith, left, span_short state.area.rows (subst (λ (a : Area). IsSpan a.rows) (sym can.area) own.rows.span))

  pub rows_range : InDomainRange state.area.rows
  rows_range = subst (λ (a : Area). InDomainRange a.rows) (sym can.area) own.rows

  pub cols_range : InDomainRange state.area.cols
  cols_range = subst (λ (a : Area). InDomainRange a.cols) (sym can.area) own.cols

  pub columns_some : 0 < len_of state.area.cols
  columns_some =
      let cols : IsSpan state.area.cols = subst (λ (a : Area). IsSpan a.cols) (sym can.area) own.cols.span in
      let ordered = cols.ordered in omega (arith, ints, len_is state.area.cols cols, ordered)

  -- the body has the values of the stage
  solved : (body : Body) → can.stage.body ≡ body → (k : ℕ) → k < len_of state.area.cols
      → body_value job.picture (value job) body (next_row state) (state.area.cols.lo +ℤ pos k)
      ≡ value job g (next_row state) (state.area.cols.lo +ℤ pos k)
  solved body is k l =
      let c : ℤ = state.area.cols.lo +ℤ pos k in
      ap (λ (b : Body). body_value job.picture (value job) b (next_row state) c) (sym is)
      ∙ sym (value_solves job (ranked_is job h) g can.stage can.there can.valued (next_row state) c (row_in k l))

  -- a body that has the values of what is kept has those of the job
  pub values_made : AreTrueRings job rings → (body : Body) → can.stage.body ≡ body → (line : List ℤ)
      → EachPlace (len_of state.area.cols)
      (λ k. at line k ≡ body_value job.picture (sample_in rings) body (next_row state) (state.area.cols.lo +ℤ pos k))
      → IsValueRow job g state.area (next_row state) line
  values_made right body is line each k l =
      let c : ℤ = state.area.cols.lo +ℤ pos k in
      let inside : HoldsPoint can.stage.domain (next_row state) c = row_in k l in
      let reads = can.reads c inside in
      each k l
      ∙ ap (λ (b : Body). body_value job.picture (sample_in rings) b (next_row state) c) (sym is)
      ∙ body_value-agrees_there job.picture (sample_in rings) (value job) can.stage.domain can.stage.body (next_row state) c own.boxes inside
      (reads_both (IsKeptPoint rings) (IsKeptPoint rings) (SameAt (sample_in rings) (value job)) (λ m q d x y. right m q d x) can.stage.body
      (next_row state) c reads reads)
      ∙ solved can.stage.body refl k l

  -- ---- the stage of this number is a function or a plane

  module _ (s : Stage) (there : slice_get job.stages g ≡ Some s) where
    same_body : (body : Body) → s.body ≡ body → can.stage.body ≡ body
    same_body body is = ap (λ (t : Stage). t.body) (same_Some can.stage s (sym can.there ∙ there)) ∙ is

    pub function_made : AreTrueRings job rings → (cases : List JobCase) (otherwise : Option Formula) → s.body ≡ function cases otherwise
        → (row : ℤ) → row ≡ next_row state → (line : List ℤ)
        → EachPlace (len_of state.area.cols)
        (λ k. at line k ≡ function_value (sample_in rings) cases otherwise row (state.area.cols.lo +ℤ pos k))
        → IsValueRow job g state.area (next_row state) line
    function_made right cases otherwise is row next line each =
        values_made right (function cases otherwise) (same_body (function cases otherwise) is) line (λ k l.
        each k l ∙ ap (λ (r : ℤ). function_value (sample_in rings) cases otherwise r (state.area.cols.lo +ℤ pos k)) next)

    pub function_computable : (cases : List JobCase) (otherwise : Option Formula) → s.body ≡ function cases otherwise → (row : ℤ)
        → row ≡ next_row state → IsComputable (IsKeptPoint rings) (row_area state.area row) cases otherwise
    function_computable cases otherwise is row next = record {
      rows = alone_range state.area.rows row (subst (λ (a : Area). InDomainRange a.rows) (sym can.area) own.rows) held;
      cols = subst (λ (a : Area). InDomainRange a.cols) (sym can.area) own.cols;
      tests = subst (IsBody job.picture can.stage.domain) body own.body;
      formulas = subst (λ (b : Body). All IsFormula (formulas_of b)) body own.formulas;
      boxes = (can.stage.domain, inside, subst (AreBoxed can.stage.domain) body own.boxes);
      reads = λ r c at.
          subst (λ (q : ℤ). BodyReads (IsKeptPoint rings) (function cases otherwise) q c) (sym (alone_is row r at.0 ∙ next))
          (subst (λ (b : Body). BodyReads (IsKeptPoint rings) b (next_row state) c) body
          (can.reads c (subst (λ (q : ℤ). HoldsPoint can.stage.domain q c) (alone_is row r at.0 ∙ next) (inside r c at))));
    }
      where
        body : can.stage.body ≡ function cases otherwise
        body = same_body (function cases otherwise) is

        held : Holds state.area.rows row
        held = subst (Holds state.area.rows) (sym next) next_held

        inside : IsSubarea (row_area state.area row) can.stage.domain
        inside r c at =
            subst (λ (a : Area). HoldsPoint a r c) can.area (subst (Holds state.area.rows) (sym (alone_is row r at.0)) held, at.1)

    pub narrow_made : (cases : List JobCase) (otherwise : Option Formula) → s.body ≡ function cases otherwise → (line : List ℤ)
        → EachPlace (len_of state.area.cols)
        (λ k. at line k ≡ function_value (value job) cases otherwise (next_row state) (state.area.cols.lo +ℤ pos k))
        → IsValueRow job g state.area (next_row state) line
    narrow_made cases otherwise is line each k l =
        each k l ∙ solved (function cases otherwise) (same_body (function cases otherwise) is) k l

    pub narrow_reads : (cases : List JobCase) (otherwise : Option Formula) → s.body ≡ function cases otherwise → (n : ℕ)
        → n ≡ len_of state.area.cols
        → EachPlace n (λ k. BodyReads (IsKeptPoint rings) (function cases otherwise) (next_row state) (state.area.cols.lo +ℤ pos k))
    narrow_reads cases otherwise is n long k l =
        subst (λ (b : Body). BodyReads (IsKeptPoint rings) b (next_row state) (state.area.cols.lo +ℤ pos k))
        (same_body (function cases otherwise) is) (can.reads _ (row_in k (subst (λ m. k < m) long l)))

    pub narrow_fits : IsFittingStage job g → (cases : List JobCase) (otherwise : Option Formula) → s.body ≡ function cases otherwise → (n : ℕ)
        → n ≡ len_of state.area.cols → AreFittingValues (value job) cases otherwise (next_row state) state.area.cols.lo n
    narrow_fits fits cases otherwise is n long k l =
        let inside : k < len_of state.area.cols = subst (λ m. k < m) long l in
        subst Fits16 (sym (solved (function cases otherwise) (same_body (function cases otherwise) is) k inside))
        (fits can.stage can.there can.valued (next_row state) _ (row_in k inside))

    pub narrow_computable : (cases : List JobCase) (otherwise : Option Formula) → s.body ≡ function cases otherwise
        → (shape : RingShape) → IsNarrowlyMade job g shape → is_linear_shape shape ≡ false → (room : ℕ) → HasStageRoom job g (len_of state.area.cols) room → (n : ℕ) → n ≡ len_of state.area.cols
        → IsNarrowComputable (IsKeptPoint rings) (value job) (next_row state) state.area.cols.lo n room cases otherwise
    narrow_computable cases otherwise is shape narrow plain room has n long = record {
      tests = subst (IsBody job.picture can.stage.domain) body own.body;
      formulas = subst (λ (b : Body). All IsFormula (formulas_of b)) body own.formulas;
      domain = can.stage.domain;
      inside = inside;
      boxes = subst (AreBoxed can.stage.domain) body own.boxes;
      reads = narrow_reads cases otherwise is n long;
      narrow = λ k l.
          subst (λ (b : Body). IsNarrowBody (value job) b (next_row state) (state.area.cols.lo +ℤ pos k)) is
          (narrow s there (subst IsFunction (sym is) tt) plain (next_row state) _
          (subst (λ (t : Stage). HoldsPoint t.domain (next_row state) (state.area.cols.lo +ℤ pos k))
          (same_Some can.stage s (sym can.there ∙ there)) (inside k l)));
      capacity =
          subst (λ m. HasFunctionRoom m room cases otherwise) (sym long)
          (subst (HasBodyRoom (len_of state.area.cols) room) is (has s there));
    }
      where
        body : can.stage.body ≡ function cases otherwise
        body = same_body (function cases otherwise) is

        inside : EachPlace n (λ k. HoldsPoint can.stage.domain (next_row state) (state.area.cols.lo +ℤ pos k))
        inside k l = row_in k (subst (λ m. k < m) long l)

    module _ (n : ℕ) (is : s.body ≡ plane n) (picture : Image) (same : picture ≡ job.picture) where
      in_picture : IsBody job.picture can.stage.domain (plane n)
      in_picture = subst (IsBody job.picture can.stage.domain) (same_body (plane n) is) own.body

      area : state.area ≡ picture_area job.picture
      area = can.area ∙ in_picture.1

      pub plane_row : (count : ℕ) → count ≡ len_of state.area.cols → IsPictureRow picture n state.next count
      plane_row count long =
          subst (λ (p : Image). IsPictureRow p n state.next count) (sym same) (
            in_picture.0,
            subst (λ m. state.next < m) (ap (λ (a : Area). len_of a.rows) area ∙ side job.picture.rows) can.left,
            long ∙ ap (λ (a : Area). len_of a.cols) area ∙ side job.picture.cols,
          )

      plane_value : (k : ℕ) → k < len_of state.area.cols
          → sample_at picture n (pos state.next) (pos k) ≡ value job g (next_row state) (state.area.cols.lo +ℤ pos k)
      plane_value k l =
          ap (λ (p : Image). sample_at p n (pos state.next) (pos k)) same
          ∙ (λ i. sample_at job.picture n (sym (+ℤ_idl (pos state.next)) i) (sym (+ℤ_idl (pos k)) i))
          ∙ ap (λ (a : Area). sample_at job.picture n (a.rows.lo +ℤ pos state.next) (a.cols.lo +ℤ pos k)) (sym area)
          ∙ solved (plane n) (same_body (plane n) is) k l

      pub plane_fits : IsFittingStage job g → IsFittingRow picture n state.next
      plane_fits fits k l =
          let long : k < len_of state.area.cols =
          subst (λ m. k < m) (ap (λ (p : Image). p.cols) same ∙ sym (ap (λ (a : Area). len_of a.cols) area ∙ side job.picture.cols)) l in
          subst Fits16 (sym (plane_value k long)) (fits can.stage can.there can.valued (next_row state) _ (row_in k long))

      pub plane_made : (line : List ℤ)
          → EachPlace (len_of state.area.cols) (λ k. at line k ≡ sample_at picture n (pos state.next) (pos k))
          → IsValueRow job g state.area (next_row state) line
      plane_made line each k l = each k l ∙ plane_value k l
