-- Where all rows are available that an accumulator takes at a row, all points are that it reads there.
use Rattle.std.proofs.Common.{ℕ, ◌≡◌, ℤ, pos, ◌+ℤ◌, List, Some, All, map, slice_get, sym, ap, ◌∙◌, subst}
use Rattle.std.proofs.lemmas.List.Elements.{All-map}
use Rattle.std.proofs.lemmas.Option.{same_Some}
use Rattle.domains.specs.Span.{Holds}
use Rattle.domains.specs.declared.area.Area.{Area}
use Rattle.job.specs.Pipeline.{Body, plane, function, accumulator, Stage, Pipeline}
use Rattle.job.specs.ReadViews.{read_view}
use Rattle.job.specs.Reads.{Read, point, window, EachTaken, reads_of}
use Rattle.job.specs.WellFormed.{IsJob, IsReadable}
use Rattle.job.specs.declared.reads.Read.{Read as KeptRead}
use Rattle.job.proofs.Solving.{BodyReads-both}
use Rattle.row_rings.specs.Rings.{ArePlacedRings}
use Rattle.row_rings.specs.declared.ring.RowRing.{RowRing}
use Rattle.row_totals.specs.RowTotals.{IsRowRead}
use Rattle.ring_inputs.specs.RingInputs.{EachRowTaken, IsInputOf, IsInputRow, IsRingInput, IsRowOf}

module _ (job : Pipeline) (rings : List (RowRing ℤ)) (placed : ArePlacedRings job rings) where
  point_taken : (h : ℕ) (q d : ℤ) → IsInputRow job rings h q → IsReadable job.stages h q d → IsRingInput job rings h q d
  point_taken h q d row can = record { stage = can.stage; there = can.there; within = can.within; input = by can.stage.body own }
    where
      own : IsRowOf rings h q can.stage.body
      own = subst (λ (t : Stage). IsRowOf rings h q t.body) (same_Some row.stage can.stage (sym row.there ∙ can.there)) row.row

      by : (b : Body) → IsRowOf rings h q b → IsInputOf rings h q d b
      by (plane n) k = tt
      by (function cases otherwise) k = record {
        ring = k.ring;
        there = k.there;
        row = k.row;
        column =
            subst (λ (a : Area). Holds a.cols d) (sym (placed h k.ring can.stage q k.there can.there k.row)) can.within.1;
      }
      by (accumulator fold bins v bin) k = absurd k

  read_taken : (r c : ℤ) (x : Read) → EachRowTaken (IsInputRow job rings) x r → EachTaken (IsReadable job.stages) x r c
      → EachTaken (IsRingInput job rings) x r c
  read_taken r c (point h i j) rows can = point_taken h _ _ rows can
  read_taken r c (window h kernel) rows can = λ a b la lb. point_taken h _ _ (rows a la) (can a b la lb)

  pub row_is_read : IsJob job → (g place : ℕ) (s : Stage) → slice_get job.stages g ≡ Some s → (r : ℤ) → r ≡ s.domain.rows.lo +ℤ pos place
      → (reads : List KeptRead) → map read_view reads ≡ reads_of s.body
      → All (λ x. EachRowTaken (IsInputRow job rings) (read_view x) r) reads → IsRowRead (IsRingInput job rings) job g place
  row_is_read well g place s there r is reads same rows t t_there c inside =
      let R : ℤ → Read → Type 0 = λ q x. EachRowTaken (IsInputRow job rings) x q in
      let one : s ≡ t = same_Some s t (sym there ∙ t_there) in
      let all = subst (All (R r)) same (All-map (R r) read_view reads rows) in
      let here = subst (λ (u : Stage). All (R r) (reads_of u.body)) one all in
      let row : r ≡ t.domain.rows.lo +ℤ pos place = is ∙ ap (λ (u : Stage). u.domain.rows.lo +ℤ pos place) one in
      let q = t.domain.rows.lo +ℤ pos place in
      BodyReads-both (IsReadable job.stages) (IsRingInput job rings) (R q) t.body q c (read_taken q c)
      (subst (λ (v : ℤ). All (R v) (reads_of t.body)) row here) ((well.stages g t t_there).reads q c inside)
