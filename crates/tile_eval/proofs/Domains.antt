-- Functions at the points of areas of their domains.
use Rattle.std.proofs.Common.{arith, ℕ, ℤ, ◌≡◌, ◌*◌, ◌+◌, ◌<◌, ◌↔◌, pos, ◌+ℤ◌, List, length, Option, Some, None, subst, sym, ap, ◌∙◌, refl}
use Rattle.std.specs.Prelude.{All, map, slice_index_or}
use Rattle.std.specs.Option.{ForSome}
use Rattle.std.proofs.lemmas.Int.{ints}
use Rattle.domains.specs.Span.{Ends, Holds, len_of}
use Rattle.domains.specs.Area.{HoldsPoint, point_count}
use Rattle.domains.specs.declared.area.Area.{Area}
use Rattle.domains.proofs.Lengths.{len_is}
use Rattle.job.specs.Formula.{Formula}
use Rattle.job.specs.Pipeline.{JobCase, function}
use Rattle.job.specs.Boxes.{BoundsHold, box_of}
use Rattle.job.specs.Reads.{EachRead, CaseReads, BodyReads, formulas_of, other_formula}
use Rattle.job.specs.WellFormed.{IsFormula, IsTest, InDomainRange}
use Rattle.job.proofs.Agreeing.{All-left, All-right}
use Rattle.job.proofs.BoxLaws.{box_is_cut, passed_in_box}
use Rattle.job.proofs.Steps.{All-from_map, other_each}
use Rattle.row_loops.specs.Rows.{EachPlace, at}
use Rattle.tile_eval.specs.Reading.{HasRoom, HasFunctionRoom}
use Rattle.tile_eval.specs.Cases.{InBox, AreBoxedAround}
use Rattle.tile_eval.specs.inside.Cases.{IsReady, IsRoomy}
use Rattle.tile_eval.specs.Raster.{raster}
use Rattle.tile_eval.proofs.Rasters.{raster_of}

-- ---- the numbers of a span, counted from its least

holds_from : (s : Ends) (lo : ℤ) (n i : ℕ) → lo ≡ s.lo → n ≡ len_of s → InDomainRange s → i < n → Holds s (lo +ℤ pos i)
holds_from s lo n i e f is l = let len = len_is s is.span in (omega (arith, ints), omega (arith, ints))

-- ---- a case at a point of the domain

in_some : (o : Option Area) (r c : ℤ) → InBox o r c → (box : Area) × (o ≡ Some box) × HoldsPoint box r c
in_some None r c h = absurd h
in_some (Some box) r c h = (box, refl, h)

-- the points of the domain for which P holds, if there are any
abbrev IsCut : (ℤ → ℤ → Type 0) → Area → Option Area → Type 0
IsCut P domain None = (r c : ℤ) → ¬ (HoldsPoint domain r c × P r c)
IsCut P domain (Some box) = (r c : ℤ) → HoldsPoint box r c ↔ (HoldsPoint domain r c × P r c)

cut_holds : (P : ℤ → ℤ → Type 0) (domain : Area) (o : Option Area) (r c : ℤ) → IsCut P domain o → InBox o r c → P r c
cut_holds P domain None r c cut h = absurd h
cut_holds P domain (Some box) r c cut h = ((cut r c).0 h).1

-- a case with the box of its tests is ready where its reads are there
case_ready : (has : ℕ → ℤ → ℤ → Type 0) (domain : Area) (p : JobCase) (r c : ℤ) → p.box ≡ box_of domain p.tests → HoldsPoint domain r c
    → CaseReads has p r c → IsReady has p r c
case_ready has domain p r c is inside reads = record {
  passed =
      λ e. let there = passed_in_box domain p.tests r c inside e in subst (λ (o : Option Area). InBox o r c) (sym (is ∙ there.1)) there.2;
  bounds =
      λ h. cut_holds (BoundsHold p.tests) domain p.box r c (subst (IsCut (BoundsHold p.tests) domain) (sym is) (box_is_cut domain p.tests))
      h;
  reads = λ h. let there = in_some p.box r c h in reads there.0 there.1 there.2;
}

-- ---- a function on an area

-- so many rows and columns from a point on are those of an area
pub record IsLaid (area : Area) (row col : ℤ) (rows cols : ℕ) : Type 0 where
  pub top : row ≡ area.rows.lo
  pub left : col ≡ area.cols.lo
  pub height : rows ≡ len_of area.rows
  pub width : cols ≡ len_of area.cols
  pub near_rows : InDomainRange area.rows
  pub near_cols : InDomainRange area.cols

-- a case is ready at each of so many rows and columns from a point on, and there is room for it
abbrev pub IsReadyOver : (ℕ → ℤ → ℤ → Type 0) → ℤ → ℤ → ℕ → ℕ → ℕ → JobCase → Type 0
IsReadyOver has row col rows cols room p =
    ((i k : ℕ) → i < rows → k < cols → IsReady has p (row +ℤ pos i) (col +ℤ pos k)) × IsRoomy cols room p

module _ (has : ℕ → ℤ → ℤ → Type 0) (area : Area) (ps : List JobCase) (o : Option Formula) (row col : ℤ) (rows cols room : ℕ)
    (laid : IsLaid area row col rows cols) where
  inside : (i k : ℕ) → i < rows → k < cols → HoldsPoint area (row +ℤ pos i) (col +ℤ pos k)
  inside i k li lk = (
    holds_from area.rows row rows i laid.top laid.height laid.near_rows li,
    holds_from area.cols col cols k laid.left laid.width laid.near_cols lk,
  )

  pub cases_ready : All (λ p. All IsTest p.tests) ps → All IsFormula (formulas_of (function ps o)) → AreBoxedAround area (function ps o)
      → ((r c : ℤ) → HoldsPoint area r c → BodyReads has (function ps o) r c) → HasFunctionRoom (len_of area.cols) room ps o
      → All (IsReadyOver has row col rows cols room) ps
  cases_ready tests formulas boxed reads is =
      let fits : HasFunctionRoom cols room ps o = subst (λ (n : ℕ). HasFunctionRoom n room ps o) (sym laid.width) is in
      let each : All (λ p. IsFormula p.formula) ps =
      All-from_map IsFormula (λ p. p.formula) ps (All-left IsFormula (map (λ p. p.formula) ps) (other_formula o) formulas) in
      λ n d l. (
        (λ i k li lk. case_ready has boxed.0 (slice_index_or ps n d) (row +ℤ pos i) (col +ℤ pos k) (boxed.2 n d l)
            (boxed.1 (row +ℤ pos i) (col +ℤ pos k) (inside i k li lk)) ((reads (row +ℤ pos i) (col +ℤ pos k) (inside i k li lk)).0 n d l)),
        record { formula = each n d l; tests = tests n d l; row = fits.row; operands = fits.operands n d l },
      )

  -- what holds elsewhere is there at each point, and there is room for it
  pub other_ready : All IsFormula (formulas_of (function ps o)) → ((r c : ℤ) → HoldsPoint area r c → BodyReads has (function ps o) r c)
      → HasFunctionRoom (len_of area.cols) room ps o
      → ForSome o
      (λ f. ((i k : ℕ) → i < rows → k < cols → EachRead has f (row +ℤ pos i) (col +ℤ pos k)) × IsFormula f × HasRoom f cols room)
  other_ready formulas reads is = λ f there.
      let fits : HasFunctionRoom cols room ps o = subst (λ (n : ℕ). HasFunctionRoom n room ps o) (sym laid.width) is in (
        (λ i k li lk. (reads (row +ℤ pos i) (col +ℤ pos k) (inside i k li lk)).1 f there),
        other_each IsFormula o (All-right IsFormula (map (λ p. p.formula) ps) (other_formula o) formulas) f there,
        fits.other f there,
      )

-- numbers that are right at each row and column are the values on it
pub raster_from : (area : Area) (f : ℤ → ℤ → ℤ) (row col : ℤ) (rows cols : ℕ) (xs : List ℤ) → IsLaid area row col rows cols
    → length xs ≡ point_count area
    → ((i : ℕ) → i < rows → EachPlace cols (λ k. at xs (i * cols + k) ≡ f (row +ℤ pos i) (col +ℤ pos k)))
    → xs ≡ raster area f
raster_from area f row col rows cols xs laid len right = raster_of area f xs len (λ i k li lk.
    let below : i < rows = rw laid.height li in
    let before : k < cols = rw laid.width lk in
    ap (λ (n : ℕ). at xs (i * n + k)) (sym laid.width)
    ∙ right i below k before
    ∙ ap (λ (r : ℤ). f (r +ℤ pos i) (col +ℤ pos k)) laid.top
    ∙ ap (λ (c : ℤ). f (area.rows.lo +ℤ pos i) (c +ℤ pos k)) laid.left)
