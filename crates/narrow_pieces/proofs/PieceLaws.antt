-- Pieces of formulas, at each point where these are narrow.
use Rattle.std.proofs.Common.{arith, ℕ, ℤ, ◌≡◌, ◌<◌, pos, ◌+ℤ◌, nat_eq, true, true≢false, ◌&&◌, Option, Some, None, List, [], ◌∷◌, ◌++◌, length, map, refl, sym, ap, subst, ◌∙◌}
use Rattle.std.specs.List.{Contains}
use Rattle.std.specs.Ordering.{int_eq}
use Rattle.std.proofs.lemmas.Bool.{eqb-true, eq-eqb, and_parts, and_from}
use Rattle.std.proofs.lemmas.Bool.Decides.{Decides-int_eq}
use Rattle.std.proofs.lemmas.Int.{ints}
use Rattle.std.proofs.lemmas.List.Elements.{All-contains, Contains-append_left, Contains-append_right, Contains-push}
use Rattle.std.proofs.lemmas.List.Folds.{Any-from_list_any, list_any-from_Any}
use Rattle.domains.specs.Index.{Scale}
use Rattle.operators.specs.declared.operator.BinaryOp.{BinaryOp}
use Rattle.operators.specs.Values.{binary_value}
use Rattle.job.specs.declared.stage.JobCase.{JobCase as KeptCase}
use Rattle.job.specs.Formula.{Formula, read, binary}
use Rattle.job.specs.Pipeline.{JobCase, function}
use Rattle.job.specs.Reads.{Read, point, window, reads_in, EachTaken, EachRead, BodyReads}
use Rattle.job.specs.Values.{Valuation, formula_value}
use Rattle.job.specs.Views.{case_view}
use Rattle.row_loops.specs.Rows.{EachPlace}
use Rattle.tile_eval.specs.Cases.{function_value}
use Rattle.value_ranges.proofs.Composing.{same_index}
use Rattle.value_ranges.specs.Narrow.{Fits16, IsNarrow, IsNarrowFunction}
use Rattle.narrow_kernels.specs.declared.narrow_affine_map.NarrowAffineMap.{NarrowAffineMap}
use Rattle.narrow_kernels.specs.declared.narrow_affine_extremes.NarrowExtreme.{NarrowExtreme}
use Rattle.narrow_kernels.specs.NarrowAffine.{affine_value, FitsAffine}
use Rattle.narrow_kernels.specs.NarrowAffineExtremes.{extreme_value}
use Rattle.narrow_sums.proofs.NarrowFormulas.{narrow_along}
use Rattle.narrow_sums.proofs.NarrowFormulas.{narrow_fits}
use Rattle.narrow_pieces.specs.declared.piece.NarrowPiece.{NarrowPiece}
use Rattle.narrow_pieces.specs.declared.piece.NarrowPieces.{NarrowPieces}
use Rattle.narrow_pieces.specs.declared.piece.NarrowPieces.TheVariants.{Two, Three}
use Rattle.narrow_pieces.specs.declared.steps.NarrowPieceStep.{NarrowPieceStep}
use Rattle.narrow_pieces.specs.Pieces.{piece_read, is_same_index, is_piece_read, has_piece_read, piece_value, pieces_value}
use Rattle.narrow_pieces.specs.Pieces.{FitsPiece, IsShiftingPiece, EachPiece, ArePiecesOf, AreFunctionPieces}
use Rattle.narrow_pieces.specs.inside.Ready.{IsReadyPiece}
use Rattle.narrow_pieces.specs.inside.Steps.{step_value, IsStepOf, IsMapped, IsPieceOf}

-- the value of a narrow formula fits
narrow_value : (env : Valuation) (r c : ℤ) (f : Formula) → IsNarrow env f r c → Fits16 (formula_value env f r c)
narrow_value env r c f h =
    let here : (k : ℕ) → k < 1 → c +ℤ pos k ≡ c = λ k l. omega (arith, ints, l) in
    let along = narrow_along env r c 1 f (λ k l. subst (λ (z : ℤ). IsNarrow env f r z) (sym (here k l)) h) in
    subst (λ (z : ℤ). Fits16 (formula_value env f r z)) (here 0 (omega arith)) (narrow_fits env r c 1 f along 0 (omega arith))

-- ---- operators with numbers are steps

pub right_step : (f : Formula) (op : BinaryOp) (a b : Formula) → f ≡ binary op a b → (step : NarrowPieceStep) (m : ℤ)
    → ((e : Valuation) (x y : ℤ) → formula_value e b x y ≡ m) → ((x : ℤ) → Fits16 x → step_value step x ≡ binary_value op x m) → IsStepOf step a f
right_step f op a b is step m constant same = subst (λ (z : Formula). IsStepOf step a z) (sym is) (record {
  reads = λ x h. Contains-append_left (reads_in a) (reads_in b) x h;
  narrow = λ env r c h. h.0;
  value = λ env r c h.
      same (formula_value env a r c) (narrow_value env r c a h.0) ∙ ap (binary_value op (formula_value env a r c)) (sym (constant env r c));
})

pub left_step : (f : Formula) (op : BinaryOp) (a b : Formula) → f ≡ binary op a b → (step : NarrowPieceStep) (m : ℤ)
    → ((e : Valuation) (x y : ℤ) → formula_value e a x y ≡ m) → ((x : ℤ) → Fits16 x → step_value step x ≡ binary_value op m x) → IsStepOf step b f
left_step f op a b is step m constant same = subst (λ (z : Formula). IsStepOf step b z) (sym is) (record {
  reads = λ x h. Contains-append_right (reads_in a) (reads_in b) x h;
  narrow = λ env r c h. h.1;
  value = λ env r c h.
      same (formula_value env b r c) (narrow_value env r c b h.1)
      ∙ ap (λ (z : ℤ). binary_value op z (formula_value env b r c)) (sym (constant env r c));
})

-- ---- maps

-- a map that has a step in it gives what the map gives of the step's results
pub peeled : (old new : NarrowAffineMap) (step : NarrowPieceStep) (h g f : Formula) → IsStepOf step h g
    → ((x : ℤ) → affine_value new.factor new.addend new.bits new.offset x ≡ affine_value old.factor old.addend old.bits old.offset (step_value step x))
    → ((x : ℤ) → Fits16 x → FitsAffine old.factor old.addend old.bits old.offset (step_value step x)
    → FitsAffine new.factor new.addend new.bits new.offset x) → IsMapped old g f → IsMapped new h f
peeled old new step h g f steps same fits mapped = record {
  reads = λ x there. mapped.reads x (steps.reads x there);
  narrow = λ env r c n. steps.narrow env r c (mapped.narrow env r c n);
  fits = λ env r c n.
      let inner = mapped.narrow env r c n in
      fits (formula_value env h r c) (narrow_value env r c h (steps.narrow env r c inner))
      (subst (λ (z : ℤ). FitsAffine old.factor old.addend old.bits old.offset z) (sym (steps.value env r c inner)) (mapped.fits env r c n));
  value = λ env r c n.
      same (formula_value env h r c)
      ∙ ap (affine_value old.factor old.addend old.bits old.offset) (steps.value env r c (mapped.narrow env r c n))
      ∙ mapped.value env r c n;
}

-- the map that leaves numbers as they are
pub unpeeled : (m : NarrowAffineMap) (f : Formula) → ((x : ℤ) → affine_value m.factor m.addend m.bits m.offset x ≡ x)
    → ((x : ℤ) → Fits16 x → FitsAffine m.factor m.addend m.bits m.offset x) → IsMapped m f f
unpeeled m f same fits = record {
  reads = λ x h. h;
  narrow = λ env r c h. h;
  fits = λ env r c h. fits (formula_value env f r c) (narrow_value env r c f h);
  value = λ env r c h. same (formula_value env f r c);
}

-- a map of a read is a piece
pub read_piece : (p : NarrowPiece) (g f : Formula) → g ≡ read p.stage p.row.now p.col.now → IsShiftingPiece p → IsMapped p.map g f → IsPieceOf p f
read_piece p g f is adds mapped =
    let own : IsMapped p.map (read p.stage p.row.now p.col.now) f = subst (λ (z : Formula). IsMapped p.map z f) is mapped in
    record {
      adds = adds;
      reads = own.reads (piece_read p) (Contains-push [] (piece_read p));
      fits = own.fits;
      value = own.value;
    }

-- ---- the reads of pieces

same_index-itself : (i : Scale) → is_same_index i i ≡ true
same_index-itself i =
    and_from (int_eq i.mul i.mul) (int_eq i.add i.add && int_eq i.div i.div) ((Decides-int_eq i.mul i.mul).1 refl)
    (and_from (int_eq i.add i.add) (int_eq i.div i.div) ((Decides-int_eq i.add i.add).1 refl) ((Decides-int_eq i.div i.div).1 refl))

piece_read-itself : (p : NarrowPiece) → is_piece_read p (piece_read p) ≡ true
piece_read-itself p =
    and_from (nat_eq p.stage p.stage) (is_same_index p.row.now p.row.now && is_same_index p.col.now p.col.now) (eq-eqb p.stage p.stage refl)
    (and_from (is_same_index p.row.now p.row.now) (is_same_index p.col.now p.col.now) (same_index-itself p.row.now) (same_index-itself p.col.now))

-- the test finds no other read
same_read : (p : NarrowPiece) (x : Read) → is_piece_read p x ≡ true → x ≡ piece_read p
same_read p (point g i j) e =
    let both = and_parts (nat_eq g p.stage) (is_same_index i p.row.now && is_same_index j p.col.now) e in
    let indices = and_parts (is_same_index i p.row.now) (is_same_index j p.col.now) both.1 in
    let stage = eqb-true g p.stage both.0 in
    let row = same_index i p.row.now indices.0 in
    let col = same_index j p.col.now indices.1 in
    λ k. point (stage k) (row k) (col k)
same_read p (window g kernel) e = absurd (true≢false (sym e))

-- the test is whether the read is among those of the formula
found_read : (f : Formula) (p : NarrowPiece) → Contains (reads_in f) (piece_read p) → has_piece_read f p ≡ true
found_read f p h = list_any-from_Any (is_piece_read p) (reads_in f) (h.0, piece_read p, h.1, h.2, piece_read-itself p)

read_found : (f : Formula) (p : NarrowPiece) → has_piece_read f p ≡ true → Contains (reads_in f) (piece_read p)
read_found f p e =
    let some = Any-from_list_any (is_piece_read p) (reads_in f) e in
    subst (λ (x : Read). Contains (reads_in f) x) (same_read p some.1 some.4) (some.0, some.2, some.3)

-- ---- formulas of pieces

module _ (op : BinaryOp) (f g : Formula) (a b : NarrowPiece) (join : NarrowExtreme) (first : IsPieceOf a f) (second : IsPieceOf b g)
    (same : (x y : ℤ) → extreme_value join x y ≡ binary_value op x y) where
  pub two_pieces : ArePiecesOf (Two a join b) (binary op f g)
  two_pieces = record {
    adds = (first.adds, second.adds);
    reads = (
      found_read (binary op f g) a (Contains-append_left (reads_in f) (reads_in g) _ first.reads),
      found_read (binary op f g) b (Contains-append_right (reads_in f) (reads_in g) _ second.reads),
    );
    fits = λ env r c h. (first.fits env r c h.0, second.fits env r c h.1);
    value = λ env r c h.
        same (piece_value env a r c) (piece_value env b r c)
        ∙ ap (λ (z : ℤ). binary_value op z (piece_value env b r c)) (first.value env r c h.0)
        ∙ ap (binary_value op (formula_value env f r c)) (second.value env r c h.1);
  }

  pub three_pieces : (last_op : BinaryOp) (h : Formula) (d : NarrowPiece) (outer : NarrowExtreme) → IsPieceOf d h
      → ((x y : ℤ) → extreme_value outer x y ≡ binary_value last_op x y) → ArePiecesOf (Three a join b outer d) (binary last_op (binary op f g) h)
  three_pieces last_op h d outer third last_same =
      let front = two_pieces in
      let whole = binary last_op (binary op f g) h in
      let behind = λ (x : Read). Contains-append_left (reads_in f ++ reads_in g) (reads_in h) x in
      record {
        adds = (first.adds, second.adds, third.adds);
        reads = (
          found_read whole a (behind _ (Contains-append_left (reads_in f) (reads_in g) _ first.reads)),
          found_read whole b (behind _ (Contains-append_right (reads_in f) (reads_in g) _ second.reads)),
          found_read whole d (Contains-append_right (reads_in f ++ reads_in g) (reads_in h) _ third.reads),
        );
        fits = λ env r c n. (first.fits env r c n.0.0, second.fits env r c n.0.1, third.fits env r c n.1);
        value = λ env r c n.
            last_same (pieces_value env (Two a join b) r c) (piece_value env d r c)
            ∙ ap (λ (z : ℤ). binary_value last_op z (piece_value env d r c)) (front.value env r c n.0)
            ∙ ap (binary_value last_op (formula_value env (binary op f g) r c)) (third.value env r c n.1);
      }

-- ---- functions along rows

-- a list that is shorter than 1
pub no_cases : (ps : List KeptCase) → length ps < 1 → map case_view ps ≡ []
no_cases [] short = refl
no_cases (p ∷ ps) short = absurd (omega arith)

-- the parts of what is said of a function
pub function_of : (pieces : NarrowPieces) (ps : List JobCase) (o : Option Formula) (f : Formula) → ps ≡ [] → o ≡ Some f → ArePiecesOf pieces f
    → AreFunctionPieces pieces ps o
function_of pieces ps o f none some are =
    subst (λ (qs : List JobCase). AreFunctionPieces pieces qs o) (sym none)
    (subst (λ (u : Option Formula). AreFunctionPieces pieces [] u) (sym some) are)

module _ (has : ℕ → ℤ → ℤ → Type 0) (env : Valuation) (r c : ℤ) (n : ℕ) where
  ready_piece : (f : Formula) → EachPlace n (λ k. EachRead has f r (c +ℤ pos k)) → (p : NarrowPiece) → IsShiftingPiece p
      → has_piece_read f p ≡ true → EachPlace n (λ k. FitsPiece env p r (c +ℤ pos k)) → IsReadyPiece has env r c n p
  ready_piece f available p adds reads fits = record {
    adds = adds;
    reads = λ k l. All-contains (λ x. EachTaken has x r (c +ℤ pos k)) (reads_in f) (piece_read p) (available k l) (read_found f p reads);
    fits = fits;
  }

  each_ready : (f : Formula) → EachPlace n (λ k. EachRead has f r (c +ℤ pos k)) → (pieces : NarrowPieces) → EachPiece IsShiftingPiece pieces
      → EachPiece (λ p. has_piece_read f p ≡ true) pieces → EachPlace n (λ k. EachPiece (λ p. FitsPiece env p r (c +ℤ pos k)) pieces)
      → EachPiece (IsReadyPiece has env r c n) pieces
  each_ready f available (Two a join b) adds reads fits = (
    ready_piece f available a adds.0 reads.0 (λ k l. (fits k l).0),
    ready_piece f available b adds.1 reads.1 (λ k l. (fits k l).1),
  )
  each_ready f available (Three a join b outer d) adds reads fits = (
    ready_piece f available a adds.0 reads.0 (λ k l. (fits k l).0),
    ready_piece f available b adds.1 reads.1 (λ k l. (fits k l).1),
    ready_piece f available d adds.2 reads.2 (λ k l. (fits k l).2),
  )

  -- their pieces are ready
  pub function_ready : (pieces : NarrowPieces) (ps : List JobCase) (o : Option Formula) → AreFunctionPieces pieces ps o
      → EachPlace n (λ k. IsNarrowFunction env ps o r (c +ℤ pos k)) → EachPlace n (λ k. BodyReads has (function ps o) r (c +ℤ pos k))
      → EachPiece (IsReadyPiece has env r c n) pieces
  function_ready pieces [] (Some f) are narrow available =
      each_ready f (λ k l. (available k l).1 f refl) pieces are.adds are.reads
      (λ k l. are.fits env r (c +ℤ pos k) ((narrow k l).other f refl))
  function_ready pieces [] None are narrow available = absurd are
  function_ready pieces (p ∷ ps) o are narrow available = absurd are

  -- and have the values of the function
  pub function_pieces : (pieces : NarrowPieces) (ps : List JobCase) (o : Option Formula) → AreFunctionPieces pieces ps o
      → EachPlace n (λ k. IsNarrowFunction env ps o r (c +ℤ pos k))
      → EachPlace n (λ k. pieces_value env pieces r (c +ℤ pos k) ≡ function_value env ps o r (c +ℤ pos k))
  function_pieces pieces [] (Some f) are narrow = λ k l. are.value env r (c +ℤ pos k) ((narrow k l).other f refl)
  function_pieces pieces [] None are narrow = absurd are
  function_pieces pieces (p ∷ ps) o are narrow = absurd are
