-- A tile has its rows in common with one, and its columns with another: what its box has in common with theirs.
use Rattle.std.proofs.Common.{ℕ, ◌≤ℤ◌, ◌≡◌, nat_eq, Bool, true, false, Option, Some, None, List, [], ◌∷◌, ◌++◌, map}
use Rattle.std.proofs.Common.{filter, refl, sym, ap, subst, ◌∙◌, cond}
use Rattle.std.specs.Prelude.{All, slice_get, is_some}
use Rattle.std.specs.List.{flat_map, fold, list_all}
use Rattle.std.specs.Option.{option_map}
use Rattle.std.proofs.lemmas.Bool.{and_parts, and_from}
use Rattle.std.proofs.lemmas.List.{map-append}
use Rattle.std.proofs.lemmas.List.Elements.{All-head, All-tail}
use Rattle.domains.specs.Span.{Ends, meet_of}
use Rattle.domains.specs.Index.{image_of}
use Rattle.domains.specs.Area.{common_of, area_hull}
use Rattle.domains.specs.declared.area.Area.{Area}
use Rattle.job.specs.Formula.{Formula}
use Rattle.job.specs.Pipeline.{JobCase, Body, plane, function, accumulator, Stage, Pipeline}
use Rattle.job.specs.Reads.{Read, point, window, stage_read, reads_in}
use Rattle.job.specs.WellFormed.{IsJob}
use Rattle.tile_boxes.specs.Demands.{Demand, image_under, widen_span, grown_by, hull_of_all, read_demand, formula_demands, demands_if}
use Rattle.tile_boxes.specs.Demands.{meet_of_areas, meet_of_box, case_demands, other_demands, body_demands, areas_of}
use Rattle.tile_boxes.specs.Targets.{Target, stage_demands, demands_by, cut_to, box, region}
use Rattle.grouping.specs.Greedy.{readers}
use Rattle.grouping.specs.inside.Between.{meets_case_box, meets_all_case_boxes, IsWhole, IsBetween}
use Rattle.tile_boxes.proofs.AreasMeet.{if_some-is, if_some-there}
use Rattle.grouping.proofs.ReadersMakeBoxes.{box_of_readers}

-- ---- one side of areas

-- the rows of areas, or the columns: images, meets and hulls have the same where what they are made of has
record IsSide (side : Area → Ends) : Type 0 where
  image : (x : Read) (a b : Area) → side a ≡ side b → side (image_under x a) ≡ side (image_under x b)
  meet : (c a b : Area) → side a ≡ side b → side (common_of c a) ≡ side (common_of c b)
  hull : (a b c d : Area) → side a ≡ side b → side c ≡ side d → side (area_hull a c) ≡ side (area_hull b d)

row_image : (x : Read) (a b : Area) → a.rows ≡ b.rows → (image_under x a).rows ≡ (image_under x b).rows
row_image (point g i j) a b e = ap (image_of i) e
row_image (window g kernel) a b e = ap (widen_span _) e

col_image : (x : Read) (a b : Area) → a.cols ≡ b.cols → (image_under x a).cols ≡ (image_under x b).cols
col_image (point g i j) a b e = ap (image_of j) e
col_image (window g kernel) a b e = ap (widen_span _) e

rows_side : IsSide (λ a. a.rows)
rows_side = record {
  image = row_image;
  meet = λ c a b e. ap (meet_of c.rows) e;
  hull = λ a b c d e f i. (area_hull (record { rows = e i; cols = a.cols }) (record { rows = f i; cols = c.cols })).rows;
}

cols_side : IsSide (λ a. a.cols)
cols_side = record {
  image = col_image;
  meet = λ c a b e. ap (meet_of c.cols) e;
  hull = λ a b c d e f i. (area_hull (record { rows = a.rows; cols = e i }) (record { rows = c.rows; cols = f i })).cols;
}

-- ---- meeting

meets_is : (b a : Area) → is_some (meet_of_areas b a) ≡ true → meet_of_areas b a ≡ Some (common_of b a)
meets_is b a meets = by (meet_of_areas b a) refl meets
  where
    by : (o : Option Area) → meet_of_areas b a ≡ o → is_some o ≡ true → meet_of_areas b a ≡ Some (common_of b a)
    by None e k = absurd (cc)
    by (Some m) e k = e ∙ ap Some (sym (if_some-is (common_of b a) m e).0)

-- what meets a box by its rows and by its columns meets it
meets_between : (a l u : Area) (o : Option Area) → a.rows ≡ l.rows → a.cols ≡ u.cols → meets_case_box l o ≡ true → meets_case_box u o ≡ true
    → meets_case_box a o ≡ true
meets_between a l u None rows cols left top = refl
meets_between a l u (Some b) rows cols left top =
    let one = (if_some-is (common_of b l) (common_of b l) (meets_is b l left)).1 in
    let other = (if_some-is (common_of b u) (common_of b u) (meets_is b u top)).2 in
    let down : (meet_of b.rows a.rows).lo ≤ℤ (meet_of b.rows a.rows).hi =
    subst (λ (s : Ends). (meet_of b.rows s).lo ≤ℤ (meet_of b.rows s).hi) (sym rows) one in
    let right : (meet_of b.cols a.cols).lo ≤ℤ (meet_of b.cols a.cols).hi =
    subst (λ (s : Ends). (meet_of b.cols s).lo ≤ℤ (meet_of b.cols s).hi) (sym cols) other in
    ap is_some (if_some-there (common_of b a) down right)

all_meet_between : (a l u : Area) (cases : List JobCase) → a.rows ≡ l.rows → a.cols ≡ u.cols
    → list_all (λ (p : JobCase). meets_case_box l p.box) cases ≡ true → list_all (λ (p : JobCase). meets_case_box u p.box) cases ≡ true
    → list_all (λ (p : JobCase). meets_case_box a p.box) cases ≡ true
all_meet_between a l u [] rows cols left top = refl
all_meet_between a l u (p ∷ ps) rows cols left top =
    let one = and_parts (meets_case_box l p.box) (list_all (λ (p : JobCase). meets_case_box l p.box) ps) left in
    let other = and_parts (meets_case_box u p.box) (list_all (λ (p : JobCase). meets_case_box u p.box) ps) top in
    and_from (meets_case_box a p.box) (list_all (λ (p : JobCase). meets_case_box a p.box) ps)
    (meets_between a l u p.box rows cols one.0 other.0) (all_meet_between a l u ps rows cols one.1 other.1)

body_meets_between : (a l u : Area) (b : Body) → a.rows ≡ l.rows → a.cols ≡ u.cols → meets_all_case_boxes b l ≡ true → meets_all_case_boxes b u ≡ true
    → meets_all_case_boxes b a ≡ true
body_meets_between a l u (plane n) rows cols left top = refl
body_meets_between a l u (function cases otherwise) rows cols left top = all_meet_between a l u cases rows cols left top
body_meets_between a l u (accumulator kind bins value bin) rows cols left top = refl

-- ---- what is demanded

module _ {side : Area → Ends} (is : IsSide side) where
  -- the stage of a demand and one side of its area
  abbrev tag : Demand → ℕ × Ends
  tag d = (d.stage, side d.area)

  abbrev Same : List Demand → List Demand → Type 0
  Same xs ys = map tag xs ≡ map tag ys

  join : (xs xs' ys ys' : List Demand) → Same xs ys → Same xs' ys' → Same (xs ++ xs') (ys ++ ys')
  join xs xs' ys ys' e e' = map-append tag xs xs' ∙ (λ i. e i ++ e' i) ∙ sym (map-append tag ys ys')

  reads_same : (xs : List Read) (a b : Area) → side a ≡ side b → Same (map (read_demand a) xs) (map (read_demand b) xs)
  reads_same [] a b e = refl
  reads_same (x ∷ xs) a b e = λ i. (stage_read x, is.image x a b e i) ∷ reads_same xs a b e i

  case_same : (a b : Area) (p : JobCase) → side a ≡ side b → meets_case_box a p.box ≡ true → meets_case_box b p.box ≡ true
      → Same (case_demands a p) (case_demands b p)
  case_same a b p e one other = by p.box one other
    where
      by : (o : Option Area) → meets_case_box a o ≡ true → meets_case_box b o ≡ true
          → Same (demands_if p.formula (meet_of_box o a)) (demands_if p.formula (meet_of_box o b))
      by None k l = refl
      by (Some c) k l =
          ap (λ o. map tag (demands_if p.formula o)) (meets_is c a k)
          ∙ reads_same (reads_in p.formula) (common_of c a) (common_of c b) (is.meet c a b e)
          ∙ sym (ap (λ o. map tag (demands_if p.formula o)) (meets_is c b l))

  cases_same : (a b : Area) (cases : List JobCase) → side a ≡ side b
      → list_all (λ (p : JobCase). meets_case_box a p.box) cases ≡ true → list_all (λ (p : JobCase). meets_case_box b p.box) cases ≡ true
      → Same (flat_map (case_demands a) cases) (flat_map (case_demands b) cases)
  cases_same a b [] e one other = refl
  cases_same a b (p ∷ ps) e one other =
      let first = and_parts (meets_case_box a p.box) (list_all (λ (p : JobCase). meets_case_box a p.box) ps) one in
      let second = and_parts (meets_case_box b p.box) (list_all (λ (p : JobCase). meets_case_box b p.box) ps) other in
      join (case_demands a p) (flat_map (case_demands a) ps) (case_demands b p) (flat_map (case_demands b) ps)
      (case_same a b p e first.0 second.0) (cases_same a b ps e first.1 second.1)

  other_same : (a b : Area) (o : Option Formula) → side a ≡ side b → Same (other_demands o a) (other_demands o b)
  other_same a b None e = refl
  other_same a b (Some f) e = reads_same (reads_in f) a b e

  body_same : (a b : Area) (body : Body) → side a ≡ side b → meets_all_case_boxes body a ≡ true → meets_all_case_boxes body b ≡ true
      → Same (body_demands body a) (body_demands body b)
  body_same a b (plane n) e one other = refl
  body_same a b (function cases otherwise) e one other =
      join (flat_map (case_demands a) cases) (other_demands otherwise a) (flat_map (case_demands b) cases) (other_demands otherwise b)
      (cases_same a b cases e one other) (other_same a b otherwise e)
  body_same a b (accumulator kind bins value bin) e one other =
      join (formula_demands value a) (formula_demands bin a) (formula_demands value b) (formula_demands bin b)
      (reads_same (reads_in value) a b e) (reads_same (reads_in bin) a b e)

  -- ---- hulls

  areas_same : (g : ℕ) (xs : List Demand)
      → map side (areas_of g xs) ≡ map (λ (t : ℕ × Ends). t.1) (filter (λ t. nat_eq t.0 g) (map tag xs))
  areas_same g [] = refl
  areas_same g (d ∷ ds) = by (nat_eq d.stage g) (areas_same g ds)
    where
      by : (b : Bool) → map side (areas_of g ds) ≡ map (λ (t : ℕ × Ends). t.1) (filter (λ t. nat_eq t.0 g) (map tag ds))
          → map side (map (λ d. d.area) (cond b (d ∷ filter (λ d. nat_eq d.stage g) ds) (filter (λ d. nat_eq d.stage g) ds)))
          ≡ map (λ (t : ℕ × Ends). t.1) (cond b (tag d ∷ filter (λ t. nat_eq t.0 g) (map tag ds)) (filter (λ t. nat_eq t.0 g) (map tag ds)))
      by true e = ap (λ xs. side d.area ∷ xs) e
      by false e = e

  hull_same : (xs ys : List Area) (h k : Option Area) → option_map side h ≡ option_map side k → map side xs ≡ map side ys
      → option_map side (fold grown_by h xs) ≡ option_map side (fold grown_by k ys)
  hull_same [] [] h k e same = e
  hull_same [] (y ∷ ys) h k e same = absurd (cc)
  hull_same (x ∷ xs) [] h k e same = absurd (cc)
  hull_same (x ∷ xs) (y ∷ ys) h k e same =
      let first : side x ≡ side y = cc in
      let rest : map side xs ≡ map side ys = cc in
      hull_same xs ys (grown_by h x) (grown_by k y) (by h k e first) rest
    where
      by : (h k : Option Area) → option_map side h ≡ option_map side k → side x ≡ side y
          → option_map side (grown_by h x) ≡ option_map side (grown_by k y)
      by None None e f = ap Some f
      by None (Some b) e f = absurd (cc)
      by (Some a) None e f = absurd (cc)
      by (Some a) (Some b) e f = ap Some (is.hull a b x y (let s : side a ≡ side b = cc in s) f)

  hull_of_demands : (g : ℕ) (xs ys : List Demand) → Same xs ys
      → option_map side (hull_of_all (areas_of g xs)) ≡ option_map side (hull_of_all (areas_of g ys))
  hull_of_demands g xs ys e =
      hull_same (areas_of g xs) (areas_of g ys) None None refl
      (areas_same g xs ∙ ap (λ ts. map (λ (t : ℕ × Ends). t.1) (filter (λ t. nat_eq t.0 g) ts)) e ∙ sym (areas_same g ys))

-- ---- cut to the domain

cut_between : (s : Option Stage) (o l u : Option Area) (a b : Area) → option_map (λ a. a.rows) o ≡ option_map (λ a. a.rows) l
    → option_map (λ a. a.cols) o ≡ option_map (λ a. a.cols) u → cut_to s l ≡ Some a → cut_to s u ≡ Some b
    → cut_to s o ≡ Some (record { rows = a.rows; cols = b.cols })
cut_between None o l u a b rows cols left top = absurd (cc)
cut_between (Some s) o None u a b rows cols left top = absurd (cc)
cut_between (Some s) o (Some l) None a b rows cols left top = absurd (cc)
cut_between (Some s) None (Some l) (Some u) a b rows cols left top = absurd (cc)
cut_between (Some s) (Some o) (Some l) (Some u) a b rows cols left top =
    let down : o.rows ≡ l.rows = cc in
    let right : o.cols ≡ u.cols = cc in
    let one = if_some-is (common_of l s.domain) a left in
    let other = if_some-is (common_of u s.domain) b top in
    let is_rows : (common_of o s.domain).rows ≡ a.rows = ap (λ (e : Ends). meet_of e s.domain.rows) down ∙ ap (λ (a : Area). a.rows) one.0 in
    let is_cols : (common_of o s.domain).cols ≡ b.cols = ap (λ (e : Ends). meet_of e s.domain.cols) right ∙ ap (λ (a : Area). a.cols) other.0 in
    let height = subst (λ (x : Area). x.rows.lo ≤ℤ x.rows.hi) one.0 one.1 in
    let width = subst (λ (x : Area). x.cols.lo ≤ℤ x.cols.hi) other.0 other.2 in
    if_some-there (common_of o s.domain) (subst (λ (e : Ends). e.lo ≤ℤ e.hi) (sym is_rows) height)
    (subst (λ (e : Ends). e.lo ≤ℤ e.hi) (sym is_cols) width) ∙ (λ i. Some (record { rows = is_rows i; cols = is_cols i }))

-- ---- readers

-- a reader is whole in both tiles, and its region lies between
pub record IsSpared (t l u : Target) (r : ℕ) : Type 0 where
  pub left : IsWhole (slice_get t.job.stages r) (region l r)
  pub top : IsWhole (slice_get t.job.stages r) (region u r)
  pub between : IsBetween (region t r) (region l r) (region u r)

-- what the reader demands then has the same rows as in the one, and the same columns as in the other
stage_same : (s : Option Stage) (o l u : Option Area) → IsWhole s l → IsWhole s u → IsBetween o l u
    → Same rows_side (stage_demands s o) (stage_demands s l) × Same cols_side (stage_demands s o) (stage_demands s u)
stage_same None o l u left top between = absurd left
stage_same (Some s) o None u left top between = absurd left
stage_same (Some s) o (Some l) None left top between = absurd top
stage_same (Some s) None (Some l) (Some u) left top between = absurd between
stage_same (Some s) (Some a) (Some l) (Some u) left top between =
    let whole = body_meets_between a l u s.body between.0 between.1 left top in
    (body_same rows_side a l s.body between.0 whole left, body_same cols_side a u s.body between.1 whole top)

demands_same : (t l u : Target) (rs : List ℕ) → l.job ≡ t.job → u.job ≡ t.job → All (IsSpared t l u) rs
    → Same rows_side (flat_map (demands_by t (box t)) rs) (flat_map (demands_by l (box l)) rs)
    × Same cols_side (flat_map (demands_by t (box t)) rs) (flat_map (demands_by u (box u)) rs)
demands_same t l u [] one other all = (refl, refl)
demands_same t l u (r ∷ rs) one other all =
    let first = All-head (IsSpared t l u) r rs all in
    let here = stage_same (slice_get t.job.stages r) (region t r) (region l r) (region u r) first.left first.top first.between in
    let rest = demands_same t l u rs one other (All-tail (IsSpared t l u) r rs all) in
    let d = demands_by t (box t) in let dl = demands_by l (box l) in let du = demands_by u (box u) in
    let left : Same rows_side (d r) (dl r) = here.0 ∙ ap (λ (j : Pipeline). map (tag rows_side) (stage_demands (slice_get j.stages r) (region l r))) (sym one) in
    let top : Same cols_side (d r) (du r) = here.1 ∙ ap (λ (j : Pipeline). map (tag cols_side) (stage_demands (slice_get j.stages r) (region u r))) (sym other) in
    (join rows_side (d r) (flat_map d rs) (dl r) (flat_map dl rs) left rest.0, join cols_side (d r) (flat_map d rs) (du r) (flat_map du rs) top rest.1)

-- so has its box
pub derive_inner_box : (t l u : Target) (g : ℕ) (a b : Area) → IsJob t.job → l.job ≡ t.job → u.job ≡ t.job
    → All (IsSpared t l u) (readers t.job g) → box l g ≡ Some a → box u g ≡ Some b
    → box t g ≡ Some (record { rows = a.rows; cols = b.cols })
derive_inner_box t l u g a b job one other all left top =
    let rs = readers t.job g in
    let same = demands_same t l u rs one other all in
    let hull : Target → Option Area = λ x. hull_of_all (areas_of g (flat_map (demands_by x (box x)) rs)) in
    let cut : Option Area → Option Area = cut_to (slice_get t.job.stages g) in
    let left_is : cut (hull l) ≡ Some a = sym (subst (λ (j : Pipeline). IsJob j → box l g ≡ cut_to (slice_get j.stages g) (hull_of_all (areas_of g (flat_map (demands_by l (box l)) (readers j g))))) one (box_of_readers l g) job) ∙ left in
    let top_is : cut (hull u) ≡ Some b = sym (subst (λ (j : Pipeline). IsJob j → box u g ≡ cut_to (slice_get j.stages g) (hull_of_all (areas_of g (flat_map (demands_by u (box u)) (readers j g))))) other (box_of_readers u g) job) ∙ top in
    box_of_readers t g job
    ∙ cut_between (slice_get t.job.stages g) (hull t) (hull l) (hull u) a b
    (hull_of_demands rows_side g (flat_map (demands_by t (box t)) rs) (flat_map (demands_by l (box l)) rs) same.0)
    (hull_of_demands cols_side g (flat_map (demands_by t (box t)) rs) (flat_map (demands_by u (box u)) rs) same.1) left_is top_is
