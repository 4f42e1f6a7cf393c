-- All that a stage in a target reads at a point of its region lies in the box of what it reads.
use Rattle.std.proofs.Common.{ℕ, ◌+◌, ◌<◌, ◌≤◌, ◌≡◌, arith, ℤ, nat_eq, Bool, true, false, Option, Some, None, List, [], ◌∷◌}
use Rattle.std.proofs.Common.{length, map, reverse, refl, sym, ap, ◌∙◌, subst}
use Rattle.std.specs.Prelude.{All, Contains, slice_get, if◌then◌else◌}
use Rattle.std.specs.List.{flat_map, range_with_len}
use Rattle.std.specs.Option.{ForSome}
use Rattle.std.proofs.lemmas.Bool.{eq-eqb}
use Rattle.std.proofs.lemmas.Bool.Decides.{nat_tests}
use Rattle.std.proofs.lemmas.List.{reverse-reverse}
use Rattle.std.proofs.lemmas.List.Elements.{All-nil, All-cons, All-head, All-tail, All-contains, All-contains_itself, All-weaker}
use Rattle.std.proofs.lemmas.Option.{slice_get_within}
use Rattle.domains.specs.Area.{HoldsPoint, common_of}
use Rattle.domains.specs.declared.area.Area.{Area}
use Rattle.domains.proofs.Areas.{common_is}
use Rattle.domains.proofs.PairLists.{Contains-filter, Contains-range}
use Rattle.job.specs.Formula.{Formula}
use Rattle.job.specs.Pipeline.{JobCase, Body, plane, function, accumulator, Stage, rank_of}
use Rattle.job.specs.Reads.{Read, point, window, reads_in, EachTaken, EachRead, CaseReads, BodyReads, other_formula, formulas_of, IsRanked}
use Rattle.job.specs.WellFormed.{IsFormula, IsReadable, IsStage, IsJob}
use Rattle.job.proofs.Agreeing.{All-left, All-right}
use Rattle.job.proofs.Steps.{All-from_map, All-both}
use Rattle.job.proofs.Solving.{ranked_is}
use Rattle.tile_boxes.specs.Order.{greatest_rank, with_rank, order_stages_by_rank, backward}
use Rattle.tile_boxes.specs.Schedules.{is_inlined}
use Rattle.tile_boxes.specs.Demands.{Demand, meet_of_box, read_demand, hull_of_all, formula_demands, demands_if, case_demands}
use Rattle.tile_boxes.specs.Demands.{other_demands, body_demands, areas_of}
use Rattle.tile_boxes.specs.Targets.{Target, IsTarget, stage_demands, demands_by}
use Rattle.tile_boxes.specs.Targets.{all_demands_by, cut_to, box, region, IsInBox, HasWhatItReads}
use Rattle.tile_boxes.proofs.AreasMeet.{if_some-is}
use Rattle.tile_boxes.proofs.HullsAreLeast.{InHull, demand_in_hull, meet_holds}
use Rattle.tile_boxes.proofs.ImagesHold.{IsRead, reads_are, image_holds}
use Rattle.tile_boxes.proofs.BoxesFollowTheRule.{rank_below, box_follows}
use Rattle.tile_boxes.proofs.RanksNeverRise.{All-reverse}
use Rattle.tile_boxes.proofs.Lists.{Contains-flat_map}

-- ---- each stage stands in the order

below_more : (k m : ℕ) → k ≤ m → k < 0 + (m + 1)
below_more k m h = omega arith

below_start : (k n : ℕ) → k < n → k < 0 + n
below_start k n h = omega arith

not_below : (k : ℕ) → 0 ≤ k
not_below k = omega arith

pub ordered : (stages : List Stage) (g : ℕ) → g < length stages → Contains (order_stages_by_rank stages) g
ordered stages g there =
    Contains-flat_map (with_rank stages) (range_with_len 0 (greatest_rank stages + 1)) (rank_of stages g) g
    (Contains-range 0 (greatest_rank stages + 1) (rank_of stages g) (not_below (rank_of stages g))
    (below_more (rank_of stages g) (greatest_rank stages) (rank_below stages g)))
    (Contains-filter (λ h. nat_eq (rank_of stages h) (rank_of stages g)) (range_with_len 0 (length stages)) g
    (Contains-range 0 (length stages) g (not_below g) (below_start g (length stages) there))
    (eq-eqb (rank_of stages g) (rank_of stages g) refl))

pub Contains-reverse : (xs : List ℕ) (x : ℕ) → Contains xs x → Contains (reverse xs) x
Contains-reverse xs x h =
    All-contains (Contains (reverse xs)) xs x
    (subst (All (Contains (reverse xs))) (reverse-reverse xs)
    (All-reverse (Contains (reverse xs)) (reverse xs) (All-contains_itself (reverse xs)))) h

-- ---- what is demanded lies in boxes

-- a point of the demand at which its stage can be read lies in the box of the stage
abbrev pub IsCovered : Target → Demand → Type 0
IsCovered t d = (r c : ℤ) → HoldsPoint d.area r c → IsReadable t.job.stages d.stage r c → IsInBox t d.stage r c

cut_holds : (o : Option Stage) (s : Stage) (hull : Option Area) (r c : ℤ) → o ≡ Some s → InHull hull r c → HoldsPoint s.domain r c
    → InHull (cut_to o hull) r c
cut_holds None s hull r c is h inside = absurd (cc)
cut_holds (Some p) s None r c is h inside = absurd (let there = h.there in cc)
cut_holds (Some p) s (Some a) r c is h inside =
    let same : h.hull ≡ a = let there = h.there in cc in
    let domain : s ≡ p = cc in
    meet_holds a p.domain r c (subst (λ (x : Area). HoldsPoint x r c) same h.holds)
    (subst (λ (x : Stage). HoldsPoint x.domain r c) domain inside)

covered : (t : Target) (d : Demand) → IsRanked t.job.stages → Contains (all_demands_by t (box t)) d → IsCovered t d
covered t d ranked there = λ r c holds readable.
    let cut = cut_holds (slice_get t.job.stages d.stage) readable.stage
    (hull_of_all (areas_of d.stage (all_demands_by t (box t)))) r c readable.there
    (demand_in_hull (all_demands_by t (box t)) d r c there holds) readable.within in
    record { area = cut.hull; there = box_follows t d.stage ranked ∙ cut.there; holds = cut.holds }

all_covered : (t : Target) (g : ℕ) → IsRanked t.job.stages → g < length t.job.stages → All (IsCovered t) (demands_by t (box t) g)
all_covered t g ranked there =
    All-weaker (Contains (demands_by t (box t) g)) (IsCovered t)
    (λ d inside. covered t d ranked (Contains-flat_map (demands_by t (box t)) (backward t.job.stages) g d
    (Contains-reverse (order_stages_by_rank t.job.stages) g (ordered t.job.stages g there)) inside))
    (demands_by t (box t) g) (All-contains_itself (demands_by t (box t) g))

-- ---- so does what is read

module _ (t : Target) (a : Area) (r c : ℤ) where
  abbrev pub Readable : ℕ → ℤ → ℤ → Type 0
  Readable = IsReadable t.job.stages

  read_lies : (b : Area) (x : Read) → HoldsPoint b r c → IsCovered t (read_demand b x) → IsRead x → EachTaken Readable x r c
      → EachTaken (IsInBox t) x r c
  read_lies b (point g i j) h cover is taken = let image = image_holds (point g i j) b r c is h in cover _ _ image taken
  read_lies b (window g kernel) h cover is taken =
      λ k l lk ll. let image = image_holds (window g kernel) b r c is h in cover _ _ (image k l lk ll) (taken k l lk ll)

  formula_lies : (b : Area) (f : Formula) → HoldsPoint b r c → All (IsCovered t) (formula_demands f b) → IsFormula f
      → EachRead Readable f r c → EachRead (IsInBox t) f r c
  formula_lies b f h cover is taken =
      All-both (λ x. IsCovered t (read_demand b x)) (λ x. IsRead x × EachTaken Readable x r c) (λ x. EachTaken (IsInBox t) x r c)
      (λ x over both. read_lies b x h over both.0 both.1) (reads_in f)
      (All-from_map (IsCovered t) (read_demand b) (reads_in f) cover)
      (All-both IsRead (λ x. EachTaken Readable x r c) (λ x. IsRead x × EachTaken Readable x r c) (λ x one two. (one, two)) (reads_in f)
      (reads_are f is) taken)

  case_lies : (p : JobCase) → HoldsPoint a r c → All (IsCovered t) (case_demands a p) → IsFormula p.formula → CaseReads Readable p r c
      → CaseReads (IsInBox t) p r c
  case_lies p h cover is taken = λ b there inside.
      let meet = meet_holds b a r c inside h in
      let region : meet_of_box p.box a ≡ Some meet.hull = ap (λ o. meet_of_box o a) there ∙ meet.there in
      formula_lies meet.hull p.formula meet.holds (subst (λ (o : Option Area). All (IsCovered t) (demands_if p.formula o)) region cover) is
      (taken b there inside)

  cases_lie : (ps : List JobCase) → HoldsPoint a r c → All (IsCovered t) (flat_map (case_demands a) ps)
      → All IsFormula (map (λ p. p.formula) ps) → All (λ p. CaseReads Readable p r c) ps → All (λ p. CaseReads (IsInBox t) p r c) ps
  cases_lie [] h cover is taken = All-nil (λ p. CaseReads (IsInBox t) p r c)
  cases_lie (p ∷ ps) h cover is taken =
      All-cons (λ p. CaseReads (IsInBox t) p r c) p ps
      (case_lies p h (All-left (IsCovered t) (case_demands a p) (flat_map (case_demands a) ps) cover)
      (All-head IsFormula p.formula (map (λ p. p.formula) ps) is) (All-head (λ p. CaseReads Readable p r c) p ps taken))
      (cases_lie ps h (All-right (IsCovered t) (case_demands a p) (flat_map (case_demands a) ps) cover)
      (All-tail IsFormula p.formula (map (λ p. p.formula) ps) is) (All-tail (λ p. CaseReads Readable p r c) p ps taken))

  other_lies : (o : Option Formula) → HoldsPoint a r c → All (IsCovered t) (other_demands o a) → All IsFormula (other_formula o)
      → ForSome o (λ f. EachRead Readable f r c) → ForSome o (λ f. EachRead (IsInBox t) f r c)
  other_lies None h cover is taken = λ f there. absurd (cc)
  other_lies (Some g) h cover is taken =
      λ f there. subst (λ (x : Formula). EachRead (IsInBox t) x r c) (let same : g ≡ f = cc in same)
      (formula_lies a g h cover (All-head IsFormula g [] is) (taken g refl))

  body_lies : (body : Body) → HoldsPoint a r c → All (IsCovered t) (body_demands body a) → All IsFormula (formulas_of body)
      → BodyReads Readable body r c → BodyReads (IsInBox t) body r c
  body_lies (plane n) h cover is taken = tt
  body_lies (function cases otherwise) h cover is taken = (
    cases_lie cases h (All-left (IsCovered t) (flat_map (case_demands a) cases) (other_demands otherwise a) cover)
        (All-left IsFormula (map (λ p. p.formula) cases) (other_formula otherwise) is) taken.0,
    other_lies otherwise h (All-right (IsCovered t) (flat_map (case_demands a) cases) (other_demands otherwise a) cover)
        (All-right IsFormula (map (λ p. p.formula) cases) (other_formula otherwise) is) taken.1,
  )
  body_lies (accumulator fold bins value bin) h cover is taken = (
    formula_lies a value h (All-left (IsCovered t) (formula_demands value a) (formula_demands bin a) cover)
        (All-head IsFormula value (bin ∷ []) is) taken.0,
    formula_lies a bin h (All-right (IsCovered t) (formula_demands value a) (formula_demands bin a) cover)
        (All-head IsFormula bin [] (All-tail IsFormula value (bin ∷ []) is)) taken.1,
  )

-- ---- regions lie in domains

pub cut_inside : (o : Option Stage) (s : Stage) (hull : Option Area) (a : Area) (r c : ℤ) → o ≡ Some s → cut_to o hull ≡ Some a
    → HoldsPoint a r c → HoldsPoint s.domain r c
cut_inside None s hull a r c is cut h = absurd (cc)
cut_inside (Some p) s None a r c is cut h = absurd (cc)
cut_inside (Some p) s (Some b) a r c is cut h =
    let meet = if_some-is (common_of b p.domain) a cut in
    let domain : p ≡ s = cc in
    let both = (common_is b p.domain r c).0 (subst (λ (x : Area). HoldsPoint x r c) (sym meet.0) h) in
    subst (λ (x : Stage). HoldsPoint x.domain r c) domain both.1

pub region_inside : (t : Target) (g : ℕ) (s : Stage) (a : Area) (r c : ℤ) → IsRanked t.job.stages → IsTarget t
    → slice_get t.job.stages g ≡ Some s → region t g ≡ Some a → HoldsPoint a r c → HoldsPoint s.domain r c
region_inside t g s a r c ranked target is there h = by (nat_eq g t.stage) refl there
  where
    inlined : (o : Option Area) (b : Bool) → o ≡ box t g → (if b then o else None) ≡ Some a → box t g ≡ Some a
    inlined o true e k = sym e ∙ k
    inlined o false e k = absurd (cc)

    by : (b : Bool) → nat_eq g t.stage ≡ b → (if b then Some t.region else (if is_inlined t.inlining g then box t g else None)) ≡ Some a
        → HoldsPoint s.domain r c
    by true e k =
        let same : g ≡ t.stage = grind (arith, nat_tests) in
        let owner : Some target.owner ≡ Some s = sym target.there ∙ ap (slice_get t.job.stages) (sym same) ∙ is in
        let one : target.owner ≡ s = cc in
        let whole : a ≡ t.region = cc in
        subst (λ (x : Stage). HoldsPoint x.domain r c) one (target.inside r c (subst (λ (x : Area). HoldsPoint x r c) whole h))
    by false e k =
        cut_inside (slice_get t.job.stages g) s (hull_of_all (areas_of g (all_demands_by t (box t)))) a r c is
        (sym (box_follows t g ranked) ∙ inlined (box t g) (is_inlined t.inlining g) refl k) h

demands_there : (t : Target) (g : ℕ) (s : Stage) (a : Area) → slice_get t.job.stages g ≡ Some s → region t g ≡ Some a
    → demands_by t (box t) g ≡ body_demands s.body a
demands_there t g s a is there = ap (λ o. stage_demands o (region t g)) is ∙ ap (stage_demands (Some s)) there

pub has_what_it_reads : (t : Target) → IsJob t.job → IsTarget t → HasWhatItReads t
has_what_it_reads t job target = λ g s a is there r c h.
    let ranked = ranked_is t.job job in
    let stage : IsStage t.job s = job.stages g s is in
    let inside = region_inside t g s a r c ranked target is there h in
    body_lies t a r c s.body h
    (subst (All (IsCovered t)) (demands_there t g s a is there) (all_covered t g ranked (slice_get_within t.job.stages g s is)))
    stage.formulas (stage.reads r c inside)
