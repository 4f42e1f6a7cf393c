-- What a stage demands is demanded of stages of lower rank.
use Rattle.std.proofs.Common.{ℕ, arith, ◌<◌, ◌≤◌, ◌≡◌, nat_eq, Bool, true, false, Option, Some, None, List, [], ◌∷◌, ◌++◌, map}
use Rattle.std.proofs.Common.{filter, refl, ap, subst}
use Rattle.std.specs.Prelude.{All, slice_get, if◌then◌else◌}
use Rattle.std.specs.List.{flat_map}
use Rattle.std.proofs.lemmas.List.Elements.{All-nil, All-head, All-tail, All-append, All-map}
use Rattle.std.proofs.lemmas.Bool.Decides.{nat_tests}
use Rattle.std.proofs.lemmas.Grind.{flat_map-append}
use Rattle.domains.specs.declared.area.Area.{Area}
use Rattle.job.specs.Formula.{Formula}
use Rattle.job.specs.Pipeline.{JobCase, Body, plane, function, accumulator, Stage, rank_of}
use Rattle.job.specs.Reads.{Read, stage_read, reads_in, reads_of, other_formula, IsRanked}
use Rattle.job.proofs.Agreeing.{All-left, All-right}
use Rattle.job.proofs.Unrolling.{reads_fall}
use Rattle.tile_boxes.specs.Demands.{Demand, meet_of_box, read_demand}
use Rattle.tile_boxes.specs.Demands.{formula_demands, demands_if, case_demands, other_demands, body_demands, areas_of}
use Rattle.tile_boxes.specs.Targets.{Target, region_by, stage_demands, demands_by}

-- ---- what holds of the stages that are read holds of those of which something is demanded

abbrev pub OfReads : (ℕ → Type 0) → List Read → Type 0
OfReads P reads = All (λ x. P (stage_read x)) reads

abbrev pub OfDemands : (ℕ → Type 0) → List Demand → Type 0
OfDemands P demands = All (λ d. P d.stage) demands

of_formula : (P : ℕ → Type 0) (f : Formula) (a : Area) → OfReads P (reads_in f) → OfDemands P (formula_demands f a)
of_formula P f a h = All-map (λ d. P d.stage) (read_demand a) (reads_in f) h

of_some : (P : ℕ → Type 0) (f : Formula) (o : Option Area) → OfReads P (reads_in f) → OfDemands P (demands_if f o)
of_some P f None h = All-nil (λ d. P d.stage)
of_some P f (Some a) h = of_formula P f a h

of_cases : (P : ℕ → Type 0) (ps : List JobCase) (a : Area) → OfReads P (flat_map reads_in (map (λ p. p.formula) ps))
    → OfDemands P (flat_map (case_demands a) ps)
of_cases P [] a h = All-nil (λ d. P d.stage)
of_cases P (p ∷ ps) a h =
    All-append (λ d. P d.stage) (case_demands a p) (flat_map (case_demands a) ps)
    (of_some P p.formula (meet_of_box p.box a)
    (All-left (λ x. P (stage_read x)) (reads_in p.formula) (flat_map reads_in (map (λ p. p.formula) ps)) h))
    (of_cases P ps a (All-right (λ x. P (stage_read x)) (reads_in p.formula) (flat_map reads_in (map (λ p. p.formula) ps)) h))

of_other : (P : ℕ → Type 0) (o : Option Formula) (a : Area) → OfReads P (flat_map reads_in (other_formula o))
    → OfDemands P (other_demands o a)
of_other P None a h = All-nil (λ d. P d.stage)
of_other P (Some f) a h = of_formula P f a (All-left (λ x. P (stage_read x)) (reads_in f) [] h)

pub of_body : (P : ℕ → Type 0) (body : Body) (a : Area) → OfReads P (reads_of body) → OfDemands P (body_demands body a)
of_body P (plane n) a h = All-nil (λ d. P d.stage)
of_body P (function cases otherwise) a h =
    let parts = both (flat_map-append reads_in (map (λ p. p.formula) cases) (other_formula otherwise)) h in
    All-append (λ d. P d.stage) (flat_map (case_demands a) cases) (other_demands otherwise a) (of_cases P cases a parts.0)
    (of_other P otherwise a parts.1)
  where
    both : reads_of (function cases otherwise)
        ≡ flat_map reads_in (map (λ p. p.formula) cases) ++ flat_map reads_in (other_formula otherwise)
        → OfReads P (reads_of (function cases otherwise))
        → OfReads P (flat_map reads_in (map (λ p. p.formula) cases)) × OfReads P (flat_map reads_in (other_formula otherwise))
    both e k =
        let all : OfReads P (flat_map reads_in (map (λ p. p.formula) cases) ++ flat_map reads_in (other_formula otherwise)) = subst
        (OfReads P) e k in (
          All-left (λ x. P (stage_read x)) (flat_map reads_in (map (λ p. p.formula) cases))
              (flat_map reads_in (other_formula otherwise)) all,
          All-right (λ x. P (stage_read x)) (flat_map reads_in (map (λ p. p.formula) cases))
              (flat_map reads_in (other_formula otherwise)) all,
        )
of_body P (accumulator fold bins value bin) a h =
    All-append (λ d. P d.stage) (formula_demands value a) (formula_demands bin a)
    (of_formula P value a (All-left (λ x. P (stage_read x)) (reads_in value) (reads_in bin ++ []) h))
    (of_formula P bin a
    (All-left (λ x. P (stage_read x)) (reads_in bin) [] (All-right (λ x. P (stage_read x)) (reads_in value) (reads_in bin ++ []) h)))

pub of_stage : (P : ℕ → Type 0) (o : Option Stage) (region : Option Area) → ((s : Stage) → o ≡ Some s → OfReads P (reads_of s.body))
    → OfDemands P (stage_demands o region)
of_stage P None region h = All-nil (λ d. P d.stage)
of_stage P (Some s) None h = All-nil (λ d. P d.stage)
of_stage P (Some s) (Some a) h = of_body P s.body a (h s refl)

-- ---- so nothing is demanded of the stage itself, nor of stages of no lower rank

dropped : (d : Demand) (ds : List Demand) (b : Bool) → b ≡ false → map (λ e. e.area) ds ≡ []
    → map (λ e. e.area) (if b then d ∷ ds else ds) ≡ []
dropped d ds false e none = none
dropped d ds true e none = absurd (cc)

pub none_of : (P : ℕ → Type 0) (g : ℕ) (ds : List Demand) → ((h : ℕ) → P h → nat_eq h g ≡ false) → OfDemands P ds → areas_of g ds ≡ []
none_of P g [] other h = refl
none_of P g (d ∷ ds) other h =
    dropped d (filter (λ e. nat_eq e.stage g) ds) (nat_eq d.stage g) (other d.stage (All-head (λ e. P e.stage) d ds h))
    (none_of P g ds other (All-tail (λ e. P e.stage) d ds h))

differ : (stages : List Stage) (g r h : ℕ) → rank_of stages r ≤ rank_of stages g → rank_of stages h < rank_of stages r → nat_eq h g ≡ false
differ stages g r h low falls = by (nat_eq h g) refl
  where
    by : (b : Bool) → nat_eq h g ≡ b → nat_eq h g ≡ false
    by false e = e
    by true e =
        let same : h ≡ g = grind (arith, nat_tests) in let ranks : rank_of stages h ≡ rank_of stages g = ap (rank_of stages) same in
        absurd (omega arith)

pub none_of_higher : (t : Target) (boxes : ℕ → Option Area) (r g : ℕ) → IsRanked t.job.stages
    → rank_of t.job.stages r ≤ rank_of t.job.stages g → areas_of g (demands_by t boxes r) ≡ []
none_of_higher t boxes r g ranked low =
    none_of (λ h. rank_of t.job.stages h < rank_of t.job.stages r) g (demands_by t boxes r) (λ h falls. differ t.job.stages g r h low falls)
    (of_stage (λ h. rank_of t.job.stages h < rank_of t.job.stages r) (slice_get t.job.stages r) (region_by t boxes r)
    (λ s is. reads_fall t.job.stages ranked r s is))
