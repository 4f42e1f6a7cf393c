-- What has a box in a target: it has whatever the target passes on to what it reads, and a lower rank.
use Rattle.std.proofs.Common.{ℕ, zero, suc, arith, ◌<◌, ◌≤◌, ◌≡◌, eqb, Bool, true, false, Option, Some, None, List, [], ◌∷◌, map}
use Rattle.std.proofs.Common.{refl, sym, ap, ◌∙◌, subst}
use Rattle.std.specs.Prelude.{All, slice_get, filter, if◌then◌else◌}
use Rattle.std.proofs.lemmas.Bool.{eqb-true}
use Rattle.std.proofs.lemmas.List.Elements.{All-nil, All-head, All-tail, All-weaker, All-contains}
use Rattle.domains.specs.declared.area.Area.{Area}
use Rattle.job.specs.Pipeline.{Stage, rank_of}
use Rattle.job.specs.Reads.{stage_read, reads_of, IsRanked}
use Rattle.job.proofs.Unrolling.{reads_fall}
use Rattle.tile_boxes.specs.Order.{greatest_rank, backward}
use Rattle.tile_boxes.specs.Schedules.{is_inlined}
use Rattle.tile_boxes.specs.Demands.{Demand, hull_of_all, areas_of}
use Rattle.tile_boxes.specs.Targets.{Target, region_by, stage_demands, demands_by, all_demands_by, cut_to, box_within, box}
use Rattle.tile_boxes.proofs.DemandsFall.{of_body}
use Rattle.overlap_tiles.proofs.Lists.{Contains-from_flat_map, All-from_contains}

-- what holds of each stage of which something is demanded holds of one that has a box
demanded_of : (P : ℕ → Type 0) (o : Option Stage) (g : ℕ) (area : Area) (ds : List Demand)
    → cut_to o (hull_of_all (areas_of g ds)) ≡ Some area → All (λ d. P d.stage) ds → P g
demanded_of P None g area [] e h = absurd (cc)
demanded_of P (Some s) g area [] e h = absurd (cc)
demanded_of P o g area (d ∷ ds) e h = by (eqb d.stage g) refl e (λ rest. demanded_of P o g area ds rest (All-tail (λ x. P x.stage) d ds h))
  where
    by : (b : Bool) → eqb d.stage g ≡ b
        → cut_to o (hull_of_all (map (λ x. x.area) (if b then d ∷ filter (λ x. eqb x.stage g) ds else filter (λ x. eqb x.stage g) ds)))
        ≡ Some area
        → (cut_to o (hull_of_all (areas_of g ds)) ≡ Some area → P g) → P g
    by true same cut rest = subst P (eqb-true d.stage g same) (All-head (λ x. P x.stage) d ds h)
    by false other cut rest = rest cut

-- what the target passes on to what it reads, and each inlined function that has it to what this reads, has each stage with a box
module _ (t : Target) (P : ℕ → Type 0)
    (own : (s : Stage) → slice_get t.job.stages t.stage ≡ Some s → All (λ x. P (stage_read x)) (reads_of s.body))
    (inner : (r : ℕ) (s : Stage) → slice_get t.job.stages r ≡ Some s → is_inlined t.inlining r ≡ true → P r
    → All (λ x. P (stage_read x)) (reads_of s.body)) where
  passed_on : (boxes : ℕ → Option Area) (r : ℕ) (s : Stage) (a : Area) → slice_get t.job.stages r ≡ Some s
      → ((b : Area) → boxes r ≡ Some b → P r) → region_by t boxes r ≡ Some a → All (λ x. P (stage_read x)) (reads_of s.body)
  passed_on boxes r s a there has e = by (eqb r t.stage) refl (is_inlined t.inlining r) refl e
    where
      by : (b : Bool) → eqb r t.stage ≡ b → (i : Bool) → is_inlined t.inlining r ≡ i
          → (if b then Some t.region else (if i then boxes r else None)) ≡ Some a → All (λ x. P (stage_read x)) (reads_of s.body)
      by true same i is e = own s (sym (ap (slice_get t.job.stages) (eqb-true r t.stage same)) ∙ there)
      by false other true is e = inner r s there is (has a e)
      by false other false is e = absurd (cc)

  demands_have : (boxes : ℕ → Option Area) → ((g : ℕ) (a : Area) → boxes g ≡ Some a → P g) → (r : ℕ)
      → All (λ d. P d.stage) (demands_by t boxes r)
  demands_have boxes has r = by (slice_get t.job.stages r) refl (region_by t boxes r) refl
    where
      by : (o : Option Stage) → slice_get t.job.stages r ≡ o → (p : Option Area) → region_by t boxes r ≡ p
          → All (λ d. P d.stage) (stage_demands o p)
      by None there p is = All-nil (λ d. P d.stage)
      by (Some s) there None is = All-nil (λ d. P d.stage)
      by (Some s) there (Some a) is = of_body P s.body a (passed_on boxes r s a there (has r) is)

  within_has : (n g : ℕ) (a : Area) → box_within t n g ≡ Some a → P g
  within_has zero g a e = absurd (cc)
  within_has (suc n) g a e =
      demanded_of P (slice_get t.job.stages g) g a (all_demands_by t (box_within t n)) e
      (All-from_contains (λ d. P d.stage) (all_demands_by t (box_within t n)) (λ d h.
      let from = Contains-from_flat_map (demands_by t (box_within t n)) (backward t.job.stages) d h in
      All-contains (λ x. P x.stage) (demands_by t (box_within t n) from.0) d
      (demands_have (box_within t n) (within_has n) from.0) from.2))

  pub box_has : (g : ℕ) (a : Area) → box t g ≡ Some a → P g
  unfolding box
  box_has g a e = within_has (suc (greatest_rank t.job.stages)) g a e

module _ (t : Target) (ranked : IsRanked t.job.stages) where
  abbrev pub IsLower : ℕ → Type 0
  IsLower g = rank_of t.job.stages g < rank_of t.job.stages t.stage

  lower_reads : (r : ℕ) (s : Stage) → slice_get t.job.stages r ≡ Some s → rank_of t.job.stages r ≤ rank_of t.job.stages t.stage
      → All (λ x. IsLower (stage_read x)) (reads_of s.body)
  lower_reads r s there low =
      All-weaker (λ x. rank_of t.job.stages (stage_read x) < rank_of t.job.stages r) (λ x. IsLower (stage_read x))
      (λ x falls. omega arith) (reads_of s.body) (reads_fall t.job.stages ranked r s there)

  pub box_low : (g : ℕ) (a : Area) → box t g ≡ Some a → IsLower g
  box_low = box_has t IsLower (λ s there. lower_reads t.stage s there (omega arith))
      (λ r s there inlined low. lower_reads r s there (omega arith))
