-- Each step finds what it reads.
use Rattle.std.proofs.Common.{ℕ, arith, ◌<◌, ◌≤◌, ◌≡◌, inl, inr, ℤ, Bool, true, false, not, eqb, Option, Some, None, List, []}
use Rattle.std.proofs.Common.{◌∷◌, length, get_or, refl, sym, ap, ◌∙◌, subst}
use Rattle.std.specs.Prelude.{All, Contains, slice_get, if◌then◌else◌}
use Rattle.std.specs.Option.{option_map_or}
use Rattle.std.proofs.lemmas.Bool.{and_from, ne_eqb, cases_lt}
use Rattle.std.proofs.lemmas.Option.{slice_get_within, slice_get_read, get_or_from_slice_get}
use Rattle.std.proofs.lemmas.List.Elements.{Contains-append_left, All-contains_itself}
use Rattle.domains.specs.Area.{HoldsPoint}
use Rattle.domains.specs.Tiles.{tile_at}
use Rattle.domains.specs.Index.{index_at}
use Rattle.domains.specs.declared.area.Area.{Area}
use Rattle.domains.proofs.PairLists.{Contains-here, Contains-filter}
use Rattle.domains.proofs.Covers.{tile_is}
use Rattle.job.specs.Formula.{Formula}
use Rattle.job.specs.Pipeline.{Pipeline, JobCase, Body, plane, function, accumulator, Stage, rank_of}
use Rattle.job.specs.Values.{kernel_row, kernel_column}
use Rattle.job.specs.Reads.{Read, point, window, stage_read, reads_in, EachTaken, EachRead, CaseReads, BodyReads, reads_of}
use Rattle.job.specs.Answers.{grid_of, has_tiles}
use Rattle.job.specs.Readers.{stage_grid, grid_at}
use Rattle.job.specs.WellFormed.{IsValued, IsReadable, IsJob}
use Rattle.job.proofs.Steps.{All-both}
use Rattle.job.proofs.Unrolling.{reads_fall}
use Rattle.job.proofs.Solving.{BodyReads-both, ranked_is}
use Rattle.tile_boxes.specs.Order.{order_stages_by_rank}
use Rattle.tile_boxes.specs.Schedules.{is_inlined, is_function_stage, is_function_body}
use Rattle.tile_boxes.specs.Targets.{Target, IsTarget, with_number, is_function_other_than_target, numbered_box, box, boxes, region, IsInBox}
use Rattle.tile_boxes.specs.Costs.{inner_steps, steps}
use Rattle.tile_boxes.proofs.Lists.{Contains-flat_map, Contains-map}
use Rattle.tile_boxes.proofs.OrderHasEachStage.{order_has}
use Rattle.tile_boxes.proofs.BoxesHoldWhatIsRead.{has_what_it_reads}
use Rattle.tile_boxes.proofs.BoxesLieInDomains.{InDomain, region_in_domain}
use Rattle.overlap_tiles.specs.Lives.{DoesRead, IsReadAt, LivesMeet}
use Rattle.overlap_tiles.specs.Available.{IsComputedBefore, IsInNeededTile, IsAvailable, ReadsAvailable}
use Rattle.tile_boxes.proofs.TilesAreTargets.{grid_fits}
use Rattle.overlap_tiles.proofs.NeedsAreExact.{to_needs}
use Rattle.overlap_tiles.proofs.BoxesAreLower.{box_low}
use Rattle.overlap_tiles.proofs.StepsRise.{steps_rise, region_of_step}

-- ---- two facts of all that is read

abbrev pub Both : (ℕ → ℤ → ℤ → Type 0) → (ℕ → ℤ → ℤ → Type 0) → ℕ → ℤ → ℤ → Type 0
Both P Q g r c = P g r c × Q g r c

module _ (P Q : ℕ → ℤ → ℤ → Type 0) (r c : ℤ) where
  both_taken : (x : Read) → EachTaken P x r c → EachTaken Q x r c → EachTaken (Both P Q) x r c
  both_taken (point g i j) p q = (p, q)
  both_taken (window g kernel) p q = λ a b la lb. (p a b la lb, q a b la lb)

  both_read : (f : Formula) → EachRead P f r c → EachRead Q f r c → EachRead (Both P Q) f r c
  both_read f p q = All-both (λ x. EachTaken P x r c) (λ x. EachTaken Q x r c) (λ x. EachTaken (Both P Q) x r c) both_taken (reads_in f) p q

  both_cases : (ps : List JobCase) → All (λ p. CaseReads P p r c) ps → All (λ p. CaseReads Q p r c) ps
      → All (λ p. CaseReads (Both P Q) p r c) ps
  both_cases ps p q =
      All-both (λ p. CaseReads P p r c) (λ p. CaseReads Q p r c) (λ p. CaseReads (Both P Q) p r c)
      (λ case one other. λ b there inside. both_read case.formula (one b there inside) (other b there inside)) ps p q

  pub both_body : (body : Body) → BodyReads P body r c → BodyReads Q body r c → BodyReads (Both P Q) body r c
  both_body (plane n) p q = tt
  both_body (function cases otherwise) p q = (both_cases cases p.0 q.0, (λ f there. both_read f (p.1 f there) (q.1 f there)))
  both_body (accumulator fold bins value bin) p q = (both_read value p.0 q.0, both_read bin p.1 q.1)

-- ---- where a stage is found

module _ (t : Target) (job : IsJob t.job) where
  function_listed : (h : ℕ) (a : Area) → h < length t.job.stages → is_function_other_than_target t h ≡ true → box t h ≡ Some a → Contains (boxes t) (h, a)
  function_listed h a there boxed is =
      let one : numbered_box t h ≡ (h, a) ∷ [] = λ i. if boxed i then with_number h (is i) else [] in
      Contains-flat_map (numbered_box t) (order_stages_by_rank t.job.stages) h (h, a) ((order_has t.job.stages h).1 there)
      (subst (λ (xs : List (ℕ × Area)). Contains xs (h, a)) (sym one) (Contains-here (h, a) []))

  -- a step of lower rank stands before
  before : (k g h : ℕ) (a b : Area) (r c : ℤ) → slice_get (steps t) k ≡ Some (g, a) → Contains (steps t) (h, b) → DoesRead t.job g h
      → rank_of t.job.stages h < rank_of t.job.stages g → HoldsPoint b r c → IsComputedBefore t k h r c
  before k g h a b r c here there does lower holds =
      record {
        place = there.0;
        area = b;
        there = at;
        before = elim (cases_lt there.0 k) [ inl l ↦ l | inr l ↦ absurd (not_behind l) ];
        read = record { read = (h, b); reader = (g, a); there = at; reader_there = here; reads = does };
        holds = holds;
      }
    where
      at : slice_get (steps t) there.0 ≡ Some (h, b)
      at = slice_get_read (steps t) (length (steps t)) there.0 (h, b) refl there.1 (sym there.2)

      last : get_or (steps t) there.0 (h, b) ≡ (h, b)
      last = there.2

      not_behind : k ≤ there.0 → ⊥
      not_behind l =
          let own : get_or (steps t) k (h, b) ≡ (g, a) = get_or_from_slice_get (steps t) k (g, a) (h, b) here in
          let own_rank = ap (λ (s : ℕ × Area). rank_of t.job.stages s.0) own in
          let last_rank = ap (λ (s : ℕ × Area). rank_of t.job.stages s.0) last in
          elim (cases_lt k there.0) [
            | inl less ↦ (let rises = steps_rise t (ranked_is t.job job) k there.0 (h, b) less there.1 in omega arith)
            | inr more ↦ (let one : k ≡ there.0 = omega arith in
                let same = ap (λ (n : ℕ). rank_of t.job.stages (get_or (steps t) n (h, b)).0) one in
                omega arith)
          ]

  module _ (h : ℕ) (s : Stage) (there : slice_get t.job.stages h ≡ Some s) (a : Area) (is : box t h ≡ Some a) (r c : ℤ)
      (holds : HoldsPoint a r c) where
    -- a function that has a box is not the target
    boxed : is_function_body s.body ≡ true → is_function_other_than_target t h ≡ true
    boxed e =
        let lower = box_low t (ranked_is t.job job) h a is in
        let other = ne_eqb h t.stage (λ same. let ranks = ap (rank_of t.job.stages) same in omega arith) in
        and_from (is_function_stage t.job h) (not (eqb h t.stage))
        (ap (λ (o : Option Stage). option_map_or (λ x. is_function_body x.body) o false) there ∙ e)
        (ap not other)

    in_a_step : (k g : ℕ) (b : Area) → is_function_body s.body ≡ true → is_inlined t.inlining h ≡ true → slice_get (steps t) k ≡ Some (g, b)
        → DoesRead t.job g h → rank_of t.job.stages h < rank_of t.job.stages g → IsComputedBefore t k h r c
    in_a_step k g b e inlined here does lower =
        before k g h b a r c here
        (Contains-append_left (inner_steps t) ((t.stage, t.region) ∷ []) (h, a)
        (Contains-filter (λ x. is_inlined t.inlining x.0) (boxes t) (h, a)
        (function_listed h a (slice_get_within t.job.stages h s there) (boxed e) is) inlined))
        does lower holds

    in_a_tile : is_function_body s.body ≡ true → has_tiles s.body ≡ true → is_inlined t.inlining h ≡ false → HoldsPoint s.domain r c
        → IsInNeededTile t h r c
    in_a_tile e has stored inside =
        let grid = grid_of t.job s in
        let at : grid_at t.job h ≡ Some grid = ap (stage_grid t.job) there ∙ (λ i. if has i then Some grid else None) in
        let tile = tile_is grid r c (grid_fits t.job h grid job at) inside in
        record {
          grid = grid;
          there = at;
          row = (tile_at grid r c).0;
          col = (tile_at grid r c).1;
          needed = to_needs t (record { stage = h; row = (tile_at grid r c).0; col = (tile_at grid r c).1 }) job (record {
            grid = grid;
            there = at;
            stored = and_from (is_function_other_than_target t h) (not (is_inlined t.inlining h)) (boxed e) (ap not stored);
            area = a;
            boxed = is;
            meets = record { there = tile.there; row = r; col = c; in_tile = tile.holds; in_area = holds };
          });
          holds = tile.holds;
        }

  at_hand : (k g : ℕ) (a : Area) → slice_get (steps t) k ≡ Some (g, a) → (h : ℕ) (r c : ℤ) → DoesRead t.job g h
      → rank_of t.job.stages h < rank_of t.job.stages g → Both (IsInBox t) (IsReadable t.job.stages) h r c → IsAvailable t k h r c
  at_hand k g a here h r c does lower both = by both.1.stage.body refl (is_inlined t.inlining h) refl
    where
      by : (body : Body) → both.1.stage.body ≡ body → (i : Bool) → is_inlined t.inlining h ≡ i → IsAvailable t k h r c
      by (plane n) e i inlined = inl (record { stage = both.1.stage; there = both.1.there; number = n; plane = e })
      by (function cases otherwise) e true inlined =
          inr (inl (in_a_step h both.1.stage both.1.there both.0.area both.0.there r c both.0.holds k g a (ap is_function_body e) inlined
          here does lower))
      by (function cases otherwise) e false inlined =
          inr (inr (in_a_tile h both.1.stage both.1.there both.0.area both.0.there r c both.0.holds (ap is_function_body e) (ap has_tiles e)
          inlined both.1.within))
      by (accumulator fold bins value bin) e i inlined = absurd (subst IsValued e both.1.valued)

  -- a read of stage g, which leads to a lower rank
  abbrev pub IsReadOf : ℕ → Read → Type 0
  IsReadOf g x = (rank_of t.job.stages (stage_read x) < rank_of t.job.stages g) × DoesRead t.job g (stage_read x)

  reads_of_stage : (g : ℕ) (s : Stage) → slice_get t.job.stages g ≡ Some s → All (IsReadOf g) (reads_of s.body)
  reads_of_stage g s is =
      All-both (λ x. rank_of t.job.stages (stage_read x) < rank_of t.job.stages g) (Contains (reads_of s.body)) (IsReadOf g)
      (λ x falls inside. (falls, record { stage = s; there = is; reads = Contains-map stage_read (reads_of s.body) x inside }))
      (reads_of s.body) (reads_fall t.job.stages (ranked_is t.job job) g s is) (All-contains_itself (reads_of s.body))

  taken_at_hand : (k g : ℕ) (a : Area) → slice_get (steps t) k ≡ Some (g, a) → (r c : ℤ) (x : Read) → IsReadOf g x
      → EachTaken (Both (IsInBox t) (IsReadable t.job.stages)) x r c → EachTaken (IsAvailable t k) x r c
  taken_at_hand k g a here r c (point h i j) is taken = at_hand k g a here h (index_at i r) (index_at j c) is.1 is.0 taken
  taken_at_hand k g a here r c (window h kernel) is taken =
      λ m n lm ln. at_hand k g a here h (kernel_row kernel r m) (kernel_column kernel c n) is.1 is.0 (taken m n lm ln)

pub step_region : (t : Target) (k g : ℕ) (a : Area) → slice_get (steps t) k ≡ Some (g, a) → region t g ≡ Some a
step_region t k g a here =
    region_of_step t (g, a) (k, slice_get_within (steps t) k (g, a) here, get_or_from_slice_get (steps t) k (g, a) (g, a) here)

pub step_in_domain : (t : Target) (k g : ℕ) (s : Stage) (a : Area) → IsJob t.job → IsTarget t → slice_get (steps t) k ≡ Some (g, a)
    → slice_get t.job.stages g ≡ Some s → InDomain s a
step_in_domain t k g s a job target here is = region_in_domain t g s a job target is (step_region t k g a here)

pub reads_available : (t : Target) → IsJob t.job → IsTarget t → ReadsAvailable t
reads_available t job target = λ k g s a here is r c holds.
    let inside = (step_in_domain t k g s a job target here is).1 r c holds in
    BodyReads-both (Both (IsInBox t) (IsReadable t.job.stages)) (IsAvailable t k) (IsReadOf t job g) s.body r c
    (taken_at_hand t job k g a here r c) (reads_of_stage t job g s is)
    (both_body (IsInBox t) (IsReadable t.job.stages) r c s.body
    (has_what_it_reads t job target g s a is (step_region t k g a here) r c holds) ((job.stages g s is).reads r c inside))

-- what is read is alive at each step up to the one that reads it
pub lives_last : (job : Pipeline) (ss : List (ℕ × Area)) (k l m : ℕ) → k < l → l ≤ m → IsReadAt job ss k m → LivesMeet job ss k l
lives_last job ss k l m less most read = (l, (omega arith, inr (m, most, read)), (omega arith, inl refl))
