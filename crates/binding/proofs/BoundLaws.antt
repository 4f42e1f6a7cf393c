-- The domains of stages are those of their items, and what they read stays in bounds.
use Rattle.std.proofs.Common.{ℕ, suc, arith, ◌+◌, ◌<◌, ◌≤◌, ◌%◌, ◌/◌, ◌≡◌, ℤ, pos, ◌+ℤ◌, ◌-ℤ◌, Bool, true, false, List, [], ◌∷◌}
use Rattle.std.proofs.Common.{◌++◌, length, Option, Some, None, Ok, map, slice_get, subst, ap, sym, ◌∙◌, refl}
use Rattle.std.specs.Prelude.{All, if◌then◌else◌}
use Rattle.std.specs.List.{flat_map, AllZip}
use Rattle.std.specs.Option.{option_map, ForSome}
use Rattle.std.specs.Str.{bytes_eq}
use Rattle.std.proofs.lemmas.Int.{ints}
use Rattle.std.proofs.lemmas.Option.{none-some, same_Some, slice_get_within}
use Rattle.std.proofs.lemmas.List.Elements.{All-nil, All-cons, All-head, All-tail}
use Rattle.domains.specs.Span.{Ends}
use Rattle.domains.specs.Area.{HoldsPoint}
use Rattle.domains.specs.Index.{Scale, index_at}
use Rattle.domains.specs.declared.area.Area.{Area}
use Rattle.operators.specs.declared.operator.Relation.{Relation}
use Rattle.operators.specs.declared.operator.Relation.TheVariants.{AtMost, AtLeast, Equals}
use Rattle.pipe_tree.specs.declared.tree.Test.{Test}
use Rattle.pipe_tree.specs.declared.tree.Test.TheVariants.{Compare, Remainder}
use Rattle.pipe_tree.specs.Tree as tree
use Rattle.pipe_tree.specs.Tree.{Node, Branch, Function, Accumulator, Declaration}
use Rattle.pipe_checks.specs.declared.symbol.Symbol.{Symbol}
use Rattle.pipe_checks.specs.declared.access.Access.{Access}
use Rattle.pipe_checks.specs.declared.access.Access.TheVariants as access
use Rattle.pipe_bounds.specs.Settings.{affine_value}
use Rattle.pipe_bounds.specs.Domains.{IsSpanFrom, IsSides, IsDomain}
use Rattle.pipe_bounds.specs.Within.{HaveDomains}
use Rattle.pipe_checks.specs.Names.{symbols_declared_by_items, stages_of}
use Rattle.pipe_checks.specs.Accesses as accesses
use Rattle.pipe_checks.specs.Accesses.{width_of, accesses_of}
use Rattle.pipe_bounds.specs.Boxes as boxes
use Rattle.pipe_bounds.specs.Boxes.{Meets}
use Rattle.domains.specs.Cuts.{IsCutArea}
use Rattle.pipe_bounds.specs.InBounds.{ReadCase, branch_case, whole_case, otherwise_cases, item_cases, declared_cases, IsInBox}
use Rattle.pipe_bounds.specs.InBounds.{IsAbout, TakesRow, TakesColumn, IsWithin, AllStay, StageStays, AreInBounds, scale_of}
use Rattle.pipe_checks.proofs.Accepted.{IsReadableKind, IsSound, IsSoundBranch, IsSoundItem}
use Rattle.pipe_bounds.proofs.Stages.{some_within}
use Rattle.job.specs.Formula.{row, column}
use Rattle.job.specs.Pipeline.{Stage}
use Rattle.job.specs.Values.{along, factors, kernel_row, kernel_column}
use Rattle.job.specs.Reads.{Read, point, window, reads_in, EachTaken, EachRead, CaseReads, BodyReads}
use Rattle.job.specs.Boxes.{Relates, BoundsHold}
use Rattle.binding.specs.Binding.{Program, Variables, variables_of, axis_of}
use Rattle.binding.specs.Binding.{formula_of, test_of, case_of, area_of, item_stages, function_stage, accumulator_stage}
use Rattle.job.specs.WellFormed.{IsValued, IsReadable, InDomainRange}
use Rattle.job.proofs.Agreeing.{All-left, All-right}
use Rattle.job.proofs.BoxLaws.{box_is_cut}
use Rattle.binding.proofs.JudgedFormulas.{width_is}
use Rattle.binding.proofs.StageLaws.{zip_append, IsStageOf, IsAt, stage_there}
use Rattle.binding.proofs.ReadLaws.{IsReadStage, IsSame, reads_same}

-- ---- domains

pub ends_are : (first last : ℤ) (e : Ends) → IsSpanFrom first last e → record { lo = first; hi = last } ≡ e
ends_are first last e h =
    let low : ℤ → Ends = λ v. record { lo = v; hi = last } in
    let high : ℤ → Ends = λ v. record { lo = e.lo; hi = v } in
    ap low (sym h.lo) ∙ ap high (sym h.hi)

pub span_near : (first last : ℤ) (e : Ends) → IsSpanFrom first last e → InDomainRange e
span_near first last e h =
    let lo = h.lo in let hi = h.hi in let ordered = h.ordered in let least = h.least in let most = h.most in
    record {
      span = record { least = omega (arith, ints); ordered = omega (arith, ints); most = omega (arith, ints) };
      least = omega (arith, ints);
      most = omega (arith, ints);
    }

last_is : (side : ℤ) (e : Ends) → IsSides side e → side -ℤ pos 1 ≡ e.hi
last_is side e h = let hi = h.hi in omega (arith, ints)

pub sides_are : (side : ℤ) (e : Ends) → IsSides side e → record { lo = pos 0; hi = side -ℤ pos 1 } ≡ e
sides_are side e h =
    let low : ℤ → Ends = λ v. record { lo = v; hi = side -ℤ pos 1 } in
    let high : ℤ → Ends = λ v. record { lo = e.lo; hi = v } in
    ap low (sym h.lo) ∙ ap high (last_is side e h)

sides_near : (side : ℤ) (e : Ends) → IsSides side e → InDomainRange e
sides_near side e h =
    let lo = h.lo in let hi = h.hi in let least = h.least in let most = h.most in
    record {
      span = record { least = omega (arith, ints); ordered = omega (arith, ints); most = omega (arith, ints) };
      least = omega (arith, ints);
      most = omega (arith, ints);
    }

pub area_is : (rows cols : Ends) (a : Area) → rows ≡ a.rows → cols ≡ a.cols → record { rows = rows; cols = cols } ≡ a
area_is rows cols a r c =
    let down : Ends → Area = λ e. record { rows = e; cols = cols } in
    let right : Ends → Area = λ e. record { rows = a.rows; cols = e } in
    ap down r ∙ ap right c

pub record HasDomain (s : Stage) (a : Area) : Type 0 where
  pub domain : s.domain ≡ a
  pub rows : InDomainRange a.rows
  pub cols : InDomainRange a.cols

domain_of : (p : Program) (d : Declaration) (x : Symbol) (s : Stage) (a : Area) → IsStageOf p d x s → IsDomain p.settings d (Ok a)
    → HasDomain s a
domain_of p (tree.param y) x s a is h = absurd is
domain_of p (tree.image i) x s a is h = record {
  domain = ap (λ (t : Stage). t.domain) is.1 ∙ area_is _ _ a (sides_are _ a.rows h.0) (sides_are _ a.cols h.1);
  rows = sides_near _ a.rows h.0;
  cols = sides_near _ a.cols h.1;
}
domain_of p (tree.table t) x s a is h = absurd is
domain_of p (tree.function f) x s a is h = record {
  domain = ap (λ (t : Stage). t.domain) is.2 ∙ area_is _ _ a (ends_are _ _ a.rows h.0) (ends_are _ _ a.cols h.1);
  rows = span_near _ _ a.rows h.0;
  cols = span_near _ _ a.cols h.1;
}
domain_of p (tree.accumulator c) x s a is h = record {
  domain = ap (λ (t : Stage). t.domain) is.2 ∙ area_is _ _ a (ends_are _ _ a.rows h.2.0) (ends_are _ _ a.cols h.2.1);
  rows = span_near _ _ a.rows h.2.0;
  cols = span_near _ _ a.cols h.2.1;
}
domain_of p (tree.output o) x s a is h = absurd is

-- ---- tests

meets : (relation : Relation) (a b : ℤ) → Relates relation a b → Meets relation a b
meets AtMost a b h = h
meets AtLeast a b h = h
meets Equals a b h = (omega (arith, ints), omega (arith, ints))

along_is : (b : Bool) (r c : ℤ) → along (if b then row else column) r c ≡ (if b then r else c)
along_is true r c = refl
along_is false r c = refl

bounds_hold : (p : Program) (vars : Variables) (ts : List Test) (r c : ℤ) → BoundsHold (map (test_of p vars) ts) r c
    → boxes.BoundsHold p.settings vars.row_name ts r c
bounds_hold p vars [] r c h = tt
bounds_hold p vars (Compare x relation bound ∷ ts) r c h = (
  subst (λ (v : ℤ). Meets relation v (affine_value p.settings bound)) (along_is (bytes_eq x vars.row_name) r c)
      (meets relation (along (axis_of vars x) r c) (affine_value p.settings bound) h.0),
  bounds_hold p vars ts r c h.1,
)
bounds_hold p vars (Remainder x m rest ∷ ts) r c h = (tt, bounds_hold p vars ts r c h.1)

-- ---- under a kernel

half_of : (n a half : ℕ) → half ≡ n / 2 → n % 2 ≡ 1 → a < n → a ≤ half + half
half_of n a half is odd l = omega arith

about : (v : ℤ) (n a half : ℕ) → half ≡ n / 2 → n % 2 ≡ 1 → a < n → IsAbout half v (v +ℤ pos a -ℤ pos half)
about v n a half is odd l = let most = half_of n a half is odd l in (omega (arith, ints), omega (arith, ints))

-- ---- reads

module _ (ds : List Declaration) (p : Program) (own : p.stages ≡ stages_of ds) (areas : List Area)
    (domains : HaveDomains p.settings ds (stages_of ds) areas) where
  pub item_domain : (g : ℕ) (s : Stage) (at : IsAt ds p g s)
      → (a : Area) × (slice_get areas g ≡ Some a) × IsDomain p.settings at.item (Ok a)
  item_domain g s at =
      let area = some_within areas g (omega (arith, domains.each, slice_get_within (stages_of ds) g at.declared at.numbered)) in
      let is = domains.domain g at.declared area.0 at.numbered area.1 in
      let same : is.0 ≡ at.item = same_Some is.0 at.item (sym is.1 ∙ at.there) in
      (area.0, area.1, subst (λ (d : Declaration). IsDomain p.settings d (Ok area.0)) same is.2)

  pub domain_at : (g : ℕ) (s : Stage) → IsAt ds p g s → (a : Area) × (slice_get areas g ≡ Some a) × HasDomain s a
  domain_at g s at = let r = item_domain g s at in (r.0, r.1, domain_of p at.item at.declared s r.0 at.is r.2)

  valued : (d : Declaration) (x : Symbol) (s : Stage) → IsStageOf p d x s → IsReadableKind x.kind → IsValued s.body
  valued (tree.param y) x s is k = absurd is
  valued (tree.image i) x s is k = subst (λ (t : Stage). IsValued t.body) (sym is.1) tt
  valued (tree.table t) x s is k = absurd is
  valued (tree.function f) x s is k = subst (λ (t : Stage). IsValued t.body) (sym is.2) tt
  valued (tree.accumulator a) x s is k = absurd (subst IsReadableKind is.0 k)
  valued (tree.output o) x s is k = absurd is

  readable : (h : ℕ) (u v : ℤ) → IsReadStage ds h → IsWithin areas h u v → IsReadable (flat_map (item_stages p) ds) h u v
  readable h u v is w =
      let r = stage_there ds p h is.declared is.there in
      let same : is.declared ≡ r.2.declared = same_Some is.declared r.2.declared (sym is.there ∙ r.2.numbered) in
      let own_domain = domain_at h r.0 r.2 in
      let area : w.domain ≡ r.0.domain = same_Some w.domain own_domain.0 (sym w.there ∙ own_domain.1) ∙ sym own_domain.2.domain in
      record {
        stage = r.0;
        there = r.1;
        valued = valued r.2.item r.2.declared r.0 r.2.is (subst (λ (d : Symbol). IsReadableKind d.kind) same is.kind);
        within = subst (λ (a : Area). HoldsPoint a u v) area w.holds;
      }

  -- all that y takes at the point lies within
  abbrev IsTakenWithin : Access → ℤ → ℤ → Type 0
  IsTakenWithin y r c = (u v : ℤ) → TakesRow y r u → TakesColumn y c v → IsWithin areas (accesses.stage_read y) u v

  each_taken : (x : Read) (y : Access) → IsSame ds x y → (r c : ℤ) → IsTakenWithin y r c
      → EachTaken (IsReadable (flat_map (item_stages p) ds)) x r c
  each_taken (point g i j) (access.Read h k l) s r c taken =
      subst (λ (n : ℕ). IsReadable (flat_map (item_stages p) ds) n (index_at i r) (index_at j c)) (sym s.0)
      (subst (λ (q : Scale). IsReadable (flat_map (item_stages p) ds) h (index_at q r) (index_at j c)) (sym s.1)
      (subst (λ (q : Scale). IsReadable (flat_map (item_stages p) ds) h (index_at (scale_of k) r) (index_at q c)) (sym s.2)
      (readable h _ _ s.3 (taken (index_at (scale_of k) r) (index_at (scale_of l) c) refl refl))))
  each_taken (point g i j) (access.Stencil h m n) s r c taken = absurd s
  each_taken (window g kernel) (access.Read h k l) s r c taken = absurd s
  each_taken (window g kernel) (access.Stencil h m n) s r c taken = λ a b la lb.
      subst (λ (q : ℕ). IsReadable (flat_map (item_stages p) ds) q (kernel_row kernel r a) (kernel_column kernel c b)) (sym s.0)
      (readable h (kernel_row kernel r a) (kernel_column kernel c b) s.4 (taken (kernel_row kernel r a) (kernel_column kernel c b)
      (subst (λ (q : ℕ). IsAbout (q / 2) r (kernel_row kernel r a)) (sym s.1)
      (about r (length kernel) a (length kernel / 2) refl s.3.height.0 la))
      (subst (λ (q : ℕ). IsAbout (q / 2) c (kernel_column kernel c b)) (sym (s.2 ∙ width_is kernel))
      (about c (length (factors kernel 0)) b (length (factors kernel 0) / 2) refl
      (subst (λ (q : ℕ). q % 2 ≡ 1) (width_is kernel) s.3.width.0) (shorter (s.3.one_width a [] la ∙ width_is kernel) lb)))))
    where
      shorter : {b m n : ℕ} → m ≡ n → b < m → b < n
      shorter e l = omega arith

  all_taken : (xs : List Read) (ys : List Access) → AllZip (IsSame ds) xs ys → (r c : ℤ)
      → ((m : ℕ) (y : Access) → slice_get ys m ≡ Some y → IsTakenWithin y r c)
      → All (λ x. EachTaken (IsReadable (flat_map (item_stages p) ds)) x r c) xs
  all_taken [] ys h r c taken = All-nil (λ x. EachTaken (IsReadable (flat_map (item_stages p) ds)) x r c)
  all_taken (x ∷ xs) [] h r c taken = absurd h
  all_taken (x ∷ xs) (y ∷ ys) h r c taken =
      All-cons (λ z. EachTaken (IsReadable (flat_map (item_stages p) ds)) z r c) x xs (each_taken x y h.0 r c (taken 0 y refl))
      (all_taken xs ys h.1 r c (λ m z there. taken (suc m) z there))

  -- ---- of functions

  module _ (vars : Variables) (domain : Area) (r c : ℤ) (inside : HoldsPoint domain r c) where
    case_reads : (b : Branch) → IsSound (symbols_declared_by_items ds) b.value
        → AllStay areas (IsInBox p.settings domain (branch_case (stages_of ds) vars.row_name b)) (accesses_of (stages_of ds) b.value)
        → CaseReads (IsReadable (flat_map (item_stages p) ds)) (case_of p vars domain b) r c
    case_reads b sound stays = λ box is within.
        let tests = map (test_of p vars) b.condition in
        let cut : IsCutArea (BoundsHold tests) domain (Some box) =
        subst (IsCutArea (BoundsHold tests) domain) is (box_is_cut domain tests) in
        let here = (cut r c).0 within in
        all_taken (reads_in (formula_of p vars b.value)) (accesses_of (stages_of ds) b.value) (reads_same ds p own vars b.value sound) r c
        (λ m y there. stays m y there r c (here.0, bounds_hold p vars b.condition r c here.1))

    cases_read : (bs : List Branch) (rest : List ReadCase) → All (IsSoundBranch (symbols_declared_by_items ds)) bs
        → StageStays p.settings areas domain (map (branch_case (stages_of ds) vars.row_name) bs ++ rest)
        → All (λ q. CaseReads (IsReadable (flat_map (item_stages p) ds)) q r c) (map (case_of p vars domain) bs)
    cases_read [] rest sound stays = All-nil (λ q. CaseReads (IsReadable (flat_map (item_stages p) ds)) q r c)
    cases_read (b ∷ bs) rest sound stays =
        All-cons (λ q. CaseReads (IsReadable (flat_map (item_stages p) ds)) q r c) (case_of p vars domain b)
        (map (case_of p vars domain) bs)
        (case_reads b (All-head (IsSoundBranch (symbols_declared_by_items ds)) b bs sound).value
        (stays 0 (branch_case (stages_of ds) vars.row_name b) refl))
        (cases_read bs rest (All-tail (IsSoundBranch (symbols_declared_by_items ds)) b bs sound) (λ n x there. stays (suc n) x there))

    rest_stays : (bs : List Branch) (rest : List ReadCase)
        → StageStays p.settings areas domain (map (branch_case (stages_of ds) vars.row_name) bs ++ rest)
        → StageStays p.settings areas domain rest
    rest_stays [] rest stays = stays
    rest_stays (b ∷ bs) rest stays = rest_stays bs rest (λ n x there. stays (suc n) x there)

    whole_reads : (a : Node) → IsSound (symbols_declared_by_items ds) a
        → AllStay areas (IsInBox p.settings domain (whole_case vars.row_name (accesses_of (stages_of ds) a))) (accesses_of (stages_of ds) a)
        → EachRead (IsReadable (flat_map (item_stages p) ds)) (formula_of p vars a) r c
    whole_reads a sound stays =
        all_taken (reads_in (formula_of p vars a)) (accesses_of (stages_of ds) a) (reads_same ds p own vars a sound) r c
        (λ m y there. stays m y there r c (inside, tt))

    otherwise_reads : (o : Option Node) → ForSome o (IsSound (symbols_declared_by_items ds))
        → StageStays p.settings areas domain (otherwise_cases (stages_of ds) vars.row_name o)
        → ForSome (option_map (formula_of p vars) o) (λ f. EachRead (IsReadable (flat_map (item_stages p) ds)) f r c)
    otherwise_reads None sound stays = λ f is. absurd (none-some f is)
    otherwise_reads (Some a) sound stays = λ f is.
        subst (λ g. EachRead (IsReadable (flat_map (item_stages p) ds)) g r c) (same_Some (formula_of p vars a) f is)
        (whole_reads a (sound a refl) (stays 0 (whole_case vars.row_name (accesses_of (stages_of ds) a)) refl))

  function_reads : (f : Function) → IsSoundItem (symbols_declared_by_items ds) (tree.function f)
      → StageStays p.settings areas (function_stage p f).domain (item_cases (stages_of ds) (tree.function f)) → (r c : ℤ)
      → HoldsPoint (function_stage p f).domain r c → BodyReads (IsReadable (flat_map (item_stages p) ds)) (function_stage p f).body r c
  function_reads f sound stays r c inside =
      let vars : Variables = variables_of f.row f.column in
      let domain : Area = area_of p f.row f.column in
      let others = otherwise_cases (stages_of ds) f.row.name f.otherwise in (
        cases_read vars domain r c inside f.cases others sound.0 stays,
        otherwise_reads vars domain r c inside f.otherwise sound.1 (rest_stays vars domain r c inside f.cases others stays),
      )

  accumulator_reads : (a : Accumulator) → IsSoundItem (symbols_declared_by_items ds) (tree.accumulator a)
      → StageStays p.settings areas (accumulator_stage p a).domain (item_cases (stages_of ds) (tree.accumulator a)) → (r c : ℤ)
      → HoldsPoint (accumulator_stage p a).domain r c
      → BodyReads (IsReadable (flat_map (item_stages p) ds)) (accumulator_stage p a).body r c
  accumulator_reads a sound stays r c inside =
      let vars : Variables = variables_of a.row a.column in
      let P : Read → Type 0 = λ x. EachTaken (IsReadable (flat_map (item_stages p) ds)) x r c in
      let v = reads_in (formula_of p vars a.value) in
      let b = reads_in (formula_of p vars a.bin) in
      let here = whole_case a.row.name (accesses_of (stages_of ds) a.value ++ accesses_of (stages_of ds) a.bin) in
      let all : All P (v ++ b) = all_taken (v ++ b) (accesses_of (stages_of ds) a.value ++ accesses_of (stages_of ds) a.bin)
      (zip_append (IsSame ds) v b (accesses_of (stages_of ds) a.value) (accesses_of (stages_of ds) a.bin)
      (reads_same ds p own vars a.value sound.0) (reads_same ds p own vars a.bin sound.1))
      r c (λ m y there. stays 0 here refl m y there r c (inside, tt)) in
      (All-left P v b all, All-right P v b all)

  abbrev Stays : Declaration → Stage → Type 0
  Stays d s =
      StageStays p.settings areas s.domain (item_cases (stages_of ds) d) → (r c : ℤ) → HoldsPoint s.domain r c
      → BodyReads (IsReadable (flat_map (item_stages p) ds)) s.body r c

  body_reads : (d : Declaration) (x : Symbol) (s : Stage) → IsStageOf p d x s → IsSoundItem (symbols_declared_by_items ds) d → Stays d s
  body_reads (tree.param y) x s is sound = absurd is
  body_reads (tree.image i) x s is sound = subst (Stays (tree.image i)) (sym is.1) (λ stays r c inside. tt)
  body_reads (tree.table t) x s is sound = absurd is
  body_reads (tree.function f) x s is sound = subst (Stays (tree.function f)) (sym is.2) (function_reads f sound)
  body_reads (tree.accumulator a) x s is sound = subst (Stays (tree.accumulator a)) (sym is.2) (accumulator_reads a sound)
  body_reads (tree.output o) x s is sound = absurd is

  pub stage_reads : AreInBounds p.settings ds (stages_of ds) areas → (g : ℕ) (s : Stage) (at : IsAt ds p g s)
      → IsSoundItem (symbols_declared_by_items ds) at.item → (r c : ℤ) → HoldsPoint s.domain r c
      → BodyReads (IsReadable (flat_map (item_stages p) ds)) s.body r c
  stage_reads stays g s at sound =
      let own_domain = domain_at g s at in
      body_reads at.item at.declared s at.is sound
      (subst (λ (a : Area). StageStays p.settings areas a (item_cases (stages_of ds) at.item)) (sym own_domain.2.domain)
      (subst (λ (o : Option Declaration). StageStays p.settings areas own_domain.0 (declared_cases (stages_of ds) o)) at.there
      (stays g at.declared at.numbered own_domain.0 own_domain.1)))
