-- What a program says at parameters, a picture and sides of tiles that fit is a job, and there is only one.
use Rattle.std.proofs.Common.{ℕ, zero, suc, arith, ◌+◌, ◌*◌, ◌<◌, ◌≤◌, ◌≡◌, ◌⊎◌, inl, inr, ℤ, pos, ◌-ℤ◌, ◌≤ℤ◌, FitsSigned, w32}
use Rattle.std.proofs.Common.{Bool, true, false, cond, List, [], ◌∷◌, length, Option, Some, None, Ok, map, filter, slice_get}
use Rattle.std.proofs.Common.{subst, ap, sym, ◌∙◌, refl}
use Rattle.std.specs.Prelude.{All, slice_index, unwrap_or}
use Rattle.std.specs.List.{flat_map}
use Rattle.std.specs.Option.{option_map, option_map_or, ForSome}
use Rattle.std.specs.Str.{bytes_eq}
use Rattle.std.proofs.lemmas.Int.{ints}
use Rattle.std.proofs.lemmas.Option.{none-some, same_Some, slice_get_within}
use Rattle.std.proofs.lemmas.List.{length-append, append-nil}
use Rattle.std.proofs.lemmas.Grind.{flat_map-append}
use Rattle.std.proofs.lemmas.List.Elements.{All-nil, All-cons, All-head, All-tail, All-append, All-weaker, filter-append}
use Rattle.domains.specs.Span.{Ends, len_of}
use Rattle.domains.specs.Sides.{Sides, IsSides}
use Rattle.domains.specs.Tiles.{tile_rows, tile_cols}
use Rattle.domains.specs.declared.area.Area.{Area}
use Rattle.domains.proofs.Lengths.{len_is}
use Rattle.netpbm.specs.Image.{Image as Picture, IsImage}
use Rattle.pipe_tree.specs.declared.tree.Image.{Image}
use Rattle.pipe_tree.specs.declared.tree.Names.{Names}
use Rattle.pipe_tree.specs.declared.tree.Names.TheVariants.{One, Three}
use Rattle.pipe_tree.specs.declared.tree.Output.{Output as OutputText}
use Rattle.pipe_tree.specs.Sizes.{KeepsLimits}
use Rattle.pipe_tree.specs.Tree as tree
use Rattle.pipe_tree.specs.Tree.{Node, Branch, Declaration}
use Rattle.pipe_checks.specs.declared.symbol.Symbol.{Symbol}
use Rattle.pipe_checks.specs.declared.symbol.SymbolKind.{SymbolKind}
use Rattle.pipe_checks.specs.declared.symbol.SymbolKind.TheVariants.{Param, Table, Plane, Func, Accum}
use Rattle.pipe_bounds.specs.declared.params.Setting.{Setting}
use Rattle.pipe_bounds.specs.Settings.{affine_value}
use Rattle.pipe_bounds.specs.Domains.{IsSpanFrom, IsDomain}
use Rattle.pipe_checks.specs.Graph.{IsRanking}
use Rattle.pipe_checks.specs.Names.{names_of, item_names, names_from, is_stage, symbols_declared_by_items, stages_of, number_of}
use Rattle.pipe_checks.specs.Accesses.{is_plane, graph_of}
use Rattle.pipe_checks.specs.Checking.{IsNamed}
use Rattle.pipe_checks.proofs.Places.{position_within}
use Rattle.pipe_checks.proofs.Numbering.{ranking-recurs}
use Rattle.pipe_checks.proofs.Accepted.{IsFuncKind, IsTableKind, IsNameOf, IsSound, IsSoundBranch, AreFuncs, IsSoundItem, sound_item}
use Rattle.pipe_bounds.specs.InBounds.{IsInBounds}
use Rattle.job.specs.Pipeline.{Stage, Output, Pipeline}
use Rattle.job.specs.Reads.{other_formula, formulas_of}
use Rattle.job.specs.Boxes.{box_of, AreBoxed}
use Rattle.job.specs.Answers.{grid_of, has_tiles, height_of, width_of}
use Rattle.binding.specs.Binding.{Program, Variables, variables_of, stage_number, plane_number, formula_of, case_of, area_of}
use Rattle.binding.specs.Binding.{plane_stage, names_in, item_stages, item_outputs, item_images, parameter_of, job_of, AreSmall}
use Rattle.binding.specs.Binding.{item_tables, TablesFit, entries_named, AreSmallTables}
use Rattle.tables.specs.Entries.{IsEntries}
use Rattle.binding.proofs.TableLaws.{entries_named_by, entries_fit, tables_are}
use Rattle.binding.specs.Fits.{PlanesFit, ExtentsFit, HasSides, IsShaped, ShapesFit, TilesFit}
use Rattle.job.specs.WellFormed.{IsFormula, IsTest, IsFunction, InDomainRange}
use Rattle.job.specs.WellFormed.{picture_area, IsBody, IsStage, IsOutputPlane, IsOutput, IsJob}
use Rattle.job.proofs.Agreeing.{All-left, All-right}
use Rattle.job.proofs.Steps.{All-both}
use Rattle.binding.proofs.NumberLaws.{stage_named}
use Rattle.domains.proofs.Places.{all_at}
use Rattle.binding.proofs.JudgedFormulas.{zero_fits, formula_is, tests_are}
use Rattle.binding.proofs.StageLaws.{IsStageOf, IsAt, stage_at, stage_there, each_links}
use Rattle.binding.proofs.JobsKeepLimits.{stages_counted, tables_given}
use Rattle.binding.proofs.ReadLaws.{ranked}
use Rattle.binding.proofs.BoundLaws.{ends_are, span_near, item_domain, domain_at, stage_reads}

-- ---- the planes of a program

abbrev keeps : Symbol → Bool
keeps d = is_stage d.kind

abbrev planar : Symbol → Bool
planar d = is_plane d.kind

abbrev plane_names : List Image → List (List ℕ)
plane_names is = flat_map (λ i. names_in i.names) is

planes_in_names : (n : ℕ) (ns : Names) → length (filter planar (filter keeps (names_of n ns))) ≡ length (names_in ns)
planes_in_names n (One x) = refl
planes_in_names n (Three x y z) = refl

planes_in_item : (n : ℕ) (d : Declaration) → length (filter planar (filter keeps (item_names n d))) ≡ length (plane_names (item_images d))
planes_in_item n (tree.param x) = refl
planes_in_item n (tree.image i) = planes_in_names n i.names ∙ sym (ap (λ (xs : List (List ℕ)). length xs) (append-nil (names_in i.names)))
planes_in_item n (tree.table t) = refl
planes_in_item n (tree.function f) = refl
planes_in_item n (tree.accumulator a) = refl
planes_in_item n (tree.output o) = refl

planes_from : (n : ℕ) (ds : List Declaration)
    → length (filter planar (filter keeps (names_from n ds))) ≡ length (plane_names (flat_map item_images ds))
planes_from n [] = refl
planes_from n (d ∷ ds) =
    let here = filter keeps (item_names n d) in
    let others = filter keeps (names_from (n + 1) ds) in
    let left : length (filter planar (filter keeps (names_from n (d ∷ ds)))) ≡ length (filter planar here) + length (filter planar others) =
    ap (λ (xs : List Symbol). length (filter planar xs)) (filter-append keeps (item_names n d) (names_from (n + 1) ds))
    ∙ ap (λ (xs : List Symbol). length xs) (filter-append planar here others)
    ∙ length-append (filter planar here) (filter planar others) in
    let right : length (plane_names (flat_map item_images (d ∷ ds))) ≡ length (plane_names (item_images d)) + length
    (plane_names (flat_map item_images ds)) =
    ap (λ (xs : List (List ℕ)). length xs) (flat_map-append (λ (i : Image). names_in i.names) (item_images d) (flat_map item_images ds))
    ∙ length-append (plane_names (item_images d)) (plane_names (flat_map item_images ds)) in
    let first = planes_in_item n d in
    let rest = planes_from (n + 1) ds in
    omega arith

planes_are : (ds : List Declaration) (i : Image) → flat_map item_images ds ≡ i ∷ []
    → length (filter planar (stages_of ds)) ≡ length (names_in i.names)
planes_are ds i declared =
    planes_from 0 ds ∙ ap (λ (is : List Image). length (plane_names is)) declared
    ∙ ap (λ (xs : List (List ℕ)). length xs) (append-nil (names_in i.names))

all_images : (P : Image → Type 0) (ds : List Declaration) → All P (flat_map item_images ds) → (k : ℕ) (j : Image)
    → slice_get ds k ≡ Some (tree.image j) → P j
all_images P [] each k j there = absurd (none-some (tree.image j) there)
all_images P (d ∷ ds) each zero j there =
    All-head P j [] (subst (λ (e : Declaration). All P (item_images e)) (same_Some d (tree.image j) there)
    (All-left P (item_images d) (flat_map item_images ds) each))
all_images P (d ∷ ds) each (suc k) j there = all_images P ds (All-right P (item_images d) (flat_map item_images ds) each) k j there

only_image : (ds : List Declaration) (i : Image) → flat_map item_images ds ≡ i ∷ [] → (k : ℕ) (j : Image)
    → slice_get ds k ≡ Some (tree.image j) → j ≡ i
only_image ds i declared =
    all_images (λ (q : Image). q ≡ i) ds
    (subst (All (λ (q : Image). q ≡ i)) (sym declared) (All-cons (λ (q : Image). q ≡ i) i [] refl (All-nil (λ (q : Image). q ≡ i))))

-- ---- the output of a program

-- what an item tells as output
pub record Tells (p : Program) (ds : List Declaration) (o : Output) : Type 0 where
  pub place : ℕ
  pub output : OutputText
  pub there : slice_get ds place ≡ Some (tree.output output)
  pub is : o ≡ record { stages = map (stage_number p) (names_in output.names); max = output.max }

tells_later : (p : Program) (d : Declaration) (ds : List Declaration) (o : Output) → Tells p ds o → Tells p (d ∷ ds) o
tells_later p d ds o h = record { place = suc h.place; output = h.output; there = h.there; is = h.is }

tells_here : (p : Program) (d : Declaration) (ds : List Declaration) → All (Tells p (d ∷ ds)) (item_outputs p d)
tells_here p (tree.param x) ds = All-nil (Tells p (tree.param x ∷ ds))
tells_here p (tree.image i) ds = All-nil (Tells p (tree.image i ∷ ds))
tells_here p (tree.table t) ds = All-nil (Tells p (tree.table t ∷ ds))
tells_here p (tree.function f) ds = All-nil (Tells p (tree.function f ∷ ds))
tells_here p (tree.accumulator a) ds = All-nil (Tells p (tree.accumulator a ∷ ds))
tells_here p (tree.output o) ds =
    All-cons (Tells p (tree.output o ∷ ds)) (record { stages = map (stage_number p) (names_in o.names); max = o.max }) []
    (record { place = 0; output = o; there = refl; is = refl }) (All-nil (Tells p (tree.output o ∷ ds)))

all_tell : (p : Program) (ds : List Declaration) → All (Tells p ds) (flat_map (item_outputs p) ds)
all_tell p [] = All-nil (Tells p [])
all_tell p (d ∷ ds) =
    All-append (Tells p (d ∷ ds)) (item_outputs p d) (flat_map (item_outputs p) ds) (tells_here p d ds)
    (All-weaker (Tells p ds) (Tells p (d ∷ ds)) (tells_later p d ds) (flat_map (item_outputs p) ds) (all_tell p ds))

-- ---- lists

All-made : {X Y : Type 0} (P : Y → Type 0) (f : X → Y) (Q : X → Type 0) → ((x : X) → Q x → P (f x)) → (xs : List X) → All Q xs
    → All P (map f xs)
All-made P f Q step [] h = All-nil P
All-made P f Q step (x ∷ xs) h = All-cons P (f x) (map f xs) (step x (All-head Q x xs h)) (All-made P f Q step xs (All-tail Q x xs h))

All-made_each : {X Y : Type 0} (P : Y → Type 0) (f : X → Y) → ((x : X) → P (f x)) → (xs : List X) → All P (map f xs)
All-made_each P f step [] = All-nil P
All-made_each P f step (x ∷ xs) = All-cons P (f x) (map f xs) (step x) (All-made_each P f step xs)

near_long : (s : Ends) → InDomainRange s → 1 ≤ len_of s
near_long s h = let len = len_is s h.span in let ordered = h.span.ordered in omega (arith, ints)

func_kept : (k : SymbolKind) → IsFuncKind k → is_stage k ≡ true
func_kept Param h = absurd h
func_kept Table h = absurd h
func_kept Plane h = absurd h
func_kept Func h = refl
func_kept Accum h = absurd h

one_or_three : (ns : Names) (f : List ℕ → ℕ) → (length (map f (names_in ns)) ≡ 1) ⊎ (length (map f (names_in ns)) ≡ 3)
one_or_three (One x) f = inl refl
one_or_three (Three x y z) f = inr refl

all_funcs : (names : List Symbol) (ns : Names) → AreFuncs names ns → All (IsNameOf IsFuncKind names) (names_in ns)
all_funcs names (One x) h = All-cons (IsNameOf IsFuncKind names) x [] h (All-nil (IsNameOf IsFuncKind names))
all_funcs names (Three x y z) h =
    All-cons (IsNameOf IsFuncKind names) x (y ∷ z ∷ []) h.0 (All-cons (IsNameOf IsFuncKind names) y (z ∷ []) h.1
    (All-cons (IsNameOf IsFuncKind names) z [] h.2 (All-nil (IsNameOf IsFuncKind names))))

-- ---- the job

module _ (ds : List Declaration) (named : IsNamed ds) (p : Program) (own : p.stages ≡ stages_of ds) (small : AreSmall p.settings)
    (bounds : IsInBounds p.settings ds) (fit : TablesFit p.settings (flat_map item_tables ds) p.tables)
    (numbers : AreSmallTables p.tables) where
  abbrev stages : List Stage
  stages = flat_map (item_stages p) ds

  sound_at : (g : ℕ) (s : Stage) (at : IsAt ds p g s) → IsSoundItem (symbols_declared_by_items ds) at.item
  sound_at g s at = sound_item (symbols_declared_by_items ds) at.item (named.good at.declared.item at.item at.there)

  near_at : (g : ℕ) (s : Stage) → slice_get stages g ≡ Some s → InDomainRange s.domain.rows × InDomainRange s.domain.cols
  near_at g s there =
      let d = domain_at ds p own bounds.areas bounds.domains g s (stage_at ds p g s there) in (
        subst (λ (a : Area). InDomainRange a.rows) (sym d.2.domain) d.2.rows,
        subst (λ (a : Area). InDomainRange a.cols) (sym d.2.domain) d.2.cols,
      )

  -- ---- boxes and formulas

  handed : (x : List ℕ) → IsNameOf IsTableKind (symbols_declared_by_items ds) x → IsEntries (entries_named p x)
  handed x n = entries_fit p.tables x numbers (entries_named_by ds p.settings p.tables bounds.tables fit x n)

  boxed : (d : Declaration) (x : Symbol) (s : Stage) → IsStageOf p d x s → AreBoxed s.domain s.body
  boxed (tree.param y) x s is = absurd is
  boxed (tree.image i) x s is = subst (λ (t : Stage). AreBoxed t.domain t.body) (sym is.1) tt
  boxed (tree.table t) x s is = absurd is
  boxed (tree.function f) x s is =
      let domain : Area = area_of p f.row f.column in
      subst (λ (t : Stage). AreBoxed t.domain t.body) (sym is.2)
      (All-made_each (λ q. q.box ≡ box_of domain q.tests) (case_of p (variables_of f.row f.column) domain) (λ b. refl) f.cases)
  boxed (tree.accumulator a) x s is = subst (λ (t : Stage). AreBoxed t.domain t.body) (sym is.2) tt
  boxed (tree.output o) x s is = absurd is

  other_is : (vars : Variables) (o : Option Node) → ForSome o (IsSound (symbols_declared_by_items ds))
      → All IsFormula (other_formula (option_map (formula_of p vars) o))
  other_is vars None sound = All-nil IsFormula
  other_is vars (Some a) sound =
      All-cons IsFormula (formula_of p vars a) [] (formula_is p vars small (symbols_declared_by_items ds) handed a (sound a refl)) (All-nil IsFormula)

  cases_are : (vars : Variables) (domain : Area) (bs : List Branch) → All (IsSoundBranch (symbols_declared_by_items ds)) bs
      → All IsFormula (map (λ q. q.formula) (map (case_of p vars domain) bs))
  cases_are vars domain [] sound = All-nil IsFormula
  cases_are vars domain (b ∷ bs) sound =
      All-cons IsFormula (formula_of p vars b.value) (map (λ q. q.formula) (map (case_of p vars domain) bs))
      (formula_is p vars small (symbols_declared_by_items ds) handed b.value (All-head (IsSoundBranch (symbols_declared_by_items ds)) b bs sound).value)
      (cases_are vars domain bs (All-tail (IsSoundBranch (symbols_declared_by_items ds)) b bs sound))

  formulas_are : (d : Declaration) (x : Symbol) (s : Stage) → IsStageOf p d x s → IsSoundItem (symbols_declared_by_items ds) d
      → All IsFormula (formulas_of s.body)
  formulas_are (tree.param y) x s is sound = absurd is
  formulas_are (tree.image i) x s is sound = subst (λ (t : Stage). All IsFormula (formulas_of t.body)) (sym is.1) (All-nil IsFormula)
  formulas_are (tree.table t) x s is sound = absurd is
  formulas_are (tree.function f) x s is sound =
      let vars : Variables = variables_of f.row f.column in
      let domain : Area = area_of p f.row f.column in
      subst (λ (t : Stage). All IsFormula (formulas_of t.body)) (sym is.2)
      (All-append IsFormula (map (λ q. q.formula) (map (case_of p vars domain) f.cases))
      (other_formula (option_map (formula_of p vars) f.otherwise)) (cases_are vars domain f.cases sound.0)
      (other_is vars f.otherwise sound.1))
  formulas_are (tree.accumulator a) x s is sound =
      let vars : Variables = variables_of a.row a.column in
      subst (λ (t : Stage). All IsFormula (formulas_of t.body)) (sym is.2)
      (All-cons IsFormula (formula_of p vars a.value) (formula_of p vars a.bin ∷ [])
      (formula_is p vars small (symbols_declared_by_items ds) handed a.value sound.0)
      (All-cons IsFormula (formula_of p vars a.bin) [] (formula_is p vars small (symbols_declared_by_items ds) handed a.bin sound.1) (All-nil IsFormula)))
  formulas_are (tree.output o) x s is sound = absurd is

  -- ---- bodies

  bins_fit : (first last : ℤ) (e : Ends) → IsSpanFrom first last e → (last -ℤ first) ≤ℤ pos 4095
      → InDomainRange (record { lo = first; hi = last }) × (len_of (record { lo = first; hi = last }) ≤ 4096)
  bins_fit first last e h few =
      let near : InDomainRange (record { lo = first; hi = last }) =
      subst InDomainRange (sym (ends_are first last e h)) (span_near first last e h) in
      let len = len_is (record { lo = first; hi = last }) near.span in
      (near, omega (arith, ints))

  module _ (picture : Picture) (i : Image) (declared : flat_map item_images ds ≡ i ∷ []) (planes : PlanesFit i picture)
      (extents : ExtentsFit p.settings i picture) where
    some_name : (ns : Names) → 1 ≤ length (names_in ns)
    some_name (One x) = omega arith
    some_name (Three x y z) = omega arith

    plane_below : (x : List ℕ) → plane_number p x < length picture.planes
    plane_below x = by (number_of (filter planar p.stages) x) refl
      where
        by : (o : Option ℕ) → number_of (filter planar p.stages) x ≡ o → unwrap_or o 0 < length picture.planes
        by None is = let some = some_name i.names in omega (arith, planes)
        by (Some k) is =
            let within = position_within (λ d. bytes_eq d.name x) (filter planar p.stages) k is in
            let same = ap (λ (xs : List Symbol). length (filter planar xs)) own in
            let all = planes_are ds i declared in
            omega (arith, planes)

    abbrev from_zero : ℤ → Ends
    from_zero side = record { lo = pos 0; hi = side -ℤ pos 1 }

    plane_area : (x : List ℕ) → (plane_stage p i x).domain ≡ picture_area picture
    plane_area x =
        let down : Ends → Area = λ e. record { rows = e; cols = record { lo = pos 0; hi = affine_value p.settings i.columns -ℤ pos 1 } } in
        let right : Ends → Area = λ e. record { rows = record { lo = pos 0; hi = pos picture.rows -ℤ pos 1 }; cols = e } in
        ap down (ap from_zero extents.0) ∙ ap right (ap from_zero extents.1)

    body_is : (g : ℕ) (s : Stage) (at : IsAt ds p g s) → IsBody picture s.domain s.body
    body_is g s at = by at.item at.is at.there (sound_at g s at) (item_domain ds p own bounds.areas bounds.domains g s at).2
      where
        by : (d : Declaration) → IsStageOf p d at.declared s → slice_get ds at.declared.item ≡ Some d → IsSoundItem (symbols_declared_by_items ds) d
            → IsDomain p.settings d (Ok (item_domain ds p own bounds.areas bounds.domains g s at).0) → IsBody picture s.domain s.body
        by (tree.param y) is there sound h = absurd is
        by (tree.image j) is there sound h =
            let x = at.declared.name in
            subst (λ (t : Stage). IsBody picture t.domain t.body)
            (sym (is.1 ∙ ap (λ (q : Image). plane_stage p q x) (only_image ds i declared at.declared.item j there)))
            (plane_below x, plane_area x)
        by (tree.table t) is there sound h = absurd is
        by (tree.function f) is there sound h =
            let vars : Variables = variables_of f.row f.column in
            let domain : Area = area_of p f.row f.column in
            subst (λ (t : Stage). IsBody picture t.domain t.body) (sym is.2)
            (All-made (λ q. All IsTest q.tests) (case_of p vars domain) (IsSoundBranch (symbols_declared_by_items ds))
            (λ b good. tests_are p vars b.condition good.tests) f.cases sound.0)
        by (tree.accumulator a) is there sound h =
            let first : ℤ = affine_value p.settings a.bins.first in
            let last : ℤ = affine_value p.settings a.bins.last in
            let few = h.1.1 in
            subst (λ (t : Stage). IsBody picture t.domain t.body) (sym is.2) (bins_fit first last h.0 h.1.0 (omega (arith, ints)))
        by (tree.output o) is there sound h = absurd is

    -- ---- the whole

    module _ (sides : Sides) (ranking : IsRanking (graph_of ds) p.ranks) (tiles : TilesFit (job_of p ds picture sides)) where
      abbrev job : Pipeline
      job = job_of p ds picture sides

      if_true : (b : Bool) (n m : ℕ) → cond b n 0 ≤ m → b ≡ true → n ≤ m
      if_true true n m h e = h
      if_true false n m h e = absurd (cc)

      stage_is : (g : ℕ) (s : Stage) → slice_get stages g ≡ Some s → IsStage job s
      stage_is g s there =
          let at = stage_at ds p g s there in
          let sound = sound_at g s at in
          let near = near_at g s there in
          let each : length p.ranks ≡ length (stages_of ds) = ranking.ranked.each ∙ each_links ds in
          let within : g < length (graph_of ds) = omega (arith, each_links ds, slice_get_within (stages_of ds) g at.declared at.numbered) in
          record {
            rank = ranked ds p own named.once each g s at sound (ranking-recurs (graph_of ds) p.ranks ranking g within);
            rows = near.0;
            cols = near.1;
            body = body_is g s at;
            boxes = boxed at.item at.declared s at.is;
            formulas = formulas_are at.item at.declared s at.is sound;
            reads = stage_reads ds p own bounds.areas bounds.domains bounds.stays g s at sound;
            tiles =
                λ has. if_true (has_tiles s.body) (tile_rows (grid_of job s) * tile_cols (grid_of job s)) 65536
                (tiles g s (slice_get_within stages g s there) there) has;
          }

      -- ---- the output

      -- stage g is a function
      record IsFunctionAt (g : ℕ) : Type 0 where
        stage : Stage
        there : slice_get stages g ≡ Some stage
        function : IsFunction stage.body
        rows : 1 ≤ len_of stage.domain.rows
        cols : 1 ≤ len_of stage.domain.cols

      function_body : (d : Declaration) (x : Symbol) (s : Stage) → IsStageOf p d x s → IsFuncKind x.kind → IsFunction s.body
      function_body (tree.param y) x s is k = absurd is
      function_body (tree.image j) x s is k = absurd (subst IsFuncKind is.0 k)
      function_body (tree.table t) x s is k = absurd is
      function_body (tree.function f) x s is k = subst (λ (t : Stage). IsFunction t.body) (sym is.2) tt
      function_body (tree.accumulator a) x s is k = absurd (subst IsFuncKind is.0 k)
      function_body (tree.output o) x s is k = absurd is

      function_named : (x : List ℕ) → IsNameOf IsFuncKind (symbols_declared_by_items ds) x → IsFunctionAt (stage_number p x)
      function_named x n =
          let r = stage_named ds x n.declared n.found (func_kept n.declared.kind n.kind) in
          let number : r.0 ≡ stage_number p x =
          sym (ap (λ (xs : List Symbol). unwrap_or (number_of xs x) 0) own ∙ ap (λ (o : Option ℕ). unwrap_or o 0) r.1) in
          let s = stage_there ds p r.0 n.declared r.2 in
          let same : n.declared ≡ s.2.declared = same_Some n.declared s.2.declared (sym r.2 ∙ s.2.numbered) in
          let near = near_at r.0 s.0 s.1 in
          record {
            stage = s.0;
            there = ap (slice_get stages) (sym number) ∙ s.1;
            function = function_body s.2.item s.2.declared s.0 s.2.is (subst (λ (d : Symbol). IsFuncKind d.kind) same n.kind);
            rows = near_long s.0.domain.rows near.0;
            cols = near_long s.0.domain.cols near.1;
          }

      height_is : (g : ℕ) (h : IsFunctionAt g) → height_of job g ≡ len_of h.stage.domain.rows
      height_is g h = ap (λ (o : Option Stage). option_map_or (λ s. len_of s.domain.rows) o 0) h.there

      width_is : (g : ℕ) (h : IsFunctionAt g) → width_of job g ≡ len_of h.stage.domain.cols
      width_is g h = ap (λ (o : Option Stage). option_map_or (λ s. len_of s.domain.cols) o 0) h.there

      plane_of : (height width g : ℕ) → IsFunctionAt g → HasSides job height width g → IsOutputPlane job height width g
      plane_of height width g h same = record {
        stage = h.stage;
        there = h.there;
        function = h.function;
        rows = sym (height_is g h) ∙ same.0;
        cols = sym (width_is g h) ∙ same.1;
      }

      first_of : (ns : Names) → All IsFunctionAt (map (stage_number p) (names_in ns))
          → IsFunctionAt (slice_index (map (stage_number p) (names_in ns)) 0)
      first_of (One x) h = All-head IsFunctionAt (stage_number p x) [] h
      first_of (Three x y z) h = All-head IsFunctionAt (stage_number p x) (stage_number p y ∷ stage_number p z ∷ []) h

      output_is : (o : OutputText) → AreFuncs (symbols_declared_by_items ds) o.names → 1 ≤ o.max → o.max ≤ 65535
          → IsShaped job (record { stages = map (stage_number p) (names_in o.names); max = o.max })
          → IsOutput job (record { stages = map (stage_number p) (names_in o.names); max = o.max })
      output_is o funcs least most shaped =
          let all : All IsFunctionAt (map (stage_number p) (names_in o.names)) =
          All-made IsFunctionAt (stage_number p) (IsNameOf IsFuncKind (symbols_declared_by_items ds)) function_named (names_in o.names)
          (all_funcs (symbols_declared_by_items ds) o.names funcs) in
          let first = first_of o.names all in
          let g : ℕ = slice_index (map (stage_number p) (names_in o.names)) 0 in
          record {
            planes = one_or_three o.names (stage_number p);
            height = record { least = omega (arith, height_is g first, first.rows); most = shaped.height };
            width = record { least = omega (arith, width_is g first, first.cols); most = shaped.width };
            equal_sides =
                All-both IsFunctionAt (HasSides job (height_of job g) (width_of job g))
                (IsOutputPlane job (height_of job g) (width_of job g)) (plane_of (height_of job g) (width_of job g))
                (map (stage_number p) (names_in o.names)) all shaped.equal_sides;
            max = record { least = least; most = most };
          }

      outputs_are : ShapesFit job → ForSome job.output (IsOutput job)
      outputs_are shapes = λ o is.
          let t : Tells p ds o = all_at (Tells p ds) (flat_map (item_outputs p) ds) 0 o (all_tell p ds) is in
          let sound = sound_item (symbols_declared_by_items ds) (tree.output t.output) (named.good t.place (tree.output t.output) t.there) in
          subst (IsOutput job) (sym t.is) (output_is t.output sound.0 sound.1.0 sound.1.1 (subst (IsShaped job) t.is (shapes o is)))

      -- ---- parameters

      value_fits : (k : ℕ) (s : Setting) (o : Option ℤ) → slice_get p.settings k ≡ Some s → s.value ≡ o
          → FitsSigned w32 (unwrap_or o (pos 0))
      value_fits k s None there is = zero_fits
      value_fits k s (Some v) there is = small k s v there is

      values_fit : (ss : List Setting) → ((k : ℕ) (s : Setting) → slice_get ss k ≡ Some s → FitsSigned w32 (unwrap_or s.value (pos 0)))
          → All (λ q. FitsSigned w32 q.value) (map parameter_of ss)
      values_fit [] each = All-nil (λ q. FitsSigned w32 q.value)
      values_fit (s ∷ ss) each =
          All-cons (λ q. FitsSigned w32 q.value) (parameter_of s) (map parameter_of ss) (each 0 s refl)
          (values_fit ss (λ k t there. each (suc k) t there))

      pub job_is : KeepsLimits ds → ShapesFit job → IsImage picture → IsSides sides → IsJob job
      job_is limits shapes image tile_sides = record {
        stages = stage_is;
        few_stages = omega (arith, stages_counted p ds, limits.few_stages);
        output = outputs_are shapes;
        params = values_fit p.settings (λ k s there. value_fits k s s.value there refl);
        tables = tables_are ds p.settings p.tables bounds.tables fit numbers;
        few_tables = omega (arith, tables_given p.settings ds p.tables fit, limits.few_tables);
        picture = image;
        sides = tile_sides;
      }
