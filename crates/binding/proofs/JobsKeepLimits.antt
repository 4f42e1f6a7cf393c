-- The limits of a text are limits of its job.
use Rattle.std.proofs.Common.{ℕ, arith, ◌+◌, ◌≤◌, ◌≡◌, Bool, List, [], ◌∷◌, length, Option, Some, None, map, filter, subst, ap}
use Rattle.std.proofs.Common.{sym, ◌∙◌, refl}
use Rattle.std.specs.Prelude.{sum_by}
use Rattle.std.specs.List.{flat_map}
use Rattle.std.proofs.lemmas.List.{length-append, length-map}
use Rattle.std.proofs.lemmas.List.Sums.{sum_by-cons}
use Rattle.std.proofs.lemmas.List.Elements.{filter-append}
use Rattle.domains.specs.Sides.{Sides}
use Rattle.netpbm.specs.Image.{Image as Picture}
use Rattle.pipe_tree.specs.declared.tree.Image.{Image}
use Rattle.pipe_tree.specs.declared.tree.Names.{Names}
use Rattle.pipe_tree.specs.declared.tree.Names.TheVariants.{One, Three}
use Rattle.pipe_tree.specs.Sizes.{stages, params, tables, cases, node_size, optional_size, names_size, item_size, size, KeepsLimits}
use Rattle.pipe_tree.specs.Tree as tree
use Rattle.pipe_tree.specs.Tree.{Node, Branch, Declaration}
use Rattle.pipe_checks.specs.declared.symbol.Symbol.{Symbol}
use Rattle.pipe_bounds.specs.declared.params.Setting.{Setting}
use Rattle.pipe_checks.specs.Names.{names_of, item_names, names_from, is_param, params_of, stages_of}
use Rattle.job.specs.Pipeline.{Stage, Pipeline}
use Rattle.binding.specs.Binding.{Program, variables_of, area_of, case_of, function_stage, plane_stage, names_in, item_stages}
use Rattle.binding.specs.Binding.{settings_for, parameter_of, item_tables, IsTableFit, TablesFit, IsJobOf}
use Rattle.std.proofs.lemmas.Slice.Zip.{AllZip-long}
use Rattle.job.specs.WellFormed.{case_count, IsSmall}
use Rattle.tables.specs.declared.table.Table.{Table}
use Rattle.domains.proofs.Places.{all_at}
use Rattle.binding.proofs.StageLaws.{IsStageOf, stage_at}

-- ---- what weighs nothing

no_node : (a : Node) → node_size 0 a ≡ 0
no_node (tree.number n) = refl
no_node (tree.variable x) = refl
no_node (tree.read x i j) = refl
no_node (tree.lookup x a) = omega (arith, no_node a)
no_node (tree.unary op a) = omega (arith, no_node a)
no_node (tree.binary op a b) = omega (arith, no_node a, no_node b)
no_node (tree.ternary op a b c) = omega (arith, no_node a, no_node b, no_node c)
no_node (tree.literal op a n) = omega (arith, no_node a)
no_node (tree.select a r b c d) = omega (arith, no_node a, no_node b, no_node c, no_node d)
no_node (tree.stencil x d k) = refl

no_option : (o : Option Node) → optional_size 0 o ≡ 0
no_option None = refl
no_option (Some a) = no_node a

-- each case weighs w
cases_weigh : (w : ℕ) (bs : List Branch) → sum_by (λ c. w + node_size 0 c.value) bs ≡ sum_by (λ c. w) bs
cases_weigh w [] = refl
cases_weigh w (b ∷ bs) =
    omega (
      arith,
      sum_by-cons (λ (q : Branch). w + node_size 0 q.value) b bs,
      sum_by-cons (λ (q : Branch). w) b bs,
      no_node b.value,
      cases_weigh w bs,
    )

none_weigh : (bs : List Branch) → sum_by (λ c. 0) bs ≡ 0
none_weigh [] = refl
none_weigh (b ∷ bs) = omega (arith, sum_by-cons (λ (q : Branch). 0) b bs, none_weigh bs)

each_weighs : (bs : List Branch) → sum_by (λ c. 1) bs ≡ length bs
each_weighs [] = refl
each_weighs (b ∷ bs) = omega (arith, sum_by-cons (λ (q : Branch). 1) b bs, each_weighs bs)

-- ---- stages

planes_counted : (p : Program) (i : List ℕ → Stage) (ns : Names) → length (map i (names_in ns)) ≡ names_size 1 ns
planes_counted p i (One x) = refl
planes_counted p i (Three x y z) = refl

stages_in_item : (p : Program) (d : Declaration) → length (item_stages p d) ≡ item_size stages d
stages_in_item p (tree.param x) = refl
stages_in_item p (tree.image i) = planes_counted p (plane_stage p i) i.names
stages_in_item p (tree.table t) = refl
stages_in_item p (tree.function f) = omega (arith, cases_weigh 0 f.cases, none_weigh f.cases, no_option f.otherwise)
stages_in_item p (tree.accumulator a) = omega (arith, no_node a.value, no_node a.bin)
stages_in_item p (tree.output o) = refl

pub stages_counted : (p : Program) (ds : List Declaration) → length (flat_map (item_stages p) ds) ≡ size stages ds
stages_counted p [] = refl
stages_counted p (d ∷ ds) =
    omega (
      arith,
      length-append (item_stages p d) (flat_map (item_stages p) ds),
      sum_by-cons (item_size stages) d ds,
      stages_in_item p d,
      stages_counted p ds,
    )

-- ---- tables

tables_in_item : (d : Declaration) → length (item_tables d) ≡ item_size tables d
tables_in_item (tree.param x) = refl
tables_in_item (tree.image i) = no_planes i.names
  where
    no_planes : (ns : Names) → 0 ≡ names_size 0 ns
    no_planes (One x) = refl
    no_planes (Three x y z) = refl
tables_in_item (tree.table t) = refl
tables_in_item (tree.function f) = omega (arith, cases_weigh 0 f.cases, none_weigh f.cases, no_option f.otherwise)
tables_in_item (tree.accumulator a) = omega (arith, no_node a.value, no_node a.bin)
tables_in_item (tree.output o) = refl

tables_counted : (ds : List Declaration) → length (flat_map item_tables ds) ≡ size tables ds
tables_counted [] = refl
tables_counted (d ∷ ds) =
    omega (
      arith,
      length-append (item_tables d) (flat_map item_tables ds),
      sum_by-cons (item_size tables) d ds,
      tables_in_item d,
      tables_counted ds,
    )

-- as many are given as are declared
pub tables_given : (ss : List Setting) (ds : List Declaration) (given : List Table) → TablesFit ss (flat_map item_tables ds) given
    → length given ≡ size tables ds
tables_given ss ds given fit = AllZip-long (IsTableFit ss) (flat_map item_tables ds) given fit ∙ tables_counted ds

-- ---- parameters

abbrev is_a_param : Symbol → Bool
is_a_param d = is_param d.kind

no_params : (n : ℕ) (ns : Names) → length (filter is_a_param (names_of n ns)) ≡ names_size 0 ns
no_params n (One x) = refl
no_params n (Three x y z) = refl

params_in_item : (n : ℕ) (d : Declaration) → length (filter is_a_param (item_names n d)) ≡ item_size params d
params_in_item n (tree.param x) = refl
params_in_item n (tree.image i) = no_params n i.names
params_in_item n (tree.table t) = refl
params_in_item n (tree.function f) = omega (arith, cases_weigh 0 f.cases, none_weigh f.cases, no_option f.otherwise)
params_in_item n (tree.accumulator a) = omega (arith, no_node a.value, no_node a.bin)
params_in_item n (tree.output o) = refl

params_counted : (n : ℕ) (ds : List Declaration) → length (filter is_a_param (names_from n ds)) ≡ size params ds
params_counted n [] = refl
params_counted n (d ∷ ds) =
    ap (λ (xs : List Symbol). length xs) (filter-append is_a_param (item_names n d) (names_from (n + 1) ds))
    ∙ omega (
      arith,
      length-append (filter is_a_param (item_names n d)) (filter is_a_param (names_from (n + 1) ds)),
      sum_by-cons (item_size params) d ds,
      params_in_item n d,
      params_counted (n + 1) ds,
    )

-- ---- job_cases

abbrev FewCases : Stage → Type 0
FewCases s = case_count s.body ≤ 16

few_cases : (p : Program) (d : Declaration) (x : Symbol) (s : Stage) → IsStageOf p d x s → item_size cases d ≤ 16 → FewCases s
few_cases p (tree.param y) x s is few = absurd is
few_cases p (tree.image i) x s is few = subst FewCases (sym is.1) (omega arith)
few_cases p (tree.table t) x s is few = absurd is
few_cases p (tree.function f) x s is few =
    let count : case_count (function_stage p f).body ≡ length f.cases =
    length-map f.cases (case_of p (variables_of f.row f.column) (area_of p f.row f.column)) in
    subst FewCases (sym is.2) (omega (arith, few, count, cases_weigh 1 f.cases, each_weighs f.cases))
few_cases p (tree.accumulator a) x s is few = subst FewCases (sym is.2) (omega arith)
few_cases p (tree.output o) x s is few = absurd is

-- ---- the whole

few_settings : (items : List Declaration) (i : Image) (picture : Picture) (given : List Setting)
    → map (λ s. s.name) given ≡ map (λ d. d.name) (params_of items)
    → length (map parameter_of (settings_for i picture given)) ≡ size params items
few_settings items i picture given named =
    length-map (settings_for i picture given) parameter_of ∙ length-map given _
    ∙ sym (length-map given (λ (s : Setting). s.name))
    ∙ ap (λ (xs : List (List ℕ)). length xs) named
    ∙ length-map (params_of items) (λ (d : Symbol). d.name)
    ∙ params_counted 0 items

pub small_job : (items : List Declaration) (given : List Setting) (handed : List Table) (picture : Picture) (sides : Sides) (job : Pipeline) → KeepsLimits items
    → IsJobOf items given handed picture sides job → IsSmall job
small_job items given handed picture sides job limits h =
    let p : Program =
    record { stages = stages_of items; ranks = h.ranks; settings = settings_for h.image picture given; tables = handed } in
    subst IsSmall (sym h.is) (record {
      few_stages = omega (arith, stages_counted p items, limits.few_stages);
      few_params = omega (arith, few_settings items h.image picture given h.params, limits.few_params);
      few_cases = λ g s there.
          let at = stage_at items p g s there in
          few_cases p at.item at.declared s at.is
          (all_at (λ d. item_size cases d ≤ 16) items at.declared.item at.item limits.few_cases at.there);
    })
