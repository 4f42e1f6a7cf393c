-- Stages that have ranks lie on no cycle.
use Rattle.std.proofs.Common.{ℕ, zero, suc, ◌+◌, ◌-◌, ◌<◌, ◌≤◌, ◌≡◌, ◌⊎◌, inl, inr, true, List, [], ◌∷◌, map, length, Some, None}
use Rattle.std.proofs.Common.{get_or, slice_get, slice_index, sym, ◌∙◌, ap, refl, subst, arith}
use Rattle.std.specs.Prelude.{All, Contains}
use Rattle.std.specs.List.{AllByRecursion}
use Rattle.std.specs.Option.{option_map}
use Rattle.std.proofs.lemmas.Bool.{false≢true}
use Rattle.std.proofs.lemmas.List.{length-map}
use Rattle.std.proofs.lemmas.List.Elements.{All-nil, All-append, All-weaker, All-filter, All-from_recursion}
use Rattle.std.proofs.lemmas.Option.{slice_get_within, slice_get-map, get_or_from_slice_get, slice_get_cases}
use Rattle.pipe_tree.specs.declared.tree.Names.{Names}
use Rattle.pipe_tree.specs.declared.tree.Names.TheVariants.{One, Three}
use Rattle.pipe_tree.specs.Tree.{Declaration, param, image, table, function, accumulator, output}
use Rattle.pipe_checks.specs.declared.symbol.Symbol.{Symbol}
use Rattle.pipe_checks.specs.StageLinks.{StageLinks}
use Rattle.pipe_checks.specs.Names.{names_of, item_names, names_from, symbols_declared_by_items, stages_of}
use Rattle.pipe_checks.specs.Accesses.{item_accesses, stage_read, is_plane, reads_of, links_of, graph_of}
use Rattle.pipe_checks.specs.Graph.{links_at, IsPlane, Reads, IsRanked, IsCycle}
use Rattle.pipe_checks.proofs.Distances.{reads_within}

-- ---- planes read nothing

-- where x is a plane, the item that declares it has no reads; the items begin with number n
abbrev Blank : ℕ → List Declaration → Symbol → Type 0
Blank n ds x =
    is_plane x.kind ≡ true
    → (k : ℕ) × (x.item ≡ n + k) × (d : Declaration) × (slice_get ds k ≡ Some d) × ((names : List Symbol) → item_accesses names d ≡ [])

-- the names of an item, by the item alone
abbrev BlankHere : ℕ → Declaration → Symbol → Type 0
BlankHere n d x = is_plane x.kind ≡ true → (x.item ≡ n) × ((names : List Symbol) → item_accesses names d ≡ [])

blank_here : (n : ℕ) (d : Declaration) → AllByRecursion (BlankHere n d) (item_names n d)
blank_here n (param p) = ((λ e. absurd (false≢true e)), tt)
blank_here n (image i) = by_names i.names
  where
    by_names : (names : Names) → AllByRecursion (BlankHere n (image i)) (names_of n names)
    by_names (One x) = ((λ e. (refl, (λ names. refl))), tt)
    by_names (Three x y z) = ((λ e. (refl, (λ names. refl))), ((λ e. (refl, (λ names. refl))), ((λ e. (refl, (λ names. refl))), tt)))
blank_here n (table t) = ((λ e. absurd (false≢true e)), tt)
blank_here n (function f) = ((λ e. absurd (false≢true e)), tt)
blank_here n (accumulator a) = ((λ e. absurd (false≢true e)), tt)
blank_here n (output o) = tt

blank_from : (n : ℕ) (ds : List Declaration) → All (Blank n ds) (names_from n ds)
blank_from n [] = All-nil (Blank n [])
blank_from n (d ∷ ds) =
    All-append (Blank n (d ∷ ds)) (item_names n d) (names_from (n + 1) ds)
    (All-weaker (BlankHere n d) (Blank n (d ∷ ds)) (λ x h e. let b = h e in (0, b.0 ∙ omega arith, d, refl, b.1)) (item_names n d)
    (All-from_recursion (BlankHere n d) (item_names n d) (blank_here n d)))
    (All-weaker (Blank (n + 1) ds) (Blank n (d ∷ ds)) (λ x h e. let b = h e in (suc b.0, b.1 ∙ omega arith, b.2, b.3, b.4))
    (names_from (n + 1) ds) (blank_from (n + 1) ds))

-- the stage of a number
stage_is : (ds : List Declaration) (s : ℕ) (x : Symbol) → slice_get (stages_of ds) s ≡ Some x
    → links_at (graph_of ds) s ≡ links_of ds (stages_of ds) x
stage_is ds s x there =
    get_or_from_slice_get (graph_of ds) s (links_of ds (stages_of ds) x) _
    (slice_get-map (links_of ds (stages_of ds)) (stages_of ds) s ∙ ap (option_map (links_of ds (stages_of ds))) there)

plane_is_blank : (ds : List Declaration) (s : ℕ) (x : Symbol) → slice_get (stages_of ds) s ≡ Some x → IsPlane (graph_of ds) s
    → (links_at (graph_of ds) s).reads ≡ []
plane_is_blank ds s x there plane =
    let all = All-filter _ (Blank 0 ds) (symbols_declared_by_items ds) (blank_from 0 ds) in
    let here : Blank 0 ds x =
    subst (Blank 0 ds) (get_or_from_slice_get (stages_of ds) s x x there) (all s x (slice_get_within (stages_of ds) s x there)) in
    let is = stage_is ds s x there in
    let b = here (sym (ap (λ (l : StageLinks). l.is_plane) is) ∙ plane) in
    let item : slice_get ds x.item ≡ Some b.2 = ap (slice_get ds) (b.1 ∙ omega arith) ∙ b.3 in
    ap (λ (l : StageLinks). l.reads) is ∙ ap (reads_of (stages_of ds)) item ∙ ap (map stage_read) (b.4 (stages_of ds))

-- a plane reads nothing
pub no_plane_reads : (ds : List Declaration) (s t : ℕ) → Reads (graph_of ds) s t → IsPlane (graph_of ds) s → ⊥
no_plane_reads ds s t r plane = by_stage (slice_get_cases (stages_of ds) s).1
  where
    by_stage : ((x : Symbol) × (s < length (stages_of ds)) × (slice_get (stages_of ds) s ≡ Some x) × (get_or (stages_of ds) s x ≡ x))
        ⊎ ((length (stages_of ds) ≤ s) × (slice_get (stages_of ds) s ≡ None)) → ⊥
    by_stage (inl f) =
        let none : Contains [] t = subst (λ (xs : List ℕ). Contains xs t) (plane_is_blank ds s f.0 f.2 plane) r in
        omega (arith, none.1)
    by_stage (inr p) = omega (arith, p.0, reads_within (graph_of ds) s t r, length-map (stages_of ds) (links_of ds (stages_of ds)))

-- ---- ranks fall along a cycle

falls_along : (g : List StageLinks) (ranks c : List ℕ) → ((s t : ℕ) → Reads g s t → slice_index ranks t < slice_index ranks s) → IsCycle g c
    → (i : ℕ) → i < length c → slice_index ranks (slice_index c i) + i ≤ slice_index ranks (slice_index c 0)
falls_along g ranks c falls cycle zero l = omega arith
falls_along g ranks c falls cycle (suc i) l =
    let one : suc i ≡ i + 1 = omega arith in
    omega (
      arith,
      falls_along g ranks c falls cycle i (omega arith),
      falls _ _ (cycle.reads i (omega arith)),
      ap (λ k. slice_index ranks (slice_index c k)) one,
    )

pub no_ranked_cycle : (ds : List Declaration) (ranks c : List ℕ) → IsRanked (graph_of ds) ranks → IsCycle (graph_of ds) c → ⊥
no_ranked_cycle ds ranks c h cycle =
    let falls : (s t : ℕ) → Reads (graph_of ds) s t → slice_index ranks t < slice_index ranks s =
    λ s t r. h.above s t (no_plane_reads ds s t r) r in
    let round = falls_along (graph_of ds) ranks c falls cycle (length c - 1) (omega (arith, cycle.long)) in
    omega (arith, round, cycle.long, ap (slice_index ranks) cycle.closed)
