-- What a stage reads is what its item reads: the same stages, and in bounds.
use Rattle.std.proofs.Common.{ℕ, ◌+◌, ◌≡◌, Bool, true, false, cond, List, [], ◌∷◌, ◌++◌, length, Option, Some, None, map}
use Rattle.std.proofs.Common.{slice_get, subst, ap, sym, ◌∙◌, refl}
use Rattle.std.specs.Prelude.{All, slice_index, unwrap_or, if◌then◌else◌}
use Rattle.std.specs.List.{flat_map, AllZip}
use Rattle.std.specs.Option.{option_map, ForSome}
use Rattle.std.specs.Str.{bytes_eq}
use Rattle.std.proofs.lemmas.List.{append-nil}
use Rattle.std.proofs.lemmas.Grind.{flat_map-append}
use Rattle.std.proofs.lemmas.List.Elements.{All-head, All-tail}
use Rattle.pipe_tree.specs.Tree as tree
use Rattle.pipe_tree.specs.Tree.{Node, Branch, Declaration}
use Rattle.pipe_checks.specs.declared.symbol.Symbol.{Symbol}
use Rattle.pipe_checks.specs.declared.symbol.SymbolKind.{SymbolKind}
use Rattle.pipe_checks.specs.declared.symbol.SymbolKind.TheVariants.{Param, Table, Plane, Func, Accum}
use Rattle.pipe_checks.specs.declared.access.Access.{Access}
use Rattle.pipe_checks.specs.declared.access.Access.TheVariants as access
use Rattle.pipe_checks.specs.Graph.{links_at}
use Rattle.domains.specs.Greatest.{greatest}
use Rattle.pipe_checks.specs.inside.Search.{rank_over}
use Rattle.pipe_checks.specs.Names.{is_stage, symbols_declared_by_items, stages_of, number_of}
use Rattle.pipe_checks.specs.Accesses as accesses
use Rattle.pipe_checks.specs.Accesses.{width_of, read_at, stencil_at, accesses_of, branch_accesses, otherwise_accesses}
use Rattle.pipe_checks.specs.Accesses.{item_accesses, is_plane, links_of, graph_of}
use Rattle.pipe_checks.specs.Checking.{NoneTwice}
use Rattle.pipe_checks.proofs.Accepted.{IsReadableKind, IsNameOf, IsSoundKernel, IsSound, IsSoundBranch, IsSoundItem}
use Rattle.pipe_bounds.specs.Settings.{param_value}
use Rattle.job.specs.Formula.{row, column, number, coordinate}
use Rattle.job.specs.Pipeline.{Stage, rank_of}
use Rattle.job.specs.Reads.{Read, point, window, stage_read, reads_in, other_formula, reads_of, rank_by}
use Rattle.binding.specs.Binding.{Program, Variables, variables_of, stage_number, formula_of, case_of, item_stages}
use Rattle.pipe_bounds.specs.InBounds.{scale_of}
use Rattle.domains.specs.declared.area.Area.{Area}
use Rattle.binding.proofs.NumberLaws.{stage_named}
use Rattle.binding.proofs.StageLaws.{zip_append, IsStageOf, IsAt, rank_at, rank_of_is, links_are}

-- ---- a read of a job, and a read of the text

-- stage h is a plane or a function
pub record IsReadStage (ds : List Declaration) (h : ℕ) : Type 0 where
  pub declared : Symbol
  pub there : slice_get (stages_of ds) h ≡ Some declared
  pub kind : IsReadableKind declared.kind

abbrev pub IsSame : List Declaration → Read → Access → Type 0
IsSame ds (point g i j) (access.Read h k l) = (g ≡ h) × (i ≡ scale_of k) × (j ≡ scale_of l) × IsReadStage ds h
IsSame ds (point g i j) (access.Stencil h m n) = ⊥
IsSame ds (window g kernel) (access.Read h k l) = ⊥
IsSame ds (window g kernel) (access.Stencil h m n) =
    (g ≡ h) × (m ≡ length kernel) × (n ≡ width_of kernel) × IsSoundKernel kernel × IsReadStage ds h

pub same_stage : (ds : List Declaration) (x : Read) (y : Access) → IsSame ds x y → stage_read x ≡ accesses.stage_read y
same_stage ds (point g i j) (access.Read h k l) s = s.0
same_stage ds (point g i j) (access.Stencil h m n) s = absurd s
same_stage ds (window g kernel) (access.Read h k l) s = absurd s
same_stage ds (window g kernel) (access.Stencil h m n) s = s.0

kept : (k : SymbolKind) → IsReadableKind k → is_stage k ≡ true
kept Param h = absurd h
kept Table h = absurd h
kept Plane h = refl
kept Func h = refl
kept Accum h = absurd h

module _ (ds : List Declaration) (p : Program) (own : p.stages ≡ stages_of ds) where
  named : (x : List ℕ) → IsNameOf IsReadableKind (symbols_declared_by_items ds) x
      → (h : ℕ) × (number_of (stages_of ds) x ≡ Some h) × (stage_number p x ≡ h) × IsReadStage ds h
  named x n =
      let r = stage_named ds x n.declared n.found (kept n.declared.kind n.kind) in (
        r.0,
        r.1,
        ap (λ (xs : List Symbol). unwrap_or (number_of xs x) 0) own ∙ ap (λ (o : Option ℕ). unwrap_or o 0) r.1,
        record { declared = n.declared; there = r.2; kind = n.kind },
      )

  abbrev AreSame : List Read → List Access → Type 0
  AreSame xs ys = AllZip (IsSame ds) xs ys

  both : (xs us : List Read) (ys vs : List Access) → AreSame xs ys → AreSame us vs → AreSame (xs ++ us) (ys ++ vs)
  both = zip_append (IsSame ds)

  pub reads_same : (vars : Variables) (a : Node) → IsSound (symbols_declared_by_items ds) a
      → AreSame (reads_in (formula_of p vars a)) (accesses_of (stages_of ds) a)
  reads_same vars (tree.number n) h = tt
  reads_same vars (tree.variable x) h = name_reads_nothing (bytes_eq x vars.row_name) (bytes_eq x vars.column_name)
    where
      name_reads_nothing : (b c : Bool)
          → AreSame (reads_in (if b then coordinate row else (if c then coordinate column else number (param_value p.settings x)))) []
      name_reads_nothing true c = tt
      name_reads_nothing false true = tt
      name_reads_nothing false false = tt
  reads_same vars (tree.read x i j) h =
      let r = named x h.0 in
      subst (λ (o : Option ℕ). AreSame (point (stage_number p x) (scale_of i) (scale_of j) ∷ []) (read_at o i j)) (sym r.1)
      ((r.2, refl, refl, r.3), tt)
  reads_same vars (tree.lookup x a) h = reads_same vars a h.1
  reads_same vars (tree.unary op a) h = reads_same vars a h
  reads_same vars (tree.binary op a b) h =
      both (reads_in (formula_of p vars a)) (reads_in (formula_of p vars b)) (accesses_of (stages_of ds) a) (accesses_of (stages_of ds) b)
      (reads_same vars a h.0) (reads_same vars b h.1)
  reads_same vars (tree.ternary op a b c) h =
      both (reads_in (formula_of p vars a) ++ reads_in (formula_of p vars b)) (reads_in (formula_of p vars c))
      (accesses_of (stages_of ds) a ++ accesses_of (stages_of ds) b) (accesses_of (stages_of ds) c)
      (both (reads_in (formula_of p vars a)) (reads_in (formula_of p vars b)) (accesses_of (stages_of ds) a) (accesses_of (stages_of ds) b)
      (reads_same vars a h.0) (reads_same vars b h.1))
      (reads_same vars c h.2)
  reads_same vars (tree.literal op a n) h = reads_same vars a h.0
  reads_same vars (tree.select a relation b c d) h =
      both (reads_in (formula_of p vars a) ++ reads_in (formula_of p vars b) ++ reads_in (formula_of p vars c))
      (reads_in (formula_of p vars d)) (accesses_of (stages_of ds) a ++ accesses_of (stages_of ds) b ++ accesses_of (stages_of ds) c)
      (accesses_of (stages_of ds) d)
      (both (reads_in (formula_of p vars a) ++ reads_in (formula_of p vars b)) (reads_in (formula_of p vars c))
      (accesses_of (stages_of ds) a ++ accesses_of (stages_of ds) b) (accesses_of (stages_of ds) c)
      (both (reads_in (formula_of p vars a)) (reads_in (formula_of p vars b)) (accesses_of (stages_of ds) a) (accesses_of (stages_of ds) b)
      (reads_same vars a h.0) (reads_same vars b h.1))
      (reads_same vars c h.2))
      (reads_same vars d h.3)
  reads_same vars (tree.stencil x d k) h =
      let r = named x h.0 in
      subst (λ (o : Option ℕ). AreSame (window (stage_number p x) k ∷ []) (stencil_at o k)) (sym r.1) ((r.2, refl, refl, h.2, r.3), tt)

  -- ---- those of a stage

  cases_same : (vars : Variables) (domain : Area) (bs : List Branch) → All (IsSoundBranch (symbols_declared_by_items ds)) bs
      → AreSame (flat_map reads_in (map (λ q. q.formula) (map (case_of p vars domain) bs))) (branch_accesses (stages_of ds) bs)
  cases_same vars domain [] h = tt
  cases_same vars domain (b ∷ bs) h =
      both (reads_in (formula_of p vars b.value)) (flat_map reads_in (map (λ q. q.formula) (map (case_of p vars domain) bs)))
      (accesses_of (stages_of ds) b.value) (branch_accesses (stages_of ds) bs)
      (reads_same vars b.value (All-head (IsSoundBranch (symbols_declared_by_items ds)) b bs h).value)
      (cases_same vars domain bs (All-tail (IsSoundBranch (symbols_declared_by_items ds)) b bs h))

  otherwise_same : (vars : Variables) (o : Option Node) → ForSome o (IsSound (symbols_declared_by_items ds))
      → AreSame (flat_map reads_in (other_formula (option_map (formula_of p vars) o))) (otherwise_accesses (stages_of ds) o)
  otherwise_same vars None h = tt
  otherwise_same vars (Some a) h =
      subst (λ (xs : List Read). AreSame xs (accesses_of (stages_of ds) a)) (sym (append-nil (reads_in (formula_of p vars a))))
      (reads_same vars a (h a refl))

  pub body_same : (d : Declaration) (x : Symbol) (s : Stage) → IsStageOf p d x s → IsSoundItem (symbols_declared_by_items ds) d
      → AreSame (reads_of s.body) (item_accesses (stages_of ds) d)
  body_same (tree.param y) x s is h = absurd is
  body_same (tree.image i) x s is h = subst (λ (t : Stage). AreSame (reads_of t.body) []) (sym is.1) tt
  body_same (tree.table t) x s is h = absurd is
  body_same (tree.function f) x s is h =
      let own_names : Variables = variables_of f.row f.column in
      subst (λ (t : Stage). AreSame (reads_of t.body) (item_accesses (stages_of ds) (tree.function f))) (sym is.2)
      (subst (λ (xs : List Read). AreSame xs (branch_accesses (stages_of ds) f.cases ++ otherwise_accesses (stages_of ds) f.otherwise))
      (sym (flat_map-append reads_in (map (λ q. q.formula) (map (case_of p own_names _) f.cases))
      (other_formula (option_map (formula_of p own_names) f.otherwise))))
      (both (flat_map reads_in (map (λ q. q.formula) (map (case_of p own_names _) f.cases)))
      (flat_map reads_in (other_formula (option_map (formula_of p own_names) f.otherwise))) (branch_accesses (stages_of ds) f.cases)
      (otherwise_accesses (stages_of ds) f.otherwise)
      (cases_same own_names _ f.cases h.0) (otherwise_same own_names f.otherwise h.1)))
  body_same (tree.accumulator a) x s is h =
      let own_names : Variables = variables_of a.row a.column in
      subst (λ (t : Stage). AreSame (reads_of t.body) (item_accesses (stages_of ds) (tree.accumulator a))) (sym is.2)
      (both (reads_in (formula_of p own_names a.value)) (reads_in (formula_of p own_names a.bin) ++ []) (accesses_of (stages_of ds) a.value)
      (accesses_of (stages_of ds) a.bin)
      (reads_same own_names a.value h.0)
      (subst (λ (xs : List Read). AreSame xs (accesses_of (stages_of ds) a.bin))
      (sym (append-nil (reads_in (formula_of p own_names a.bin)))) (reads_same own_names a.bin h.1)))
  body_same (tree.output o) x s is h = absurd is

  -- ---- ranks

  module _ (once : NoneTwice (symbols_declared_by_items ds) ds) (each : length p.ranks ≡ length (stages_of ds)) where
    ranks_same : (xs : List Read) (ys : List Access) → AreSame xs ys
        → map (λ x. rank_of (flat_map (item_stages p) ds) (stage_read x)) xs ≡ map (slice_index p.ranks) (map accesses.stage_read ys)
    ranks_same [] [] h = refl
    ranks_same [] (y ∷ ys) h = absurd h
    ranks_same (x ∷ xs) [] h = absurd h
    ranks_same (x ∷ xs) (y ∷ ys) h =
        ap (λ (n : ℕ). n ∷ map (λ x. rank_of (flat_map (item_stages p) ds) (stage_read x)) xs)
        (rank_of_is ds p own once each (stage_read x) ∙ ap (slice_index p.ranks) (same_stage ds x y h.0))
        ∙ ap (λ (ns : List ℕ). slice_index p.ranks (accesses.stage_read y) ∷ ns) (ranks_same xs ys h.1)

    -- a stage that is no plane
    over_is : (k : SymbolKind) (o : Option Declaration) (d : Declaration) → is_plane k ≡ false → o ≡ Some d
        → rank_over (slice_index p.ranks) (record { is_plane = is_plane k; reads = accesses.reads_of (stages_of ds) o })
        ≡ greatest (map (slice_index p.ranks) (map accesses.stage_read (item_accesses (stages_of ds) d))) + 1
    over_is k o d e there =
        ap (λ b. cond b 0 (greatest (map (slice_index p.ranks) (accesses.reads_of (stages_of ds) o)) + 1)) e
        ∙ ap (λ (q : Option Declaration). greatest (map (slice_index p.ranks) (accesses.reads_of (stages_of ds) q)) + 1) there

    rank_is : (d : Declaration) (x : Symbol) (s : Stage) → IsStageOf p d x s → IsSoundItem (symbols_declared_by_items ds) d
        → slice_get ds x.item ≡ Some d
        → rank_over (slice_index p.ranks) (links_of ds (stages_of ds) x) ≡ rank_by (flat_map (item_stages p) ds) s.body
    rank_is (tree.param y) x s is h there = absurd is
    rank_is (tree.image i) x s is h there =
        ap (λ b. cond b 0 (greatest (map (slice_index p.ranks) (links_of ds (stages_of ds) x).reads) + 1)) (ap is_plane is.0)
        ∙ ap (λ (t : Stage). rank_by (flat_map (item_stages p) ds) t.body) (sym is.1)
    rank_is (tree.table t) x s is h there = absurd is
    rank_is (tree.function f) x s is h there =
        over_is x.kind (slice_get ds x.item) (tree.function f) (ap is_plane is.0) there
        ∙ ap (λ (ns : List ℕ). greatest ns + 1)
        (sym (ranks_same (reads_of s.body) (item_accesses (stages_of ds) (tree.function f)) (body_same (tree.function f) x s is h)))
        ∙ ap (λ (t : Stage). greatest (map (λ y. rank_of (flat_map (item_stages p) ds) (stage_read y)) (reads_of t.body)) + 1) is.2
        ∙ ap (λ (t : Stage). rank_by (flat_map (item_stages p) ds) t.body) (sym is.2)
    rank_is (tree.accumulator a) x s is h there =
        over_is x.kind (slice_get ds x.item) (tree.accumulator a) (ap is_plane is.0) there
        ∙ ap (λ (ns : List ℕ). greatest ns + 1) (sym
        (ranks_same (reads_of s.body) (item_accesses (stages_of ds) (tree.accumulator a)) (body_same (tree.accumulator a) x s is h)))
        ∙ ap (λ (t : Stage). greatest (map (λ y. rank_of (flat_map (item_stages p) ds) (stage_read y)) (reads_of t.body)) + 1) is.2
        ∙ ap (λ (t : Stage). rank_by (flat_map (item_stages p) ds) t.body) (sym is.2)
    rank_is (tree.output o) x s is h there = absurd is

    pub ranked : (g : ℕ) (s : Stage) (at : IsAt ds p g s) → IsSoundItem (symbols_declared_by_items ds) at.item
        → slice_index p.ranks g ≡ rank_over (slice_index p.ranks) (links_at (graph_of ds) g)
        → s.rank ≡ rank_by (flat_map (item_stages p) ds) s.body
    ranked g s at sound recurs =
        rank_at ds p own once g s at ∙ recurs
        ∙ ap (rank_over (slice_index p.ranks)) (links_are ds g at.declared at.numbered)
        ∙ rank_is at.item at.declared s at.is sound at.there
