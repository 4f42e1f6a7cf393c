-- The stages of a job, one for each that the program declares, and their ranks.
use Rattle.std.proofs.Common.{ℕ, zero, suc, arith, ◌+◌, ◌<◌, ◌≤◌, ◌≡◌, ◌⊎◌, inl, inr, List, [], ◌∷◌, ◌++◌, length, Option, Some}
use Rattle.std.proofs.Common.{None, filter, map, slice_get, get_or, subst, ap, sym, ◌∙◌, refl}
use Rattle.std.specs.Prelude.{slice_index, unwrap_or}
use Rattle.std.specs.List.{flat_map, AllZip}
use Rattle.std.specs.Option.{option_map, option_map_or}
use Rattle.std.proofs.lemmas.Option.{slice_get_cases, get_or_from_slice_get, slice_get-map, same_Some, none-some}
use Rattle.std.proofs.lemmas.List.{length-map, get_or_past}
use Rattle.std.proofs.lemmas.List.Elements.{filter-append}
use Rattle.std.proofs.lemmas.Slice.Zip.{AllZip-long}
use Rattle.pipe_tree.specs.declared.tree.Image.{Image}
use Rattle.pipe_tree.specs.declared.tree.Names.{Names}
use Rattle.pipe_tree.specs.declared.tree.Names.TheVariants.{One, Three}
use Rattle.pipe_tree.specs.Tree as tree
use Rattle.pipe_tree.specs.Tree.{Declaration}
use Rattle.pipe_checks.specs.declared.symbol.Symbol.{Symbol}
use Rattle.pipe_checks.specs.declared.symbol.SymbolKind.TheVariants.{Plane, Func, Accum}
use Rattle.pipe_checks.specs.Graph.{links_at}
use Rattle.pipe_checks.specs.Names.{names_of, item_names, names_from, is_stage, symbols_declared_by_items, stages_of, number_of}
use Rattle.pipe_checks.specs.Accesses.{links_of, graph_of}
use Rattle.pipe_checks.specs.Checking.{NoneTwice}
use Rattle.job.specs.Pipeline.{Stage, rank_of}
use Rattle.binding.specs.Binding.{Program, rank_named, plane_stage, function_stage, accumulator_stage, names_in, item_stages}
use Rattle.binding.proofs.NumberLaws.{number_at}

-- ---- two lists, place by place

module _ {X Y : Type 0} (R : X → Y → Type 0) where
  pub zip_append : (xs us : List X) (ys vs : List Y) → AllZip R xs ys → AllZip R us vs → AllZip R (xs ++ us) (ys ++ vs)
  zip_append [] us [] vs h k = k
  zip_append [] us (y ∷ ys) vs h k = absurd h
  zip_append (x ∷ xs) us [] vs h k = absurd h
  zip_append (x ∷ xs) us (y ∷ ys) vs h k = (h.0, zip_append xs us ys vs h.1 k)

  zip_left : (xs : List X) (ys : List Y) (g : ℕ) (x : X) → AllZip R xs ys → slice_get xs g ≡ Some x
      → (y : Y) × (slice_get ys g ≡ Some y) × R x y
  zip_left [] ys g x h there = absurd (none-some x there)
  zip_left (u ∷ xs) [] g x h there = absurd h
  zip_left (u ∷ xs) (v ∷ ys) zero x h there = (v, refl, subst (λ (z : X). R z v) (same_Some u x there) h.0)
  zip_left (u ∷ xs) (v ∷ ys) (suc g) x h there = zip_left xs ys g x h.1 there

  pub zip_right : (xs : List X) (ys : List Y) (g : ℕ) (y : Y) → AllZip R xs ys → slice_get ys g ≡ Some y
      → (x : X) × (slice_get xs g ≡ Some x) × R x y
  zip_right xs [] g y h there = absurd (none-some y there)
  zip_right [] (v ∷ ys) g y h there = absurd h
  zip_right (u ∷ xs) (v ∷ ys) zero y h there = (u, refl, subst (R u) (same_Some v y there) h.0)
  zip_right (u ∷ xs) (v ∷ ys) (suc g) y h there = zip_right xs ys g y h.1 there

pub zip_weaker : {X Y : Type 0} (R Q : X → Y → Type 0) → ((x : X) (y : Y) → R x y → Q x y) → (xs : List X) (ys : List Y) → AllZip R xs ys
    → AllZip Q xs ys
zip_weaker R Q f [] [] h = tt
zip_weaker R Q f [] (y ∷ ys) h = absurd h
zip_weaker R Q f (x ∷ xs) [] h = absurd h
zip_weaker R Q f (x ∷ xs) (y ∷ ys) h = (f x y h.0, zip_weaker R Q f xs ys h.1)

-- ---- each stage is what an item makes of a name

abbrev pub IsStageOf : Program → Declaration → Symbol → Stage → Type 0
IsStageOf p (tree.param y) x s = ⊥
IsStageOf p (tree.image i) x s = (x.kind ≡ Plane) × (s ≡ plane_stage p i x.name)
IsStageOf p (tree.table t) x s = ⊥
IsStageOf p (tree.function f) x s = (x.kind ≡ Func) × (x.name ≡ f.name) × (s ≡ function_stage p f)
IsStageOf p (tree.accumulator a) x s = (x.kind ≡ Accum) × (x.name ≡ a.name) × (s ≡ accumulator_stage p a)
IsStageOf p (tree.output o) x s = ⊥

-- where the items begin with number n
pub record IsMade (p : Program) (n : ℕ) (ds : List Declaration) (s : Stage) (x : Symbol) : Type 0 where
  pub place : ℕ
  pub number : x.item ≡ n + place
  pub item : Declaration
  pub there : slice_get ds place ≡ Some item
  pub is : IsStageOf p item x s

module _ (p : Program) where
  made_later : (n : ℕ) (d : Declaration) (ds : List Declaration) (s : Stage) (x : Symbol) → IsMade p (n + 1) ds s x
      → IsMade p n (d ∷ ds) s x
  made_later n d ds s x h = record { place = suc h.place; number = h.number ∙ omega arith; item = h.item; there = h.there; is = h.is }

  made_here : (n : ℕ) (d : Declaration) (ds : List Declaration) (s : Stage) (x : Symbol) → x.item ≡ n → IsStageOf p d x s
      → IsMade p n (d ∷ ds) s x
  made_here n d ds s x e is = record { place = 0; number = e ∙ omega arith; item = d; there = refl; is = is }

  made_planes : (n : ℕ) (i : Image) (ds : List Declaration) (ns : Names)
      → AllZip (IsMade p n (tree.image i ∷ ds)) (map (plane_stage p i) (names_in ns)) (filter (λ d. is_stage d.kind) (names_of n ns))
  made_planes n i ds (One x) = (made_here n (tree.image i) ds _ _ refl (refl, refl), tt)
  made_planes n i ds (Three x y z) = (
    made_here n (tree.image i) ds _ _ refl (refl, refl),
    (made_here n (tree.image i) ds _ _ refl (refl, refl), (made_here n (tree.image i) ds _ _ refl (refl, refl), tt)),
  )

  made_item : (n : ℕ) (d : Declaration) (ds : List Declaration)
      → AllZip (IsMade p n (d ∷ ds)) (item_stages p d) (filter (λ d. is_stage d.kind) (item_names n d))
  made_item n (tree.param x) ds = tt
  made_item n (tree.image i) ds = made_planes n i ds i.names
  made_item n (tree.table t) ds = tt
  made_item n (tree.function f) ds = (made_here n (tree.function f) ds _ _ refl (refl, refl, refl), tt)
  made_item n (tree.accumulator a) ds = (made_here n (tree.accumulator a) ds _ _ refl (refl, refl, refl), tt)
  made_item n (tree.output o) ds = tt

  made : (n : ℕ) (ds : List Declaration)
      → AllZip (IsMade p n ds) (flat_map (item_stages p) ds) (filter (λ d. is_stage d.kind) (names_from n ds))
  made n [] = tt
  made n (d ∷ ds) =
      subst (AllZip (IsMade p n (d ∷ ds)) (item_stages p d ++ flat_map (item_stages p) ds))
      (sym (filter-append (λ (d : Symbol). is_stage d.kind) (item_names n d) (names_from (n + 1) ds)))
      (zip_append (IsMade p n (d ∷ ds)) (item_stages p d) (flat_map (item_stages p) ds)
      (filter (λ d. is_stage d.kind) (item_names n d)) (filter (λ d. is_stage d.kind) (names_from (n + 1) ds))
      (made_item n d ds)
      (zip_weaker (IsMade p (n + 1) ds) (IsMade p n (d ∷ ds)) (made_later n d ds) (flat_map (item_stages p) ds)
      (filter (λ d. is_stage d.kind) (names_from (n + 1) ds)) (made (n + 1) ds)))

  rank_is_named : (d : Declaration) (x : Symbol) (s : Stage) → IsStageOf p d x s → s.rank ≡ rank_named p x.name
  rank_is_named (tree.param y) x s h = absurd h
  rank_is_named (tree.image i) x s h = ap (λ (t : Stage). t.rank) h.1
  rank_is_named (tree.table t) x s h = absurd h
  rank_is_named (tree.function f) x s h = ap (λ (t : Stage). t.rank) h.2 ∙ ap (rank_named p) (sym h.1)
  rank_is_named (tree.accumulator a) x s h = ap (λ (t : Stage). t.rank) h.2 ∙ ap (rank_named p) (sym h.1)
  rank_is_named (tree.output o) x s h = absurd h

-- ---- the stages of a program, by their numbers

pub record IsAt (ds : List Declaration) (p : Program) (g : ℕ) (s : Stage) : Type 0 where
  pub declared : Symbol
  pub numbered : slice_get (stages_of ds) g ≡ Some declared
  pub item : Declaration
  pub there : slice_get ds declared.item ≡ Some item
  pub is : IsStageOf p item declared s

module _ (ds : List Declaration) (p : Program) where
  at_of : (g : ℕ) (s : Stage) (x : Symbol) → slice_get (stages_of ds) g ≡ Some x → IsMade p 0 ds s x → IsAt ds p g s
  at_of g s x numbered m = record {
    declared = x;
    numbered = numbered;
    item = m.item;
    there = ap (slice_get ds) (m.number ∙ omega arith) ∙ m.there;
    is = m.is;
  }

  pub stage_at : (g : ℕ) (s : Stage) → slice_get (flat_map (item_stages p) ds) g ≡ Some s → IsAt ds p g s
  stage_at g s there =
      let r = zip_left (IsMade p 0 ds) (flat_map (item_stages p) ds) (stages_of ds) g s (made p 0 ds) there in
      at_of g s r.0 r.1 r.2

  pub stage_there : (g : ℕ) (x : Symbol) → slice_get (stages_of ds) g ≡ Some x
      → (s : Stage) × (slice_get (flat_map (item_stages p) ds) g ≡ Some s) × IsAt ds p g s
  stage_there g x numbered =
      let r = zip_right (IsMade p 0 ds) (flat_map (item_stages p) ds) (stages_of ds) g x (made p 0 ds) numbered in
      (r.0, r.1, at_of g r.0 x numbered r.2)

  pub each_stage : length (flat_map (item_stages p) ds) ≡ length (stages_of ds)
  each_stage = sym (AllZip-long (IsMade p 0 ds) (flat_map (item_stages p) ds) (stages_of ds) (made p 0 ds))

  -- ---- ranks

  module _ (own : p.stages ≡ stages_of ds) (once : NoneTwice (symbols_declared_by_items ds) ds) where
    pub number_is : (g : ℕ) (x : Symbol) → slice_get (stages_of ds) g ≡ Some x → number_of p.stages x.name ≡ Some g
    number_is g x there = ap (λ (xs : List Symbol). number_of xs x.name) own ∙ number_at ds once g x there

    pub rank_at : (g : ℕ) (s : Stage) → IsAt ds p g s → s.rank ≡ slice_index p.ranks g
    rank_at g s h =
        rank_is_named p h.item h.declared s h.is
        ∙ ap (λ (o : Option ℕ). slice_index p.ranks (unwrap_or o 0)) (number_is g h.declared h.numbered)

    by_stage : length p.ranks ≡ length (stages_of ds) → (g : ℕ) (o : Option Stage) → slice_get (flat_map (item_stages p) ds) g ≡ o
        → option_map_or (λ s. s.rank) o 0 ≡ slice_index p.ranks g
    by_stage each g None there =
        sym (get_or_past p.ranks g 0 (omega (arith, each, each_stage, past (slice_get_cases (flat_map (item_stages p) ds) g).1)))
      where
        past : ((x : Stage) × (g < length (flat_map (item_stages p) ds)) × (slice_get (flat_map (item_stages p) ds) g ≡ Some x)
            × (get_or (flat_map (item_stages p) ds) g x ≡ x))
            ⊎ ((length (flat_map (item_stages p) ds) ≤ g) × (slice_get (flat_map (item_stages p) ds) g ≡ None))
            → length (flat_map (item_stages p) ds) ≤ g
        past (inl h) = absurd (none-some h.0 (sym there ∙ h.2))
        past (inr h) = h.0
    by_stage each g (Some s) there = rank_at g s (stage_at g s there)

    pub rank_of_is : length p.ranks ≡ length (stages_of ds) → (g : ℕ) → rank_of (flat_map (item_stages p) ds) g ≡ slice_index p.ranks g
    rank_of_is each g = by_stage each g (slice_get (flat_map (item_stages p) ds) g) refl

-- ---- what a stage of the graph is

pub each_links : (ds : List Declaration) → length (graph_of ds) ≡ length (stages_of ds)
each_links ds = length-map (stages_of ds) (links_of ds (stages_of ds))

pub links_are : (ds : List Declaration) (g : ℕ) (x : Symbol) → slice_get (stages_of ds) g ≡ Some x
    → links_at (graph_of ds) g ≡ links_of ds (stages_of ds) x
links_are ds g x there =
    get_or_from_slice_get (graph_of ds) g (links_of ds (stages_of ds) x) _
    (slice_get-map (links_of ds (stages_of ds)) (stages_of ds) g
    ∙ ap (λ (o : Option Symbol). option_map (links_of ds (stages_of ds)) o) there)
