-- The items of a checked program that is in bounds have numbers in range, and what was found of their stages stands under their names.
use Rattle.std.proofs.Common.{ℕ, zero, suc, Bool, arith, ◌+◌, ◌≡◌, List, [], ◌∷◌, ◌++◌, length, Option, Some, filter, map}
use Rattle.std.proofs.Common.{slice_get, subst, ap, sym, ◌∙◌, refl}
use Rattle.std.specs.Prelude.{All, IfSome, slice_index_or, unwrap_or}
use Rattle.std.specs.Option.{option_map}
use Rattle.std.proofs.lemmas.List.{length-map}
use Rattle.std.proofs.lemmas.Option.{none-some, same_Some, slice_get_within, slice_get-get_or, slice_get-map}
use Rattle.std.proofs.lemmas.List.Elements.{All-weaker, filter-append}
use Rattle.domains.specs.Area.{IsArea}
use Rattle.domains.specs.declared.area.Area.{Area}
use Rattle.pipe_tree.specs.declared.tree.Image.{Image}
use Rattle.pipe_tree.specs.declared.tree.Names.{Names}
use Rattle.pipe_tree.specs.declared.tree.Names.TheVariants.{One, Three}
use Rattle.pipe_tree.specs.Tree as tree
use Rattle.pipe_tree.specs.Tree.{Node, Branch, Function, Accumulator, Declaration}
use Rattle.pipe_checks.specs.declared.symbol.Symbol.{Symbol}
use Rattle.pipe_checks.specs.Names.{names_of, item_names, names_from, is_stage, symbols_declared_by_items, stages_of, number_of}
use Rattle.pipe_checks.specs.Checking.{IsNamed}
use Rattle.pipe_checks.proofs.Accepted.{IsTableKind, IsNameOf, IsSound, IsSoundBranch, IsSoundItem, sound_item}
use Rattle.pipe_bounds.specs.StageBounds.{StageBounds, AreBoxes, IsBoundsOf, AreBoundsOf}
use Rattle.pipe_bounds.proofs.BoundFaultsAreDetermined.{same_list}
use Rattle.pipe_bounds.proofs.Sounding.{index_is}
use Rattle.pipe_bounds.proofs.Stages.{some_within}
use Rattle.binding.specs.Binding.{Program, Variables, variables_of, stage_number, item_tables, TablesFit, names_in}
use Rattle.tables.specs.declared.table.Table.{Table}
use Rattle.pipe_bounds.specs.InBounds.{IsInBounds}
use Rattle.std.specs.List.{flat_map}
use Rattle.binding.proofs.TableLaws.{entries_named_by}
use Rattle.binding.specs.inside.Ranges.{HasEntries, IsRanged, IsRangedBranch, IsRangedItem, HasBounds, box_in, IsPlaneBounds}
use Rattle.binding.specs.inside.Ranges.{IsFunctionBounds, IsAccumulatorBounds, HavePlanes, IsBoundItem, AreReady}
use Rattle.binding.proofs.BoundLaws.{ends_are, sides_are, area_is, span_near}
use Rattle.binding.proofs.Boxing.{part_is}
use Rattle.binding.proofs.NumberLaws.{number_at}

-- ---- numbers

module _ (ds : List Declaration) (given : List Table) (handed : (x : List ℕ) → IsNameOf IsTableKind (symbols_declared_by_items ds) x → HasEntries given x) where
  abbrev names : List Symbol
  names = symbols_declared_by_items ds

  ranged : (a : Node) → IsSound names a → IsRanged given a
  ranged (tree.number n) h = omega arith
  ranged (tree.variable x) h = tt
  ranged (tree.read x i j) h = (index_is i h.1, index_is j h.2)
  ranged (tree.lookup x a) h = (handed x h.0, ranged a h.1)
  ranged (tree.unary op a) h = ranged a h
  ranged (tree.binary op a b) h = (ranged a h.0, ranged b h.1)
  ranged (tree.ternary op a b c) h = (ranged a h.0, ranged b h.1, ranged c h.2)
  ranged (tree.literal op a n) h = ranged a h.0
  ranged (tree.select a r b c d) h = (ranged a h.0, ranged b h.1, ranged c h.2, ranged d h.3)
  ranged (tree.stencil x d k) h = tt

  ranged_item : (d : Declaration) → IsSoundItem names d → IsRangedItem given d
  ranged_item (tree.param p) h = tt
  ranged_item (tree.image i) h = tt
  ranged_item (tree.table t) h = tt
  ranged_item (tree.function f) h =
      (All-weaker (IsSoundBranch names) (IsRangedBranch given) (λ b s. ranged b.value s.value) f.cases h.0, (λ a is. ranged a (h.1 a is)))
  ranged_item (tree.accumulator a) h = (ranged a.value h.0, ranged a.bin h.1)
  ranged_item (tree.output o) h = tt

  ranged_items : IsNamed ds → All (IsRangedItem given) ds
  ranged_items named = λ k d l.
      let x = slice_index_or ds k d in
      ranged_item x (sound_item names x (named.good k x (slice_get-get_or ds k d l)))

-- ---- what was found of a stage stands under its name

abbrev keeps : Symbol → Bool
keeps d = is_stage d.kind

-- the names of the stages that an item declares
abbrev stage_names : Declaration → List (List ℕ)
stage_names (tree.param p) = []
stage_names (tree.image i) = names_in i.names
stage_names (tree.table t) = []
stage_names (tree.function f) = f.name ∷ []
stage_names (tree.accumulator a) = a.name ∷ []
stage_names (tree.output o) = []

-- where the items begin with number n, a stage of item k has this name
pub record IsStaged (n : ℕ) (ds : List Declaration) (k : ℕ) (x : List ℕ) : Type 0 where
  pub stage : ℕ
  pub declared : Symbol
  pub there : slice_get (filter keeps (names_from n ds)) stage ≡ Some declared
  pub item : declared.item ≡ n + k
  pub name : declared.name ≡ x

abbrev IsFirst : ℕ → List Symbol → ℕ → List ℕ → Type 0
IsFirst n symbols j x = (s : Symbol) × (slice_get (filter keeps symbols) j ≡ Some s) × (s.item ≡ n) × (s.name ≡ x)

planes_first : (n : ℕ) (ns : Names) (others : List Symbol) (j : ℕ) (x : List ℕ) → slice_get (names_in ns) j ≡ Some x
    → IsFirst n (names_of n ns ++ others) j x
planes_first n (One y) others zero x e = (_, refl, refl, same_Some y x e)
planes_first n (One y) others (suc j) x e = absurd (none-some x e)
planes_first n (Three y z w) others zero x e = (_, refl, refl, same_Some y x e)
planes_first n (Three y z w) others (suc zero) x e = (_, refl, refl, same_Some z x e)
planes_first n (Three y z w) others (suc (suc zero)) x e = (_, refl, refl, same_Some w x e)
planes_first n (Three y z w) others (suc (suc (suc j))) x e = absurd (none-some x e)

item_first : (n : ℕ) (d : Declaration) (others : List Symbol) (j : ℕ) (x : List ℕ) → slice_get (stage_names d) j ≡ Some x
    → IsFirst n (item_names n d ++ others) j x
item_first n (tree.param p) others j x e = absurd (none-some x e)
item_first n (tree.image i) others j x e = planes_first n i.names others j x e
item_first n (tree.table t) others j x e = absurd (none-some x e)
item_first n (tree.function f) others zero x e = (_, refl, refl, same_Some f.name x e)
item_first n (tree.function f) others (suc j) x e = absurd (none-some x e)
item_first n (tree.accumulator a) others zero x e = (_, refl, refl, same_Some a.name x e)
item_first n (tree.accumulator a) others (suc j) x e = absurd (none-some x e)
item_first n (tree.output o) others j x e = absurd (none-some x e)

after : {X : Type 0} (xs ys : List X) (j k : ℕ) → k ≡ length xs + j → slice_get (xs ++ ys) k ≡ slice_get ys j
after {X} [] ys j k e = let same : k ≡ j = omega (arith, e) in ap (λ (n : ℕ). slice_get ys n) same
after (x ∷ xs) ys j zero e = absurd (omega (arith, e))
after (x ∷ xs) ys j (suc k) e = after xs ys j k (omega (arith, e))

staged : (n : ℕ) (ds : List Declaration) (k : ℕ) (d : Declaration) (j : ℕ) (x : List ℕ) → slice_get ds k ≡ Some d
    → slice_get (stage_names d) j ≡ Some x → IsStaged n ds k x
staged n [] k d j x there named = absurd (none-some d there)
staged n (e ∷ ds) zero d j x there named =
    let r =
    item_first n e (names_from (n + 1) ds) j x (ap (λ (y : Declaration). slice_get (stage_names y) j) (same_Some e d there) ∙ named) in
    record { stage = j; declared = r.0; there = r.1; item = r.2 ∙ omega arith; name = r.3 }
staged n (e ∷ ds) (suc k) d j x there named =
    let r = staged (n + 1) ds k d j x there named in
    let here = filter keeps (item_names n e) in
    let others = filter keeps (names_from (n + 1) ds) in
    let item = r.item in
    record {
      stage = length here + r.stage;
      declared = r.declared;
      there =
          ap (λ (xs : List Symbol). slice_get xs (length here + r.stage)) (filter-append keeps (item_names n e) (names_from (n + 1) ds))
          ∙ after here others r.stage (length here + r.stage) refl ∙ r.there;
      item = omega arith;
      name = r.name;
    }

-- ---- what was found is what the job takes of it

module _ (p : Program) where
  plane_bounds : (i : Image) (b : StageBounds) → IsBoundsOf p.settings (tree.image i) b → IsPlaneBounds p i b
  plane_bounds i b h = sym (area_is _ _ b.domain (sides_are _ b.domain.rows h.domain.0) (sides_are _ b.domain.cols h.domain.1))

  module _ (own : Variables) (domain : Area) (area : IsArea domain) (cases : List Branch) (boxes : List (Option Area))
      (h : AreBoxes p.settings own.row_name domain cases boxes) where
    box_at : (n : ℕ) (o q : Option Area) → slice_get boxes n ≡ Some o → slice_get (map (box_in p own domain) cases) n ≡ Some q → o ≡ q
    box_at n o q at_o at_q =
        let c = some_within cases n (omega (arith, h.each, slice_get_within boxes n o at_o)) in
        let box = h.box n c.0 o c.1 at_o in
        part_is p own domain c.0.condition o area box.points (λ a e. subst (λ (z : Option Area). IfSome z IsArea) e box.area)
        ∙ same_Some (box_in p own domain c.0) q
        (sym (slice_get-map (box_in p own domain) cases n ∙ ap (option_map (box_in p own domain)) c.1) ∙ at_q)

    boxes_are : boxes ≡ map (box_in p own domain) cases
    boxes_are = same_list boxes (map (box_in p own domain) cases) (h.each ∙ sym (length-map cases (box_in p own domain))) box_at

  function_bounds : (f : Function) (b : StageBounds) → IsBoundsOf p.settings (tree.function f) b → IsFunctionBounds p f b
  function_bounds f b h =
      let area : IsArea b.domain =
      record { rows = (span_near _ _ b.domain.rows h.domain.0).span; cols = (span_near _ _ b.domain.cols h.domain.1).span } in
      record {
        domain = sym (area_is _ _ b.domain (ends_are _ _ b.domain.rows h.domain.0) (ends_are _ _ b.domain.cols h.domain.1));
        boxes = boxes_are (variables_of f.row f.column) b.domain area f.cases b.boxes h.boxes;
      }

  accumulator_bounds : (a : Accumulator) (b : StageBounds) → IsBoundsOf p.settings (tree.accumulator a) b → IsAccumulatorBounds p a b
  accumulator_bounds a b h = record {
    domain = sym (area_is _ _ b.domain (ends_are _ _ b.domain.rows h.domain.2.0) (ends_are _ _ b.domain.cols h.domain.2.1));
    bins = h.bins.1 ∙ ap Some (sym (ends_are _ _ h.bins.0 h.bins.2.0));
  }

module _ (ds : List Declaration) (p : Program) (own : p.stages ≡ stages_of ds) (named : IsNamed ds) (found : List StageBounds)
    (all : AreBoundsOf p.settings ds (stages_of ds) found) (bounds : IsInBounds p.settings ds)
    (fit : TablesFit p.settings (flat_map item_tables ds) p.tables) where
  place_of : (r : ℕ) (s : Symbol) (x : List ℕ) → slice_get (stages_of ds) r ≡ Some s → s.name ≡ x → stage_number p x ≡ r
  place_of r s x there name =
      ap (λ (xs : List Symbol). unwrap_or (number_of xs x) 0) own
      ∙ ap (λ (y : List ℕ). unwrap_or (number_of (stages_of ds) y) 0) (sym name)
      ∙ ap (λ (o : Option ℕ). unwrap_or o 0) (number_at ds named.once r s there)

  bounds_of : (Is : StageBounds → Type 0) (k : ℕ) (d : Declaration) (j : ℕ) (x : List ℕ) → slice_get ds k ≡ Some d
      → slice_get (stage_names d) j ≡ Some x → ((b : StageBounds) → IsBoundsOf p.settings d b → Is b) → HasBounds p found x Is
  bounds_of Is k d j x there name says =
      let r = staged 0 ds k d j x there name in
      let b = some_within found r.stage (omega (arith, all.each, slice_get_within (stages_of ds) r.stage r.declared r.there)) in
      let h = all.stage r.stage r.declared b.0 r.there b.1 in
      let item = r.item in
      let number : r.declared.item ≡ k = omega arith in
      let same : h.0 ≡ d = same_Some h.0 d (sym h.1 ∙ (ap (slice_get ds) number ∙ there)) in
      record {
        bounds = b.0;
        there = ap (slice_get found) (place_of r.stage r.declared x r.there r.name) ∙ b.1;
        is = says b.0 (subst (λ (e : Declaration). IsBoundsOf p.settings e b.0) same h.2);
      }

  planes_of : (k : ℕ) (i : Image) (ns : Names) → slice_get ds k ≡ Some (tree.image i) → i.names ≡ ns → HavePlanes p found i ns
  planes_of k i (One x) there e =
      bounds_of (IsPlaneBounds p i) k (tree.image i) 0 x there (ap (λ (ns : Names). slice_get (names_in ns) 0) e) (plane_bounds p i)
  planes_of k i (Three x y z) there e =
      let one =
      λ (j : ℕ) (w : List ℕ) (at : slice_get (names_in i.names) j ≡ Some w). bounds_of (IsPlaneBounds p i) k (tree.image i) j w there at
      (plane_bounds p i) in (
        one 0 x (ap (λ (ns : Names). slice_get (names_in ns) 0) e),
        one 1 y (ap (λ (ns : Names). slice_get (names_in ns) 1) e),
        one 2 z (ap (λ (ns : Names). slice_get (names_in ns) 2) e),
      )

  bound_item : (k : ℕ) (d : Declaration) → slice_get ds k ≡ Some d → IsBoundItem p found d
  bound_item k (tree.param x) there = tt
  bound_item k (tree.image i) there = planes_of k i i.names there refl
  bound_item k (tree.table t) there = tt
  bound_item k (tree.function f) there = bounds_of (IsFunctionBounds p f) k (tree.function f) 0 f.name there refl (function_bounds p f)
  bound_item k (tree.accumulator a) there =
      bounds_of (IsAccumulatorBounds p a) k (tree.accumulator a) 0 a.name there refl (accumulator_bounds p a)
  bound_item k (tree.output o) there = tt

  pub ready : AreReady p found ds
  ready = record {
    ranged = ranged_items ds p.tables (entries_named_by ds p.settings p.tables bounds.tables fit) named;
    bound = λ k d l. bound_item k (slice_index_or ds k d) (slice_get-get_or ds k d l);
  }
