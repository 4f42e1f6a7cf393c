-- Item by item.
use Rattle.std.proofs.Common.{ℕ, ◌≡◌, ◌+◌, List, [], ◌∷◌, ◌++◌, ap, sym, ◌∙◌, refl}
use Rattle.std.specs.Prelude.{map, filter}
use Rattle.std.specs.List.{flat_map}
use Rattle.std.proofs.lemmas.List.Elements.{filter-append}
use Rattle.pipe_tree.specs.declared.tree.Names.{Names}
use Rattle.pipe_tree.specs.declared.tree.Names.TheVariants.{One, Three}
use Rattle.pipe_tree.specs.declared.tree.Image.{Image}
use Rattle.pipe_tree.specs.Tree as tree
use Rattle.pipe_tree.specs.Tree.{Declaration}
use Rattle.pipe_checks.specs.declared.symbol.Symbol.{Symbol}
use Rattle.pipe_checks.specs.Names.{names_of, item_names, names_from, is_stage}
use Rattle.job.specs.Pipeline.{Stage}
use Rattle.binding.specs.Binding.{Program, plane_stage, names_in, item_stages}
use Rattle.binding.proofs.laws.bind_keeps_stage_names_and_order.Goals as goal

map_both : {X Y : Type 0} (f : X → Y) (xs ys : List X) → map f (xs ++ ys) ≡ map f xs ++ map f ys
map_both f [] ys = refl
map_both {X} {Y} f (x ∷ xs) ys = ap (λ (zs : List Y). f x ∷ zs) (map_both f xs ys)

plane_names : (p : Program) (n : ℕ) (i : Image) (xs : Names)
    → map (λ s. s.name) (map (plane_stage p i) (names_in xs)) ≡ map (λ d. d.name) (filter (λ d. is_stage d.kind) (names_of n xs))
plane_names p n i (One x) = refl
plane_names p n i (Three x y z) = refl

one_item : (p : Program) (n : ℕ) (d : Declaration)
    → map (λ s. s.name) (item_stages p d) ≡ map (λ d. d.name) (filter (λ d. is_stage d.kind) (item_names n d))
one_item p n (tree.param x) = refl
one_item p n (tree.image i) = plane_names p n i i.names
one_item p n (tree.table t) = refl
one_item p n (tree.function f) = refl
one_item p n (tree.accumulator a) = refl
one_item p n (tree.output o) = refl

from : (p : Program) (n : ℕ) (ds : List Declaration)
    → map (λ s. s.name) (flat_map (item_stages p) ds) ≡ map (λ d. d.name) (filter (λ d. is_stage d.kind) (names_from n ds))
from p n [] = refl
from p n (d ∷ ds) =
    map_both (λ (s : Stage). s.name) (item_stages p d) (flat_map (item_stages p) ds)
    ∙ ap (λ (xs : List (List ℕ)). xs ++ map (λ s. s.name) (flat_map (item_stages p) ds)) (one_item p n d)
    ∙ ap (λ (xs : List (List ℕ)). map (λ d. d.name) (filter (λ d. is_stage d.kind) (item_names n d)) ++ xs) (from p (n + 1) ds)
    ∙ sym (map_both (λ (d : Symbol). d.name) (filter (λ d. is_stage d.kind) (item_names n d))
    (filter (λ d. is_stage d.kind) (names_from (n + 1) ds)))
    ∙ ap (λ (xs : List Symbol). map (λ d. d.name) xs)
    (sym (filter-append (λ (d : Symbol). is_stage d.kind) (item_names n d) (names_from (n + 1) ds)))

pub returns : goal.returns
returns c = λ p items. from p 0 items
