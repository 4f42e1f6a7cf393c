use Rattle.std.proofs.Common.{◌≡◌, ◌++◌, [], ◌∷◌, drop}
use Rattle.std.specs.List.{flat_map}
use Rattle.std.specs.Option.{option_map_or}
use Rattle.pipe_tree.specs.Tree.{declarations}
use Rattle.binding.specs.Binding.{item_images}
use Rattle.binding.proofs.outputs.find_only_declared_picture.Given as goal

abbrev pub invariant-loop-item : goal.invariant-loop-item
invariant-loop-item l =
    option_map_or (λ i. i.now ∷ []) l.found [] ++ flat_map item_images (declarations (drop l.item-index l.items))
    ≡ flat_map item_images (declarations l.items)
