-- The last step of a tile's layout is the tile.
use Rattle.std.proofs.Common.{arith, ℕ, ◌≡◌, ◌-◌, ◌<◌, Bool, List, [], ◌∷◌, ◌++◌, map, length, Option, Some, None, slice_get, ap, sym, ◌∙◌}
use Rattle.std.specs.Prelude.{unwrap_or}
use Rattle.std.specs.Option.{option_map}
use Rattle.std.proofs.Math.Seq.{get_or-append_seam}
use Rattle.std.proofs.lemmas.List.{length-append, length-map}
use Rattle.std.proofs.lemmas.Option.{none-some, same_Some, slice_get-map, slice_get-get_or}
use Rattle.domains.specs.Tiles.{tile_area}
use Rattle.domains.specs.declared.area.Area.{Area}
use Rattle.domains.specs.declared.grid.Grid.{Grid}
use Rattle.job.specs.Pipeline.{Pipeline}
use Rattle.tile_boxes.specs.Costs.{inner_steps}
use Rattle.overlap_tiles.specs.Plans.{TileLayout, IsTileAt, IsTileLayout}
use Rattle.tile_boxes.specs.Targets.{target_over}

-- the last of a list that is made of elements
last_made : {X Y : Type 0} (f : X → Y) (xs : List X) (inner : List Y) (y : Y) → map f xs ≡ inner ++ y ∷ []
    → option_map f (slice_get xs (length xs - 1)) ≡ Some y
last_made f xs inner y e =
    let long : length xs ≡ length (inner ++ y ∷ []) = sym (length-map xs f) ∙ ap length e in
    let place : length xs - 1 ≡ length inner = omega (arith, long, length-append inner (y ∷ [])) in
    let within : length inner < length (inner ++ y ∷ []) = omega (arith, length-append inner (y ∷ [])) in
    sym (slice_get-map f xs (length xs - 1))
    ∙ (λ i. slice_get (e i) (place i))
    ∙ slice_get-get_or (inner ++ y ∷ []) (length inner) y within
    ∙ ap Some (get_or-append_seam inner y [] y)

pub last_step : {X : Type 0} (f : X → ℕ × Area) (steps : List X) (inner : List (ℕ × Area)) (last : ℕ × Area)
    → map f steps ≡ inner ++ last ∷ [] → (x : X) → Some x ≡ slice_get steps (length steps - 1) → f x ≡ last
last_step f steps inner last made x is = same_Some (f x) last (ap (option_map f) is ∙ last_made f steps inner last made)

module _ {X : Type 0} (f : X → ℕ × Area) (steps : List X) (job : Pipeline) (inlining : List Bool) (g i j : ℕ) (l : TileLayout) (is :
    IsTileLayout job inlining g i j l) (same : map f steps ≡ l.steps) where
  end : option_map f (slice_get steps (length steps - 1)) ≡ Some (g, is.area)
  end = last_made f steps (inner_steps (target_over job inlining g is.area)) (g, is.area) (same ∙ is.layout.layout.steps)

  pub last_is : (x : X) → Some x ≡ slice_get steps (length steps - 1) → f x ≡ (g, is.area)
  last_is x last = same_Some (f x) (g, is.area) (ap (option_map f) last ∙ end)

  pub has_last : None ≡ slice_get steps (length steps - 1) → ⊥
  has_last none = none-some (g, is.area) (ap (option_map f) none ∙ end)

-- the areas of one tile are the same
pub only_area : (job : Pipeline) (g i j : ℕ) (a b : Area) → IsTileAt job g i j a → IsTileAt job g i j b → a ≡ b
only_area job g i j a b first second =
    let grid : first.grid ≡ second.grid = ap (λ (o : Option Grid). unwrap_or o second.grid) (sym first.there ∙ second.there) in
    first.is ∙ ap (λ (d : Grid). tile_area d i j) grid ∙ sym second.is
