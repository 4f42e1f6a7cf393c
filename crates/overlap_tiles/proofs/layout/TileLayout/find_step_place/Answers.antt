use Rattle.std.proofs.Common.{ℕ, ◌≡◌, List, Option, None, map, get_or, IfSome, IfNone, ap, ◌∙◌, subst}
use Rattle.domains.specs.declared.area.Area.{Area}
use Rattle.overlap_tiles.specs.Places.{IsPlaceOf, HasNoPlace}
use Rattle.overlap_tiles.specs.Plans.{TileLayout}
use Rattle.overlap_tiles.specs.Views.{step_view}
use Rattle.overlap_tiles.proofs.PlacesAreFound.{place_told}
use Rattle.overlap_tiles.proofs.layout.TileLayout.find_step_place.Goals as goal

abbrev IsTold : List (ℕ × Area) → ℕ → Option ℕ → Type 0
IsTold steps g place = IfSome place (IsPlaceOf steps g) × IfNone place (HasNoPlace steps g)

told : (c : goal.After-look_up_step_place) → IsTold c.args.self.now.steps c.args.stage c.look_up_step_place.result
told c =
    let steps : map step_view c.self.inside.steps.items ≡ c.args.self.now.steps = ap (λ (l : TileLayout). l.steps) c.self.view_is in
    subst (λ (ss : List (ℕ × Area)). IsTold ss c.args.stage c.look_up_step_place.result) steps
    (place_told (map step_view c.self.inside.steps.items) c.self.inside.places.items c.args.stage c.look_up_step_place.result c.self.inside.placed
    (c.look_up_step_place.ensures ∙ ap (λ (ps : List (Option ℕ)). get_or ps c.args.stage None) c.deref.ensures.value))

pub returns-clause-some : goal.returns-clause-some
returns-clause-some c = (told c).0

pub returns-clause-none : goal.returns-clause-none
returns-clause-none c = (told c).1
