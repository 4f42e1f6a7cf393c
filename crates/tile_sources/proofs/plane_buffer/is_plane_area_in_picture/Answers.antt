use Rattle.std.proofs.Common.{subst}
use Rattle.domains.specs.Area.{IsSubarea}
use Rattle.domains.specs.declared.area.Area.{Area}
use Rattle.tile_sources.proofs.plane_buffer.is_plane_area_in_picture.Goals as goal

pub returns-then-plane-plane_count-clause-area : goal.returns-then-plane-plane_count-clause-area
returns-then-plane-plane_count-clause-area c = λ yes.
    subst (λ (a : Area). IsSubarea c.args.area.now a) c.in-Some.ensures (c.inside.ensures.0 yes)
