use Rattle.std.proofs.Common.{◌≡◌, subst, rules}
use Rattle.overlap_tiles.specs.Plans.{IsTileLayout, layout_of}
use Rattle.overlap_tiles.proofs.MadeIsLayout.{layout_in}
use Rattle.overlap_tiles.proofs.plan.TilePlan.layout.Goals as goal

pub returns-clause-tile : goal.returns-clause-tile
returns-clause-tile c = λ program job inlining g i j is.
    let same : layout_of c.args.self.now ≡ c.self.inside.layout = search rules in
    subst (IsTileLayout job inlining g i j) same (layout_in program job inlining g i j c.args.self.now is)
