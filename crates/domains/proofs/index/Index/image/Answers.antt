use Rattle.std.proofs.Common.{rules, ◌≡◌, arith}
use Rattle.std.proofs.lemmas.Int.{ints}
use Rattle.domains.specs.Index.{image_of}
use Rattle.domains.proofs.Indices.{index_rises, image_from}
use Rattle.domains.proofs.index.Index.image.Goals as goal

pub from_ends-requires : goal.from_ends-requires
from_ends-requires c =
    let rises = index_rises c.args.self.now c.args.span.now.lo c.args.span.now.hi c.at.ensures.within c.lo.ensures.within.ordered in
    let low : c.at.result ≡ (image_of c.args.self.now c.args.span.now).lo = search rules in
    let high : c.at-2.result ≡ (image_of c.args.self.now c.args.span.now).hi = search rules in
    record { least = omega (arith, ints); ordered = omega (arith, ints); most = omega (arith, ints) }

pub returns-clause-image : goal.returns-clause-image
returns-clause-image c =
    let ends : c.from_ends.result ≡ image_of c.args.self.now c.args.span.now = search rules in
    image_from _ _ _ ends c.at.ensures.within c.lo.ensures.within
