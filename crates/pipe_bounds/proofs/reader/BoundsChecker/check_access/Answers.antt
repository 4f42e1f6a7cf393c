use Rattle.std.proofs.Common.{inr, rules}
use Rattle.std.specs.Int.{w32}
use Rattle.std.proofs.lemmas.Int.{to_z-of_z}
use mir.Val.{SFits}
use Rattle.pipe_bounds.specs.StageBounds.{domains_in}
use Rattle.pipe_bounds.proofs.Taking.{stays_by_spans, leaves_by_spans, domain_read}
use Rattle.pipe_bounds.proofs.reader.BoundsChecker.check_access.Goals as goal

pub returns-in-Some : goal.returns-in-Some
returns-in-Some c =
    let found = c.args.self.now.found.now in
    let access = c.args.access.now in
    let d = c.domain.result.now in
    let there = domain_read found access c.stage.result c.index-self-stage.result d c.requires.sound c.stage.ensures c.domain.ensures in
    let x = c.in-Some.departure in
    let least : SFits w32 x.least = search rules in
    let greatest : SFits w32 x.greatest = search rules in
    inr (record {
      axis = x.axis;
      least = x.least;
      greatest = x.greatest;
      told = cc (to_z-of_z w32 x.least least, to_z-of_z w32 x.greatest greatest);
      leaves =
          leaves_by_spans (domains_in found) access c.args.area.now c.compute_access_footprint-taken.result d x.axis x.least x.greatest
          c.compute_access_footprint-taken.ensures.within c.compute_access_footprint-taken.ensures.taken there c.in-Some.ensures;
    })

pub returns-in-None : goal.returns-in-None
returns-in-None c =
    let found = c.args.self.now.found.now in
    let access = c.args.access.now in
    let d = c.domain.result.now in
    let there = domain_read found access c.stage.result c.index-self-stage.result d c.requires.sound c.stage.ensures c.domain.ensures in
    stays_by_spans (domains_in found) access c.args.area.now c.compute_access_footprint-taken.result d c.compute_access_footprint-taken.ensures.within c.compute_access_footprint-taken.ensures.taken
    there c.in-None.ensures
