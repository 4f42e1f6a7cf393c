use Rattle.std.proofs.Common.{refl}
use Rattle.std.proofs.lemmas.Result.{err_from_is_err_and}
use Rattle.domains.specs.Area.{HoldsPoint}
use Rattle.pipe_bounds.specs.InBounds.{Stays}
use Rattle.pipe_bounds.proofs.Firsts.{first_read}
use Rattle.pipe_checks.proofs.Places.{all_of_them}
use Rattle.domains.proofs.Places.{all_more}
use Rattle.domains.proofs.Places.{here_is}
use Rattle.pipe_bounds.specs.StageBounds.{domains_in}
use Rattle.pipe_bounds.proofs.reader.BoundsChecker.check_accesses.Goals as goal

pub returns-in_err-check_access : goal.returns-in_err-check_access
returns-in_err-check_access c =
    let accesses = c.args.accesses.now in
    let there =
    here_is accesses accesses c.loop-read.read c.index-accesses-read.result refl c.loop-read-test.true c.index-accesses-read.is in
    let p = err_from_is_err_and c.from_residual.result c.from_residual.ensures.1 in
    rw (p.1, p.2) (first_read (domains_in c.args.self.now.found.now) (HoldsPoint c.args.area.now) accesses c.args.self.now.stage c.args.case
    c.loop-read.read c.index-accesses-read.result c.in_err-check_access.field-0.0 there c.loop-read.invariant c.in_err-check_access.ensures)

pub loop-read-preserved : goal.loop-read-preserved
loop-read-preserved c =
    let accesses = c.args.accesses.now in
    let there =
    here_is accesses accesses c.loop-read.read c.index-accesses-read.result refl c.loop-read-test.true c.index-accesses-read.is in
    all_more (λ m x. Stays (domains_in c.args.self.now.found.now) (HoldsPoint c.args.area.now) x) accesses c.loop-read.read
    c.index-accesses-read.result there c.in_ok-check_access.ensures c.loop-read.invariant

pub returns : goal.returns
returns c =
    all_of_them (λ m x. Stays (domains_in c.args.self.now.found.now) (HoldsPoint c.args.area.now) x) c.args.accesses.now c.loop-read.read
    c.loop-read-test.false c.loop-read.invariant
