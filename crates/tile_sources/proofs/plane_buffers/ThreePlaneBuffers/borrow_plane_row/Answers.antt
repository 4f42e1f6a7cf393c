use Rattle.std.proofs.Common.{rules, pos, ◌≡◌, ◌+ℤ◌, Some, ◌∙◌, w32, FitsSigned}
use Rattle.std.proofs.lemmas.Int.{to_z-of_z}
use Rattle.job.specs.Values.{sample_at}
use Rattle.tile_sources.specs.Wide.{wide_plane}
use Rattle.tile_sources.proofs.PlanesAreWide.{some_then}
use Rattle.tile_sources.proofs.PlanesAreWide.{wide_at}
use Rattle.tile_sources.proofs.plane_buffers.ThreePlaneBuffers.borrow_plane_row.Goals as goal

pub returns-clause-samples : goal.returns-clause-samples
returns-clause-samples c = λ picture all.
    let plane = c.in_ok-find_plane_buffer.field-0.now in
    let row : FitsSigned w32 c.args.row = search rules in
    let first : FitsSigned w32 c.args.first = search rules in
    let there : wide_plane c.args.self.now c.args.plane ≡ Some plane = search rules in
    some_then c.borrow_row.result
    (c.borrow_row.ensures.samples picture c.args.plane (wide_at picture c.args.self.now all c.args.plane plane there)) (λ line each k h.
    each k h
    ∙ (λ i. sample_at picture c.args.plane (to_z-of_z w32 c.args.row row i) (to_z-of_z w32 c.args.first first i +ℤ pos k)))
