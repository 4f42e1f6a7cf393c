use Rattle.std.proofs.Common.{arith, ◌≡◌, ◌<◌, false, length, ap}
use Rattle.std.specs.Prelude.{slice_index_or}
use Rattle.std.proofs.lemmas.List.{length-map}
use Rattle.std.proofs.lemmas.Option.{slice_get_within}
use Rattle.job.specs.Kept.{pipeline_in}
use Rattle.job.specs.Views.{stage_view}
use Rattle.row_rings.specs.TrueRings.{HasOwnRoom}
use Rattle.row_rings.proofs.Places.{each_more}
use Rattle.row_rings.proofs.Rooms.{own_more}
use Rattle.row_rings.proofs.new_rings.find_greatest_ring_room.Goals as goal

pub loop-stage-preserved : goal.loop-stage-preserved
loop-stage-preserved c =
    let job = pipeline_in c.args.job.now in
    each_more (λ g. slice_index_or c.args.computed_narrow.now g false ≡ c.args.narrow → HasOwnRoom job g c.max-room.result) c.loop-stage.stage
    (λ g h flag. own_more job g c.loop-stage.room c.max-room.result (omega (arith, c.max-room.ensures)) (c.loop-stage.invariant g h flag))
    (λ flag. own_more job c.loop-stage.stage _ c.max-room.result (omega (arith, c.max-room.ensures)) (c.in_ok-compute_ring_room_in_form.ensures flag))

pub returns : goal.returns
returns c = λ g flag s there.
    let within : g < length (pipeline_in c.args.job.now).stages = slice_get_within (pipeline_in c.args.job.now).stages g s there in
    c.loop-stage.invariant g
    (omega (arith, within, c.loop-stage-test.false, ap length c.stages-stage-end.ensures, length-map c.stages-stage-end.result.now stage_view)) flag s there
