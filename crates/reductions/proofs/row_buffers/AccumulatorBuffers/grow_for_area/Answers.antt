use Rattle.std.proofs.Common.{rules, arith, ◌≤◌, ℕ, length}
use Rattle.domains.specs.Span.{len_of}
use Rattle.job.specs.Views.{formula_view}
use Rattle.tile_eval.proofs.Gathering.{room_less}
use Rattle.reductions.specs.Accumulating.{HasRoomAlong}
use Rattle.reductions.proofs.row_buffers.AccumulatorBuffers.grow_for_area.Goals as goal

pub returns : goal.returns
returns c =
    let a = c.args.accumulator.now in
    let n : ℕ = len_of c.args.area.now.cols in
    let most : ℕ = length c.grow_accumulator_buffer-4.new.row.items in
    let same : n ≤ c.len-n.result = omega (arith, c.len-n.ensures.number) in
    let room : HasRoomAlong a c.len-n.result c.in_ok-room.room = search rules in
    let enough : c.in_ok-room.room ≤ most = omega (arith, c.in_ok-grow_accumulator_buffer-4.ensures) in
    record {
      joined = omega (arith, c.in_ok-grow_accumulator_buffer.ensures, same);
      values = omega (arith, c.in_ok-grow_accumulator_buffer-2.ensures, same);
      bins_of = omega (arith, c.in_ok-grow_accumulator_buffer-3.ensures, same);
      temps = record {
        value = room_less (formula_view a.value) c.len-n.result n c.in_ok-room.room most same enough room.value;
        bin = room_less (formula_view a.bin) c.len-n.result n c.in_ok-room.room most same enough room.bin;
      };
    }
