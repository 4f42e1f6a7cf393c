use Rattle.std.proofs.Common.{rules, arith}
use Rattle.reductions.proofs.RoomIsLeast.{both_least, no_bin_room, no_value_room}
use Rattle.reductions.proofs.row_buffers.compute_accumulator_buffer_capacity.Goals as goal

pub returns-in_err-value : goal.returns-in_err-value
returns-in_err-value c = no_value_room c.args.accumulator.now c.args.n c.from_residual.result (search rules) (search rules)

pub returns-in_err-bin : goal.returns-in_err-bin
returns-in_err-bin c = no_bin_room c.args.accumulator.now c.args.n c.from_residual-in_err-bin.result (search rules) (search rules)

pub returns : goal.returns
returns c =
    both_least c.args.accumulator.now c.args.n c.in_ok-value.value c.in_ok-bin.bin c.max.result (omega (arith, c.max.ensures)) (search rules)
    (search rules)
