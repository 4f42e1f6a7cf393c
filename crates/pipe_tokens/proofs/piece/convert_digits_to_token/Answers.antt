use Rattle.std.proofs.Common.{◌+◌, ◌*◌, arith}
use Rattle.pipe_tokens.proofs.Digits.{digit_read, too_big}
use Rattle.pipe_tokens.proofs.piece.convert_digits_to_token.Goals as goal

pub loop-digit-preserved : goal.loop-digit-preserved
loop-digit-preserved c =
    let read =
    digit_read c.args.digits.now c.loop-digit.digit-index c.loop-digit.value c.requires c.loop-digit-test.true
    c.loop-digit.invariant.value_is in
    record { value_is = omega arith; small = omega arith }

pub returns-then-value-from : goal.returns-then-value-from
returns-then-value-from c =
    let read =
    digit_read c.args.digits.now c.loop-digit.digit-index c.loop-digit.value c.requires c.loop-digit-test.true
    c.loop-digit.invariant.value_is in
    too_big c.args.digits.now (c.loop-digit.digit-index + 1) (c.loop-digit.value * 10 + c.from.result) (omega arith) (omega arith)
