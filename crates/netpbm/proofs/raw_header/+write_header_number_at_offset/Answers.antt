-- The last digit behind the others.
use Rattle.std.proofs.Common.{◌+◌, ◌%◌, ◌∙◌, take, arith, rules}
use Rattle.netpbm.proofs.Decimals.{length_one_digit, length_more_digits, one_digit}
use Rattle.netpbm.proofs.raw_header.+write_header_number_at_offset.Goals as goal

pub write_header_byte_at_offset-requires : goal.write_header_byte_at_offset-requires
write_header_byte_at_offset-requires t c = omega (arith, length_one_digit c.args.number c.if-number-lt10.true)

pub returns-then-number-lt10-clause-end : goal.returns-then-number-lt10-clause-end
returns-then-number-lt10-clause-end t c = omega (arith, length_one_digit c.args.number c.if-number-lt10.true)

pub returns-then-number-lt10-clause-written : goal.returns-then-number-lt10-clause-written
returns-then-number-lt10-clause-written t c =
    c.write_header_byte_at_offset.ensures.written
    ∙ one_digit c.args.number (48 + c.args.number % 10) (take c.args.start c.args.out.now) c.if-number-lt10.true (search rules)

pub write_header_number_at_offset-at-requires : goal.write_header_number_at_offset-at-requires
write_header_number_at_offset-at-requires t c = (omega arith, omega (arith, length_more_digits c.args.number c.if-number-lt10.false (search rules)))

pub write_header_byte_at_offset-requires-2 : goal.write_header_byte_at_offset-requires-2
write_header_byte_at_offset-requires-2 t c = omega (arith, length_more_digits c.args.number c.if-number-lt10.false (search rules))

pub returns-clause-end : goal.returns-clause-end
returns-clause-end t c = omega (arith, length_more_digits c.args.number c.if-number-lt10.false (search rules))
