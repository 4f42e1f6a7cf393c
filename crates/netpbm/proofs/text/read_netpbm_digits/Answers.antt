-- One more digit.
use Rattle.std.proofs.Common.{arith, rules}
use Rattle.std.proofs.lemmas.Grind.{common_steps}
use Rattle.std.proofs.lemmas.Str.{digit_value_digit}
use Rattle.netpbm.proofs.Numbers.{digit_step}
use Rattle.netpbm.proofs.text.read_netpbm_digits.Goals as goal

pub loop-at-preserved : goal.loop-at-preserved
loop-at-preserved c =
    let digit = c.if-is_ascii_digit.true in (
      search rules,
      search rules,
      grind (arith, common_steps),
      digit_step c.args.bytes.now c.loop-at.at c.loop-at.value c.min-value.result _ (search rules) (search rules)
          (search (rules, digit_value_digit)) c.loop-at.invariant.3,
    )
