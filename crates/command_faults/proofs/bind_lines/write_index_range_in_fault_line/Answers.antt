use Rattle.std.proofs.Common.{◌++◌, append_assoc, SFits, rules, w32}
use Rattle.std.proofs.Math.Facts.{to_z-of_z}
use Rattle.std.specs.Fmt.{signed_decimal}
use Rattle.std.specs.Prelude.{codes}
use Rattle.command_faults.proofs.Taken.{part_front, takes_err, takes_then}
use Rattle.command_faults.proofs.bind_lines.write_index_range_in_fault_line.Goals as goal

pub returns-in_err-write_fault_words_and_integer : goal.returns-in_err-write_fault_words_and_integer
returns-in_err-write_fault_words_and_integer g c =
    let low : SFits w32 c.args.least = search rules in
    let least = codes " least " ++ signed_decimal c.args.least in
    simp append_assoc (takes_err c.from_residual.result _ _ _ _ _ c.from_residual.ensures.0
    (part_front least (codes " greatest " ++ signed_decimal c.args.greatest) _ _ _ _
    (rw (to_z-of_z {w = w32} {z = c.args.least} low) at c.in_err-write_fault_words_and_integer.ensures)))

pub returns : goal.returns
returns g c =
    let low : SFits w32 c.args.least = search rules in
    let high : SFits w32 c.args.greatest = search rules in
    let least = codes " least " ++ signed_decimal c.args.least in
    simp append_assoc (takes_then c.write_fault_words_and_integer-2.result least (codes " greatest " ++ signed_decimal c.args.greatest) _ _ _ _ _ _
    (rw (to_z-of_z {w = w32} {z = c.args.least} low) at c.in_ok-write_fault_words_and_integer.ensures)
    (rw (to_z-of_z {w = w32} {z = c.args.greatest} high) at c.write_fault_words_and_integer-2.ensures))
