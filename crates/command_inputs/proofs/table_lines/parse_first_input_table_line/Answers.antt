use Rattle.std.proofs.Common.{◌==◌, inl, inr, refl, sym, ◌∙◌, take, arith}
use Rattle.pipe_checks.proofs.Places.{position_within}
use Rattle.command_inputs.proofs.TableLines.{has_table, lacks_line, lacks_table}
use Rattle.command_inputs.proofs.table_lines.parse_first_input_table_line.Goals as goal

pub returns-in_default-clause-fault : goal.returns-in_default-clause-fault
returns-in_default-clause-fault c =
    inr (refl, lacks_line c.args.section.now (λ n there. c.in_default.not-Some n (c.find_end_of_first_input_table_line.ensures ∙ there)))

pub returns-in-Ok-clause-ok : goal.returns-in-Ok-clause-ok
returns-in-Ok-clause-ok c =
    let section = c.args.section.now in
    let end = c.in-Some.end in
    let there = sym c.find_end_of_first_input_table_line.ensures ∙ c.in-Some.is in
    record {
      line = take end section;
      begins = record { at = end; ends = there; before = refl; behind = refl };
      is = c.in-Ok.ensures.found;
      within = omega (arith, position_within (λ byte. byte == 10) section end there);
    }

pub returns-in-Err-BadLine-clause-fault : goal.returns-in-Err-BadLine-clause-fault
returns-in-Err-BadLine-clause-fault c =
    let there = sym c.find_end_of_first_input_table_line.ensures ∙ c.in-Some.is in
    inr (refl, lacks_table c.args.section.now c.in-Some.end there (λ t. c.in-Err-BadLine.ensures.fault c.in-Err-BadLine.field-0-is t))

pub returns-in-Err-Memory-clause-fault : goal.returns-in-Err-Memory-clause-fault
returns-in-Err-Memory-clause-fault c =
    let there = sym c.find_end_of_first_input_table_line.ensures ∙ c.in-Some.is in
    let told = c.in-Err-Memory.ensures.memory c.in-Err-Memory.field-0-is in
    inl (refl, has_table c.args.section.now c.in-Some.end told.0 there told.1)
