use Rattle.write_buffer.proofs.PassingLaws.{part_out}
use Rattle.fact_lines.proofs.writing.write_fact_file_line_to_sink.Goals as goal

pub returns-clause-part : goal.returns-clause-part
returns-clause-part g c =
    part_out c.flush.result _ _ _ _ _ _ _ _ c.new-buffer.ensures c.in_ok-put_fact_file_line.ensures c.flush.ensures.part
