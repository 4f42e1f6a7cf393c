use Rattle.command_faults.proofs.fault_lines.write_stream_fault_without_line_feed.Goals as goal

pub returns-in-Read : goal.returns-in-Read
returns-in-Read g c = rw c.in-Read.is c.write_text_in_fault_line.ensures

pub returns-in-NoSeparator : goal.returns-in-NoSeparator
returns-in-NoSeparator g c = rw c.in-NoSeparator.is c.write_text_in_fault_line-in-NoSeparator.ensures

pub returns-in-Tables : goal.returns-in-Tables
returns-in-Tables g c = rw c.in-Tables.is c.write_fault_words_and_count.ensures
