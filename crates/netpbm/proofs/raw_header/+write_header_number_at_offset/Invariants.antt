use Rattle.netpbm.proofs.raw_header.+write_header_number_at_offset.Given as goal

abbrev pub decreases-write_header_number_at_offset : goal.decreases-write_header_number_at_offset
decreases-write_header_number_at_offset l = l.number
