use Rattle.tile_fact.proofs.laws.arrays_are_fact_file_digests.Goals as goal

pub returns : goal.returns
returns c = record { count = c.told-bytes; are_bytes = c.slices_are_fact_file_bytes.ensures }
