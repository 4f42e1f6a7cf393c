use Rattle.std.proofs.Common.{arith}
use Rattle.tile_fact.proofs.PartLaws.{part_takes}
use Rattle.tile_fact.proofs.RecordLaws.{part_shorter}
use Rattle.tile_fact.proofs.record.read_fact_file_u32.Goals as goal

pub decode_fact_file_u32_at_offset-requires : goal.decode_fact_file_u32_at_offset-requires
decode_fact_file_u32_at_offset-requires c = omega (arith, (part_takes c.args.total 4 c.args.bytes.now _ _ c.in_ok-part.ensures).len_is)

pub returns-clause-behind : goal.returns-clause-behind
returns-clause-behind c = part_shorter _ 4 _ _ (part_takes c.args.total 4 c.args.bytes.now _ _ c.in_ok-part.ensures)
