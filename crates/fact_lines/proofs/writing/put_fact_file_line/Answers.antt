use Rattle.std.proofs.Common.{[], ◌∷◌}
use Rattle.hex.specs.Hex.{encode_lower}
use Rattle.tile_fact.specs.FactFile.{fact_file}
use Rattle.write_buffer.proofs.PassingLaws.{puts_then}
use Rattle.fact_lines.proofs.writing.put_fact_file_line.Goals as goal

pub returns : goal.returns
returns g c =
    puts_then c.put_bytes.result (encode_lower (fact_file c.args.retired.now c.args.facts.now)) (10 ∷ []) _ _ _ _ _ _ _ _ _
    c.in_ok-put_hex_fact_file.ensures c.put_bytes.ensures
