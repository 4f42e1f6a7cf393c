use Rattle.std.proofs.Common.{arith}
use Rattle.hex.specs.Hex.{encode_lower}
use Rattle.tile_fact.specs.FactFile.{fact_record}
use Rattle.write_buffer.proofs.PassingLaws.{breaks_more, passes_more, puts_err}
use Rattle.fact_lines.proofs.records.put_hex_fact_records.Goals as goal

pub returns-in_err-put_hex_fact_record : goal.returns-in_err-put_hex_fact_record
returns-in_err-put_hex_fact_record g c =
    puts_err c.from_residual.result _ _ _ _ _ _ _ c.from_residual.ensures.0
    (breaks_more (λ fact. encode_lower (fact_record fact)) c.args.facts.now c.loop-fact.fact-index _ _ _ _ _ _ _ _ _ (omega arith)
    c.loop-fact.invariant (rw c.fact-item.is at c.in_err-put_hex_fact_record.ensures))

pub loop-fact-preserved : goal.loop-fact-preserved
loop-fact-preserved g c =
    passes_more (λ fact. encode_lower (fact_record fact)) c.args.facts.now c.loop-fact.fact-index _ _ _ _ _ _ _ _ _ _ (omega arith)
    c.loop-fact.invariant (rw c.fact-item.is at c.in_ok-put_hex_fact_record.ensures)
