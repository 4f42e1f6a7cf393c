use Rattle.std.proofs.Common.{ap, arith, length, subst, sym}
use Rattle.fact_lines.specs.declared.fault.FactLinesFault.{FactLinesFault}
use Rattle.fact_lines.specs.Faults.{IsLineFault}
use Rattle.fact_lines.proofs.GatheringLaws.{line_fault}
use Rattle.fact_lines.proofs.line.decode_fact_file_line.Goals as goal

pub returns-clause-fault : goal.returns-clause-fault
returns-clause-fault c =
    let file = rw c.deref.ensures.value at c.in-Err-decode.ensures.fault in
    subst (λ (fault : FactLinesFault). IsLineFault c.args.number c.args.line.now fault) (sym c.attach_fact_line_number_to_fault.ensures)
    (line_fault c.args.number c.args.line.now c.in-Ok.bytes.items c.in-Err-decode.fault
    (λ none. let len = ap length none in omega (arith, len))
    c.in-Ok.ensures.ok file)
