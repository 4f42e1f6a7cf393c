-- The verdicts on the facts so far.
use Rattle.fact_audit.specs.Verdicts.{IsVerdict}
use Rattle.fact_audit.proofs.Pairing.{IsBegun}
use Rattle.fact_audit.proofs.several.audit_facts.Given as goal

abbrev pub invariant-loop-fact : goal.invariant-loop-fact
invariant-loop-fact l = IsBegun (IsVerdict l.catalog) l.facts l.verdicts.items l.fact-index
