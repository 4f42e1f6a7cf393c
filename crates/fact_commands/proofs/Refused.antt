-- A fault of an input with fact files has written nothing.
use Rattle.std.proofs.Common.{◌≡◌, ◌≤◌, ℕ, List, Option, Err, length}
use Rattle.std.specs.Prelude.{IfSome}
use Rattle.domains.specs.Sides.{Sides}
use Rattle.command_faults.specs.declared.faults.StreamFault.{StreamFault}
use Rattle.command_inputs.specs.Giving.{Given}
use Rattle.command_outcomes.specs.Outcomes.{Saying, Writes, most_input}
use Rattle.command_outcomes.proofs.Written.{input_fault}
use Rattle.fact_commands.specs.FactFaults.{IsAuditFault, IsMergeFault, refusing_audit, refusing_merge}

pub audit_refused : {Answer : Type 0} (Says : Saying Answer) (known : Option (List ℕ)) (input : List ℕ) (given : List Given) (sides : Sides)
    (f : StreamFault) (old : Option (List ℕ)) → IfSome known (λ all. input ≡ all) → length input ≤ most_input
    → IsAuditFault input given sides f → Writes Says (refusing_audit given sides) known (Err f) old old
audit_refused Says known input given sides f old all within is =
    input_fault Says (refusing_audit given sides) known input f old (λ h. h) (λ h. h) all within is

pub merge_refused : {Answer : Type 0} (Says : Saying Answer) (known : Option (List ℕ)) (input : List ℕ) (f : StreamFault)
    (old : Option (List ℕ)) → IfSome known (λ all. input ≡ all) → length input ≤ most_input → IsMergeFault input f
    → Writes Says refusing_merge known (Err f) old old
merge_refused Says known input f old all within is = input_fault Says refusing_merge known input f old (λ h. h) (λ h. h) all within is
