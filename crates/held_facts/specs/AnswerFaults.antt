-- The numbers and the printed names of the faults of an answer.
use Rattle.std.specs.Prelude.{ℕ, List, codes}
use Rattle.held_facts.specs.declared.answer_fault.AnswerFault.{AnswerFault}
use Rattle.held_facts.specs.declared.answer_fault.AnswerFault.TheVariants.{Missing, Disputed, Misshapen, Memory, Retired}

abbrev pub number_of : AnswerFault → ℕ
number_of (Missing key) = 1
number_of (Disputed key) = 2
number_of (Misshapen key) = 3
number_of Memory = 4
number_of Retired = 5

abbrev pub name_of : AnswerFault → List ℕ
name_of (Missing key) = codes "Missing"
name_of (Disputed key) = codes "Disputed"
name_of (Misshapen key) = codes "Misshapen"
name_of Memory = codes "Memory"
name_of Retired = codes "Retired"
