-- The tasks on a program and a picture, and the words that request them.
use Rattle.std.specs.Prelude.{◌≡◌, ℕ, Some, List, codes, slice_get, string_bytes}
use Rattle.std.specs.declared.alloc.Global.{Global}
use Rattle.std.specs.declared.string.String.{String}
use Rattle.command_line.specs.declared.tasks.CommandTask.{CommandTask}
use Rattle.command_line.specs.declared.tasks.CommandTask.TheVariants.{Eval, Check, Plan, Run, Audit, World}

abbrev pub word_of : CommandTask → List ℕ
word_of Eval = codes "eval"
word_of Check = codes "check"
word_of Plan = codes "plan"
word_of (Run farm) = codes "run"
word_of Audit = codes "audit"
word_of (World nodes) = codes "world"

-- the first of the words is the task's
abbrev pub AsksFor : List (String Global) → CommandTask → Type 0
AsksFor words task = (word : String Global) × (slice_get words 0 ≡ Some word) × (string_bytes word ≡ word_of task)
