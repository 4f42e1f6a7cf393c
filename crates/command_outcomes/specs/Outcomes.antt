-- What a command has read and written when it ends.
use Rattle.std.specs.Prelude.{◌≡◌, ℕ, ◌<◌, ◌≤◌, List, length, Option, Result, Ok, Err, IfSome}
use Rattle.std.specs.Io.KnownBytes.{Appends}
use Rattle.domains.specs.Sides.{Sides}
use Rattle.streams.specs.Streams.{AppendsPart, one_more}
use Rattle.pipe_tree.specs.Tree.{Declaration}
use Rattle.job.specs.Pipeline.{Pipeline}
use Rattle.job.specs.WellFormed.{IsJob}
use Rattle.command_inputs.specs.Faults.{IsFaultOf}
use Rattle.command_inputs.specs.Giving.{Given}
use Rattle.command_inputs.specs.Input.{IsInputJob}
use Rattle.command_faults.specs.declared.faults.StreamFault.{StreamFault}
use Rattle.command_faults.specs.declared.faults.StreamFault.TheVariants.{Read, TooLong, Memory, Write}

-- ---- what is read

-- the most bytes of an input
abbrev pub most_input : ℕ
most_input = 536870912

-- the faults of reading
abbrev pub IsOfReader : Option (List ℕ) → StreamFault → Type 0
IsOfReader known Read = Unit {0}
IsOfReader known TooLong = IfSome known (λ input. most_input < length input)
IsOfReader known Memory = Unit {0}
IsOfReader known _ = ⊥

-- This holds of an input that is not too long. If the reader's bytes are known, they are the input.
pub record IsOfInput (known : Option (List ℕ)) (Holds : List ℕ → Type 0) : Type 0 where
  pub input : List ℕ
  pub all : IfSome known (λ bytes. input ≡ bytes)
  pub within : length input ≤ most_input
  pub holds : Holds input

-- ---- what a command says

-- the bytes that a command says of an input where it answers this
abbrev pub Saying : Type 0 → Type 1
Saying Answer = Answer → List ℕ → List ℕ → Type 0

-- the faults that a command refuses an input with
abbrev pub Refusing : Type 1
Refusing = List ℕ → StreamFault → Type 0

-- the writer took what the command says where it answers this
pub record AppendsSaid {Answer : Type 0} (Says : Saying Answer) (known : Option (List ℕ)) (answer : Answer)
    (old new : Option (List ℕ)) : Type 0 where
  pub bytes : List ℕ
  pub said : IsOfInput known (λ input. Says answer input bytes)
  pub taken : Appends old new bytes

-- or a part of what it says
pub record AppendsPartSaid {Answer : Type 0} (Says : Saying Answer) (known old new : Option (List ℕ)) : Type 0 where
  pub answer : Answer
  pub bytes : List ℕ
  pub said : IsOfInput known (λ input. Says answer input bytes)
  pub taken : AppendsPart old new bytes

-- the fault is the first one that the command refuses the input with, or one of the reader
abbrev pub IsFirstFault : Refusing → Option (List ℕ) → StreamFault → Type 0
IsFirstFault Refuses known Read = Unit {0}
IsFirstFault Refuses known TooLong = IfSome known (λ input. most_input < length input)
IsFirstFault Refuses known Memory = Unit {0}
IsFirstFault Refuses known fault = IsOfInput known (λ input. Refuses input fault)

-- what was written: all that the command says; a part of it if the writer failed; else nothing, and the fault is the first one
abbrev pub Writes : {Answer : Type 0} → Saying Answer → Refusing → Option (List ℕ) → Result Answer StreamFault → Option (List ℕ)
    → Option (List ℕ) → Type 0
Writes Says Refuses known (Ok answer) old new = AppendsSaid Says known answer old new
Writes Says Refuses known (Err Write) old new = AppendsPartSaid Says known old new
Writes Says Refuses known (Err fault) old new = (new ≡ old) × IsFirstFault Refuses known fault

-- for `Read` one call of the reader failed, and for any other answer none
abbrev pub CountsRead : {X : Type 0} → Result X StreamFault → ℕ → ℕ → Type 0
CountsRead (Err Read) old new = new ≡ one_more old
CountsRead _ old new = new ≡ old

-- for `Write` one call of the writer failed, and for any other answer none
abbrev pub CountsWritten : {X : Type 0} → Result X StreamFault → ℕ → ℕ → Type 0
CountsWritten (Err Write) old new = new ≡ one_more old
CountsWritten _ old new = new ≡ old

-- ---- commands on a program and a picture

-- which bytes a command says of the tree of a program and of its job
abbrev pub JobSaying : Type 1
JobSaying = List Declaration → Pipeline → List ℕ → Type 0

-- the bytes are what a command says of the program and of the job of an input
pub record IsSaid (Says : JobSaying) (given : List Given) (sides : Sides) (input bytes : List ℕ) : Type 0 where
  pub tree : List Declaration
  pub job : Pipeline
  pub is_job : IsJob job
  pub of_input : IsInputJob input given sides tree job
  pub says : Says tree job bytes

-- a command that has no answer of its own
abbrev pub saying_of_job : JobSaying → List Given → Sides → Saying (Unit {0})
saying_of_job Says given sides answer input bytes = IsSaid Says given sides input bytes

abbrev pub refusing_job : List Given → Sides → Refusing
refusing_job given sides input fault = IsFaultOf input given sides fault
