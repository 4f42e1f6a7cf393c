-- What a command has written where it ends, from what its steps make sure of.
use Rattle.std.proofs.Common.{◌≡◌, ◌≤◌, List, length, Result, Ok, Err, OnOk, Option, ℕ, refl, sym, subst}
use Rattle.std.specs.Prelude.{IfErr, IfOk, IfSome, OnErr}
use Rattle.std.specs.Io.KnownBytes.{Appends}
use Rattle.domains.specs.Sides.{Sides}
use Rattle.streams.specs.Streams.{AppendsPart}
use Rattle.job.specs.Kept.{pipeline_in}
use Rattle.job.specs.WellFormed.{IsJob}
use Rattle.job.specs.declared.job.Job.{Job}
use Rattle.command_faults.specs.declared.faults.StreamFault.{StreamFault}
use Rattle.command_faults.specs.declared.faults.StreamFault.TheVariants as faults
use Rattle.command_inputs.specs.Faults.{IsFaultOf}
use Rattle.command_inputs.specs.Giving.{Given}
use Rattle.command_inputs.specs.Input.{IsReadJob}
use Rattle.command_outcomes.specs.Outcomes.{AppendsSaid, IsOfInput, IsOfReader, IsSaid, JobSaying, Refusing}
use Rattle.command_outcomes.specs.Outcomes.{Saying, Writes, most_input, refusing_job}

-- ---- nothing was written

-- a fault of the reader wrote nothing
pub reader_fault : {Answer : Type 0} (Says : Saying Answer) (Refuses : Refusing) (known : Option (List ℕ)) (f : StreamFault)
    (old : Option (List ℕ)) → IsOfReader known f → Writes Says Refuses known (Err f) old old
reader_fault Says Refuses known faults.Read old is = (refl, tt)
reader_fault Says Refuses known faults.TooLong old is = (refl, is)
reader_fault Says Refuses known faults.Memory old is = (refl, tt)
reader_fault Says Refuses known faults.NoSeparator old is = absurd is
reader_fault Says Refuses known (faults.Program x) old is = absurd is
reader_fault Says Refuses known (faults.Tables x) old is = absurd is
reader_fault Says Refuses known (faults.Picture x) old is = absurd is
reader_fault Says Refuses known (faults.Check x) old is = absurd is
reader_fault Says Refuses known (faults.Param x) old is = absurd is
reader_fault Says Refuses known (faults.Bind x) old is = absurd is
reader_fault Says Refuses known (faults.Facts x) old is = absurd is
reader_fault Says Refuses known (faults.Script x) old is = absurd is
reader_fault Says Refuses known (faults.Farm x) old is = absurd is
reader_fault Says Refuses known faults.Write old is = absurd is

of_input : (known : Option (List ℕ)) (input : List ℕ) (Holds : List ℕ → Type 0) → IfSome known (λ all. input ≡ all)
    → length input ≤ most_input → Holds input → IsOfInput known Holds
of_input known input Holds all within holds = record { input = input; all = all; within = within; holds = holds }

-- a fault of the input wrote nothing: it is none of the reader's or the writer's own
pub input_fault : {Answer : Type 0} (Says : Saying Answer) (Refuses : Refusing) (known : Option (List ℕ)) (input : List ℕ)
    (f : StreamFault) (old : Option (List ℕ)) → ¬ Refuses input faults.TooLong → ¬ Refuses input faults.Write
    → IfSome known (λ all. input ≡ all) → length input ≤ most_input → Refuses input f → Writes Says Refuses known (Err f) old old
input_fault Says Refuses known input faults.Read old long write all within is = (refl, tt)
input_fault Says Refuses known input faults.TooLong old long write all within is = absurd (long is)
input_fault Says Refuses known input faults.Memory old long write all within is = (refl, tt)
input_fault Says Refuses known input faults.Write old long write all within is = absurd (write is)
input_fault Says Refuses known input faults.NoSeparator old long write all within is =
    (refl, of_input known input (λ i. Refuses i faults.NoSeparator) all within is)
input_fault Says Refuses known input (faults.Program x) old long write all within is =
    (refl, of_input known input (λ i. Refuses i (faults.Program x)) all within is)
input_fault Says Refuses known input (faults.Tables x) old long write all within is =
    (refl, of_input known input (λ i. Refuses i (faults.Tables x)) all within is)
input_fault Says Refuses known input (faults.Picture x) old long write all within is =
    (refl, of_input known input (λ i. Refuses i (faults.Picture x)) all within is)
input_fault Says Refuses known input (faults.Check x) old long write all within is =
    (refl, of_input known input (λ i. Refuses i (faults.Check x)) all within is)
input_fault Says Refuses known input (faults.Param x) old long write all within is =
    (refl, of_input known input (λ i. Refuses i (faults.Param x)) all within is)
input_fault Says Refuses known input (faults.Bind x) old long write all within is =
    (refl, of_input known input (λ i. Refuses i (faults.Bind x)) all within is)
input_fault Says Refuses known input (faults.Facts x) old long write all within is =
    (refl, of_input known input (λ i. Refuses i (faults.Facts x)) all within is)
input_fault Says Refuses known input (faults.Script x) old long write all within is =
    (refl, of_input known input (λ i. Refuses i (faults.Script x)) all within is)
input_fault Says Refuses known input (faults.Farm x) old long write all within is =
    (refl, of_input known input (λ i. Refuses i (faults.Farm x)) all within is)

-- the same of each kind of input
pub job_refused : {Answer : Type 0} (Says : Saying Answer) (known : Option (List ℕ)) (input : List ℕ) (given : List Given) (sides : Sides)
    (f : StreamFault) (old : Option (List ℕ)) → IfSome known (λ all. input ≡ all) → length input ≤ most_input
    → IsFaultOf input given sides f → Writes Says (refusing_job given sides) known (Err f) old old
job_refused Says known input given sides f old all within is =
    input_fault Says (refusing_job given sides) known input f old (λ h. h) (λ h. h) all within is

-- ---- what is said was written

pub all_written : {Answer : Type 0} (Says : Saying Answer) (Refuses : Refusing) (known : Option (List ℕ)) (input : List ℕ)
    (answer : Answer) (bytes : List ℕ) (old new : Option (List ℕ)) → IfSome known (λ all. input ≡ all) → length input ≤ most_input
    → Says answer input bytes → Appends old new bytes → Writes Says Refuses known (Ok answer) old new
all_written Says Refuses known input answer bytes old new all within says whole =
    record { bytes = bytes; said = of_input known input (λ i. Says answer i bytes) all within says; taken = whole }

-- a part of it, where the writer failed
pub part_written : {Answer : Type 0} (Says : Saying Answer) (Refuses : Refusing) (known : Option (List ℕ)) (input : List ℕ)
    (answer : Answer) (bytes : List ℕ) (r : Result Answer StreamFault) (old new : Option (List ℕ))
    → IfSome known (λ all. input ≡ all) → length input ≤ most_input → Says answer input bytes → AppendsPart old new bytes
    → r ≡ Err faults.Write → Writes Says Refuses known r old new
part_written Says Refuses known input answer bytes r old new all within says part fault =
    rw fault
    (record { answer = answer; bytes = bytes; said = of_input known input (λ i. Says answer i bytes) all within says; taken = part })

-- ---- what is said

-- what is said of the job that is read of an input
pub said_of : (Says : JobSaying) (input : List ℕ) (given : List Given) (sides : Sides) (job : Job) (bytes : List ℕ)
    (read : IsReadJob input given sides job) → IsJob (pipeline_in job)
    → Says read.tree (pipeline_in job) bytes → IsSaid Says given sides input bytes
said_of Says input given sides job bytes read is says =
    record { tree = read.tree; job = pipeline_in job; is_job = is; of_input = read.of_input; says = says }
