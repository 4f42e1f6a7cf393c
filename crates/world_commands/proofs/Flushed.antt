-- What a writer takes of bytes that went through a buffer, which was empty at first and is flushed at last.
use Rattle.std.proofs.Common.{◌≡◌, ◌++◌, ℕ, List, [], Option, Result, Ok, Err, OnOk, subst}
use Rattle.std.specs.Prelude.{IsErr, OnErr}
use Rattle.std.specs.Io.KnownBytes.{Appends}
use Rattle.streams.specs.Streams.{AppendsPart, CountsFailure}
use Rattle.command_faults.proofs.Taken.{takes_err, takes_of}
use Rattle.command_faults.specs.Taking.{Takes}
use Rattle.write_buffer.proofs.PassingLaws.{part_out, whole_out}
use Rattle.write_buffer.specs.Passing.{Breaks, Passes}

pub broken : {X E : Type 0} (r : Result X E) (bytes was : List ℕ) (a b : Option (List ℕ)) (n m : ℕ) → IsErr r → was ≡ []
    → Breaks bytes was a b n m → Takes r bytes a b n m
broken r bytes was a b n m is none breaks =
    takes_err r bytes a b n m is
    (record { taken = subst (λ (l : List ℕ). AppendsPart a b (l ++ bytes)) none breaks.taken; failures = breaks.failures })

pub flushed : {X E : Type 0} (r : Result X E) (bytes was mid : List ℕ) (a b c : Option (List ℕ)) (n m k : ℕ) → was ≡ []
    → Passes bytes was mid a b n m → OnOk r (Appends b c mid) → OnErr r (AppendsPart b c mid) → CountsFailure r m k
    → Takes r bytes a c n k
flushed r bytes was mid a b c n m k none passes all part counts =
    takes_of r bytes a c n k (whole_out r bytes was mid a b c n m none passes all) (part_out r bytes was mid a b c n m none passes part)
    (subst (λ (was_before : ℕ). CountsFailure r was_before k) passes.failures counts)
