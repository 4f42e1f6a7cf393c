-- What reading a reader to its end does to its count of failed calls.
use Rattle.std.specs.Prelude.{◌≡◌, ℕ, Result, Ok, Err}
use Rattle.streams.specs.declared.whole.SourceFault.{SourceFault}
use Rattle.streams.specs.declared.whole.SourceFault.TheVariants.{Failed, TooLong, Memory}
use Rattle.streams.specs.Streams.{one_more}

-- one call failed at `Failed`, and none at any other answer
abbrev pub CountsWholeRead : {X : Type 0} → Result X SourceFault → ℕ → ℕ → Type 0
CountsWholeRead (Ok _) old new = new ≡ old
CountsWholeRead (Err Failed) old new = new ≡ one_more old
CountsWholeRead (Err TooLong) old new = new ≡ old
CountsWholeRead (Err Memory) old new = new ≡ old
