-- Bytes that pass through a buffer into a writer.
use Rattle.std.specs.Io.KnownBytes.{Appends}
use Rattle.std.specs.Prelude.{◌≡◌, ℕ, List, ◌++◌, Option, Result, Ok, Err}
use Rattle.streams.specs.Streams.{AppendsPart, one_more}

-- of the bytes that waited, followed by these, the first ones are written and the others wait
pub record Passes (bytes waited waits : List ℕ) (old new : Option (List ℕ)) (before after : ℕ) : Type 0 where
  pub gone : List ℕ
  pub parts : waited ++ bytes ≡ gone ++ waits
  pub taken : Appends old new gone
  pub failures : after ≡ before

-- a call failed, and a proper prefix of all of them was written
pub record Breaks (bytes waited : List ℕ) (old new : Option (List ℕ)) (before after : ℕ) : Type 0 where
  pub taken : AppendsPart old new (waited ++ bytes)
  pub failures : after ≡ one_more before

-- what putting these bytes does, at `Ok` and at `Err`
abbrev pub Puts : {X E : Type 0} → Result X E → (bytes waited waits : List ℕ) (old new : Option (List ℕ)) (before after : ℕ) → Type 0
Puts (Ok _) bytes waited waits old new before after = Passes bytes waited waits old new before after
Puts (Err _) bytes waited waits old new before after = Breaks bytes waited old new before after
