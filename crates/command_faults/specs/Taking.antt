-- What happens to bytes that should be written: the writer takes all of them, or it fails after it took a part.
use Rattle.std.specs.Prelude.{◌≡◌, ◌⊎◌, ℕ, List, Option, Result, Ok, Err}
use Rattle.std.specs.Io.KnownBytes.{Appends}
use Rattle.streams.specs.Streams.{AppendsPart, one_more}

-- all was taken, and no call failed
pub record TakesAll (bytes : List ℕ) (old new : Option (List ℕ)) (before after : ℕ) : Type 0 where
  pub taken : Appends old new bytes
  pub failures : after ≡ before

-- a call failed, and a part was taken
pub record TakesPart (bytes : List ℕ) (old new : Option (List ℕ)) (before after : ℕ) : Type 0 where
  pub taken : AppendsPart old new bytes
  pub failures : after ≡ one_more before

-- all at `Ok`, and a part at `Err`
abbrev pub Takes : {X E : Type 0} → Result X E → List ℕ → Option (List ℕ) → Option (List ℕ) → ℕ → ℕ → Type 0
Takes (Ok _) bytes old new before after = TakesAll bytes old new before after
Takes (Err _) bytes old new before after = TakesPart bytes old new before after

-- the same if the answer is discarded
abbrev pub Puts : List ℕ → Option (List ℕ) → Option (List ℕ) → ℕ → ℕ → Type 0
Puts bytes old new before after = TakesAll bytes old new before after ⊎ TakesPart bytes old new before after
