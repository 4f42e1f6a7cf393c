-- What readers and writers do to their bytes and to their counts of failed calls.
use Rattle.std.specs.Prelude.{◌≡◌, ℕ, zero, suc, ◌+◌, ◌%◌, ◌^◌, ◌<◌, List, [], ◌∷◌, length, take, Option, Result, Ok, Err}
use Rattle.std.specs.Io.KnownBytes.{Appends}

-- a count of 64 bits increases by one, and from its greatest value it continues at 0
abbrev pub one_more : ℕ → ℕ
one_more count = (count + 1) % 2 ^ 64

-- one call failed at `Err`, and none at `Ok`
abbrev pub CountsFailure : {X E : Type 0} → Result X E → ℕ → ℕ → Type 0
CountsFailure (Ok _) old new = new ≡ old
CountsFailure (Err _) old new = new ≡ one_more old

-- the same of a write of these bytes, which also fails if there are some and it takes none
abbrev pub CountsWrite : {E : Type 0} → Result ℕ E → List ℕ → ℕ → ℕ → Type 0
CountsWrite (Ok zero) [] old new = new ≡ old
CountsWrite (Ok zero) (_ ∷ _) old new = new ≡ one_more old
CountsWrite (Ok (suc _)) bytes old new = new ≡ old
CountsWrite (Err _) bytes old new = new ≡ one_more old

-- known bytes grow by a prefix of bs that is not all of it
abbrev pub AppendsPart : Option (List ℕ) → Option (List ℕ) → List ℕ → Type 0
AppendsPart old new bs = (n : ℕ) × (n < length bs) × Appends old new (take n bs)
