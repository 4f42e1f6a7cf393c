-- Numbers that are counted up to 64 bits.
use Rattle.std.specs.Prelude.{ℕ, ◌≡◌, ◌≤◌, ◌^◌, Option, Some, None}

-- this number, or none if it exceeds 64 bits
abbrev pub IsCounted : Option ℕ → ℕ → Type 0
IsCounted None n = 2 ^ 64 ≤ n
IsCounted (Some m) n = m ≡ n
