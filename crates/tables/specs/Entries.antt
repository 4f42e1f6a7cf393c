-- The entries of a table, one for each whole number from its first index to its last, and the entry that an index takes.
use Rattle.std.specs.Prelude.{ℕ, ℤ, pos, negsuc, ◌≡◌, ◌≤◌, ◌+ℤ◌, ◌-ℤ◌, ◌≤ℤ◌, List, length, slice_index_or, All, FitsSigned}
use Rattle.std.specs.Int.{w32, int_gap}
use Rattle.domains.specs.Arithmetic.{clamped}
use Rattle.domains.specs.Span.{Ends, len_of}

pub record Entries : Type 0 where
  pub span : Ends
  pub values : List ℤ

-- the indices of a table: there are some, and the ends lie within 16,384 of 0
pub record AreIndices (span : Ends) : Type 0 where
  pub least : negsuc 16383 ≤ℤ span.lo
  pub ordered : span.lo ≤ℤ span.hi
  pub most : span.hi ≤ℤ pos 16384

-- count entries are one for each index, at most 4,096
pub record AreEntries (span : Ends) (count : ℕ) : Type 0 where
  pub indices : AreIndices span
  pub size : count ≡ len_of span
  pub few : count ≤ 4096

-- and each is a number of 32 bits
pub record IsEntries (t : Entries) : Type 0 where
  pub shape : AreEntries t.span (length t.values)
  pub fit : All (FitsSigned w32) t.values

-- the entry at an index: a number below the first index takes the first entry, and one above the last takes the last
abbrev pub entry_at : Entries → ℤ → ℤ
entry_at t v = slice_index_or t.values (int_gap t.span.lo (clamped v t.span.lo t.span.hi)) (pos 0)

-- the span of count indices from the first
abbrev pub span_from : ℤ → ℕ → Ends
span_from lo count = record { lo = lo; hi = (lo +ℤ pos count) -ℤ pos 1 }
