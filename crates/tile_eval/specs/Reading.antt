-- What a formula reads along a row of points, and the capacity that its operands need.
use Rattle.std.specs.Prelude.{ℕ, suc, ◌+◌, ◌-◌, ◌<◌, ◌≤◌, ℤ, pos, ◌+ℤ◌, Option, List, length, All}
use Rattle.std.specs.Option.{ForSome}
use Rattle.domains.specs.Index.{index_at}
use Rattle.job.specs.Formula.{Formula, number, coordinate, read, unary, binary, ternary, literal, lookup, select, stencil}
use Rattle.job.specs.Pipeline.{JobCase}
use Rattle.job.specs.Values.{factors, kernel_row, kernel_column}
use Rattle.row_loops.specs.Rows.{EachPlace}

-- the samples under a kernel about the n points of row r from column c on are available
abbrev pub KernelWithin : (ℤ → ℤ → Type 0) → List (List ℤ) → ℤ → ℤ → ℕ → Type 0
KernelWithin has kernel r c n =
    (a j : ℕ) → a < length kernel → suc j < n + length (factors kernel a) → has (kernel_row kernel r a) (kernel_column kernel c j)

-- has says of a stage, a row and a column whether a sample is available. Each sample that a formula reads is available, at the n
-- points of row r from column c on
abbrev pub ReadsWithin : (ℕ → ℤ → ℤ → Type 0) → Formula → ℤ → ℤ → ℕ → Type 0
ReadsWithin has (number m) r c n = Unit {0}
ReadsWithin has (coordinate x) r c n = Unit {0}
ReadsWithin has (read g i j) r c n = EachPlace n (λ k. has g (index_at i r) (index_at j (c +ℤ pos k)))
ReadsWithin has (unary op a) r c n = ReadsWithin has a r c n
ReadsWithin has (binary op a b) r c n = ReadsWithin has a r c n × ReadsWithin has b r c n
ReadsWithin has (ternary op a b d) r c n = ReadsWithin has a r c n × ReadsWithin has b r c n × ReadsWithin has d r c n
ReadsWithin has (literal op a m) r c n = ReadsWithin has a r c n
ReadsWithin has (lookup t a) r c n = ReadsWithin has a r c n
ReadsWithin has (select a relation b first second) r c n =
    ReadsWithin has a r c n × ReadsWithin has b r c n × ReadsWithin has first r c n × ReadsWithin has second r c n
ReadsWithin has (stencil g divisor kernel) r c n = KernelWithin (has g) kernel r c n

-- room numbers are enough for the operands of a formula at n points. A stencil takes the samples under a row of its kernel
abbrev pub HasRoom : Formula → ℕ → ℕ → Type 0
HasRoom (number m) n room = Unit {0}
HasRoom (coordinate x) n room = Unit {0}
HasRoom (read g i j) n room = Unit {0}
HasRoom (unary op a) n room = HasRoom a n room
HasRoom (binary op a b) n room = HasRoom a n room × (n ≤ room) × HasRoom b n (room - n)
HasRoom (ternary op a b c) n room = HasRoom a n room × (n + n ≤ room) × HasRoom b n (room - (n + n)) × HasRoom c n (room - (n + n))
HasRoom (literal op a m) n room = HasRoom a n room
HasRoom (lookup t a) n room = HasRoom a n room
HasRoom (select a relation b first second) n room =
    HasRoom first n room × (n + n + n ≤ room) × HasRoom a n (room - (n + n + n)) × HasRoom b n (room - (n + n + n))
    × HasRoom second n (room - (n + n + n))
HasRoom (stencil g divisor kernel) n room = n + 14 ≤ room

-- capacity for one row, for the operands of all cases beside it, and for those of what holds elsewhere
pub record HasFunctionRoom (n room : ℕ) (ps : List JobCase) (otherwise : Option Formula) : Type 0 where
  pub row : n ≤ room
  pub operands : All (λ p. HasRoom p.formula n (room - n)) ps
  pub other : ForSome otherwise (λ f. HasRoom f n room)
