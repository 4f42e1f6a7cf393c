-- How the rows of tiles of a stage are partitioned among threads.
use Rattle.std.specs.Prelude.{ℕ, ◌*◌, max}
use Rattle.std.specs.Int.{div_ceil}

-- of rows that are so much work together, how many are 4,194,304 reads and operators or more
abbrev pub rows_worth_a_thread : ℕ → ℕ → ℕ
rows_worth_a_thread rows work = div_ceil (4194304 * rows) (max work 1)
