-- Rows of numbers, as the kernels have them.
pub use Rattle.row_loops.specs.Rows.{EachPlace, at}
