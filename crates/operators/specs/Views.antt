-- What contracts see of tests in memory.
use Rattle.operators.specs.declared.point_test.Axis.{Axis as KeptAxis}
use Rattle.operators.specs.declared.point_test.Axis.TheVariants.{Row, Column}
use Rattle.operators.specs.declared.point_test.PointTest.{PointTest as KeptTest}
use Rattle.operators.specs.declared.point_test.PointTest.TheVariants.{Compare, Remainder}
use Rattle.operators.specs.Tests.{Axis, row, column, Test, compare, remainder}

abbrev pub axis_view : KeptAxis → Axis
axis_view Row = row
axis_view Column = column

abbrev pub test_view : KeptTest → Test
test_view (Compare x relation bound) = compare (axis_view x) relation bound
test_view (Remainder x modulus rest) = remainder (axis_view x) modulus rest
