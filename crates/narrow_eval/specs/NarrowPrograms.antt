-- The formulas that programs of instructions compute.
use Rattle.std.specs.Prelude.{◌≡◌, Option, List, map}
use Rattle.std.specs.Option.{option_map}
use Rattle.job.specs.Formula.{Formula, number, coordinate, read, unary, binary, ternary, literal, lookup, select, stencil}
use Rattle.job.specs.Pipeline.{JobCase}
use Rattle.operators.specs.Views.{axis_view, test_view}
use Rattle.operators.specs.declared.operator.UnaryOp.TheVariants.{Abs}
use Rattle.operators.specs.declared.operator.BinaryOp.TheVariants.{Sub, Min, Max}
use Rattle.narrow_sums.specs.SumRows.{sum_row_formula, joined_sum_formula}
use Rattle.narrow_sums.specs.SumTerms.{read_formula}
use Rattle.narrow_eval.specs.declared.narrow_program.NarrowProgram.{NarrowProgram}
use Rattle.narrow_eval.specs.declared.narrow_program.NarrowProgram.TheVariants.{Number, Coordinate, Line, Gather, Unary', Binary'}
use Rattle.narrow_eval.specs.declared.narrow_program.NarrowProgram.TheVariants.{Ternary', Literal', Lookup', Select', Stencil}
use Rattle.narrow_eval.specs.declared.narrow_program.NarrowProgram.TheVariants.{Distance, Least, Greatest, Median, Sum, JoinedSum'}
use Rattle.narrow_eval.specs.declared.narrow_case.NarrowCase.{NarrowCase}
use Rattle.narrow_eval.specs.declared.narrow_case.NarrowFunction.{NarrowFunction}

-- the formula that a program computes, instruction by instruction
abbrev pub program_formula : NarrowProgram → Formula
program_formula (Number n) = number n
program_formula (Coordinate x) = coordinate (axis_view x)
program_formula (Line x) = read_formula x
program_formula (Gather g i j) = read g i j
program_formula (Unary' op p a) = unary op (program_formula a)
program_formula (Binary' op p a q b) = binary op (program_formula a) (program_formula b)
program_formula (Ternary' op p a q b r c) = ternary op (program_formula a) (program_formula b) (program_formula c)
program_formula (Literal' op p a n) = literal op (program_formula a) n
program_formula (Lookup' t p a) = lookup t (program_formula a)
program_formula (Select' p a relation q b r c s d) =
    select (program_formula a) relation (program_formula b) (program_formula c) (program_formula d)
program_formula (Stencil g divisor kernel) = stencil g divisor kernel
program_formula (Distance a b) = unary Abs (binary Sub (read_formula a) (read_formula b))
program_formula (Least a b c) = binary Min (binary Min (read_formula a) (read_formula b)) (read_formula c)
program_formula (Greatest a b c) = binary Max (binary Max (read_formula a) (read_formula b)) (read_formula c)
program_formula (Median a b c) =
    binary Max (binary Min (read_formula a) (read_formula b)) (binary Min (binary Max (read_formula a) (read_formula b)) (read_formula c))
program_formula (Sum row) = sum_row_formula row
program_formula (JoinedSum' p start row) = joined_sum_formula (program_formula start) row

-- the case of which one is a program
abbrev pub program_case : NarrowCase → JobCase
program_case p = record { box = p.area; tests = map test_view p.tests.items; formula = program_formula p.program }

-- a function with programs computes these cases and this other formula
abbrev pub IsProgramOf : NarrowFunction → List JobCase → Option Formula → Type 0
IsProgramOf p cases otherwise = ∥ (map program_case p.cases.items ≡ cases) × (option_map program_formula p.otherwise ≡ otherwise) ∥₁
