-- Small jobs that no symmetry hides: sides of different lengths, rows that are not columns, and numbers below 0.
use Rattle.std.specs.Prelude.{ℤ, pos, negsuc, Some, None, List, [], ◌∷◌}
use Rattle.domains.specs.Index.{Scale}
use Rattle.domains.specs.declared.area.Area.{Area}
use Rattle.netpbm.specs.Image.{image}
use Rattle.operators.specs.declared.operator.UnaryOp.TheVariants.{Neg}
use Rattle.operators.specs.declared.operator.BinaryOp.TheVariants.{Add, Mul}
use Rattle.operators.specs.declared.operator.LiteralOp.TheVariants.{Shl}
use Rattle.operators.specs.declared.operator.Relation.TheVariants.{AtMost, AtLeast}
use Rattle.operators.specs.declared.operator.ReductionOp.TheVariants.{Max}
use Rattle.job.specs.Formula.{row, column, number, coordinate, read, unary, binary, literal, stencil, Test, compare, remainder}
use Rattle.job.specs.Pipeline.{function, accumulator, Stage, Pipeline}
use Rattle.job.specs.Worked.{ends, area, sides, same, plane_stage, everywhere, job_of}

-- image I(1,3);
-- func f(x in [0..0], y in [1..1]) { else : stencil(I, 1, [[1,10,100]]); }
-- output f max 255;
abbrev pub leaning : Pipeline
leaning =
    job_of
    (plane_stage 73 0 (area (pos 0) (pos 2))
    ∷ everywhere 102 1 (record { rows = ends (pos 0) (pos 0); cols = ends (pos 1) (pos 1) })
    (stencil 0 1 ((pos 1 ∷ pos 10 ∷ pos 100 ∷ []) ∷ []))
    ∷ [])
    (1 ∷ [])
    255
    (image 1 3 3 ((1 ∷ 2 ∷ 3 ∷ []) ∷ []))
    (sides 64 64)

-- image I(1,1);
-- func f(x in [0..2], y in [0..3]) { case x <= 1 and y % 2 == 1 : 1; case y >= 2 : x + 1 << 3; else : 10 * x + y; }
-- output f max 20;
abbrev pub odd_columns : List Test
odd_columns = compare row AtMost (pos 1) ∷ remainder column 2 1 ∷ []

abbrev pub right_half : List Test
right_half = compare column AtLeast (pos 2) ∷ []

abbrev pub parted : Stage
parted =
    record {
      name = 102 ∷ [];
      rank = 1;
      domain = area (pos 2) (pos 3);
      body =
          function
          (record { box = Some (area (pos 1) (pos 3)); tests = odd_columns; formula = number (pos 1) }
          ∷ record {
            box = Some (record { rows = ends (pos 0) (pos 2); cols = ends (pos 2) (pos 3) });
            tests = right_half;
            formula = binary Add (coordinate row) (literal Shl (number (pos 1)) 3);
          }
          ∷ [])
          (Some (binary Add (binary Mul (number (pos 10)) (coordinate row)) (coordinate column)));
    }

abbrev pub choosing : Pipeline
choosing = job_of (plane_stage 73 0 (area (pos 0) (pos 0)) ∷ parted ∷ []) (1 ∷ []) 20 (image 1 1 1 ((0 ∷ []) ∷ [])) (sides 2 2)

-- image I(1,1);
-- func g(x in [-3..-1], y in [0..0]) { else : x; }
-- func f(x in [-1..1], y in [0..0]) { else : g((x-4)/2, y); }
-- output f max 255;
abbrev pub down : ℤ → ℤ → Area
down top bottom = record { rows = ends top bottom; cols = ends (pos 0) (pos 0) }

abbrev pub half_less_four : Scale
half_less_four = record { mul = pos 1; add = negsuc 3; div = pos 2 }

abbrev pub below_zero : Pipeline
below_zero =
    job_of
    (plane_stage 73 0 (area (pos 0) (pos 0))
    ∷ everywhere 103 1 (down (negsuc 2) (negsuc 0)) (coordinate row)
    ∷ everywhere 102 2 (down (negsuc 0) (pos 1)) (read 1 half_less_four same)
    ∷ [])
    (2 ∷ [])
    255
    (image 1 1 1 ((0 ∷ []) ∷ []))
    (sides 64 64)

-- image I(2,3);
-- accum m [-1..1] over (x in [0..1], y in [0..2]) max I(x, y) at y + -1;
abbrev pub greatest_samples : Pipeline
greatest_samples =
    record {
      stages =
          plane_stage 73 0 (area (pos 1) (pos 2))
          ∷ record {
            name = 109 ∷ [];
            rank = 1;
            domain = area (pos 1) (pos 2);
            body = accumulator Max (ends (negsuc 0) (pos 1)) (read 0 same same) (binary Add (coordinate column) (unary Neg (number (pos 1))));
          }
          ∷ [];
      output = None;
      params = [];
      tables = [];
      picture = image 2 3 8 ((5 ∷ 1 ∷ 4 ∷ 2 ∷ 8 ∷ 3 ∷ []) ∷ []);
      sides = sides 2 2;
    }
