-- Small jobs, written out.
use Rattle.std.specs.Prelude.{ℕ, ℤ, pos, Some, None, List, [], ◌∷◌}
use Rattle.domains.specs.Span.{Ends}
use Rattle.domains.specs.Index.{Scale}
use Rattle.domains.specs.Sides.{Sides}
use Rattle.domains.specs.declared.area.Area.{Area}
use Rattle.netpbm.specs.Image.{Image, image}
use Rattle.operators.specs.declared.operator.UnaryOp.TheVariants.{Neg, Abs}
use Rattle.operators.specs.declared.operator.BinaryOp.TheVariants.{Add}
use Rattle.operators.specs.declared.operator.LiteralOp.TheVariants.{Div, Rem}
use Rattle.operators.specs.declared.operator.Relation.TheVariants.{Equals}
use Rattle.operators.specs.declared.operator.ReductionOp.TheVariants.{Sum, Min}
use Rattle.tables.specs.declared.table.Table.{Table}
use Rattle.job.specs.Formula.{row, column, Formula, number, read, unary, binary, literal, lookup, stencil, compare}
use Rattle.job.specs.Answers.{Tile}
use Rattle.job.specs.Pipeline.{JobCase, plane, function, accumulator, Stage, Pipeline}

abbrev pub ends : ℤ → ℤ → Ends
ends lo hi = record { lo = lo; hi = hi }

-- from the point (0, 0) to the point (bottom, right)
abbrev pub area : ℤ → ℤ → Area
area bottom right = record { rows = ends (pos 0) bottom; cols = ends (pos 0) right }

abbrev pub sides : ℕ → ℕ → Sides
sides height width = record { height = height; width = width }

-- v itself, twice v, half of v
abbrev pub same : Scale
same = record { mul = pos 1; add = pos 0; div = pos 1 }

abbrev pub twice : Scale
twice = record { mul = pos 2; add = pos 0; div = pos 1 }

abbrev pub half : Scale
half = record { mul = pos 1; add = pos 0; div = pos 2 }

abbrev pub tile : ℕ → ℕ → ℕ → Tile
tile g i j = record { stage = g; row = i; col = j }

-- ---- stages and jobs. Names are single letters

abbrev pub plane_stage : ℕ → ℕ → Area → Stage
plane_stage name n domain = record { name = name ∷ []; rank = 0; domain = domain; body = plane n }

-- a function that is one formula at each point
abbrev pub everywhere : ℕ → ℕ → Area → Formula → Stage
everywhere name rank domain formula = record { name = name ∷ []; rank = rank; domain = domain; body = function [] (Some formula) }

-- without parameters and tables
abbrev pub job_of : List Stage → List ℕ → ℕ → Image → Sides → Pipeline
job_of stages outputs max picture sides =
    record { stages = stages; output = Some (record { stages = outputs; max = max }); params = []; tables = []; picture = picture; sides = sides }

-- image I(3,3);
-- func f(x in [0..2], y in [0..2]) { case x == 1 and y == 1 : stencil(I, 9, [[1,1,1],[1,1,1],[1,1,1]]); }
-- output f max 255;
abbrev pub ones : List (List ℤ)
ones = (pos 1 ∷ pos 1 ∷ pos 1 ∷ []) ∷ (pos 1 ∷ pos 1 ∷ pos 1 ∷ []) ∷ (pos 1 ∷ pos 1 ∷ pos 1 ∷ []) ∷ []

abbrev pub middle : JobCase
middle = record {
  box = Some (record { rows = ends (pos 1) (pos 1); cols = ends (pos 1) (pos 1) });
  tests = compare row Equals (pos 1) ∷ compare column Equals (pos 1) ∷ [];
  formula = stencil 0 9 ones;
}

abbrev pub blurred : Stage
blurred = record { name = 102 ∷ []; rank = 1; domain = area (pos 2) (pos 2); body = function (middle ∷ []) None }

abbrev pub blur : Pipeline
blur =
    job_of
    (plane_stage 73 0 (area (pos 2) (pos 2)) ∷ blurred ∷ [])
    (1 ∷ [])
    255
    (image 3 3 9 ((1 ∷ 2 ∷ 3 ∷ 4 ∷ 5 ∷ 6 ∷ 7 ∷ 8 ∷ 9 ∷ []) ∷ []))
    (sides 64 64)

-- image I(4,4);
-- func f(x in [0..1], y in [0..1]) { else : I(2*x, 2*y); }
-- func g(x in [0..3], y in [0..3]) { else : f(x/2, y/2); }
-- output g max 255;
abbrev pub halving : Pipeline
halving =
    job_of
    (plane_stage 73 0 (area (pos 3) (pos 3)) ∷ everywhere 102 1 (area (pos 1) (pos 1)) (read 0 twice twice)
    ∷ everywhere 103 2 (area (pos 3) (pos 3)) (read 1 half half) ∷ [])
    (2 ∷ [])
    255
    (image 4 4 15 ((0 ∷ 1 ∷ 2 ∷ 3 ∷ 4 ∷ 5 ∷ 6 ∷ 7 ∷ 8 ∷ 9 ∷ 10 ∷ 11 ∷ 12 ∷ 13 ∷ 14 ∷ 15 ∷ []) ∷ []))
    (sides 1 1)

-- image I(1,1);
-- func a(x in [0..0], y in [0..0]) { else : 2147483647 + 1; }
-- func b(x in [0..0], y in [0..0]) { else : abs(2147483647 + 1); }
-- func c(x in [0..0], y in [0..0]) { else : -7 / 2; }
-- func d(x in [0..0], y in [0..0]) { else : -7 % 2; }
-- output a max 255;
abbrev pub beyond : Formula
beyond = binary Add (number (pos 2147483647)) (number (pos 1))

abbrev pub edges : Pipeline
edges =
    job_of
    (plane_stage 73 0 (area (pos 0) (pos 0))
    ∷ everywhere 97 1 (area (pos 0) (pos 0)) beyond
    ∷ everywhere 98 1 (area (pos 0) (pos 0)) (unary Abs beyond)
    ∷ everywhere 99 1 (area (pos 0) (pos 0)) (literal Div (unary Neg (number (pos 7))) 2)
    ∷ everywhere 100 1 (area (pos 0) (pos 0)) (literal Rem (unary Neg (number (pos 7))) 2)
    ∷ [])
    (1 ∷ [])
    255
    (image 1 1 255 ((0 ∷ []) ∷ []))
    (sides 64 64)

-- image r,g,b(1,1);
-- func u(x in [0..0], y in [0..0]) { else : b(x, y); }
-- func v(x in [0..0], y in [0..0]) { else : g(x, y); }
-- func w(x in [0..0], y in [0..0]) { else : r(x, y); }
-- output u,v,w max 255;
abbrev pub turned : Pipeline
turned =
    job_of
    (plane_stage 114 0 (area (pos 0) (pos 0))
    ∷ plane_stage 103 1 (area (pos 0) (pos 0))
    ∷ plane_stage 98 2 (area (pos 0) (pos 0))
    ∷ everywhere 117 1 (area (pos 0) (pos 0)) (read 2 same same)
    ∷ everywhere 118 1 (area (pos 0) (pos 0)) (read 1 same same)
    ∷ everywhere 119 1 (area (pos 0) (pos 0)) (read 0 same same)
    ∷ [])
    (3 ∷ 4 ∷ 5 ∷ [])
    255
    (image 1 1 255 ((1 ∷ []) ∷ (2 ∷ []) ∷ (3 ∷ []) ∷ []))
    (sides 64 64)

-- image I(3,3);
-- accum h [0..3] over (x in [0..2], y in [0..2]) sum 1 at I(x, y) % 4;
abbrev pub counting : Pipeline
counting =
    record {
      stages =
          plane_stage 73 0 (area (pos 2) (pos 2))
          ∷ record {
            name =
                104 ∷ [];
            rank =
                1;
            domain =
                area (pos 2) (pos 2);
            body =
                accumulator Sum (ends (pos 0) (pos 3)) (number (pos 1)) (literal Rem (read 0 same same) 4);
          }
          ∷ [];
      output = None;
      params = [];
      tables = [];
      picture = image 3 3 9 ((1 ∷ 2 ∷ 3 ∷ 4 ∷ 5 ∷ 6 ∷ 7 ∷ 8 ∷ 9 ∷ []) ∷ []);
      sides = sides 2 2;
    }

-- image I(1,1);
-- accum m [0..2] over (x in [0..0], y in [0..0]) min I(x, y) at I(x, y);
abbrev pub outside : Pipeline
outside =
    record {
      stages =
          plane_stage 73 0 (area (pos 0) (pos 0))
          ∷ record {
            name =
                109 ∷ [];
            rank =
                1;
            domain = area (pos 0) (pos 0);
            body = accumulator Min (ends (pos 0) (pos 2)) (read 0 same same) (read 0 same same);
          }
          ∷ [];
      output = None;
      params = [];
      tables = [];
      picture = image 1 1 9 ((9 ∷ []) ∷ []);
      sides = sides 64 64;
    }

-- image I(1,3);
-- table t[0..3];
-- func f(x in [0..0], y in [0..2]) { else : t[I(x, y)]; }
-- output f max 255;
-- or with another index, and the line `t 0..3: 10 20 30 40`
abbrev pub curve : Table
curve = record { name = 116 ∷ []; lo = pos 0; values = pos 10 ∷ pos 20 ∷ pos 30 ∷ pos 40 ∷ [] }

abbrev pub toned : Formula → Pipeline
toned index =
    record {
      stages =
          plane_stage 73 0 (area (pos 0) (pos 2))
          ∷ everywhere 102 1 (area (pos 0) (pos 2)) (lookup (record { span = ends (pos 0) (pos 3); values = curve.values }) index)
          ∷ [];
      output = Some (record { stages = 1 ∷ []; max = 255 });
      params = [];
      tables = curve ∷ [];
      picture = image 1 3 9 ((0 ∷ 2 ∷ 9 ∷ []) ∷ []);
      sides = sides 64 64;
    }
