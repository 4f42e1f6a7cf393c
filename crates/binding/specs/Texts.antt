-- A small program, written out, and its job for a picture of two rows and two columns.
use Rattle.std.specs.Prelude.{ℕ, ℤ, pos, true, false, Option, Some, None, List, [], ◌∷◌}
use Rattle.netpbm.specs.Image.{Image, image}
use Rattle.pipe_tree.specs.declared.tree.AffineTerm.{AffineTerm}
use Rattle.pipe_tree.specs.declared.tree.Names.TheVariants.{One}
use Rattle.pipe_tree.specs.declared.tree.Variable.{Variable}
use Rattle.pipe_tree.specs.declared.tree.Index.{Index}
use Rattle.pipe_tree.specs.declared.tree.Image.{Image as Planes}
use Rattle.pipe_tree.specs.Tree as tree
use Rattle.pipe_tree.specs.Tree.{Declaration}
use Rattle.pipe_bounds.specs.declared.params.Setting.{Setting}
use Rattle.job.specs.Formula.{read}
use Rattle.job.specs.Pipeline.{Pipeline}
use Rattle.job.specs.Worked.{area, sides, same, plane_stage, everywhere}

-- ---- param R; param C; image I(R, C); func f(x in [0 .. R-1], y in [0 .. C-1]) { else : I(x, y); } output f max 255;

abbrev pub just : ℕ → AffineTerm
just name = record { negative = false; factor = 1; name = Some (name ∷ []) }

abbrev pub zero_term : AffineTerm
zero_term = record { negative = false; factor = 0; name = None }

abbrev pub less_one : AffineTerm
less_one = record { negative = true; factor = 1; name = None }

abbrev pub below : ℕ → ℕ → Variable
below variable extent = record { name = variable ∷ []; span = record { first = zero_term ∷ []; last = just extent ∷ less_one ∷ [] } }

abbrev pub at : ℕ → Index
at variable = record { mul = 1; name = variable ∷ []; add = pos 0; div = 1 }

abbrev pub planes : Planes
planes = record { names = One (73 ∷ []); rows = just 82 ∷ []; columns = just 67 ∷ [] }

abbrev pub copying : List Declaration
copying =
    tree.param (record { name = 82 ∷ [] })
    ∷ tree.param (record { name = 67 ∷ [] })
    ∷ tree.image planes
    ∷ tree.function (record {
      name =
          102 ∷ [];
      row = below 120 82;
      column = below 121 67;
      cases = [];
      otherwise = Some (tree.read (73 ∷ []) (at 120) (at 121));
    })
    ∷ tree.output (record { names = One (102 ∷ []); max = 255 })
    ∷ []

-- no parameter has a value
abbrev pub unset : List Setting
unset = record { name = 82 ∷ []; value = None } ∷ record { name = 67 ∷ []; value = None } ∷ []

-- ---- sides that are parameters: image I(N, N); and image I(2*N, N);

abbrev pub square : Planes
square = record { names = One (73 ∷ []); rows = just 78 ∷ []; columns = just 78 ∷ [] }

abbrev pub twice_as_high : Planes
twice_as_high =
    record { names = One (73 ∷ []); rows = record { negative = false; factor = 2; name = Some (78 ∷ []) } ∷ []; columns = just 78 ∷ [] }

abbrev pub one_by_two : Image
one_by_two = image 1 2 255 ((7 ∷ 9 ∷ []) ∷ [])

-- one parameter, with its value
abbrev pub setting : ℕ → Option ℤ → List Setting
setting name value = record { name = name ∷ []; value = value } ∷ []

-- ---- the job

abbrev pub two_by_two : Image
two_by_two = image 2 2 255 ((1 ∷ 2 ∷ 3 ∷ 4 ∷ []) ∷ [])

abbrev pub copy : Pipeline
copy =
    record {
      stages = plane_stage 73 0 (area (pos 1) (pos 1)) ∷ everywhere 102 1 (area (pos 1) (pos 1)) (read 0 same same) ∷ [];
      output = Some (record { stages = 1 ∷ []; max = 255 });
      params = record { name = 82 ∷ []; value = pos 2 } ∷ record { name = 67 ∷ []; value = pos 2 } ∷ [];
      tables = [];
      picture = two_by_two;
      sides = sides 64 64;
    }
