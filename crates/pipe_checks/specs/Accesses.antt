-- The reads and stencils of expressions, and what each stage reads.
use Rattle.std.specs.Prelude.{ℕ, ℤ, Bool, true, false, Option, Some, None, List, [], ◌∷◌, ◌++◌, map, length, slice_get}
use Rattle.pipe_tree.specs.declared.tree.Index.{Index}
use Rattle.pipe_tree.specs.Tree.{Node, number, variable, read, lookup, unary, binary, ternary, literal, select, stencil, Branch}
use Rattle.pipe_tree.specs.Tree.{Declaration, param, image, table, function, accumulator, output}
use Rattle.pipe_checks.specs.declared.symbol.SymbolKind.{SymbolKind}
use Rattle.pipe_checks.specs.declared.symbol.SymbolKind.TheVariants.{Param, Table, Plane, Func, Accum}
use Rattle.pipe_checks.specs.declared.symbol.Symbol.{Symbol}
use Rattle.pipe_checks.specs.declared.access.Access.{Access}
use Rattle.pipe_checks.specs.declared.access.Access.TheVariants.{Read, Stencil}
use Rattle.pipe_checks.specs.StageLinks.{StageLinks}
use Rattle.pipe_checks.specs.Names.{number_of, stages_of}

-- a read of the stage of this number, if there is one
abbrev pub read_at : Option ℕ → Index → Index → List Access
read_at None i j = []
read_at (Some g) i j = Read g i j ∷ []

-- the length of the first row of a kernel
abbrev pub width_of : List (List ℤ) → ℕ
width_of [] = 0
width_of (row ∷ rows) = length row

-- a stencil of the stage of this number, if there is one
abbrev pub stencil_at : Option ℕ → List (List ℤ) → List Access
stencil_at None k = []
stencil_at (Some g) k = Stencil g (length k) (width_of k) ∷ []

-- the reads and stencils of an expression of stages, in the order of the text
abbrev pub accesses_of : List Symbol → Node → List Access
accesses_of names (number n) = []
accesses_of names (variable x) = []
accesses_of names (read x i j) = read_at (number_of names x) i j
accesses_of names (lookup x a) = accesses_of names a
accesses_of names (unary op a) = accesses_of names a
accesses_of names (binary op a b) = accesses_of names a ++ accesses_of names b
accesses_of names (ternary op a b c) = accesses_of names a ++ accesses_of names b ++ accesses_of names c
accesses_of names (literal op a n) = accesses_of names a
accesses_of names (select a r b c d) = accesses_of names a ++ accesses_of names b ++ accesses_of names c ++ accesses_of names d
accesses_of names (stencil x d k) = stencil_at (number_of names x) k

abbrev pub branch_accesses : List Symbol → List Branch → List Access
branch_accesses names [] = []
branch_accesses names (b ∷ bs) = accesses_of names b.value ++ branch_accesses names bs

abbrev pub otherwise_accesses : List Symbol → Option Node → List Access
otherwise_accesses names None = []
otherwise_accesses names (Some a) = accesses_of names a

-- those of all expressions of an item
abbrev pub item_accesses : List Symbol → Declaration → List Access
item_accesses names (param p) = []
item_accesses names (image i) = []
item_accesses names (table t) = []
item_accesses names (function f) = branch_accesses names f.cases ++ otherwise_accesses names f.otherwise
item_accesses names (accumulator a) = accesses_of names a.value ++ accesses_of names a.bin
item_accesses names (output o) = []

abbrev pub stage_read : Access → ℕ
stage_read (Read g i j) = g
stage_read (Stencil g rows columns) = g

abbrev pub is_plane : SymbolKind → Bool
is_plane Param = false
is_plane Table = false
is_plane Plane = true
is_plane Func = false
is_plane Accum = false

abbrev pub reads_of : List Symbol → Option Declaration → List ℕ
reads_of names None = []
reads_of names (Some d) = map stage_read (item_accesses names d)

-- the stages that a stage reads, and whether it is a plane
abbrev pub links_of : List Declaration → List Symbol → Symbol → StageLinks
links_of ds names s = record { is_plane = is_plane s.kind; reads = reads_of names (slice_get ds s.item) }

abbrev pub links_from : List Declaration → List Symbol → List Symbol → List StageLinks
links_from ds names stages = map (links_of ds names) stages

-- the same for each stage of a program
abbrev pub graph_of : List Declaration → List StageLinks
graph_of ds = links_from ds (stages_of ds) (stages_of ds)
