-- The image of a region under a read holds all that the read takes at the points of the region.
use Rattle.std.proofs.Common.{ℕ, ◌<◌, ◌≤◌, ◌+◌, ◌/◌, ◌≡◌, arith, ℤ, List, [], ◌++◌, length}
use Rattle.std.specs.Prelude.{All}
use Rattle.std.proofs.lemmas.Int.{ints}
use Rattle.std.proofs.lemmas.List.Elements.{All-nil, All-cons, All-append}
use Rattle.domains.specs.Span.{Ends, Holds}
use Rattle.domains.specs.Index.{Scale, IsIndex, index_at, image_of}
use Rattle.domains.specs.Area.{HoldsPoint}
use Rattle.domains.specs.declared.area.Area.{Area}
use Rattle.domains.proofs.Indices.{index_rises}
use Rattle.job.specs.Formula.{Formula, number, coordinate, read, unary, binary, ternary, literal, lookup, select, stencil}
use Rattle.job.specs.Values.{factors, under}
use Rattle.job.specs.Reads.{Read, point, window, reads_in, EachTaken}
use Rattle.job.specs.WellFormed.{IsKernel, IsFormula}
use Rattle.tile_boxes.specs.Demands.{widen_span, image_under}

-- the numbers of a read are those of an index, and its kernel one of the text
abbrev pub IsRead : Read → Type 0
IsRead (point g i j) = IsIndex i × IsIndex j
IsRead (window g kernel) = IsKernel kernel

pub reads_are : (f : Formula) → IsFormula f → All IsRead (reads_in f)
reads_are (number n) h = All-nil IsRead
reads_are (coordinate x) h = All-nil IsRead
reads_are (read g i j) h = All-cons IsRead (point g i j) [] h (All-nil IsRead)
reads_are (unary op a) h = reads_are a h
reads_are (binary op a b) h = All-append IsRead (reads_in a) (reads_in b) (reads_are a h.0) (reads_are b h.1)
reads_are (ternary op a b d) h =
    All-append IsRead (reads_in a ++ reads_in b) (reads_in d)
    (All-append IsRead (reads_in a) (reads_in b) (reads_are a h.0) (reads_are b h.1)) (reads_are d h.2)
reads_are (literal op a n) h = reads_are a h.1
reads_are (lookup t a) h = reads_are a h.1
reads_are (select a relation b first second) h =
    All-append IsRead (reads_in a ++ reads_in b ++ reads_in first) (reads_in second)
    (All-append IsRead (reads_in a ++ reads_in b) (reads_in first)
    (All-append IsRead (reads_in a) (reads_in b) (reads_are a h.0) (reads_are b h.1)) (reads_are first h.2))
    (reads_are second h.3)
reads_are (stencil g divisor kernel) h = All-cons IsRead (window g kernel) [] h.1 (All-nil IsRead)

in_image : (x : Scale) (s : Ends) (v : ℤ) → IsIndex x → Holds s v → Holds (image_of x s) (index_at x v)
in_image x s v is h = (index_rises x s.lo v is h.0, index_rises x v s.hi is h.1)

half : (n a : ℕ) → a < n → a ≤ n / 2 + n / 2
half n a h = omega arith

in_widened : (s : Ends) (v : ℤ) (n a : ℕ) → a < n → Holds s v → Holds (widen_span (n / 2) s) (under v n a)
in_widened s v n a there h = let low = h.0 in let high = h.1 in let most = half n a there in (omega (arith, ints), omega (arith, ints))

width_of : (kernel : List (List ℤ)) (a b : ℕ) → IsKernel kernel → a < length kernel → b < length (factors kernel a)
    → b < length (factors kernel 0)
width_of kernel a b is la lb = let same : length (factors kernel a) ≡ length (factors kernel 0) = is.one_width a [] la in omega arith

-- a point of the region takes points of the image
pub image_holds : (x : Read) (region : Area) (r c : ℤ) → IsRead x → HoldsPoint region r c
    → EachTaken (λ g i j. HoldsPoint (image_under x region) i j) x r c
image_holds (point g i j) region r c is h = (in_image i region.rows r is.0 h.0, in_image j region.cols c is.1 h.1)
image_holds (window g kernel) region r c is h =
    λ a b la lb. (
      in_widened region.rows r (length kernel) a la h.0,
      in_widened region.cols c (length (factors kernel 0)) b (width_of kernel a b is la lb) h.1,
    )
