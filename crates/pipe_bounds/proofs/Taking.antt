-- What a read takes over an area, from one end of a span to the other, and where that leaves a domain.
use Rattle.std.proofs.Common.{ℕ, ◌<◌, ◌/◌, ℤ, ◌≡◌, List, Some, length, get_or, slice_get, sym, ◌∙◌, ap, subst, arith}
use Rattle.std.specs.Option.{option_map}
use Rattle.std.proofs.lemmas.Option.{slice_get-map, slice_get-get_or}
use Rattle.std.proofs.lemmas.Int.{ints}
use Rattle.domains.specs.Span.{Ends, Holds, IsSpan, IsSubspan}
use Rattle.domains.specs.Area.{HoldsPoint, IsArea}
use Rattle.domains.specs.Index.{Scale, IsImage, index_at}
use Rattle.domains.specs.declared.area.Area.{Area}
use Rattle.pipe_bounds.specs.declared.fault.Axis.{Axis}
use Rattle.pipe_bounds.specs.declared.fault.Axis.TheVariants.{Rows, Columns}
use Rattle.pipe_checks.specs.declared.access.Access.{Access}
use Rattle.pipe_checks.specs.declared.access.Access.TheVariants.{Read, Stencil}
use Rattle.pipe_checks.specs.Accesses.{stage_read}
use Rattle.pipe_bounds.specs.StageBounds.{StageBounds, domains_in}
use Rattle.pipe_bounds.specs.InBounds.{IsAbout, TakesRow, TakesColumn, Stays, IsTakenAlong, AreExtremes, Leaves, scale_of}
use Rattle.pipe_bounds.specs.inside.Taken.{IsSound, IsWidened, IsTaken, LeavesAlong, StaysWithin}

-- t goes from the least to the greatest number that is taken at the numbers of s
pub record IsReach (Takes : ℤ → ℤ → Type 0) (s t : Ends) : Type 0 where
  pub within : (v w : ℤ) → Holds s v → Takes v w → Holds t w
  pub least : (v : ℤ) × Holds s v × Takes v t.lo
  pub greatest : (v : ℤ) × Holds s v × Takes v t.hi

reach_of_image : (x : Scale) (s t : Ends) → IsImage x s t → IsReach (λ v w. w ≡ index_at x v) s t
reach_of_image x s t h = record {
  within = λ v w holds e. subst (Holds t) (sym e) (h.within v holds);
  least = (h.least.0, h.least.1, sym h.least.2);
  greatest = (h.greatest.0, h.greatest.1, sym h.greatest.2);
}

reach_of_widened : (n : ℕ) (s t : Ends) → IsSpan s → IsWidened n s t → IsReach (IsAbout n) s t
reach_of_widened n s t span h = record {
  within = λ v w holds about. (omega (arith, ints, h.lo, h.hi, holds, about), omega (arith, ints, h.lo, h.hi, holds, about));
  least = (s.lo, (omega (arith, ints), span.ordered), (omega (arith, ints, h.lo), omega (arith, ints, h.lo)));
  greatest = (s.hi, (span.ordered, omega (arith, ints)), (omega (arith, ints, h.hi), omega (arith, ints, h.hi)));
}

pub reach_rows : (access : Access) (a t : Area) → IsArea a → IsTaken access a t → IsReach (TakesRow access) a.rows t.rows
reach_rows (Read g i j) a t area h = reach_of_image (scale_of i) a.rows t.rows h.0
reach_rows (Stencil g m n) a t area h = reach_of_widened (m / 2) a.rows t.rows area.rows h.0

pub reach_columns : (access : Access) (a t : Area) → IsArea a → IsTaken access a t → IsReach (TakesColumn access) a.cols t.cols
reach_columns (Read g i j) a t area h = reach_of_image (scale_of j) a.cols t.cols h.1
reach_columns (Stencil g m n) a t area h = reach_of_widened (n / 2) a.cols t.cols area.cols h.1

pub stays_by_spans : (areas : List Area) (access : Access) (a t d : Area) → IsArea a → IsTaken access a t
    → slice_get areas (stage_read access) ≡ Some d → StaysWithin t d → Stays areas (HoldsPoint a) access
stays_by_spans areas access a t d area taken there stays r c box x y row column =
    let rows = reach_rows access a t area taken in
    let columns = reach_columns access a t area taken in
    record { domain = d; there = there; holds = (stays.0 x (rows.within r x box.0 row), stays.1 y (columns.within c y box.1 column)) }

-- a span whose two ends are held by another is held whole
held_between : (t d : Ends) → Holds d t.lo → Holds d t.hi → IsSubspan t d
held_between t d first last v h = (omega (arith, ints, first, last, h), omega (arith, ints, first, last, h))

-- the numbers that are taken along an axis are those from one end to the other
rows_extremes : (access : Access) (a t : Area) → IsArea a → IsReach (TakesRow access) a.rows t.rows
    → AreExtremes (IsTakenAlong (HoldsPoint a) access Rows) t.rows.lo t.rows.hi
rows_extremes access a t area h =
    let column : Holds a.cols a.cols.lo = (omega (arith, ints), area.cols.ordered) in
    record {
      first = (h.least.0, a.cols.lo, (h.least.1, column), h.least.2);
      last = (h.greatest.0, a.cols.lo, (h.greatest.1, column), h.greatest.2);
      between = λ v taken. h.within taken.0 v taken.2.0 taken.3;
    }

columns_extremes : (access : Access) (a t : Area) → IsArea a → IsReach (TakesColumn access) a.cols t.cols
    → AreExtremes (IsTakenAlong (HoldsPoint a) access Columns) t.cols.lo t.cols.hi
columns_extremes access a t area h =
    let row : Holds a.rows a.rows.lo = (omega (arith, ints), area.rows.ordered) in
    record {
      first = (a.rows.lo, h.least.0, (row, h.least.1), h.least.2);
      last = (a.rows.lo, h.greatest.0, (row, h.greatest.1), h.greatest.2);
      between = λ v taken. h.within taken.1 v taken.2.1 taken.3;
    }

-- where all that is taken along an axis is held, the span is
along_held : (Is : ℤ → Type 0) (t d : Ends) → AreExtremes Is t.lo t.hi → ((v : ℤ) → Is v → Holds d v) → IsSubspan t d
along_held Is t d h all = held_between t d (all t.lo h.first) (all t.hi h.last)

pub leaves_by_spans : (areas : List Area) (access : Access) (a t d : Area) (axis : Axis) (least greatest : ℤ) → IsArea a
    → IsTaken access a t → slice_get areas (stage_read access) ≡ Some d → LeavesAlong t d axis least greatest
    → Leaves areas (HoldsPoint a) access axis least greatest
leaves_by_spans areas access a t d Rows least greatest area taken there h =
    let extremes = rows_extremes access a t area (reach_rows access a t area taken) in
    record {
      domain = d;
      there = there;
      leaves = λ stays. h.0 (along_held (IsTakenAlong (HoldsPoint a) access Rows) t.rows d.rows extremes stays);
      extremes =
          subst (λ v. AreExtremes (IsTakenAlong (HoldsPoint a) access Rows) v greatest) (sym h.1)
          (subst (AreExtremes (IsTakenAlong (HoldsPoint a) access Rows) t.rows.lo) (sym h.2) extremes);
      rows = λ e. cc;
    }
leaves_by_spans areas access a t d Columns least greatest area taken there h =
    let extremes = columns_extremes access a t area (reach_columns access a t area taken) in
    let rows = reach_rows access a t area taken in
    record {
      domain = d;
      there = there;
      leaves = λ stays. h.1 (along_held (IsTakenAlong (HoldsPoint a) access Columns) t.cols d.cols extremes stays);
      extremes =
          subst (λ v. AreExtremes (IsTakenAlong (HoldsPoint a) access Columns) v greatest) (sym h.2)
          (subst (AreExtremes (IsTakenAlong (HoldsPoint a) access Columns) t.cols.lo) (sym h.3) extremes);
      rows = λ e v taken. h.0 v (rows.within taken.0 v taken.2.0 taken.3);
    }

pub sound_within : (count : ℕ) (access : Access) → IsSound count access → stage_read access < count
sound_within count (Read g i j) h = h.0
sound_within count (Stencil g m n) h = h.0

-- the domain of the stage that is read
-- the domain of the stage that is read
pub domain_read : (found : List StageBounds) (access : Access) (g : ℕ) (b : StageBounds) (d : Area) → IsSound (length found) access
    → g ≡ stage_read access → d ≡ (get_or found g b).domain → slice_get (domains_in found) (stage_read access) ≡ Some d
domain_read found access g b d sound same has =
    slice_get-map (λ (x : StageBounds). x.domain) found (stage_read access)
    ∙ ap (option_map (λ (x : StageBounds). x.domain))
    (slice_get-get_or found (stage_read access) b (sound_within (length found) access sound))
    ∙ ap (λ k. Some (get_or found k b).domain) (sym same) ∙ ap Some (sym has)
