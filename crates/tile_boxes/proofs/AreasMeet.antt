-- What two areas have in common.
use Rattle.std.proofs.Common.{arith, ◌≡◌, ℤ, ◌≤ℤ◌, Bool, true, false, Option, Some, None, subst, sym, refl, ap, ◌∙◌}
use Rattle.std.specs.Prelude.{int_le, ◌&&◌, if◌then◌else◌, IfSome, IfNone}
use Rattle.std.specs.Int.Signed.{≤ℤ_refl}
use Rattle.std.proofs.lemmas.Int.{ints, clamps}
use Rattle.std.proofs.lemmas.Bool.{and_parts, and_from}
use Rattle.domains.specs.Span.{Ends, IsSpan, meet_of}
use Rattle.domains.specs.Area.{IsArea, IsSubarea, AreDisjoint, common_of}
use Rattle.domains.proofs.Areas.{common_is}
use Rattle.domains.specs.declared.area.Area.{Area}
use Rattle.job.specs.Boxes.{if_some}
use Rattle.job.specs.WellFormed.{InDomainRange}
use Rattle.tile_boxes.specs.Demands.{meet_of_areas}
use Rattle.tile_boxes.specs.Walks.{InDomainRanges}

le_from : (a b : ℤ) → int_le a b ≡ true → a ≤ℤ b
le_from a b t = omega (arith, ints)

to_le : (a b : ℤ) → a ≤ℤ b → int_le a b ≡ true
to_le a b h = sym (by (int_le a b) refl)
  where
    by : (t : Bool) → int_le a b ≡ t → true ≡ int_le a b
    by t e = omega (arith, ints)

-- whether an area has a point
abbrev pub has_points : Area → Bool
has_points a = int_le a.rows.lo a.rows.hi && int_le a.cols.lo a.cols.hi

pub if_some-there : (a : Area) → a.rows.lo ≤ℤ a.rows.hi → a.cols.lo ≤ℤ a.cols.hi → if_some a ≡ Some a
if_some-there a down right =
    ap (λ t. if t then Some a else None) (and_from (int_le a.rows.lo a.rows.hi) (int_le a.cols.lo a.cols.hi)
    (to_le a.rows.lo a.rows.hi down) (to_le a.cols.lo a.cols.hi right))

-- what if_some answers is the area itself, and has a point
pub if_some-is : (a b : Area) → if_some a ≡ Some b → (a ≡ b) × (a.rows.lo ≤ℤ a.rows.hi) × (a.cols.lo ≤ℤ a.cols.hi)
if_some-is a b = by (has_points a) refl
  where
    by : (t : Bool) → has_points a ≡ t → (if t then Some a else None) ≡ Some b
        → (a ≡ b) × (a.rows.lo ≤ℤ a.rows.hi) × (a.cols.lo ≤ℤ a.cols.hi)
    by true e is =
        let both = and_parts (int_le a.rows.lo a.rows.hi) (int_le a.cols.lo a.cols.hi) e in
        (cc, le_from a.rows.lo a.rows.hi both.0, le_from a.cols.lo a.cols.hi both.1)
    by false e is = absurd (cc)

pub if_some-none : (a : Area) → has_points a ≡ false → if_some a ≡ None
if_some-none a e = ap (λ t. if t then Some a else None) e

-- areas with no point in common do not meet
meet_of_disjoint : (a b : Area) → AreDisjoint a b → meet_of_areas a b ≡ None
meet_of_disjoint a b apart = by (has_points (common_of a b)) refl
  where
    m : Area
    m = common_of a b

    by : (t : Bool) → has_points m ≡ t → meet_of_areas a b ≡ None
    by false e = if_some-none m e
    by true e =
        let both = and_parts (int_le m.rows.lo m.rows.hi) (int_le m.cols.lo m.cols.hi) e in
        let down = le_from m.rows.lo m.rows.hi both.0 in let right = le_from m.cols.lo m.cols.hi both.1 in
        absurd (apart m.rows.lo m.cols.lo ((common_is a b m.rows.lo m.cols.lo).0 ((≤ℤ_refl m.rows.lo, down), (≤ℤ_refl m.cols.lo, right))))

-- what the meet of two areas is, by the words of Area::meet
pub meet_is : (a b : Area) (o : Option Area) → IfSome o (λ m. m ≡ common_of a b) → IfSome o IsArea → IfNone o (AreDisjoint a b)
    → o ≡ meet_of_areas a b
meet_is a b None is area apart = sym (meet_of_disjoint a b apart)
meet_is a b (Some m) is area apart =
    let meet : IsArea (common_of a b) = subst IsArea is area in
    ap Some is ∙ sym (if_some-there (common_of a b) meet.rows.ordered meet.cols.ordered)

-- ---- within 16,384 of 0

near_span : (s t : Ends) → InDomainRange t → (meet_of s t).lo ≤ℤ (meet_of s t).hi → InDomainRange (meet_of s t)
near_span s t h ordered =
    let least = h.least in let most = h.most in
    record {
      span = record { least = omega (arith, ints, clamps); ordered = ordered; most = omega (arith, ints, clamps) };
      least = omega (arith, ints, clamps);
      most = omega (arith, ints, clamps);
    }

-- what an area has in common with one that is near is near
pub near_meet : (a b m : Area) → InDomainRanges b → meet_of_areas a b ≡ Some m → InDomainRanges m
near_meet a b m h is =
    let meet = if_some-is (common_of a b) m is in
    subst InDomainRanges meet.0 (record { rows = near_span a.rows b.rows h.rows meet.1; cols = near_span a.cols b.cols h.cols meet.2 })

pub near_if_meet : (a b : Area) (o : Option Area) → o ≡ meet_of_areas a b → InDomainRanges b → IfSome o InDomainRanges
near_if_meet a b None is h = tt
near_if_meet a b (Some m) is h = near_meet a b m h (sym is)

near_part : (s t : Ends) → InDomainRange t → IsSpan s → t.lo ≤ℤ s.lo → s.hi ≤ℤ t.hi → InDomainRange s
near_part s t h span low high =
    let least = h.least in let most = h.most in
    record { span = span; least = omega (arith, ints); most = omega (arith, ints) }

-- and so is a part of one
pub near_subarea : (a b : Area) → InDomainRanges b → IsArea a → IsSubarea a b → InDomainRanges a
near_subarea a b h area inside =
    let down = area.rows.ordered in let across = area.cols.ordered in
    let first = inside a.rows.lo a.cols.lo ((omega (arith, ints), down), (omega (arith, ints), across)) in
    let last = inside a.rows.hi a.cols.hi ((down, omega (arith, ints)), (across, omega (arith, ints))) in
    record {
      rows =
          near_part a.rows b.rows h.rows area.rows first.0.0 last.0.1;
      cols = near_part a.cols b.cols h.cols area.cols first.1.0 last.1.1;
    }
