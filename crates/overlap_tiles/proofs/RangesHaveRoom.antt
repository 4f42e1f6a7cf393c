-- The ranges that are laid have room.
use Rattle.std.proofs.Common.{ℕ, zero, suc, arith, ◌+◌, ◌<◌, ◌≤◌, ◌≡◌, true, false, Option, Some, None, List, [], ◌∷◌, ◌++◌}
use Rattle.std.proofs.Common.{map, length, get_or, take, refl, sym, ap, ◌∙◌, subst}
use Rattle.std.specs.Prelude.{Contains, slice_get, not, eqb}
use Rattle.std.specs.List.{sum}
use Rattle.std.specs.Option.{option_map, option_map_or}
use Rattle.std.proofs.lemmas.Bool.{false≢true, and_parts}
use Rattle.std.proofs.lemmas.List.{length-take, get_or-take}
use Rattle.std.proofs.lemmas.List.Elements.{All-nil, All-cons, All-head, All-tail, All-weaker, All-map}
use Rattle.std.proofs.lemmas.Option.{same_Some, slice_get-map, slice_get_within, slice_get_read, get_or_from_slice_get}
use Rattle.domains.proofs.PairLists.{Contains-from_filter}
use Rattle.domains.specs.Area.{point_count}
use Rattle.domains.specs.declared.area.Area.{Area}
use Rattle.job.specs.Pipeline.{Stage, Pipeline}
use Rattle.tile_boxes.specs.Schedules.{is_inlined, is_function_stage, is_function_body}
use Rattle.tile_boxes.specs.Targets.{Target, boxes}
use Rattle.tile_boxes.specs.Costs.{points_in, inner_steps, steps, scratch}
use Rattle.overlap_tiles.specs.Ranges.{LieApart, LieWithin, HaveRoom}
use Rattle.overlap_tiles.specs.inside.Made.{list_last_reader_places_by_stage, laid, laid_of, range_of, ranges_by, ranges_for, size_of, held_after}
use Rattle.overlap_tiles.specs.declared.ranges.HeldRange.{HeldRange}
use Rattle.overlap_tiles.proofs.LaidApart.{IsLaid, nothing_held, laid_at, laid_from, laid_within}
use Rattle.overlap_tiles.proofs.LastReaders.{meet_last, last_meets}
use Rattle.overlap_tiles.proofs.StepsRise.{box_listed}

-- ---- elements by their places

from_map_at : {X Y : Type 0} → (f : X → Y) (xs : List X) (k : ℕ) (y : Y) → slice_get (map f xs) k ≡ Some y
    → (x : X) × (slice_get xs k ≡ Some x) × (f x ≡ y)
from_map_at f [] k y e = absurd (cc)
from_map_at f (x ∷ xs) zero y e = (x, refl, same_Some (f x) y e)
from_map_at f (x ∷ xs) (suc k) y e = from_map_at f xs k y e

in_front : {X : Type 0} → (xs ys : List X) (k : ℕ) (x : X) → slice_get xs k ≡ Some x → slice_get (xs ++ ys) k ≡ Some x
in_front [] ys k x e = absurd (cc)
in_front (z ∷ xs) ys zero x e = e
in_front (z ∷ xs) ys (suc k) x e = in_front xs ys k x e

taken : {X : Type 0} → (xs : List X) (k l : ℕ) (x : X) → l < k → slice_get xs l ≡ Some x → Contains (take k xs) x
taken xs k l x less e =
    let inside = slice_get_within xs l x e in
    (l, omega (arith, length-take k xs), get_or-take k xs l x less ∙ get_or_from_slice_get xs l x x e)

from_taken : {X : Type 0} → (xs : List X) (k : ℕ) (x : X) → Contains (take k xs) x → (l : ℕ) × (l < k) × (slice_get xs l ≡ Some x)
from_taken xs k x h =
    let inside = h.1 in
    let less : h.0 < k = omega (arith, length-take k xs) in
    (h.0, less, slice_get_read xs (length xs) h.0 x refl (omega (arith, length-take k xs)) (sym h.2 ∙ get_or-take k xs h.0 x less))

-- ---- how much scratch memory ranges take

pub size_within : (rs : List (ℕ × ℕ)) → LieWithin (size_of rs) rs
size_within [] = All-nil (λ r. r.0 + r.1 ≤ 0)
size_within (r ∷ rs) =
    All-cons (λ x. x.0 + x.1 ≤ size_of (r ∷ rs)) r rs (omega arith)
    (All-weaker (λ x. x.0 + x.1 ≤ size_of rs) (λ x. x.0 + x.1 ≤ size_of (r ∷ rs)) (λ x low. omega arith) rs (size_within rs))

pub size_least : (rs : List (ℕ × ℕ)) (n : ℕ) → LieWithin n rs → size_of rs ≤ n
size_least [] n low = omega arith
size_least (r ∷ rs) n low =
    let here = All-head (λ x. x.0 + x.1 ≤ n) r rs low in
    let rest = size_least rs n (All-tail (λ x. x.0 + x.1 ≤ n) r rs low) in
    omega arith

points_of : (lasts : List ℕ) (inner : List (ℕ × Area)) → map (λ s. s.0) (map (laid_of lasts) inner) ≡ map (λ s. point_count s.1) inner
points_of lasts [] = refl
points_of lasts (s ∷ ss) = ap (λ (ns : List ℕ). point_count s.1 ∷ ns) (points_of lasts ss)

-- as if no range were used again
pub ranges_within : (lasts : List ℕ) (inner : List (ℕ × Area)) → LieWithin (points_in inner) (ranges_by lasts inner)
ranges_within lasts inner =
    let ps : List (ℕ × ℕ) = map (laid_of lasts) inner in
    let all : 0 + sum (map (λ s. s.0) ps) ≡ points_in inner = omega (arith, ap sum (points_of lasts inner)) in
    All-map (λ r. r.0 + r.1 ≤ points_in inner) range_of (laid 0 [] ps)
    (All-weaker (λ h. h.start + h.len ≤ 0 + sum (map (λ s. s.0) ps)) (λ h. h.start + h.len ≤ points_in inner) (λ h low. omega arith)
    (laid 0 [] ps) (laid_within 0 0 [] ps (All-nil (λ h. h.start + h.len ≤ 0))))

lengths_of : (k : ℕ) (held : List HeldRange) (ss : List (ℕ × ℕ)) → map (λ r. r.1) (map range_of (laid k held ss)) ≡ map (λ s. s.0) ss
lengths_of k held [] = refl
lengths_of k held (s ∷ ss) = ap (λ (ns : List ℕ). s.0 ∷ ns) (lengths_of (suc k) (held_after k held s) ss)

-- ---- the inner steps of a target

function_there : (job : Pipeline) (g : ℕ) → is_function_stage job g ≡ true → g < length job.stages
function_there job g is = by (slice_get job.stages g) refl is
  where
    by : (o : Option Stage) → slice_get job.stages g ≡ o → option_map_or (λ s. is_function_body s.body) o false ≡ true
        → g < length job.stages
    by None there e = absurd (false≢true e)
    by (Some s) there e = slice_get_within job.stages g s there

-- each is that of a stage
pub inner_there : (t : Target) (s : ℕ × Area) → Contains (inner_steps t) s → s.0 < length t.job.stages
inner_there t s h =
    let listed = box_listed t s (Contains-from_filter (λ x. is_inlined t.inlining x.0) (boxes t) s h).0 in
    function_there t.job s.0 (and_parts (is_function_stage t.job s.0) (not (eqb s.0 t.stage)) listed.boxed).0

module _ (t : Target) where
  abbrev lasts : List ℕ
  lasts = list_last_reader_places_by_stage t.job (steps t)

  abbrev held : List HeldRange
  held = laid 0 [] (map (laid_of lasts) (inner_steps t))

  -- the step of a range
  record StepAt (k : ℕ) (h : HeldRange) : Type 0 where
    step : ℕ × Area
    there : slice_get (steps t) k ≡ Some step
    within : step.0 < length t.job.stages
    last : h.last ≡ get_or lasts step.0 0

  step_at : (k : ℕ) (h : HeldRange) → slice_get held k ≡ Some h → StepAt k h
  step_at k h there =
      let ps : List (ℕ × ℕ) = map (laid_of lasts) (inner_steps t) in
      let own : slice_get ps k ≡ Some (h.len, h.last) =
      ap (λ (xs : List (ℕ × ℕ)). slice_get xs k) (sym (laid_from 0 [] ps))
      ∙ slice_get-map (λ (x : HeldRange). (x.len, x.last)) held k
      ∙ ap (option_map (λ (x : HeldRange). (x.len, x.last))) there in
      let from = from_map_at (laid_of lasts) (inner_steps t) k (h.len, h.last) own in
      record {
        step = from.0;
        there = in_front (inner_steps t) ((t.stage, t.region) ∷ []) k from.0 from.1;
        within = inner_there t from.0
            (k, slice_get_within (inner_steps t) k from.0 from.1, get_or_from_slice_get (inner_steps t) k from.0 from.0 from.1);
        last = sym (ap (λ (p : ℕ × ℕ). p.1) from.2);
      }

  laid_is : (k : ℕ) (h : HeldRange) → slice_get held k ≡ Some h → IsLaid (take k held) k h
  laid_is k h there =
      let same : 0 + k ≡ k = omega arith in
      subst (λ (n : ℕ). IsLaid (take k held) n h) same (laid_at [] 0 [] (map (laid_of lasts) (inner_steps t)) nothing_held k h there)

  pub have_room : HaveRoom t (ranges_for t) (size_of (ranges_for t))
  have_room = record {
    lengths = lengths_of 0 [] (map (laid_of lasts) (inner_steps t)) ∙ points_of lasts (inner_steps t);
    apart = λ k l a b less first second lives.
        let x = from_map_at range_of held k a first in
        let y = from_map_at range_of held l b second in
        let at = step_at k x.0 x.1 in
        let last = at.last in
        let meets = meet_last t.job (steps t) k at.step at.there at.within l less lives in
        subst (λ (r : ℕ × ℕ). LieApart r b) x.2
        (subst (λ (r : ℕ × ℕ). LieApart (range_of x.0) r) y.2
        ((laid_is l y.0 y.1).apart x.0 (taken held l k x.0 less x.1) (omega arith)));
    least = λ k start a here free.
        let x = from_map_at range_of held k a here in
        let from = ap (λ (r : ℕ × ℕ). r.0) x.2 in
        let low = (laid_is k x.0 x.1).least start (λ b past still.
        let p = from_taken held k b past in
        let at = step_at p.0 b p.2 in
        let last = at.last in
        let lives = last_meets t.job (steps t) p.0 at.step at.there at.within k p.1 (omega arith) in
        subst (λ (n : ℕ). LieApart (range_of b) (start, n)) (sym (ap (λ (r : ℕ × ℕ). r.1) x.2))
        (free p.0 (range_of b) p.1 (slice_get-map range_of held p.0 ∙ ap (option_map range_of) p.2) lives)) in
        omega arith;
    within = size_within (ranges_for t);
    whole = size_least (ranges_for t);
    most = size_least (ranges_for t) (scratch t) (ranges_within lasts (inner_steps t));
  }
