-- Samples of planes as numbers.
use Rattle.std.proofs.Common.{arith, ℕ, zero, suc, ℤ, pos, ◌≡◌, ◌<◌, ◌≤◌, ◌+ℤ◌, Option, Some, None, subst}
use Rattle.std.specs.Prelude.{IfSome}
use Rattle.std.proofs.lemmas.Int.{ints}
use Rattle.std.proofs.lemmas.Option.{none-some, same_Some}
use Rattle.domains.specs.Span.{len_of}
use Rattle.domains.specs.Area.{HoldsPoint, IsSubarea}
use Rattle.domains.specs.declared.area.Area.{Area}
use Rattle.netpbm.specs.Image.{Image}
use Rattle.tile_eval.proofs.Rasters.{nth_held}
use Rattle.tile_sources.specs.declared.plane_buffer.PlaneBuffer.{PlaneBuffer}
use Rattle.tile_sources.specs.declared.plane_buffers.ThreePlaneBuffers.{ThreePlaneBuffers}
use Rattle.tile_sources.specs.Wide.{IsWide, AreWide, wide_plane}

-- the points of an area, by the numbers of their rows and columns, lie in one that holds it
pub nth_there : (a whole : Area) (i k : ℕ) → IsSubarea a whole → i < len_of a.rows → k < len_of a.cols
    → HoldsPoint whole (a.rows.lo +ℤ pos i) (a.cols.lo +ℤ pos k)
nth_there a whole i k inside h l = inside (a.rows.lo +ℤ pos i) (a.cols.lo +ℤ pos k) (nth_held a.rows i h, nth_held a.cols k l)

-- the points of a row up to the end of an area
pub row_there : (a : Area) (r first : ℤ) (reach count : ℕ) → HoldsPoint a r first → (first +ℤ pos reach) ≡ a.cols.hi +ℤ pos 1
    → count ≤ reach → (k : ℕ) → k < count → HoldsPoint a r (first +ℤ pos k)
row_there a r first reach count holds ends most k h = let low = holds.1.0 in (holds.0, (omega (arith, ints), omega (arith, ints)))

-- what there is of a plane has its samples
pub wide_at : (p : Image) (planes : ThreePlaneBuffers) → AreWide p planes → (n : ℕ) (wide : PlaneBuffer) → wide_plane planes n ≡ Some wide
    → IsWide p n wide
wide_at p planes all zero wide is = subst (IsWide p 0) (same_Some planes.first wide is) all.first
wide_at p planes all (suc zero) wide is = subst (IsWide p 1) (same_Some planes.second wide is) all.second
wide_at p planes all (suc (suc zero)) wide is = subst (IsWide p 2) (same_Some planes.third wide is) all.third
wide_at p planes all (suc (suc (suc n))) wide is = absurd (none-some wide is)

-- what holds of something in one way and in another
pub some_both : {X : Type 0} → (P Q : X → Type 0) (o : Option X) → IfSome o P → IfSome o Q → IfSome o (λ x. P x × Q x)
some_both P Q None p q = tt
some_both P Q (Some x) p q = (p, q)

-- what follows where there is something
pub some_then : {X : Type 0} {P Q : X → Type 0} (o : Option X) → IfSome o P → ((x : X) → P x → Q x) → IfSome o Q
some_then None p f = tt
some_then (Some x) p f = f x p
