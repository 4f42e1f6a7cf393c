-- What is written pixel by pixel is the spelling.
use Rattle.std.proofs.Common.{◌≡◌, ℕ, zero, suc, ◌-◌, ◌*◌, ◌<◌, ◌≤◌, ◌⊎◌, inl, inr, List, [], ◌∷◌, ◌++◌, length, take}
use Rattle.std.proofs.Common.{drop, All, refl, sym, ap, subst, ◌∙◌, arith, append_assoc}
use Rattle.std.specs.List.{slice_range}
use Rattle.std.proofs.lemmas.List.{append-nil, take_all, length-take-le}
use Rattle.std.proofs.lemmas.List.Elements.{All-cons, All-head, All-tail, All-take, All-drop, All-nil}
use Rattle.std.proofs.lemmas.Grind.{flat_map-append}
use Rattle.netpbm.proofs.Ranges.{length_range}
use Rattle.netpbm.proofs.Rasters.{take_part, raw_raster_one}
use Rattle.netpbm.specs.Image.{Image, IsPlane, IsImage}
use Rattle.netpbm.specs.Colours.{woven, interleaved}
use Rattle.netpbm.specs.Raw.{sample_bytes, raw_raster}
use Rattle.netpbm.specs.Pixels.{first_pixels, pixels}
use Rattle.std.specs.Result.{OnErr}
use Rattle.std.proofs.Common.{Result, Ok, Err, Option, None, Some}
use Rattle.std.specs.Io.KnownBytes.{Appends}

-- a picture has one plane or three
pub by_colours : (P : List (List ℕ) → Type 0) → ((grey : List ℕ) → P (grey ∷ []))
    → ((red green blue : List ℕ) → P (red ∷ green ∷ blue ∷ []))
    → (planes : List (List ℕ)) → (length planes ≡ 1) ⊎ (length planes ≡ 3) → P planes
by_colours P one three [] h = elim h [ inl e ↦ absurd (omega arith) | inr e ↦ absurd (omega arith) ]
by_colours P one three (a ∷ []) h = one a
by_colours P one three (a ∷ b ∷ []) h = elim h [ inl e ↦ absurd (omega arith) | inr e ↦ absurd (omega arith) ]
by_colours P one three (a ∷ b ∷ c ∷ []) h = three a b c
by_colours P one three (a ∷ b ∷ c ∷ d ∷ planes) h = elim h [ inl e ↦ absurd (omega arith) | inr e ↦ absurd (omega arith) ]

-- ---- bounds

pub All-part : (max : ℕ) (xs : List ℕ) (start end : ℕ) → All (λ s. s ≤ max) xs → All (λ s. s ≤ max) (slice_range xs start end)
All-part max xs start end h = All-take (λ s. s ≤ max) (end - start) (drop start xs) (All-drop (λ s. s ≤ max) start xs h)

pub All-woven : (max : ℕ) (rs gs bs : List ℕ) → All (λ s. s ≤ max) rs → All (λ s. s ≤ max) gs → All (λ s. s ≤ max) bs
    → All (λ s. s ≤ max) (woven rs gs bs)
All-woven max [] gs bs p q r = All-nil (λ s. s ≤ max)
All-woven max (x ∷ rs) [] bs p q r = All-nil (λ s. s ≤ max)
All-woven max (x ∷ rs) (y ∷ gs) [] p q r = All-nil (λ s. s ≤ max)
All-woven max (x ∷ rs) (y ∷ gs) (z ∷ bs) p q r =
    let P : ℕ → Type 0 = λ s. s ≤ max in
    All-cons P x (y ∷ z ∷ woven rs gs bs) (All-head P x rs p)
    (All-cons P y (z ∷ woven rs gs bs) (All-head P y gs q)
    (All-cons P z (woven rs gs bs) (All-head P z bs r)
    (All-woven max rs gs bs (All-tail P x rs p) (All-tail P y gs q) (All-tail P z bs r))))

-- ---- pixel by pixel

woven-append : (n : ℕ) (rs gs bs rs' gs' bs' : List ℕ) → length rs ≡ n → length gs ≡ n → length bs ≡ n
    → woven (rs ++ rs') (gs ++ gs') (bs ++ bs') ≡ woven rs gs bs ++ woven rs' gs' bs'
woven-append n [] [] [] rs' gs' bs' e f g = refl
woven-append n [] [] (z ∷ bs) rs' gs' bs' e f g = absurd (omega arith)
woven-append n [] (y ∷ gs) bs rs' gs' bs' e f g = absurd (omega arith)
woven-append n (x ∷ rs) [] bs rs' gs' bs' e f g = absurd (omega arith)
woven-append n (x ∷ rs) (y ∷ gs) [] rs' gs' bs' e f g = absurd (omega arith)
woven-append zero (x ∷ rs) (y ∷ gs) (z ∷ bs) rs' gs' bs' e f g = absurd (omega arith)
woven-append (suc n) (x ∷ rs) (y ∷ gs) (z ∷ bs) rs' gs' bs' e f g =
    ap (λ l. x ∷ y ∷ z ∷ l) (woven-append n rs gs bs rs' gs' bs' (omega arith) (omega arith) (omega arith))

pub pixels_more : (area max : ℕ) (planes : List (List ℕ)) (start end : ℕ) → (length planes ≡ 1) ⊎ (length planes ≡ 3)
    → All (IsPlane area max) planes → start ≤ end → end ≤ area
    → first_pixels start planes ++ pixels start end planes ≡ first_pixels end planes
pixels_more area max planes start end colours each le within =
    by_colours (λ ps. All (IsPlane area max) ps → first_pixels start ps ++ pixels start end ps ≡ first_pixels end ps)
    (λ grey h. sym (take_part grey start end le))
    (λ red green blue h.
    let long : (plane : List ℕ) → length plane ≡ area → length (take start plane) ≡ start =
    λ plane e. length-take-le start plane (omega arith) in
    sym (woven-append start (take start red) (take start green) (take start blue) (slice_range red start end) (slice_range green start end)
    (slice_range blue start end)
    (long red (h 0 [] (omega arith)).whole) (long green (h 1 [] (omega arith)).whole) (long blue (h 2 [] (omega arith)).whole))
    ∙ ap (λ l. woven l (take start green ++ slice_range green start end) (take start blue ++ slice_range blue start end))
    (sym (take_part red start end le))
    ∙ ap (λ l. woven (take end red) l (take start blue ++ slice_range blue start end)) (sym (take_part green start end le))
    ∙ ap (λ l. woven (take end red) (take end green) l) (sym (take_part blue start end le)))
    planes colours each

pub pixels_none : (planes : List (List ℕ)) → (length planes ≡ 1) ⊎ (length planes ≡ 3) → first_pixels 0 planes ≡ []
pixels_none planes colours = by_colours (λ ps. first_pixels 0 ps ≡ []) (λ grey. refl) (λ red green blue. refl) planes colours

pub pixels_all : (area max : ℕ) (planes : List (List ℕ)) → (length planes ≡ 1) ⊎ (length planes ≡ 3) → All (IsPlane area max) planes
    → first_pixels area planes ≡ interleaved planes
pixels_all area max planes colours each =
    let whole : (plane : List ℕ) → length plane ≡ area → take area plane ≡ plane = λ plane e. take_all area plane (omega arith) in
    by_colours (λ ps. All (IsPlane area max) ps → first_pixels area ps ≡ interleaved ps)
    (λ grey h. whole grey (h 0 [] (omega arith)).whole)
    (λ red green blue h.
    ap (λ l. woven l (take area green) (take area blue)) (whole red (h 0 [] (omega arith)).whole)
    ∙ ap (λ l. woven red l (take area blue)) (whole green (h 1 [] (omega arith)).whole)
    ∙ ap (λ l. woven red green l) (whole blue (h 2 [] (omega arith)).whole))
    planes colours each

-- the raster up to so many pixels
abbrev pub raster_to : ℕ → Image → List ℕ
raster_to n p = raw_raster p.max (first_pixels n p.planes)

pub raster_more : (p : Image) (start end : ℕ) → IsImage p → start ≤ end → end ≤ p.rows * p.cols
    → raster_to start p ++ raw_raster p.max (pixels start end p.planes) ≡ raster_to end p
raster_more p start end h le within =
    sym (flat_map-append (sample_bytes p.max) (first_pixels start p.planes) (pixels start end p.planes))
    ∙ ap (raw_raster p.max) (pixels_more (p.rows * p.cols) p.max p.planes start end h.colours h.planes le within)

pub raster_none : (p : Image) → IsImage p → [] ≡ raster_to 0 p
raster_none p h = sym (ap (raw_raster p.max) (pixels_none p.planes h.colours))

pub raster_all : (p : Image) (n : ℕ) → IsImage p → n ≡ p.rows * p.cols → raster_to n p ≡ raw_raster p.max (interleaved p.planes)
raster_all p n h e =
    ap (λ m. raster_to m p) e ∙ ap (raw_raster p.max) (pixels_all (p.rows * p.cols) p.max p.planes h.colours h.planes)

pub raster_parts : (p : Image) (start end : ℕ) → IsImage p → start ≤ end → end ≤ p.rows * p.cols
    → raw_raster p.max (interleaved p.planes)
    ≡ (raster_to start p ++ raw_raster p.max (pixels start end p.planes)) ++ raw_raster p.max (pixels end (p.rows * p.cols) p.planes)
raster_parts p start end h le within =
    sym (ap (λ l. l ++ raw_raster p.max (pixels end (p.rows * p.cols) p.planes)) (raster_more p start end h le within)
    ∙ raster_more p end (p.rows * p.cols) h within (omega arith) ∙ raster_all p (p.rows * p.cols) h refl)

-- those of a red, a green and a blue plane of bytes
pub raster_bytes : (p : Image) (red green blue out : List ℕ) (start end : ℕ) → IsImage p → p.max < 256
    → p.planes ≡ red ∷ green ∷ blue ∷ [] → end ≤ p.rows * p.cols
    → take (3 * length (slice_range red start end)) out ≡ woven (slice_range red start end) (slice_range green start end) (slice_range blue start end)
    → take (3 * (end - start)) out ≡ raw_raster p.max (pixels start end p.planes)
raster_bytes p red green blue out start end h small planes within is =
    let each = subst (All (IsPlane (p.rows * p.cols) p.max)) planes h.planes in
    let first : length red ≡ p.rows * p.cols = (each 0 [] (omega arith)).whole in
    let many = length_range red start end (omega (arith, first, within)) in
    ap (λ n. take (3 * n) out) (sym many) ∙ is
    ∙ sym (raw_raster_one p.max (pixels start end p.planes) small ∙ ap (λ (ps : List (List ℕ)). pixels start end ps) planes)

-- the raster behind what was there, up to so many pixels
pub behind_more : (p : Image) (start end : ℕ) (before piece : List ℕ) → IsImage p → start ≤ end → end ≤ p.rows * p.cols
    → piece ≡ raw_raster p.max (pixels start end p.planes) → (before ++ raster_to start p) ++ piece ≡ before ++ raster_to end p
behind_more p start end before piece h le within is =
    append_assoc before (raster_to start p) piece
    ∙ ap (λ (l : List ℕ). before ++ l) (ap (λ (l : List ℕ). raster_to start p ++ l) is ∙ raster_more p start end h le within)

pub behind_none : (p : Image) (before : List ℕ) → IsImage p → before ≡ before ++ raster_to 0 p
behind_none p before h = sym (ap (λ (l : List ℕ). before ++ l) (sym (raster_none p h)) ∙ append-nil before)

-- ---- a part of the spelling

pub on_err : {X E : Type 0} (r : Result X E) (P : Type 0) → P → OnErr r P
on_err (Ok x) P h = tt
on_err (Err e) P h = h

pub Appends_nothing : (known : Option (List ℕ)) → Appends known known []
Appends_nothing None = tt
Appends_nothing (Some bytes) = sym (append-nil bytes)
