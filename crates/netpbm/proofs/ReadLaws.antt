-- From what the reader gives to what its callers see.
use Rattle.std.proofs.Common.{◌≡◌, ℕ, ◌*◌, ◌≤◌, ◌⊎◌, inl, inr, List, [], ◌∷◌, ◌++◌, Result, Ok, Err, refl, sym, ap, subst, ◌∙◌}
use Rattle.std.proofs.Common.{arith, append_assoc, append-nil, length, drop, All}
use Rattle.std.specs.Prelude.{MatchResult, IfOk, IfErr}
use Rattle.std.specs.Fmt.{decimal}
use Rattle.std.proofs.lemmas.Fmt.{decimal_is_IsNumeral}
use Rattle.std.proofs.lemmas.Result.{MatchResult-at_ok, MatchResult-at_err}
use Rattle.netpbm.specs.declared.fault.PicFault.{PicFault}
use Rattle.netpbm.specs.declared.fault.PicFault.TheVariants.{Memory}
use Rattle.netpbm.specs.declared.header.RasterCoding.TheVariants.{Raw}
use Rattle.netpbm.specs.declared.header.PictureHeader.{PictureHeader}
use Rattle.netpbm.specs.Image.{Image, image, IsImage}
use Rattle.netpbm.specs.Colours.{interleaved, separated}
use Rattle.netpbm.specs.Raw.{width_of, decoded, raw_raster}
use Rattle.netpbm.specs.Gives.{IsRead, Fails, Gives, IsReadAs}
use Rattle.netpbm.specs.Grammar.{IsNumber, nothing, white, IsGap, IsFields, IsPicture}
use Rattle.netpbm.specs.Faults.{IsFault}
use Rattle.netpbm.specs.Reading.{◌>>=◌, header_read, raster_read, planes_read, picture_read}
use Rattle.netpbm.specs.Spelling.{spelling}
use Rattle.netpbm.proofs.RawLaws.{AreBytes}
use Rattle.netpbm.proofs.RawReads.{is_bounded_whole}
use Rattle.netpbm.proofs.PictureLaws.{picture_view, picture_complete}

-- ---- through the steps

pub header_fails : (bytes : List ℕ) (e : PicFault) → header_read bytes ≡ Err e → Fails e (picture_read bytes)
unfolding picture_read
header_fails bytes e h = inl (rw h refl)

-- a fault of the samples, and what is made of them
fails_on : {X : Type 0} (r : Result (List ℕ) PicFault) (e : PicFault) (f : List ℕ → List (List ℕ)) (g : List (List ℕ) → X)
    → Fails e (r >>= λ samples. Ok (f samples)) → Fails e (r >>= λ samples. Ok (g (f samples)))
fails_on (Ok x) e f g fails = elim fails [ inl is ↦ absurd (never_ok (f x) e is) | inr m ↦ inr m ]
  where
    never_ok : (planes : List (List ℕ)) (e : PicFault) → (let r : Result (List (List ℕ)) PicFault = Ok planes in r) ≡ Err e → ⊥
    never_ok planes e h = cc
fails_on (Err x) e f g fails = elim fails [ inl is ↦ inl (err_is x e is) | inr m ↦ absurd m.1 ]
  where
    err_is : {X : Type 0} (x e : PicFault) → (let r : Result (List (List ℕ)) PicFault = Err x in r) ≡ Err e
        → (let r : Result X PicFault = Err x in r) ≡ Err e
    err_is x e h = ap Err cc

gives_on : {X : Type 0} (r : Result (List ℕ) PicFault) (planes : List (List ℕ)) (f : List ℕ → List (List ℕ)) (g : List (List ℕ) → X)
    → (r >>= λ samples. Ok (f samples)) ≡ Ok planes → (r >>= λ samples. Ok (g (f samples))) ≡ Ok (g planes)
gives_on (Ok x) planes f g h = ap (λ ps. Ok (g ps)) (same_planes (f x) planes h)
  where
    same_planes : (a b : List (List ℕ)) → (let r : Result (List (List ℕ)) PicFault = Ok a in r) ≡ Ok b → a ≡ b
    same_planes a b e = cc
gives_on (Err e) planes f g h = absurd (never planes e h)
  where
    never : (planes : List (List ℕ)) (e : PicFault) → (let r : Result (List (List ℕ)) PicFault = Err e in r) ≡ Ok planes → ⊥
    never planes e h = cc

pub planes_fail : (bytes : List ℕ) (h : PictureHeader) (e : PicFault) → header_read bytes ≡ Ok h → Fails e (planes_read h.coding bytes h)
    → Fails e (picture_read bytes)
unfolding picture_read
planes_fail bytes h e is fails =
    rw is (fails_on (raster_read h.coding bytes h.end h.max (h.colours * (h.rows * h.cols))) e (separated h.colours)
    (λ planes. image h.rows h.cols h.max planes) fails)

pub reads : (bytes : List ℕ) (h : PictureHeader) (planes : List (List ℕ)) → header_read bytes ≡ Ok h
    → planes_read h.coding bytes h ≡ Ok planes → picture_read bytes ≡ Ok (image h.rows h.cols h.max planes)
unfolding picture_read
reads bytes h planes is r =
    rw is (gives_on (raster_read h.coding bytes h.end h.max (h.colours * (h.rows * h.cols))) planes (separated h.colours)
    (λ planes. image h.rows h.cols h.max planes) r)

-- the planes of a raster of as many samples as the header tells, none above the greatest
pub raw_planes_are : (bytes raster : List ℕ) (h : PictureHeader) (planes : List (List ℕ)) → raster ≡ drop h.end bytes
    → length raster ≡ (h.colours * (h.rows * h.cols)) * width_of h.max → All (λ s. s ≤ h.max) (decoded h.max raster)
    → planes ≡ separated h.colours (decoded h.max raster) → planes_read Raw bytes h ≡ Ok planes
raw_planes_are bytes raster h planes same size bounded are =
    let count = h.colours * (h.rows * h.cols) in
    let size' = subst (λ (l : List ℕ). length l ≡ count * width_of h.max) same size in
    let bounded' = subst (λ (l : List ℕ). All (λ s. s ≤ h.max) (decoded h.max l)) same bounded in
    rw (is_bounded_whole bytes h.end h.max count size' bounded', are, same) refl

pub is_picture : (bytes : List ℕ) (p : Image) → AreBytes bytes → picture_read bytes ≡ Ok p → IsPicture bytes p
is_picture bytes p h e = MatchResult-at_ok (IsPicture bytes) (IsFault bytes) p e (picture_view bytes h)

-- ---- what callers see

pub is_found : (bytes : List ℕ) (r : Result Image PicFault) → AreBytes bytes → Gives (λ p. p) r (picture_read bytes)
    → IfOk r (IsPicture bytes)
is_found bytes (Ok p) h g = is_picture bytes p h g
is_found bytes (Err e) h g = tt

pub same_value : (a b : Image) → (let r : Result Image PicFault = Ok a in r) ≡ Ok b → a ≡ b
same_value a b e = cc

never_both : (a : Image) (e : PicFault) → (let r : Result Image PicFault = Ok a in r) ≡ Err e → ⊥
never_both a e h = cc

pub is_only : (bytes : List ℕ) (r : Result Image PicFault) (p : Image) → Gives (λ q. q) r (picture_read bytes) → IsPicture bytes p
    → IsReadAs r p
is_only bytes (Ok q) p g h = same_value q p (sym g ∙ picture_complete bytes p h)
is_only bytes (Err e) p g h = elim g [
  | inl f ↦ absurd (never_both p e (sym (picture_complete bytes p h) ∙ f))
  | inr (m, r) ↦ m
]

memory_fault : (bytes : List ℕ) (r : Result Image PicFault) → MatchResult r (IsPicture bytes) (IsFault bytes) → IsRead r
    → IsFault bytes Memory
memory_fault bytes (Ok p) h r = (p, h)
memory_fault bytes (Err e) h r = absurd r

pub is_fault : (bytes : List ℕ) (r : Result Image PicFault) → AreBytes bytes → Gives (λ p. p) r (picture_read bytes)
    → IfErr r (IsFault bytes)
is_fault bytes (Ok p) h g = tt
is_fault bytes (Err e) h g = elim g [
  | inl f ↦ MatchResult-at_err (IsPicture bytes) (IsFault bytes) e f (picture_view bytes h)
  | inr (m, r) ↦ subst (IsFault bytes) (sym m) (memory_fault bytes (picture_read bytes) (picture_view bytes h) r)
]

-- ---- the written form

decimal_number : (n : ℕ) → n ≤ 65535 → IsNumber (decimal n) n
decimal_number n le = let d = decimal_is_IsNumeral n (omega arith) in record { numeral = d.0; value = sym d.1 }

pub spelling_is : (p : Image) → IsImage p → IsPicture (spelling p) p
spelling_is p h =
    let cols = decimal p.cols in
    let rows = decimal p.rows in
    let max = decimal p.max in
    let raster = raw_raster p.max (interleaved p.planes) in
    let gap : (c : ℕ) → (c ≡ 10) ⊎ (c ≡ 32) → IsGap (c ∷ []) =
    λ c e. record { some = omega arith; filler = white c [] (elim e [ inl ten ↦ rw ten refl | inr blank ↦ rw blank refl ]) nothing } in
    let third : IsFields (p.max ∷ []) (10 ∷ max) =
    (10 ∷ [], max, [], ap (λ (l : List ℕ). 10 ∷ l) (sym (append-nil max)), gap 10 (inl refl), decimal_number p.max h.max.most, refl) in
    let second : IsFields (p.rows ∷ p.max ∷ []) (32 ∷ (rows ++ (10 ∷ max))) =
    (32 ∷ [], rows, 10 ∷ max, refl, gap 32 (inr refl), decimal_number p.rows (omega (arith, h.rows.most)), third) in
    let first : IsFields (p.cols ∷ p.rows ∷ p.max ∷ []) (10 ∷ (cols ++ (32 ∷ (rows ++ (10 ∷ max))))) =
    (10 ∷ [], cols, 32 ∷ (rows ++ (10 ∷ max)), refl, gap 10 (inl refl), decimal_number p.cols (omega (arith, h.cols.most)), second) in
    record {
      coding = Raw;
      fields = 10 ∷ (cols ++ (32 ∷ (rows ++ (10 ∷ max))));
      white = 10;
      raster = raster;
      whole = simp append_assoc;
      fields_are = first;
      white_is = refl;
      raster_is = refl;
      image = h;
    }
