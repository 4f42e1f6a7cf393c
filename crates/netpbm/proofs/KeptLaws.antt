-- A raw raster that stays where it was read.
use Rattle.std.proofs.Common.{◌≡◌, ℕ, ◌+◌, ◌-◌, ◌*◌, ◌/◌, ◌≤◌, ◌<◌, ◌⊎◌, inl, List, length, take, drop, Ok, Err, sym, ap, subst, ◌∙◌, arith, drop-drop}
use Rattle.std.proofs.lemmas.List.{take_all, take_rest, get_or-drop}
use Rattle.netpbm.specs.declared.fault.PicFault.{PicFault}
use Rattle.netpbm.specs.declared.header.RasterCoding.{RasterCoding}
use Rattle.netpbm.specs.declared.header.RasterCoding.TheVariants.{Raw}
use Rattle.netpbm.specs.declared.header.PictureHeader.{PictureHeader}
use Rattle.netpbm.specs.Colours.{interleaved, separated}
use Rattle.netpbm.specs.Gives.{Fails}
use Rattle.netpbm.specs.Image.{image, IsImage}
use Rattle.netpbm.specs.Raw.{width_of, decoded, raw_raster}
use Rattle.netpbm.specs.Reading.{header_read, planes_read, picture_read}
use Rattle.netpbm.proofs.ColourLaws.{in_turn}
use Rattle.netpbm.proofs.RawReads.{whole_number, length-decoded}
use Rattle.netpbm.proofs.RawLaws.{AreBytes, raster_back}
use Rattle.netpbm.proofs.ReadLaws.{header_fails, planes_fail, reads, is_picture}

pub AreBytes-drop : (n : ℕ) (bytes : List ℕ) → AreBytes bytes → AreBytes (drop n bytes)
AreBytes-drop n bytes h = λ i. subst (λ v. v < 256) (sym (get_or-drop n bytes i 0)) (h (n + i))

-- the part of an input that is looked at
pub rest_is : (items slice : List ℕ) (start : ℕ) → slice ≡ items → take (length slice - start) (drop start slice) ≡ drop start items
rest_is items slice start e = take_rest slice start ∙ ap (drop start) e

-- what is written of its planes is the raster itself
pub written_back : (max area colours : ℕ) (bytes : List ℕ) → AreBytes bytes → (colours ≡ 1) ⊎ (colours ≡ 3)
    → length bytes ≡ (colours * area) * width_of max → raw_raster max (interleaved (separated colours (decoded max bytes))) ≡ bytes
written_back max area colours bytes are h size =
    let n = colours * area in
    let samples = decoded max bytes in
    let many : length samples ≡ n = whole_number bytes max n size in
    let fits : n ≤ length bytes / width_of max = omega (arith, many, length-decoded max bytes) in
    ap (raw_raster max) (in_turn colours area samples h many ∙ sym (take_all n samples (omega (arith, many))))
    ∙ raster_back max n bytes are fits ∙ take_all (n * width_of max) bytes (omega (arith, size))

pub header_fault : (items bytes : List ℕ) (start : ℕ) (e : PicFault) → bytes ≡ drop start items → header_read bytes ≡ Err e
    → Fails e (picture_read (drop start items))
header_fault items bytes start e same h = subst (λ (l : List ℕ). Fails e (picture_read l)) same (header_fails bytes e h)

-- in the parts of an input behind a place
module _ (items bytes : List ℕ) (start : ℕ) (h : PictureHeader) (same : bytes ≡ drop start items)
    (header : header_read (drop start items) ≡ Ok h) (raw : h.coding ≡ Raw) where
  header_here : header_read bytes ≡ Ok h
  header_here = ap header_read same ∙ header

  pub raster_fault : (e : PicFault) → planes_read Raw bytes h ≡ Err e → Fails e (picture_read (drop start items))
  raster_fault e fault =
      let here = subst (λ (coding : RasterCoding). planes_read coding bytes h ≡ Err e) (sym raw) fault in
      subst (λ (l : List ℕ). Fails e (picture_read l)) same (planes_fail bytes h e header_here (inl here))

  pub record IsThere : Type 0 where
    pub read :
        picture_read (drop start items)
        ≡ Ok (image h.rows h.cols h.max (separated h.colours (decoded h.max (drop (start + h.end) items))))
    pub whole : IsImage (image h.rows h.cols h.max (separated h.colours (decoded h.max (drop (start + h.end) items))))

  pub is_there : AreBytes items
      → planes_read Raw bytes h ≡ Ok (separated h.colours (decoded h.max (drop h.end bytes))) → IsThere
  is_there are planes =
      let place : drop h.end bytes ≡ drop (start + h.end) items = ap (drop h.end) same ∙ drop-drop h.end start items in
      let raster = drop (start + h.end) items in
      let there : planes_read Raw bytes h ≡ Ok (separated h.colours (decoded h.max raster)) =
      subst (λ (l : List ℕ). planes_read Raw bytes h ≡ Ok (separated h.colours (decoded h.max l))) place planes in
      let read = reads bytes h (separated h.colours (decoded h.max raster)) header_here
      (subst (λ (coding : RasterCoding). planes_read coding bytes h ≡ Ok (separated h.colours (decoded h.max raster))) (sym raw) there) in
      let p = image h.rows h.cols h.max (separated h.colours (decoded h.max raster)) in
      let here = subst (λ (l : List ℕ). picture_read l ≡ Ok p) same read in
      record { read = here; whole = (is_picture (drop start items) p (AreBytes-drop start items are) here).image }
