-- What is read is a picture's spelling, what spells a picture is read, and each fault is the first one.
use Rattle.std.proofs.Common.{◌≡◌, ℕ, ◌+◌, ◌*◌, ◌≤◌, ◌⊎◌, inl, inr, List, [], ◌∷◌, ◌++◌, length, drop, All, Result, Ok, Err, refl}
use Rattle.std.proofs.Common.{sym, ap, subst, ◌∙◌, arith, drop_at, append_assoc, append-nil}
use Rattle.std.specs.Prelude.{MatchResult}
use Rattle.std.specs.List.{list_all}
use Rattle.std.proofs.lemmas.Bool.{and_parts}
use Rattle.std.proofs.lemmas.List.{length-append, length-drop}
use Rattle.netpbm.specs.declared.fault.PicFault.{PicFault}
use Rattle.netpbm.specs.declared.header.RasterCoding.{RasterCoding}
use Rattle.netpbm.specs.declared.header.RasterCoding.TheVariants.{Plain, Raw}
use Rattle.netpbm.specs.declared.header.PictureHeader.{PictureHeader}
use Rattle.netpbm.specs.Image.{Image, image}
use Rattle.netpbm.specs.Colours.{interleaved, separated}
use Rattle.netpbm.specs.Raw.{raw_raster}
use Rattle.netpbm.specs.Text.{is_white}
use Rattle.netpbm.specs.Grammar.{magic, NoDigit, IsWhite, IsRaster, IsPicture}
use Rattle.netpbm.specs.Faults.{IsRasterFront, LeavesWhole, HasSamples, EndsInRaster, HasBadRasterByte, HasBigSample}
use Rattle.netpbm.specs.Faults.{HasTrailingByte, IsFault}
use Rattle.netpbm.specs.Reading.{◌>>=◌, header_read, samples_read, end_read, plain_read, raw_read, raster_read, picture_read}
use Rattle.netpbm.proofs.TextLaws.{white_no_digit}
use Rattle.netpbm.proofs.NumberLaws.{behind}
use Rattle.netpbm.proofs.HeaderLaws.{HeaderThere, HeaderView, header_view, header_complete}
use Rattle.netpbm.proofs.PlainLaws.{SamplesThere, SamplesFail, samples_view, samples_complete, EndsThere, end_view, end_complete}
use Rattle.netpbm.proofs.RawLaws.{AreBytes, RawThere, RawFails, raw_view, raw_complete}
use Rattle.netpbm.proofs.ColourLaws.{separated_are, interleaved_are}

abbrev PictureView : List ℕ → Result Image PicFault → Type 0
PictureView bytes r = MatchResult r (IsPicture bytes) (IsFault bytes)

module _ (bytes : List ℕ) (coding : RasterCoding) (colours cols rows max end : ℕ)
    (there : HeaderThere bytes (record { coding = coding; colours = colours; cols = cols; rows = rows; max = max; end = end })) where
  pub max_fits : max ≤ 65535
  max_fits = there.front_is.ranges.1.1.0.most

  pub end_fits : end ≤ length bytes
  end_fits = omega (arith, there.place, ap length there.whole, length-append there.front (there.white ∷ there.rest))

  -- a header and the samples of a raster are a picture
  pub make_picture : (samples : List ℕ) → IsRaster coding max samples there.rest → All (λ s. s ≤ max) samples
      → length samples ≡ colours * (rows * cols) → IsPicture bytes (image rows cols max (separated colours samples))
  make_picture samples raster bounded number =
      let front = there.front_is in
      let planes = separated_are (rows * cols) max colours samples front.colours_are number bounded in
      record {
        coding = coding;
        fields = front.fields;
        white = there.white;
        raster = there.rest;
        whole =
            there.whole ∙ ap (λ (l : List ℕ). l ++ there.white ∷ there.rest) front.parts
            ∙ append_assoc (magic coding colours) front.fields (there.white ∷ there.rest)
            ∙ ap (λ n. magic coding n ++ (front.fields ++ there.white ∷ there.rest)) (sym planes.number);
        fields_are = front.fields_are;
        white_is = there.white_is;
        raster_is = subst (λ (l : List ℕ). IsRaster coding max l there.rest) (sym planes.turns) raster;
        image = record {
          rows = front.ranges.1.0;
          cols = front.ranges.0;
          max = front.ranges.1.1.0;
          colours = subst (λ n. (n ≡ 1) ⊎ (n ≡ 3)) (sym planes.number) front.colours_are;
          planes = planes.each;
        };
      }

  -- the first samples behind the header
  pub has_samples : (samples raster rest : List ℕ) → drop end bytes ≡ raster ++ rest → IsRasterFront coding max samples raster
      → All (λ s. s ≤ max) samples → LeavesWhole coding samples rest
      → HasSamples bytes coding max (colours * (rows * cols)) samples (end + length raster) rest
  has_samples samples raster rest parts is bounded leaves =
      record {
        colours = colours;
        cols = cols;
        rows = rows;
        front = there.front;
        white = there.white;
        raster = raster;
        whole = there.whole ∙ ap (λ (l : List ℕ). there.front ++ there.white ∷ l) (sym there.rest_is ∙ parts);
        place = ap (λ n. n + length raster) there.place;
        front_is = there.front_is;
        white_is = there.white_is;
        number = refl;
        raster_is = is;
        bounded = bounded;
        leaves = leaves;
      }

-- ---- a plain picture

module _ (bytes : List ℕ) (colours cols rows max end : ℕ)
    (there : HeaderThere bytes (record { coding = Plain; colours = colours; cols = cols; rows = rows; max = max; end = end })) where
  plain_fault : (e : PicFault) → SamplesFail bytes end max (colours * (rows * cols)) e → IsFault bytes e
  plain_fault e h =
      let has = has_samples bytes Plain colours cols rows max end there h.samples h.part h.rest h.parts h.samples_are h.bounded h.taken in
      let f = h.fails in
      elim f.which [
        | inl (empty, is) ↦
            let white : h.rest ≡ f.white = f.parts ∙ ap (λ (l : List ℕ). f.white ++ l) empty ∙ append-nil f.white in
            let cut : EndsInRaster bytes = record {
              coding = Plain;
              max = max;
              count = colours * (rows * cols);
              samples = h.samples;
              at = end + length h.part;
              rest = h.rest;
              has = has;
              few = h.few;
              cut = subst IsWhite (sym white) f.white_is;
            } in
            subst (IsFault bytes) (sym is) (refl, cut)
        | inr (inl (byte, more, r, not_white, no_digit, is)) ↦
            let bad : HasBadRasterByte bytes (end + length h.part + length f.white) = record {
              max = max;
              count = colours * (rows * cols);
              samples = h.samples;
              before = end + length h.part;
              white = f.white;
              byte = byte;
              rest = more;
              has =
                  subst (HasSamples bytes Plain max (colours * (rows * cols)) h.samples (end + length h.part))
                  (f.parts ∙ ap (λ (l : List ℕ). f.white ++ l) r) has;
              few = h.few;
              white_is = f.white_is;
              place = refl;
              not_white = not_white;
              no_digit = no_digit;
            } in
            subst (IsFault bytes) (sym is) (inr bad)
        | inr (inr (digits, more, n, r, number, taken, big, is)) ↦
            let big_one : HasBigSample bytes (end + length h.part + length f.white) = record {
              coding = Plain;
              max = max;
              count = colours * (rows * cols);
              samples = h.samples;
              before = end + length h.part;
              white = f.white;
              spelled = digits;
              rest = more;
              sample = n;
              has =
                  subst (HasSamples bytes Plain max (colours * (rows * cols)) h.samples (end + length h.part))
                  (f.parts ∙ ap (λ (l : List ℕ). f.white ++ l) r) has;
              few = h.few;
              sample_is = (f.white_is, number, taken);
              place = refl;
              big = big;
            } in
            subst (IsFault bytes) (sym is) big_one
      ]

  plain_end : (x : List ℕ × ℕ) (h : SamplesThere bytes end max (colours * (rows * cols)) x) (r : Result (List ℕ) PicFault)
      → EndsThere bytes x.1 x.0 r
      → PictureView bytes (r >>= λ samples. Ok (image rows cols max (separated colours samples)))
  plain_end x h r f =
      let rest_is : h.rest ≡ f.white ++ f.rest =
      sym (ap (λ n. drop n bytes) h.end ∙ behind bytes h.part h.rest end h.parts) ∙ f.parts in
      let View =
      λ (r : Result (List ℕ) PicFault). PictureView bytes (r >>= λ samples. Ok (image rows cols max (separated colours samples))) in
      elim f.which [
        | inl (empty, is) ↦
            let white : h.rest ≡ f.white = rest_is ∙ ap (λ (l : List ℕ). f.white ++ l) empty ∙ append-nil f.white in
            let raster : IsRaster Plain max x.0 there.rest =
            (h.part, h.rest, sym there.rest_is ∙ h.parts, h.samples, subst IsWhite (sym white) f.white_is) in
            subst View (sym is) (make_picture bytes Plain colours cols rows max end there x.0 raster h.bounded h.number)
        | inr (byte, more, r', not_white, is) ↦
            let has = has_samples bytes Plain colours cols rows max end there x.0 h.part h.rest h.parts h.samples h.bounded h.taken in
            let trailing : HasTrailingByte bytes (x.1 + length f.white) = record {
              coding = Plain;
              max = max;
              count = colours * (rows * cols);
              samples = x.0;
              before = end + length h.part;
              white = f.white;
              byte = byte;
              rest = more;
              has =
                  subst (HasSamples bytes Plain max (colours * (rows * cols)) x.0 (end + length h.part))
                  (rest_is ∙ ap (λ (l : List ℕ). f.white ++ l) r') has;
              all = h.number;
              behind = (f.white_is, not_white);
              place = ap (λ n. n + length f.white) h.end;
            } in
            subst View (sym is) trailing
      ]

  plain_picture : (r : Result (List ℕ × ℕ) PicFault)
      → MatchResult r (SamplesThere bytes end max (colours * (rows * cols))) (SamplesFail bytes end max (colours * (rows * cols)))
      → PictureView bytes ((r >>= λ s. end_read bytes s.1 s.0) >>= λ samples. Ok (image rows cols max (separated colours samples)))
  plain_picture (Err e) h = plain_fault e h
  plain_picture (Ok x) h =
      let inside : x.1 ≤ length bytes =
      omega (
        arith,
        h.end,
        ap length h.parts,
        length-append h.part h.rest,
        length-drop end bytes,
        end_fits bytes Plain colours cols rows max end there,
      ) in
      plain_end x h (end_read bytes x.1 x.0) (end_view bytes x.1 x.0 inside)

-- ---- a raw picture

module _ (bytes : List ℕ) (colours cols rows max end : ℕ)
    (there : HeaderThere bytes (record { coding = Raw; colours = colours; cols = cols; rows = rows; max = max; end = end })) where
  raw_picture : (r : Result (List ℕ) PicFault)
      → MatchResult r (RawThere bytes end max (colours * (rows * cols))) (RawFails bytes end max (colours * (rows * cols)))
      → PictureView bytes (r >>= λ samples. Ok (image rows cols max (separated colours samples)))
  raw_picture (Ok samples) h =
      make_picture bytes Raw colours cols rows max end there samples (sym there.rest_is ∙ h.raster) h.bounded h.number
  raw_picture (Err e) h =
      let raster = raw_raster max h.samples in
      let count = colours * (rows * cols) in
      let has = has_samples bytes Raw colours cols rows max end there h.samples raster h.rest h.parts refl h.bounded tt in
      elim h.which [
        | inl (few, cut, is) ↦
            let ends : EndsInRaster bytes =
            record {
              coding =
                  Raw;
              max =
                  max;
              count =
                  count;
              samples = h.samples;
              at = end + length raster;
              rest = h.rest;
              has = has;
              few = few;
              cut = cut;
            } in
            subst (IsFault bytes) (sym is) (refl, ends)
        | inr (inl (s, more, few, r, big, is)) ↦
            let big_one : HasBigSample bytes (end + length raster) = record {
              coding = Raw;
              max = max;
              count = count;
              samples = h.samples;
              before = end + length raster;
              white = [];
              spelled = _;
              rest = more;
              sample = s;
              has = subst (HasSamples bytes Raw max count h.samples (end + length raster)) r has;
              few = few;
              sample_is = (refl, refl);
              place = omega arith;
              big = big;
            } in
            subst (IsFault bytes) (sym is) big_one
        | inr (inr (byte, more, all, r, is)) ↦
            let trailing : HasTrailingByte bytes (end + length raster) = record {
              coding = Raw;
              max = max;
              count = count;
              samples = h.samples;
              before = end + length raster;
              white = [];
              byte = byte;
              rest = more;
              has = subst (HasSamples bytes Raw max count h.samples (end + length raster)) r has;
              all = all;
              behind = refl;
              place = omega arith;
            } in
            subst (IsFault bytes) (sym is) trailing
      ]

-- ---- the whole

raster_picture : (bytes : List ℕ) (coding : RasterCoding) (colours cols rows max end : ℕ)
    → HeaderThere bytes (record { coding = coding; colours = colours; cols = cols; rows = rows; max = max; end = end }) → AreBytes bytes
    → PictureView bytes
    (raster_read coding bytes end max (colours * (rows * cols)) >>= λ samples. Ok (image rows cols max (separated colours samples)))
unfolding plain_read
raster_picture bytes Plain colours cols rows max end there h =
    plain_picture bytes colours cols rows max end there (samples_read (colours * (rows * cols)) bytes end max)
    (samples_view (colours * (rows * cols)) bytes end max (end_fits bytes Plain colours cols rows max end there)
    (max_fits bytes Plain colours cols rows max end there))
raster_picture bytes Raw colours cols rows max end there h =
    raw_picture bytes colours cols rows max end there (raw_read bytes end max (colours * (rows * cols)))
    (raw_view bytes end max (colours * (rows * cols)) h)

header_picture : (bytes : List ℕ) (r : Result PictureHeader PicFault) → HeaderView bytes r → AreBytes bytes
    → PictureView bytes (r
    >>= λ h. raster_read h.coding bytes h.end h.max (h.colours * (h.rows * h.cols))
    >>= λ samples. Ok (image h.rows h.cols h.max (separated h.colours samples)))
header_picture bytes (Err e) view h = view
header_picture bytes (Ok r) view h = raster_picture bytes r.coding r.colours r.cols r.rows r.max r.end view h

pub picture_view : (bytes : List ℕ) → AreBytes bytes → PictureView bytes (picture_read bytes)
unfolding picture_read
picture_view bytes h = header_picture bytes (header_read bytes) (header_view bytes) h

-- ---- each picture is read

white_ends : (ws : List ℕ) → IsWhite ws → NoDigit ws
white_ends [] h = tt
white_ends (w ∷ ws) h = white_no_digit w (and_parts (is_white w) (list_all is_white ws) h).0

raster_complete : (bytes : List ℕ) (coding : RasterCoding) (end max count : ℕ) (samples raster : List ℕ) → end ≤ length bytes → max ≤ 65535
    → drop end bytes ≡ raster → IsRaster coding max samples raster → All (λ s. s ≤ max) samples → count ≡ length samples
    → raster_read coding bytes end max count ≡ Ok samples
unfolding plain_read
raster_complete bytes Plain end max count samples raster inside small e (front, white, parts, is, w) bounded number =
    let at : drop end bytes ≡ front ++ white = e ∙ parts in
    let first = samples_complete samples bytes front white end max small at is bounded (white_ends white w) in
    let rest : drop (end + length front) bytes ≡ white = behind bytes front white end at in
    let fits : end + length front ≤ length bytes = omega (arith, ap length at, length-drop end bytes, length-append front white) in
    rw (number, first) (end_complete bytes white (end + length front) samples fits rest w)
raster_complete bytes Raw end max count samples raster inside small e is bounded number =
    rw number (raw_complete bytes end max samples (e ∙ is) bounded)

pub picture_complete : (bytes : List ℕ) (p : Image) → IsPicture bytes p → picture_read bytes ≡ Ok p
unfolding picture_read
picture_complete bytes p h =
    let i = h.image in
    let colours = length p.planes in
    let planes = interleaved_are (p.rows * p.cols) p.max p.planes i.colours i.planes in
    let header =
    header_complete h.coding colours p.cols p.rows p.max h.fields h.white h.raster i.colours h.fields_are i.cols i.rows i.max h.white_is
    bytes h.whole in
    let end = 2 + length h.fields + 1 in
    let before = magic h.coding colours ++ (h.fields ++ h.white ∷ []) in
    let len : length before ≡ end =
    omega (
      arith,
      length-append (magic h.coding colours) (h.fields ++ h.white ∷ []),
      length-append h.fields (h.white ∷ []),
      length_magic h.coding colours,
    ) in
    let whole : bytes ≡ before ++ h.raster =
    h.whole ∙ ap (λ (l : List ℕ). magic h.coding colours ++ l) (sym (append_assoc h.fields (h.white ∷ []) h.raster))
    ∙ sym (append_assoc (magic h.coding colours) (h.fields ++ h.white ∷ []) h.raster) in
    let rest : drop end bytes ≡ h.raster = ap (drop end) whole ∙ drop_at before h.raster end len in
    let inside : end ≤ length bytes = omega (arith, len, ap length whole, length-append before h.raster) in
    let raster =
    raster_complete bytes h.coding end p.max (colours * (p.rows * p.cols)) (interleaved p.planes) h.raster inside i.max.most rest
    h.raster_is planes.bounded (sym planes.number) in
    rw (header, raster) (ap (λ (ps : List (List ℕ)). Ok (image p.rows p.cols p.max ps)) planes.apart)
  where
    length_magic : (coding : RasterCoding) (colours : ℕ) → length (magic coding colours) ≡ 2
    length_magic Plain colours = refl
    length_magic Raw colours = refl
