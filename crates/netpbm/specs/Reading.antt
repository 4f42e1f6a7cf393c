-- What the steps of the reader answer: a value and the place after it, or the fault at a place.
use Rattle.std.specs.Prelude.{ℕ, zero, suc, ◌+◌, ◌*◌, min, nat_lt, false, not, ◌==◌, ◌&&◌, ◌||◌, if◌then◌else◌, List, [], ◌∷◌}
use Rattle.std.specs.Prelude.{length, take, drop, slice_index, Result, Ok, Err}
use Rattle.std.specs.Str.Parse.{digits_value}
use Rattle.netpbm.specs.declared.fault.PicFault.{PicFault}
use Rattle.netpbm.specs.declared.fault.PicFault.TheVariants.{OtherFormat, HeaderCut, BadNumber, BadSize, BadMax}
use Rattle.netpbm.specs.declared.fault.PicFault.TheVariants.{CommentBehindDigit, RasterCut, SampleTooBig, TrailingBytes}
use Rattle.netpbm.specs.declared.header.RasterCoding.{RasterCoding}
use Rattle.netpbm.specs.declared.header.RasterCoding.TheVariants.{Plain, Raw}
use Rattle.netpbm.specs.declared.header.PictureHeader.{PictureHeader}
use Rattle.netpbm.specs.declared.header.HeaderNumber.{HeaderNumber}
use Rattle.netpbm.specs.Colours.{separated}
use Rattle.netpbm.specs.Image.{Image, image}
use Rattle.netpbm.specs.Raw.{width_of, decoded, first_big}
use Rattle.netpbm.specs.Scanning.{gap_len}
use Rattle.netpbm.specs.Text.{is_white, white_len, digits_len, digits_in_front}

infixl 10 ◌>>=◌
abbrev pub ◌>>=◌ : {A B : Type 0} → Result A PicFault → (A → Result B PicFault) → Result B PicFault
(Ok x) >>= f = f x
(Err e) >>= f = Err e

-- what is wrong where a number should be: there is none, or the bytes are cut
abbrev pub stop : PicFault → List ℕ → ℕ → PicFault
stop cut bytes at = if nat_lt at (length bytes) then BadNumber at else cut

-- ---- the header

abbrev pub header_stop : List ℕ → ℕ → PicFault
header_stop bytes at = stop (HeaderCut at) bytes at

abbrev pub kind_of : ℕ → Result (RasterCoding × ℕ) PicFault
kind_of byte =
    if byte == 50 then Ok (Plain, 1)
    else (if byte == 51 then Ok (Plain, 3)
    else (if byte == 53 then Ok (Raw, 1)
    else (if byte == 54 then Ok (Raw, 3)
    else Err (OtherFormat 1))))

unfoldable pub magic_read : List ℕ → Result (RasterCoding × ℕ) PicFault
magic_read bytes =
    if length bytes == 0 then Err (HeaderCut 0)
    else (if not (slice_index bytes 0 == 80) then Err (OtherFormat 0)
    else (if nat_lt (length bytes) 2 then Err (HeaderCut 1)
    else kind_of (slice_index bytes 1)))

-- a gap and a number
unfoldable pub number_read : List ℕ → ℕ → Result HeaderNumber PicFault
number_read bytes at =
    let start = at + gap_len false (drop at bytes) in
    let rest = drop start bytes in
    if nat_lt at start && nat_lt start (start + digits_len rest)
    then Ok (record { value = min 65536 (digits_value 10 (digits_in_front rest)); start = start; end = start + digits_len rest })
    else Err (header_stop bytes start)

unfoldable pub size_read : List ℕ → ℕ → Result (ℕ × ℕ) PicFault
size_read bytes at = do
  n ← number_read bytes at
  if nat_lt n.value 1 || nat_lt 4096 n.value then Err (BadSize n.start) else Ok (n.value, n.end)

unfoldable pub max_read : List ℕ → ℕ → Result (ℕ × ℕ) PicFault
max_read bytes at = do
  n ← number_read bytes at
  if nat_lt n.value 1 || nat_lt 65535 n.value then Err (BadMax n.start) else Ok (n.value, n.end)

unfoldable pub white_read : List ℕ → ℕ → Result ℕ PicFault
white_read bytes at =
    if nat_lt at (length bytes) && is_white (slice_index bytes at) then Ok (at + 1)
    else (if nat_lt at (length bytes) && (slice_index bytes at == 35) then Err (CommentBehindDigit at)
    else Err (header_stop bytes at))

unfoldable pub header_read : List ℕ → Result PictureHeader PicFault
header_read bytes = do
  magic ← magic_read bytes
  cols ← size_read bytes 2
  rows ← size_read bytes cols.1
  max ← max_read bytes rows.1
  end ← white_read bytes max.1
  Ok (record { coding = magic.0; colours = magic.1; cols = cols.0; rows = rows.0; max = max.0; end = end })

-- ---- a plain raster

abbrev pub plain_stop : List ℕ → ℕ → PicFault
plain_stop bytes at = stop (RasterCut at) bytes at

unfoldable pub sample_read : List ℕ → ℕ → ℕ → Result (ℕ × ℕ) PicFault
sample_read bytes at max =
    let start = at + white_len (drop at bytes) in
    let rest = drop start bytes in
    let value = min 65536 (digits_value 10 (digits_in_front rest)) in
    if start + digits_len rest == start then Err (plain_stop bytes start)
    else (if nat_lt max value then Err (SampleTooBig start)
    else Ok (value, start + digits_len rest))

-- this many samples, and the place after them
unfoldable pub samples_read : ℕ → List ℕ → ℕ → ℕ → Result (List ℕ × ℕ) PicFault
samples_read zero bytes at max = Ok ([], at)
samples_read (suc count) bytes at max = do
  sample ← sample_read bytes at max
  others ← samples_read count bytes sample.1 max
  Ok (sample.0 ∷ others.0, others.1)

-- nothing but white space
unfoldable pub end_read : List ℕ → ℕ → List ℕ → Result (List ℕ) PicFault
end_read bytes at samples =
    let end = at + white_len (drop at bytes) in
    if nat_lt end (length bytes) then Err (TrailingBytes end) else Ok samples

unfoldable pub plain_read : List ℕ → ℕ → ℕ → ℕ → Result (List ℕ) PicFault
plain_read bytes start max count = do
  samples ← samples_read count bytes start max
  end_read bytes samples.1 samples.0

-- ---- a raw raster

unfoldable pub raw_read : List ℕ → ℕ → ℕ → ℕ → Result (List ℕ) PicFault
raw_read bytes start max count =
    let raster = drop start bytes in
    let samples = decoded max raster in
    let place = first_big max (take count samples) in
    if nat_lt place (length (take count samples)) then Err (SampleTooBig (start + place * width_of max))
    else (if nat_lt (length samples) count then Err (RasterCut (length bytes))
    else (if nat_lt (count * width_of max) (length raster) then Err (TrailingBytes (start + count * width_of max))
    else Ok samples))

-- ---- the whole

abbrev pub raster_read : RasterCoding → List ℕ → ℕ → ℕ → ℕ → Result (List ℕ) PicFault
raster_read Plain bytes start max count = plain_read bytes start max count
raster_read Raw bytes start max count = raw_read bytes start max count

-- the planes that a header specifies, of a raster of this coding
abbrev pub planes_read : RasterCoding → List ℕ → PictureHeader → Result (List (List ℕ)) PicFault
planes_read coding bytes h = do
  samples ← raster_read coding bytes h.end h.max (h.colours * (h.rows * h.cols))
  Ok (separated h.colours samples)

unfoldable pub picture_read : List ℕ → Result Image PicFault
picture_read bytes = do
  h ← header_read bytes
  samples ← raster_read h.coding bytes h.end h.max (h.colours * (h.rows * h.cols))
  Ok (image h.rows h.cols h.max (separated h.colours samples))
