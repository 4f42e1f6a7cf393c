-- Why bytes are no picture: the first fault from the left, and its place.
use Rattle.std.specs.List.{list_all}
use Rattle.std.specs.Prelude.{◌≡◌, ◌≢◌, ℕ, ◌+◌, ◌*◌, ◌<◌, ◌≤◌, ◌⊎◌, false, true, List, [], ◌∷◌, ◌++◌, length, All}
use Rattle.std.specs.Char.{is_ascii_digit}
use Rattle.netpbm.specs.declared.fault.PicFault.{PicFault}
use Rattle.netpbm.specs.declared.fault.PicFault.TheVariants.{OtherFormat, HeaderCut, BadNumber, BadSize, BadMax}
use Rattle.netpbm.specs.declared.fault.PicFault.TheVariants.{CommentBehindDigit, RasterCut, SampleTooBig, TrailingBytes, Memory}
use Rattle.netpbm.specs.declared.header.RasterCoding.{RasterCoding}
use Rattle.netpbm.specs.declared.header.RasterCoding.TheVariants.{Plain, Raw}
use Rattle.netpbm.specs.Grammar.{magic, IsNumber, Filler, IsGap, IsFields, NoDigit, IsWhite, IsSamples, IsPicture}
use Rattle.netpbm.specs.Image.{Image, InRange}
use Rattle.netpbm.specs.Raw.{width_of, sample_bytes, raw_raster}
use Rattle.netpbm.specs.Text.{is_white, is_comment_byte, begins_filler}

-- ---- the header

-- the numbers of a header are the width, the height and the greatest sample; not more of them, and each in its range
abbrev pub Fit : List ℕ → List ℕ → Type 0
Fit limits [] = Unit {0}
Fit [] (n ∷ ns) = ⊥
Fit (limit ∷ limits) (n ∷ ns) = InRange limit n × Fit limits ns

-- a header up to the last digit of the first numbers
pub record IsHeaderFront (coding : RasterCoding) (colours : ℕ) (numbers front : List ℕ) : Type 0 where
  pub fields : List ℕ
  pub parts : front ≡ magic coding colours ++ fields
  pub colours_are : (colours ≡ 1) ⊎ (colours ≡ 3)
  pub fields_are : IsFields numbers fields
  pub ranges : Fit (4096 ∷ 4096 ∷ 65535 ∷ []) numbers

-- white space and comments, where the last comment may still be open
pub data CutFiller : List ℕ → Type 0 where
  ended : (filler : List ℕ) → Filler filler → CutFiller filler
  open_comment : (filler body : List ℕ) → Filler filler → list_all is_comment_byte body ≡ true → CutFiller (filler ++ 35 ∷ body)

-- the bytes end in a gap or in its place; nothing may follow the greatest sample but its one white byte
pub record EndsInHeader (bytes : List ℕ) : Type 0 where
  pub coding : RasterCoding
  pub colours : ℕ
  pub numbers : List ℕ
  pub front : List ℕ
  pub filler : List ℕ
  pub whole : bytes ≡ front ++ filler
  pub front_is : IsHeaderFront coding colours numbers front
  pub filler_is : CutFiller filler
  pub behind_max : length numbers ≡ 3 → filler ≡ []

-- after a gap, or in its place, is a byte that continues nothing
pub record HasBadHeaderByte (bytes : List ℕ) (at : ℕ) : Type 0 where
  pub coding : RasterCoding
  pub colours : ℕ
  pub numbers : List ℕ
  pub front : List ℕ
  pub filler : List ℕ
  pub byte : ℕ
  pub rest : List ℕ
  pub whole : bytes ≡ front ++ (filler ++ byte ∷ rest)
  pub place : at ≡ length front + length filler
  pub front_is : IsHeaderFront coding colours numbers front
  pub filler_is : Filler filler
  pub behind_max : length numbers ≡ 3 → filler ≡ []
  pub stands_not : begins_filler byte ≡ false
  -- a digit would begin a number after a gap, or continue one
  pub digit_only_behind_magic : is_ascii_digit byte ≡ true → (filler ≡ []) × (numbers ≡ [])

-- after `before` numbers is one, taken whole, that is out of its range
pub record HasBadField (limit : ℕ) (bytes : List ℕ) (at before : ℕ) : Type 0 where
  pub coding : RasterCoding
  pub colours : ℕ
  pub numbers : List ℕ
  pub front : List ℕ
  pub gap : List ℕ
  pub digits : List ℕ
  pub rest : List ℕ
  pub number : ℕ
  pub whole : bytes ≡ front ++ (gap ++ (digits ++ rest))
  pub place : at ≡ length front + length gap
  pub front_is : IsHeaderFront coding colours numbers front
  pub count : length numbers ≡ before
  pub gap_is : IsGap gap
  pub digits_are : IsNumber digits number
  pub taken_whole : NoDigit rest
  pub out_of_range : ¬ InRange limit number

-- a `#` is directly after the greatest sample
pub record HasCommentBehindMax (bytes : List ℕ) (at : ℕ) : Type 0 where
  pub coding : RasterCoding
  pub colours : ℕ
  pub numbers : List ℕ
  pub front : List ℕ
  pub rest : List ℕ
  pub whole : bytes ≡ front ++ 35 ∷ rest
  pub place : at ≡ length front
  pub front_is : IsHeaderFront coding colours numbers front
  pub count : length numbers ≡ 3

-- ---- the raster

-- the first samples of a raster
abbrev pub IsRasterFront : RasterCoding → ℕ → List ℕ → List ℕ → Type 0
IsRasterFront Plain max samples bytes = IsSamples samples bytes
IsRasterFront Raw max samples bytes = bytes ≡ raw_raster max samples

-- what follows the first samples leaves the last of them as it is
abbrev pub LeavesWhole : RasterCoding → List ℕ → List ℕ → Type 0
LeavesWhole Plain samples rest = 0 < length samples → NoDigit rest
LeavesWhole Raw samples rest = Unit {0}

-- a whole header, and the first samples after it, none above the greatest
pub record HasSamples (bytes : List ℕ) (coding : RasterCoding) (max count : ℕ) (samples : List ℕ) (at : ℕ) (rest : List ℕ) : Type 0 where
  pub colours : ℕ
  pub cols : ℕ
  pub rows : ℕ
  pub front : List ℕ
  pub white : ℕ
  pub raster : List ℕ
  pub whole : bytes ≡ front ++ white ∷ (raster ++ rest)
  pub place : at ≡ length front + 1 + length raster
  pub front_is : IsHeaderFront coding colours (cols ∷ rows ∷ max ∷ []) front
  pub white_is : is_white white ≡ true
  pub number : count ≡ colours * (rows * cols)
  pub raster_is : IsRasterFront coding max samples raster
  pub bounded : All (λ sample. sample ≤ max) samples
  pub leaves : LeavesWhole coding samples rest

-- too little for one more sample
abbrev pub IsNoSample : RasterCoding → ℕ → List ℕ → Type 0
IsNoSample Plain max rest = IsWhite rest
IsNoSample Raw max rest = length rest < width_of max

pub record EndsInRaster (bytes : List ℕ) : Type 0 where
  pub coding : RasterCoding
  pub max : ℕ
  pub count : ℕ
  pub samples : List ℕ
  pub at : ℕ
  pub rest : List ℕ
  pub has : HasSamples bytes coding max count samples at rest
  pub few : length samples < count
  pub cut : IsNoSample coding max rest

-- a plain raster has a byte that is neither white nor a digit, where a sample should be
pub record HasBadRasterByte (bytes : List ℕ) (at : ℕ) : Type 0 where
  pub max : ℕ
  pub count : ℕ
  pub samples : List ℕ
  pub before : ℕ
  pub white : List ℕ
  pub byte : ℕ
  pub rest : List ℕ
  pub has : HasSamples bytes Plain max count samples before (white ++ byte ∷ rest)
  pub few : length samples < count
  pub white_is : IsWhite white
  pub place : at ≡ before + length white
  pub not_white : is_white byte ≡ false
  pub no_digit : is_ascii_digit byte ≡ false

-- one sample at the front of the rest
abbrev pub IsSample : RasterCoding → ℕ → ℕ → List ℕ → List ℕ → List ℕ → Type 0
IsSample Plain max sample white spelled rest = IsWhite white × IsNumber spelled sample × NoDigit rest
IsSample Raw max sample white spelled rest = (white ≡ []) × (spelled ≡ sample_bytes max sample)

pub record HasBigSample (bytes : List ℕ) (at : ℕ) : Type 0 where
  pub coding : RasterCoding
  pub max : ℕ
  pub count : ℕ
  pub samples : List ℕ
  pub before : ℕ
  pub white : List ℕ
  pub spelled : List ℕ
  pub rest : List ℕ
  pub sample : ℕ
  pub has : HasSamples bytes coding max count samples before (white ++ (spelled ++ rest))
  pub few : length samples < count
  pub sample_is : IsSample coding max sample white spelled rest
  pub place : at ≡ before + length white
  pub big : max < sample

-- what may follow the raster
abbrev pub IsBehind : RasterCoding → List ℕ → ℕ → Type 0
IsBehind Plain white byte = IsWhite white × (is_white byte ≡ false)
IsBehind Raw white byte = white ≡ []

pub record HasTrailingByte (bytes : List ℕ) (at : ℕ) : Type 0 where
  pub coding : RasterCoding
  pub max : ℕ
  pub count : ℕ
  pub samples : List ℕ
  pub before : ℕ
  pub white : List ℕ
  pub byte : ℕ
  pub rest : List ℕ
  pub has : HasSamples bytes coding max count samples before (white ++ byte ∷ rest)
  pub all : length samples ≡ count
  pub behind : IsBehind coding white byte
  pub place : at ≡ before + length white

-- ---- the table

-- the first byte is no `P`, or the second none of 2, 3, 5 and 6
abbrev pub IsOtherFormat : List ℕ → ℕ → Type 0
IsOtherFormat bytes at =
    ((byte : ℕ) × (rest : List ℕ) × (at ≡ 0) × (bytes ≡ byte ∷ rest) × (byte ≢ 80))
    ⊎ ((byte : ℕ) × (rest : List ℕ) × (at ≡ 1) × (bytes ≡ 80 ∷ byte ∷ rest) × (byte ≢ 50) × (byte ≢ 51) × (byte ≢ 53) × (byte ≢ 54))

abbrev pub IsFault : List ℕ → PicFault → Type 0
IsFault bytes (OtherFormat at) = IsOtherFormat bytes at
IsFault bytes (HeaderCut at) = (at ≡ length bytes) × ((bytes ≡ []) ⊎ ((bytes ≡ 80 ∷ []) ⊎ EndsInHeader bytes))
IsFault bytes (BadNumber at) = HasBadHeaderByte bytes at ⊎ HasBadRasterByte bytes at
IsFault bytes (BadSize at) = HasBadField 4096 bytes at 0 ⊎ HasBadField 4096 bytes at 1
IsFault bytes (BadMax at) = HasBadField 65535 bytes at 2
IsFault bytes (CommentBehindDigit at) = HasCommentBehindMax bytes at
IsFault bytes (RasterCut at) = (at ≡ length bytes) × EndsInRaster bytes
IsFault bytes (SampleTooBig at) = HasBigSample bytes at
IsFault bytes (TrailingBytes at) = HasTrailingByte bytes at
-- memory is refused only for a picture
IsFault bytes Memory = (p : Image) × IsPicture bytes p
