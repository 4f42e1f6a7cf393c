-- Which bytes spell which picture.
use Rattle.std.specs.Prelude.{◌≡◌, ℕ, ◌<◌, false, true, ◌==◌, if◌then◌else◌, List, [], ◌∷◌, ◌++◌, length}
use Rattle.std.specs.Char.{is_ascii_digit}
use Rattle.std.specs.List.{list_all}
use Rattle.std.specs.Str.Parse.{IsNumeral, digits_value}
use Rattle.netpbm.specs.declared.header.RasterCoding.{RasterCoding}
use Rattle.netpbm.specs.declared.header.RasterCoding.TheVariants.{Plain, Raw}
use Rattle.netpbm.specs.Colours.{interleaved}
use Rattle.netpbm.specs.Image.{Image, IsImage}
use Rattle.netpbm.specs.Raw.{raw_raster}
use Rattle.netpbm.specs.Text.{is_white, is_comment_end, is_comment_byte}

-- the first two bytes: `P2`, `P3`, `P5` or `P6`
abbrev pub magic : RasterCoding → ℕ → List ℕ
magic Plain colours = 80 ∷ (if colours == 1 then 50 else 51) ∷ []
magic Raw colours = 80 ∷ (if colours == 1 then 53 else 54) ∷ []

-- one digit or more, and the number that they write
pub record IsNumber (digits : List ℕ) (n : ℕ) : Type 0 where
  pub numeral : IsNumeral 10 digits
  pub value : n ≡ digits_value 10 digits

-- white space and comments, in any mix. A comment begins with `#` and ends with the first CR or LF after it
pub data Filler : List ℕ → Type 0 where
  nothing : Filler []
  white : (byte : ℕ) (filler : List ℕ) → is_white byte ≡ true → Filler filler → Filler (byte ∷ filler)
  comment : (body : List ℕ) (end : ℕ) (filler : List ℕ) → list_all is_comment_byte body ≡ true → is_comment_end end ≡ true → Filler filler
      → Filler (35 ∷ (body ++ end ∷ filler))

-- one byte of it or more
pub record IsGap (bytes : List ℕ) : Type 0 where
  pub some : 0 < length bytes
  pub filler : Filler bytes

-- numbers, each after a gap
abbrev pub IsFields : List ℕ → List ℕ → Type 0
IsFields [] bytes = bytes ≡ []
IsFields (n ∷ ns) bytes = (gap digits rest : List ℕ) × (bytes ≡ gap ++ (digits ++ rest)) × IsGap gap × IsNumber digits n × IsFields ns rest

-- the first byte is no digit
abbrev pub NoDigit : List ℕ → Type 0
NoDigit [] = Unit {0}
NoDigit (byte ∷ bytes) = is_ascii_digit byte ≡ false

abbrev pub IsWhite : List ℕ → Type 0
IsWhite bytes = list_all is_white bytes ≡ true

-- numbers, each after white space or none; no digit follows one directly, so white space separates two of them
abbrev pub IsSamples : List ℕ → List ℕ → Type 0
IsSamples [] bytes = bytes ≡ []
IsSamples (n ∷ ns) bytes =
    (white digits rest : List ℕ) × (bytes ≡ white ++ (digits ++ rest)) × IsWhite white × IsNumber digits n × NoDigit rest
    × IsSamples ns rest

-- white space may follow a plain raster, and nothing a raw one
abbrev pub IsRaster : RasterCoding → ℕ → List ℕ → List ℕ → Type 0
IsRaster Plain max samples bytes = (front white : List ℕ) × (bytes ≡ front ++ white) × IsSamples samples front × IsWhite white
IsRaster Raw max samples bytes = bytes ≡ raw_raster max samples

pub record IsPicture (bytes : List ℕ) (p : Image) : Type 0 where
  pub coding : RasterCoding
  pub fields : List ℕ
  pub white : ℕ
  pub raster : List ℕ
  pub whole : bytes ≡ magic coding (length p.planes) ++ (fields ++ white ∷ raster)
  pub fields_are : IsFields (p.cols ∷ p.rows ∷ p.max ∷ []) fields
  pub white_is : is_white white ≡ true
  pub raster_is : IsRaster coding p.max (interleaved p.planes) raster
  pub image : IsImage p
