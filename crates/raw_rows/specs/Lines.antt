-- The numbers of a row of a picture, and its samples.
use Rattle.std.specs.Prelude.{ℕ, ◌≡◌, List, map, length}
use Rattle.netpbm.specs.Colours.{woven}
use Rattle.job.specs.Answers.{sample_of}
use Rattle.raw_rows.specs.declared.lines.RawRowLines.{RawRowLines}
use Rattle.raw_rows.specs.declared.lines.RawRowLines.TheVariants.{Grey, Colour, NarrowGrey, NarrowColour}

abbrev pub plane_count : RawRowLines → ℕ
plane_count (Grey line) = 1
plane_count (Colour red green blue) = 3
plane_count (NarrowGrey line) = 1
plane_count (NarrowColour red green blue) = 3

abbrev pub pixel_count : RawRowLines → ℕ
pixel_count (Grey line) = length line.now
pixel_count (Colour red green blue) = length red.now
pixel_count (NarrowGrey line) = length line.now
pixel_count (NarrowColour red green blue) = length red.now

-- the lines of the three planes are equally long
abbrev pub AreEven : RawRowLines → Type 0
AreEven (Grey line) = Unit {0}
AreEven (Colour red green blue) = (length green.now ≡ length red.now) × (length blue.now ≡ length red.now)
AreEven (NarrowGrey line) = Unit {0}
AreEven (NarrowColour red green blue) = (length green.now ≡ length red.now) × (length blue.now ≡ length red.now)

-- the samples, pixel by pixel: each number is clamped to 0 and the greatest sample
abbrev pub line_samples : ℕ → RawRowLines → List ℕ
line_samples max (Grey line) = map (sample_of max) line.now
line_samples max (Colour red green blue) = woven (map (sample_of max) red.now) (map (sample_of max) green.now) (map (sample_of max) blue.now)
line_samples max (NarrowGrey line) = map (sample_of max) line.now
line_samples max (NarrowColour red green blue) =
    woven (map (sample_of max) red.now) (map (sample_of max) green.now) (map (sample_of max) blue.now)
