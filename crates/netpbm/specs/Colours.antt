-- Interleaved samples of several planes.
use Rattle.std.specs.Prelude.{ℕ, zero, suc, ◌==◌, if◌then◌else◌, List, [], ◌∷◌}

-- a red, a green and a blue sample for each pixel
abbrev pub woven : List ℕ → List ℕ → List ℕ → List ℕ
woven (red ∷ reds) (green ∷ greens) (blue ∷ blues) = red ∷ green ∷ blue ∷ woven reds greens blues
woven reds greens blues = []

-- the samples of the planes, pixel by pixel
abbrev pub interleaved : List (List ℕ) → List ℕ
interleaved (grey ∷ []) = grey
interleaved (red ∷ green ∷ blue ∷ []) = woven red green blue
interleaved planes = []

-- one of each three samples
abbrev pub pick : ℕ → ℕ → ℕ → ℕ → ℕ
pick zero red green blue = red
pick (suc zero) red green blue = green
pick (suc (suc colour)) red green blue = blue

-- the samples of one colour, where those of three are interleaved
abbrev pub thirds : ℕ → List ℕ → List ℕ
thirds colour (red ∷ green ∷ blue ∷ samples) = pick colour red green blue ∷ thirds colour samples
thirds colour samples = []

-- the planes of this number of colours, 1 or 3
abbrev pub separated : ℕ → List ℕ → List (List ℕ)
separated colours samples = if colours == 1 then samples ∷ [] else thirds 0 samples ∷ thirds 1 samples ∷ thirds 2 samples ∷ []
