-- Why a text is not one of fact files: its first bad line.
use Rattle.std.specs.List.{All}
use Rattle.std.specs.Prelude.{◌≡◌, ◌≢◌, ℕ, ◌+◌, List, [], ◌∷◌, ◌++◌, length}
use Rattle.fact_lines.specs.declared.fault.FactLinesFault.{FactLinesFault}
use Rattle.fact_lines.specs.declared.fault.FactLinesFault.TheVariants.{BadHex, BadFile, Memory}
use Rattle.fact_lines.specs.Texts.{lines, IsDigitsOf, IsGoodLine}
use Rattle.tile_fact.specs.declared.fault.FactFault.{FactFault}
use Rattle.tile_fact.specs.declared.fault.FactFault.TheVariants as files
use Rattle.tile_fact.specs.Faults.{IsFault as IsFileFault}

-- no digits of any bytes
abbrev pub IsBadHex : List ℕ → Type 0
IsBadHex line = (bytes : List ℕ) → ¬ IsDigitsOf line bytes

-- some digits, two for each byte
pub record AreDigits (line : List ℕ) : Type 0 where
  pub some : line ≢ []
  pub bytes : List ℕ
  pub digits : IsDigitsOf line bytes

-- digits of bytes that are not a file, with their first fault, which is never memory
pub record IsBadFile (line : List ℕ) (fault : FactFault) : Type 0 where
  pub digits : AreDigits line
  pub first : IsFileFault digits.bytes fault
  pub told : fault ≢ files.Memory

-- what is wrong with the line of this number; memory is refused only for digits
abbrev pub IsLineFault : ℕ → List ℕ → FactLinesFault → Type 0
IsLineFault number line (BadHex at) = (at ≡ number) × IsBadHex line
IsLineFault number line (BadFile at fault) = (at ≡ number) × IsBadFile line fault
IsLineFault number line Memory = AreDigits line

-- a line of the text that is at fault, while each line before it is good; lines are counted from 1
pub record IsFault (text : List ℕ) (fault : FactLinesFault) : Type 0 where
  pub before : List (List ℕ)
  pub line : List ℕ
  pub behind : List (List ℕ)
  pub parts : lines text ≡ before ++ line ∷ behind
  pub good : All IsGoodLine before
  pub wrong : IsLineFault (length before + 1) line fault
