-- The values that are supplied for a program's parameters, in order.
use Rattle.std.specs.Prelude.{◌≡◌, ℕ, ℤ, Some, None, List, [], ◌∷◌, map, take, slice_get, string_bytes}
use Rattle.std.specs.declared.alloc.Global.{Global}
use Rattle.std.specs.declared.string.String.{String}
use Rattle.pipe_tree.specs.Tree.{Declaration}
use Rattle.pipe_bounds.specs.declared.params.Setting.{Setting}
use Rattle.pipe_bounds.specs.declared.fault.ParamFault.{ParamFault}
use Rattle.pipe_bounds.specs.declared.fault.ParamFault.TheVariants.{NoSuchParam, SetTwice}
use Rattle.pipe_checks.specs.Names.{params_of}
use Rattle.pipe_bounds.specs.Settings.{SetsOne, IsSet, place_in}
use Rattle.pipe_bounds.specs.Unset.{unset}
use Rattle.command_faults.specs.declared.lines.ParamFaultLine.{ParamFaultLine}

-- a parameter's name and the value that is supplied for it
abbrev pub Given : Type 0
Given = String Global × ℤ

-- the pairs were supplied one after another, and each set its parameter
abbrev pub AreGiven : List Setting → List Given → List Setting → Type 0
AreGiven old [] new = new ≡ old
AreGiven old ((name, value) ∷ more) new = (next : List Setting) × SetsOne old next (string_bytes name) value × AreGiven next more new

-- the parameters of a program, without values
abbrev pub unset_of : List Declaration → List Setting
unset_of tree = map unset (params_of tree)

-- ---- values that are rejected

-- why a value under this name is rejected
abbrev pub IsNotSettable : List Setting → List ℕ → ParamFault → Type 0
IsNotSettable ss name NoSuchParam = place_in ss name ≡ None
IsNotSettable ss name SetTwice = IsSet ss name

-- the first pair that is rejected, reported by its name
pub record IsFirstRefused (ss : List Setting) (given : List Given) (line : ParamFaultLine) : Type 0 where
  pub n : ℕ
  pub pair : Given
  pub there : slice_get given n ≡ Some pair
  pub settings : List Setting
  pub before : AreGiven ss (take n given) settings
  pub why : IsNotSettable settings (string_bytes pair.0) line.fault
  pub name : string_bytes line.name ≡ string_bytes pair.0
