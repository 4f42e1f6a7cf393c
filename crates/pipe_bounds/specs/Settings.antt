-- The values of parameters, and of affine sums at them.
use Rattle.std.specs.Prelude.{ℕ, ℤ, pos, neg_ℤ, ◌+ℤ◌, ◌*ℤ◌, ◌≡◌, if◌then◌else◌, Option, Some, None, unwrap_or, List, [], ◌∷◌}
use Rattle.std.specs.Prelude.{slice_get, slice_set, position}
use Rattle.std.specs.Str.{bytes_eq}
use Rattle.pipe_tree.specs.declared.tree.AffineTerm.{AffineTerm}
use Rattle.pipe_bounds.specs.declared.params.Setting.{Setting}

-- the number of the first parameter of this name
abbrev pub place_in : List Setting → List ℕ → Option ℕ
place_in ss name = position (λ s. bytes_eq s.name name) ss

-- the value, if there is such a parameter and it has one
abbrev pub value_at : Option Setting → Option ℤ
value_at None = None
value_at (Some s) = s.value

-- the parameter of this name had no value and has this one now; nothing else changed
pub record SetsOne (old new : List Setting) (name : List ℕ) (value : ℤ) : Type 0 where
  pub place : ℕ
  pub setting : Setting
  pub first : place_in old name ≡ Some place
  pub there : slice_get old place ≡ Some setting
  pub unset : setting.value ≡ None
  pub set : new ≡ slice_set old place (record setting { value = Some value })

-- the parameter of this name has a value
pub record IsSet (ss : List Setting) (name : List ℕ) : Type 0 where
  pub place : ℕ
  pub value : ℤ
  pub first : place_in ss name ≡ Some place
  pub is : value_at (slice_get ss place) ≡ Some value

-- the value of a parameter; 0 where there is none, or it has no value
abbrev pub value_in : List Setting → Option ℕ → ℤ
value_in ss None = pos 0
value_in ss (Some n) = unwrap_or (value_at (slice_get ss n)) (pos 0)

abbrev pub param_value : List Setting → List ℕ → ℤ
param_value ss name = value_in ss (place_in ss name)

-- what the factor of a term is multiplied by
abbrev pub param_value_or_one_without_name : List Setting → Option (List ℕ) → ℤ
param_value_or_one_without_name ss None = pos 1
param_value_or_one_without_name ss (Some name) = param_value ss name

-- the exact values of a term and of a sum of terms
abbrev pub affine_term_value : List Setting → AffineTerm → ℤ
affine_term_value ss t =
    let product = pos t.factor *ℤ param_value_or_one_without_name ss t.name in
    if t.negative then neg_ℤ product else product

abbrev pub affine_value : List Setting → List AffineTerm → ℤ
affine_value ss [] = pos 0
affine_value ss (t ∷ ts) = affine_term_value ss t +ℤ affine_value ss ts
