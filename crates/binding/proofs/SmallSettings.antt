-- Settings with values from the picture, and settings whose values are numbers of 32 bits.
use Rattle.std.proofs.Common.{ℕ, zero, suc, ℤ, ◌≡◌, List, [], ◌∷◌, ◌++◌, Option, Some, IfSome, FitsSigned, w32, slice_get, take}
use Rattle.std.proofs.Common.{subst, ap, ◌∙◌}
use Rattle.std.proofs.lemmas.Option.{none-some, same_Some}
use Rattle.pipe_bounds.specs.declared.params.Setting.{Setting}
use Rattle.netpbm.specs.Image.{Image as Picture}
use Rattle.pipe_tree.specs.declared.tree.Image.{Image}
use Rattle.binding.specs.Binding.{settled, settings_for, AreSmall}

pub small_more : (xs : List Setting) (y : Setting) → AreSmall xs → IfSome y.value (FitsSigned w32) → AreSmall (xs ++ y ∷ [])
small_more [] y h f zero s v there is =
    subst (λ (o : Option ℤ). IfSome o (FitsSigned w32)) (ap (λ (t : Setting). t.value) (same_Some y s there) ∙ is) f
small_more [] y h f (suc k) s v there is = absurd (none-some s there)
small_more (x ∷ xs) y h f zero s v there is = h 0 s v there is
small_more (x ∷ xs) y h f (suc k) s v there is = small_more xs y (λ j t w at e. h (suc j) t w at e) f k s v there is

module _ (i : Image) (picture : Picture) where
  abbrev pub settled_one : Setting → Setting
  settled_one s = record { name = s.name; value = settled i picture s.name s.value }

  pub settings_more : (xs : List Setting) (n : ℕ) (x : Setting) → slice_get xs n ≡ Some x
      → settings_for i picture (take (suc n) xs) ≡ settings_for i picture (take n xs) ++ settled_one x ∷ []
  settings_more [] n x e = absurd (none-some x e)
  settings_more (z ∷ zs) zero x e = ap (λ (t : Setting). settled_one t ∷ []) (same_Some z x e)
  settings_more (z ∷ zs) (suc n) x e = ap (λ (ts : List Setting). settled_one z ∷ ts) (settings_more zs n x e)
