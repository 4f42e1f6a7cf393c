-- Parameters that have a value, and those that have none.
use Rattle.std.proofs.Common.{ℕ, ℤ, ◌≡◌, true, false, List, Option, Some, None, is_some, length, get_or, slice_get, refl, sym}
use Rattle.std.proofs.Common.{◌∙◌, ap, subst}
use Rattle.std.specs.Str.{bytes_eq}
use Rattle.std.proofs.lemmas.Bool.{false≢true}
use Rattle.std.proofs.lemmas.Option.{same_Some, none-some, slice_get_read}
use Rattle.pipe_checks.proofs.Places.{position_within}
use Rattle.pipe_bounds.specs.declared.params.Setting.{Setting}
use Rattle.pipe_bounds.specs.Settings.{place_in, value_at, IsSet}

pub set_is : (ss : List Setting) (name : List ℕ) (n : ℕ) (x : Setting) → place_in ss name ≡ Some n → slice_get ss n ≡ Some x
    → is_some x.value ≡ true → IsSet ss name
set_is ss name n x first there some = by_value x.value refl
  where
    by_value : (o : Option ℤ) → x.value ≡ o → IsSet ss name
    by_value None e = absurd (false≢true (sym (ap is_some e) ∙ some))
    by_value (Some v) e = record { place = n; value = v; first = first; is = ap value_at there ∙ e }

pub none_of : (o : Option ℤ) → is_some o ≡ false → o ≡ None
none_of None e = refl
none_of (Some v) e = absurd (false≢true (sym e))

pub not_set : (ss : List Setting) (name : List ℕ) (n : ℕ) (x : Setting) → place_in ss name ≡ Some n → slice_get ss n ≡ Some x
    → is_some x.value ≡ false → IsSet ss name → ⊥
not_set ss name n x first there none h =
    let same : n ≡ h.place = same_Some n h.place (sym first ∙ h.first) in
    none-some h.value (sym (none_of x.value none) ∙ sym (ap value_at there) ∙ ap (λ k. value_at (slice_get ss k)) same ∙ h.is)

-- what a read of a list gives at the place of a name
pub read_at : (xs ss : List Setting) (name : List ℕ) (n : ℕ) (x : Setting) → xs ≡ ss → place_in ss name ≡ Some n → x ≡ get_or xs n x
    → slice_get ss n ≡ Some x
read_at xs ss name n x same first is =
    slice_get_read ss (length ss) n x refl (position_within (λ s. bytes_eq s.name name) ss n first)
    (subst (λ ys. x ≡ get_or ys n x) same is)
