-- One of two numbers, by a test at a column.
use Rattle.std.proofs.Common.{ℤ, pos, Bool, ◌≡◌, ◌+ℤ◌, ap, ◌∙◌}
use Rattle.std.specs.Prelude.{if◌then◌else◌}
use Rattle.std.proofs.Math.IntN.{+ℤ_idr}

-- at the first point of a row the column is the row's own
pub chosen_first : (t : ℤ → Bool) (c v x y a b : ℤ) → v ≡ (if t (c +ℤ pos 0) then x else y) → x ≡ a → y ≡ b → v ≡ if t c then a else b
chosen_first t c v x y a b e f g =
    e ∙ ap (λ (z : ℤ). if t z then x else y) (+ℤ_idr c) ∙ ap (λ (z : ℤ). if t c then z else y) f ∙ ap (λ (z : ℤ). if t c then a else z) g

-- and at others one that was found to be the same
pub chosen_there : (t : ℤ → ℤ → Bool) (r s c d v x y a b : ℤ) → v ≡ (if t r c then x else y) → r ≡ s → c ≡ d → x ≡ a → y ≡ b
    → v ≡ if t s d then a else b
chosen_there t r s c d v x y a b e g h i j =
    e ∙ ap (λ (z : ℤ). if t z c then x else y) g ∙ ap (λ (z : ℤ). if t s z then x else y) h ∙ ap (λ (z : ℤ). if t s d then z else y) i
    ∙ ap (λ (z : ℤ). if t s d then a else z) j
