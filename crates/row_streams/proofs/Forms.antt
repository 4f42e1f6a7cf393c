-- In which form rows of outputs are kept.
use Rattle.std.proofs.Common.{ℕ, ◌≡◌, Bool, true, false, List, sym, subst}
use Rattle.std.specs.Prelude.{All, if◌then◌else◌}
use Rattle.row_rings.specs.Rings.{states_in, ring_states, IsWhole, IsWideIn, IsNarrowIn, IsOutputForm}
use Rattle.row_rings.specs.declared.job_rings.JobRings.{JobRings}

-- the rows of stage g are kept in one of two forms
abbrev IsInForm : JobRings → Bool → ℕ → Type 0
IsInForm rings narrow g =
    IsWhole (if narrow then ring_states rings.narrow.rings.items else ring_states rings.wide.rings.items) (states_in rings) g

module _ (rings : JobRings) (outputs : List ℕ) where
  pub narrow_outputs : rings.narrow_outputs ≡ true → All (IsOutputForm rings) outputs → All (IsNarrowIn rings) outputs
  narrow_outputs is all = subst (λ (b : Bool). All (IsInForm rings b) outputs) is all

  pub wide_outputs : rings.narrow_outputs ≡ false → All (IsOutputForm rings) outputs → All (IsWideIn rings) outputs
  wide_outputs is all = subst (λ (b : Bool). All (IsInForm rings b) outputs) is all

-- rings that keep what they keep in each form keep outputs in theirs
pub output_form_stays : (old new : JobRings) → ((g : ℕ) → IsWideIn old g → IsWideIn new g)
    → ((g : ℕ) → IsNarrowIn old g → IsNarrowIn new g) → new.narrow_outputs ≡ old.narrow_outputs
    → (g : ℕ) → IsOutputForm old g → IsOutputForm new g
output_form_stays old new wide narrow same g form =
    subst (λ (b : Bool). IsInForm new b g) (sym same) (by old.narrow_outputs form)
  where
    by : (b : Bool) → IsInForm old b g → IsInForm new b g
    by true = narrow g
    by false = wide g
