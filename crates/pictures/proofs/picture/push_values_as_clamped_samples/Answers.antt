use Rattle.std.proofs.Common.{ℕ, List, ◌≤◌, sym, subst, ◌∙◌}
use Rattle.std.specs.Prelude.{All}
use Rattle.pictures.proofs.PictureOfAnswer.{cuts_bounded}
use Rattle.pictures.proofs.picture.push_values_as_clamped_samples.Goals as goal

pub append_samples-requires : goal.append_samples-requires
append_samples-requires c =
    let sheet = c.args.sheet.now in
    let bounded = subst (λ (cuts : List ℕ). All (λ sample. sample ≤ sheet.max) cuts) (sym c.write_clamped_samples.ensures)
    (cuts_bounded sheet.max c.split_at.result.0.now) in
    subst (λ (max : ℕ). All (λ sample. sample ≤ max) c.write_clamped_samples.new.cuts) (sym sheet.same ∙ sym c.loop-rest.invariant.max) bounded
