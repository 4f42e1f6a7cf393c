-- The stages of a job read no others.
use Rattle.std.proofs.Common.{ℕ, ◌<◌, ◌≡◌, List, length, map, sym, subst}
use Rattle.std.specs.Prelude.{All}
use Rattle.std.proofs.lemmas.List.Elements.{All-map}
use Rattle.job.specs.Pipeline.{Stage}
use Rattle.job.specs.Reads.{reads_of, stage_read}
use Rattle.job.specs.Views.{stage_view}
use Rattle.job.specs.declared.stage.Stage.{Stage as KeptStage}
use Rattle.part_stages.proofs.Pushing.{map_length}

-- a stage reads only those with numbers below n
abbrev pub ReadsBelow : ℕ → Stage → Type 0
ReadsBelow n s = All (λ x. stage_read x < n) (reads_of s.body)

pub closed_of : (kept : List KeptStage) (stages : List Stage) → map stage_view kept ≡ stages
    → All (λ s. ReadsBelow (length kept) (stage_view s)) kept → All (ReadsBelow (length stages)) stages
closed_of kept stages same all =
    subst (λ (ss : List Stage). All (ReadsBelow (length ss)) ss) same
    (All-map (ReadsBelow (length (map stage_view kept))) stage_view kept
    (subst (λ (n : ℕ). All (λ s. ReadsBelow n (stage_view s)) kept) (sym (map_length stage_view kept)) all))
