-- What is available of planes and of functions.
use Rattle.std.proofs.Common.{ℕ, ◌≡◌, ℤ, Some, None, List, slice_get, refl, sym, ap, ◌∙◌, subst}
use Rattle.std.proofs.lemmas.Option.{none-some, same_Some}
use Rattle.domains.specs.Area.{HoldsPoint}
use Rattle.domains.specs.declared.area.Area.{Area}
use Rattle.job.specs.Pipeline.{Body, plane, function, accumulator, Stage, Pipeline}
use Rattle.job.specs.Values.{body_value, value}
use Rattle.job.specs.WellFormed.{IsBody, IsJob, IsValued}
use Rattle.job.proofs.Solving.{ranked_is, value_solves}
use Rattle.row_rings.specs.Rings.{AreTrueRings, IsKeptPoint}
use Rattle.row_rings.specs.declared.ring.RowRing.{RowRing}
use Rattle.ring_inputs.specs.RingInputs.{IsInputOf, IsRingInput, IsPlaneInput, IsFunctionInput}

module _ (job : Pipeline) (rings : List (RowRing ℤ)) (g : ℕ) where
  module _ (s : Stage) (there : slice_get job.stages g ≡ Some s) where
    same_stage : (r c : ℤ) → (x : IsRingInput job rings g r c) → x.stage ≡ s
    same_stage r c x = same_Some x.stage s (sym x.there ∙ there)

    inside : (r c : ℤ) → IsRingInput job rings g r c → HoldsPoint s.domain r c
    inside r c x = subst (λ (t : Stage). HoldsPoint t.domain r c) (same_stage r c x) x.within

    -- a plane
    pub plane_input : IsJob job → (n : ℕ) → s.body ≡ plane n → IsPlaneInput job rings g n
    plane_input well n is =
        let lies = subst (IsBody job.picture s.domain) is (well.stages g s there).body in
        let valued : IsValued s.body = subst IsValued (sym is) tt in record {
          plane = lies.0;
          within = λ r c x. subst (λ (a : Area). HoldsPoint a r c) lies.1 (inside r c x);
          samples = λ r c x.
              sym (value_solves job (ranked_is job well) g s there valued r c (inside r c x)
              ∙ ap (λ (b : Body). body_value job.picture (value job) b r c) is);
        }

    -- another stage
    pub other_input : AreTrueRings job rings → ((n : ℕ) → s.body ≡ plane n → ⊥) → IsFunctionInput job rings g
    other_input right other = record { kept = kept; samples = λ r c x. right g r c (kept r c x) }
      where
        by : (r c : ℤ) (b : Body) → s.body ≡ b → IsInputOf rings g r c b → IsKeptPoint rings g r c
        by r c (plane n) is k = absurd (other n is)
        by r c (function cases otherwise) is k = k
        by r c (accumulator fold bins v bin) is k = absurd k

        kept : (r c : ℤ) → IsRingInput job rings g r c → IsKeptPoint rings g r c
        kept r c x = by r c s.body refl (subst (λ (t : Stage). IsInputOf rings g r c t.body) (same_stage r c x) x.input)

  -- a stage that is not there
  pub no_input : slice_get job.stages g ≡ None → IsFunctionInput job rings g
  no_input none = record {
    kept = λ r c x. absurd (none-some x.stage (sym none ∙ x.there));
    samples = λ r c x. absurd (none-some x.stage (sym none ∙ x.there));
  }
